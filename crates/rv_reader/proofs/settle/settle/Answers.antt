use Rattle.std.proofs.Common.{◌≡◌, ◌+◌, ◌<◌, ◌++◌, ◌∷◌, [], length, drop, take, get_or, sym, ap, subst, ◌∙◌, arith}
use Rattle.std.specs.Prelude.{map}
use Rattle.std.specs.declared.option.Option.TheVariants.{None}
use Rattle.rv_line.specs.declared.line.Line.TheVariants.{Fence}
use Rattle.rv_reader.specs.Refusals.{refused_or, settled, target_cause, targets_refusal}
use Rattle.rv_reader.specs.Views.{drafted}
use Rattle.rv_reader.specs.declared.draft.Draft.TheVariants as draft
use Rattle.rv_reader.proofs.SettleStepLemmas.{item_same, refusal_step, settled_step}
use Rattle.rv_reader.proofs.settle.settle.Goals as goal

pub loop-at-preserved : goal.loop-at-preserved
loop-at-preserved c =
    let body = c.args.body.now in
    let at = c.loop-at.at in
    let d = draft.Whole Fence in
    let within : at < length body.drafts.items = subst (λ l. at < length l) c.deref-draft-items.ensures.value c.loop-at-test.true in
    let placed : at < length body.places.items = omega (arith, c.requires.places, within) in
    let same_item = item_same c.deref-draft-items.result.now body.drafts.items at _ d c.deref-draft-items.ensures.value within in
    let fine : target_cause body.labels at (drafted (get_or body.drafts.items at d)) ≡ None = subst (λ x. target_cause body.labels at (drafted x) ≡ None) same_item c.in-Ok.ensures.fine in
    let line : c.in-Ok.line ≡ settled body.labels (drafted (get_or body.drafts.items at d)) = subst (λ x. c.in-Ok.line ≡ settled body.labels (drafted x)) same_item c.in-Ok.ensures.line in
    let step = refusal_step body.labels body.drafts.items body.places.items at d within placed in
    record {
      left =
          sym (step ∙ ap (λ cause. refused_or (get_or body.places.items at 0) cause (targets_refusal body.labels (at + 1) (map drafted (drop (at + 1) body.drafts.items)) (drop (at + 1) body.places.items))) fine)
          ∙ c.loop-at.invariant.left;
      done =
          c.in_ok-push-in-Ok.ensures.items
          ∙ ap (λ l. l ++ c.in-Ok.line ∷ []) c.loop-at.invariant.done
          ∙ ap (λ x. map (settled body.labels) (map drafted (take at body.drafts.items)) ++ x ∷ []) line
          ∙ sym (settled_step body.labels body.drafts.items at d within);
    }
