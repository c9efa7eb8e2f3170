use Rattle.std.proofs.Common.{ℕ, ◌∙◌, ◌<◌, ◌∷◌, ap, sym, arith, length}
use Rattle.std.specs.Prelude.{◌==◌, pos, slice_index_or}
use Rattle.std.specs.List.{position_or_len}
use Rattle.moa_tree.specs.Axes.{naturals}
use Rattle.normal_form.specs.declared.entry.Entry.TheVariants.{At}
use Rattle.psi_rules.proofs.EntryLemmas.{range-step}
use Rattle.psi_rules.proofs.moves.+restored_from.Goals as goal

pub returns-clause-restored : goal.returns-clause-restored
returns-clause-restored t c =
    let entries = c.args.entries.now in
    let list = c.args.list.now in
    let at = λ (axis : ℕ). slice_index_or entries (position_or_len (λ p. p == axis) (naturals list)) (At (pos 0)) in
    let more : c.args.axis < length list = omega (arith, c.if-axis-list.false, c.requires.within) in
    c.in_front.ensures ∙ (ap (λ entry. entry ∷ c.restored_from.result)
    (c.entry_on-entry.ensures ∙ ap (λ place. slice_index_or entries place (At (pos 0))) c.place_of.ensures.place)
    ∙ ap (λ others. at c.args.axis ∷ others) c.restored_from.ensures.restored ∙ sym (range-step at c.args.axis (length list) more))
