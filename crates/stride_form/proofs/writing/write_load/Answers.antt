use Rattle.std.specs.Prelude.{◌==◌, List, ℕ, ℤ, map}
use Rattle.std.specs.List.{list_any}
use Rattle.std.proofs.lemmas.Result.{IfOk-weaker}
use Rattle.std.specs.Int.{w64}
use Rattle.std.proofs.lemmas.Int.{to_z-of_z}
use Rattle.std.proofs.Common.{◌∙◌, ap, subst, sym}
use Rattle.stride_form.specs.declared.op_term.OpTerm.TheVariants as op
use Rattle.stride_form.specs.Facts.{resolved}
use Rattle.stride_form.specs.Rules.{offset_in}
use Rattle.stride_form.specs.Small.{AreNearEntries, fact_at}
use Rattle.stride_form.specs.Writing.{Marks, Pushes}
use Rattle.stride_form.proofs.WriteLemmas.{load-written, near-load, near-resolved, start-fits}
use Rattle.stride_form.proofs.writing.write_load.Goals as goal

pub resolved_list-found-requires-clause-near : goal.resolved_list-found-requires-clause-near
resolved_list-found-requires-clause-near c =
    subst AreNearEntries (sym c.list.ensures.value)
    (near-load (fact_at c.args.writer.now.facts) (record { area = c.args.area; shape = c.args.shape.now; at = c.args.at.now }) c.requires.ready)

pub offset_in-requires : goal.offset_in-requires
offset_in-requires c =
    let found = c.resolved_list-found.ensures ∙ ap (λ facts. map (resolved (fact_at facts)) c.list.result.now) c.table.ensures
    ∙ ap (map (resolved (fact_at c.args.writer.now.facts))) c.list.ensures.value in
    subst AreNearEntries (sym found)
    (near-resolved (fact_at c.args.writer.now.facts) (record { area = c.args.area; shape = c.args.shape.now; at = c.args.at.now }) c.requires.ready)

pub returns : goal.returns
returns c =
    let facts = fact_at c.args.writer.now.facts in
    let found = c.resolved_list-found.ensures ∙ ap (λ facts. map (resolved (fact_at facts)) c.list.result.now) c.table.ensures
    ∙ ap (map (resolved (fact_at c.args.writer.now.facts))) c.list.ensures.value in
    let walk = c.in_ok-walk.ensures ∙ ap (λ facts. offset_in (fact_at facts) c.resolved_list-found.result c.args.shape.now) c.table-2.ensures
    ∙ ap (λ entries. offset_in facts entries c.args.shape.now) found in
    let marks = subst (λ (strides : List (ℕ × ℤ)). Marks (λ var. list_any (λ step. var == step.0) strides) c.args.writer.now c.mark_strides.new.self)
    c.list-2.ensures.value c.in_ok-mark_strides.ensures in
    IfOk-weaker c.push.result _ _ (λ number push. load-written (record { area = c.args.area; shape = c.args.shape.now; at = c.args.at.now })
    c.in_ok-walk.walk c.args.writer.now c.mark_strides.new.self c.push.new.self number walk marks
    (subst (λ start. Pushes (op.Get (record { area = c.args.area; start = start; strides = c.in_ok-walk.walk.strides })) c.mark_strides.new.self
    c.push.new.self number) (to_z-of_z w64 c.in_ok-walk.walk.start (start-fits facts (record { area = c.args.area; shape = c.args.shape.now; at = c.args.at.now })
    c.in_ok-walk.walk c.requires.ready walk)) push)) c.push.ensures
