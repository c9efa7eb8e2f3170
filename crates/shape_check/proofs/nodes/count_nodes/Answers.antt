use Rattle.std.proofs.Common.{◌<◌, arith, length, ap, sym, subst, get_or, ◌∙◌}
use Rattle.std.specs.Prelude.{Some}
use Rattle.std.specs.List.{AllByRecursion}
use Rattle.std.proofs.lemmas.Option.{slice_get-get_or}
use Rattle.moa_tree.specs.Pools.{nodes_of}
use Rattle.shape_check.proofs.RootLemmas.{bound_more, counted}
use Rattle.shape_check.proofs.nodes.count_nodes.Goals as goal

pub loop-statement-preserved : goal.loop-statement-preserved
loop-statement-preserved c =
    let pools = c.args.program.now in
    let i = c.loop-statement.statement-index in
    let s = c.statement-item.result in
    let value = c.statements-statement-items.ensures.value in
    let e = c.statement-item.is ∙ ap (λ l. get_or l i s) value in
    let within : i < length pools.statements = omega (arith, c.loop-statement-test.true, ap length value) in
    record {
      above = bound_more pools.statements i s c.loop-statement.count c.bound_of-count.result within c.bound_of-count.ensures.kept c.loop-statement.invariant.above
          (subst (λ x. AllByRecursion (λ number. number < c.bound_of-count.result) (nodes_of x)) e c.bound_of-count.ensures.above);
      few = c.bound_of-count.ensures.least (length pools.nodes) c.loop-statement.invariant.few
          (c.parts_are_there.ensures.nodes pools i s c.requires (slice_get-get_or pools.statements i s within ∙ ap Some (sym e)));
    }

pub returns : goal.returns
returns c =
    let value = c.statements-statement-items.ensures.value in
    counted c.args.program.now c.requires c.loop-statement.count c.loop-statement.statement-index c.loop-statement.invariant.few
    (omega (arith, c.loop-statement-test.false, ap length value)) c.loop-statement.invariant.above
