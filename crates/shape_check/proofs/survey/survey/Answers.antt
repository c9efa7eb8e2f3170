use Rattle.std.proofs.Common.{◌∙◌, ap, length, []}
use Rattle.std.proofs.lemmas.Result.{IfOk-weaker}
use Rattle.shape_check.specs.Progress.{Reached, Surveyed}
use Rattle.shape_check.proofs.CheckLemmas.{all_surveyed, start_reached}
use Rattle.shape_check.proofs.ReachLemmas.{walk_is_short}
use Rattle.shape_check.proofs.survey.survey.Goals as goal

pub go_over-requires-clause-reached : goal.go_over-requires-clause-reached
go_over-requires-clause-reached c =
    let n = c.nothing.ensures in (
      [],
      start_reached c.args.program.now c.inventory_of-inventory.result c.nothing.result n.names (ap length n.shapes ∙ c.in_ok-shapes.ensures ∙ c.count_nodes.ensures)
          n.statement_shapes n.jobs n.inputs n.outputs n.scans n.totals,
    )

pub returns-clause-surveyed : goal.returns-clause-surveyed
returns-clause-surveyed c =
    let pools = c.args.program.now in
    let inventory = c.inventory_of-inventory.result in
    IfOk-weaker c.go_over.result (Reached pools inventory (length pools.statements)) (Surveyed pools)
    (λ found reached. all_surveyed pools inventory found reached.0 c.inventory_of-inventory.ensures.inputs c.inventory_of-inventory.ensures.outputs
    (walk_is_short c.walks_in_order.ensures.once c.walks_in_order.ensures.within pools c.requires) reached.1)
    c.go_over.ensures.reached
