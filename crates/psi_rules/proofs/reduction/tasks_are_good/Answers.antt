use Rattle.std.proofs.Common.{arith, subst, ◌≡◌, ◌≤◌, length}
use Rattle.std.proofs.lemmas.List.{length-map}
use Rattle.shapes_core.specs.Limits.{most_items}
use Rattle.moa_tree.specs.Pool.{item_of, trees}
use Rattle.moa_tree.specs.Pools.{IsProgram}
use Rattle.shape_check.specs.Judged.{items_in}
use Rattle.shape_check.specs.Statements.{verdict_of}
use Rattle.psi_rules.proofs.GoodTaskLemmas.{owned-good}
use Rattle.psi_rules.proofs.JobLemmas.{accepted-shapes}
use Rattle.psi_rules.proofs.reduction.tasks_are_good.Goals as goal

pub returns : goal.returns
returns c =
    let pools = c.args.checked.now.pools in
    let items = items_in pools in
    let known = c.verdicts_are_shapes.ensures in
    let program = subst IsProgram c.program.ensures.value c.statements-statements.ensures.program in
    let ok = accepted-shapes (verdict_of items) c.program.ensures.checked.accepted in
    let same : length items ≡ length pools.statements = length-map pools.statements (item_of pools.numbers (trees pools.numbers pools.nodes)) in
    let few : length items ≤ most_items = let all = program.few in omega (arith, all, same) in
    owned-good c.operands_move.ensures known.lets known.outputs items ok.0 ok.1 few (known.limits items ok.0 ok.1).0
