use Rattle.std.proofs.Common.{arith, subst, ◌≡◌, ◌≤◌, length}
use Rattle.std.proofs.lemmas.List.{length-map}
use Rattle.shapes_core.specs.Limits.{most_items}
use Rattle.moa_tree.specs.Pool.{item_of, trees}
use Rattle.moa_tree.specs.Pools.{IsProgram}
use Rattle.shape_check.specs.Judged.{items_in}
use Rattle.shape_check.specs.Statements.{verdict_of}
use Rattle.psi_rules.proofs.CountLemmas.{areas-at}
use Rattle.psi_rules.proofs.JobLemmas.{accepted-shapes}
use Rattle.psi_rules.proofs.statements.areas_have_numbers.Goals as goal

pub returns : goal.returns
returns c = λ number item there.
    let pools = c.args.checked.now.pools in
    let items = items_in pools in
    let program = subst IsProgram c.program.ensures.value c.statements-statements.ensures.program in
    let ok = accepted-shapes (verdict_of items) c.program.ensures.checked.accepted in
    let same : length items ≡ length pools.statements = length-map pools.statements (item_of pools.numbers (trees pools.numbers pools.nodes)) in
    let few : length items ≤ most_items = let all = program.few in omega (arith, all, same) in
    let areas = areas-at items number item few (c.verdicts_are_shapes.ensures.limits items ok.0 ok.1).0 there in
    record {
      input = let h = areas.input in omega (arith, h);
      output = let h = areas.output in omega (arith, h);
      scan = let h = areas.scan in omega (arith, h);
    }
