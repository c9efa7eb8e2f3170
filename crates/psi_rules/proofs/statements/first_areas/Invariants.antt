use Rattle.std.proofs.Common.{◌≡◌, ◌≤◌, map, take}
use Rattle.std.specs.List.{sum_by}
use Rattle.moa_tree.specs.Pool.{item_of, trees}
use Rattle.shape_check.specs.Jobs.{input_count, output_count}
use Rattle.psi_rules.proofs.statements.first_areas.Given as goal

abbrev pub invariant-loop-statement : goal.invariant-loop-statement
invariant-loop-statement l =
    let pools = l.checked.pools in
    let items = map (item_of pools.numbers (trees pools.numbers pools.nodes)) (take l.statement-index pools.statements) in
    record {
      inputs : l.inputs ≡ sum_by input_count items;
      outputs : l.outputs ≡ sum_by output_count items;
      few : l.inputs ≤ l.statement-index;
      fewer : l.outputs ≤ l.statement-index;
    }
