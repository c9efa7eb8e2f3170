use Rattle.std.proofs.Common.{◌<◌, ◌≤◌, length, take}
use Rattle.std.specs.List.{AllByRecursion, flat_map}
use Rattle.moa_tree.specs.Pools.{nodes_of}
use Rattle.shape_check.proofs.nodes.count_nodes.Given as goal

abbrev pub invariant-loop-statement : goal.invariant-loop-statement
invariant-loop-statement l = record {
  above : AllByRecursion (λ number. number < l.count) (flat_map nodes_of (take l.statement-index l.program.statements));
  few : l.count ≤ length l.program.nodes;
}
