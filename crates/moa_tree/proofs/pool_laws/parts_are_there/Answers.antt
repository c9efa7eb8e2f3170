use Rattle.std.proofs.Common.{◌<◌, length}
use Rattle.std.specs.List.{AllByRecursion}
use Rattle.moa_tree.specs.Pools.{AreThere, extents_of, lists_of, nodes_of}
use Rattle.moa_tree.proofs.PartLemmas.{of_all, operands_there}
use Rattle.moa_tree.proofs.pool_laws.parts_are_there.Goals as goal

pub returns : goal.returns
returns c = record {
  lists = λ pools number node program there.
      of_all (λ n. AllByRecursion (AreThere pools.numbers) (lists_of n)) pools.nodes number node program.lists_there there;
  operands = operands_there;
  extents = λ pools place statement program there.
      of_all (λ s. AllByRecursion (AreThere pools.numbers) (extents_of s)) pools.statements place statement program.extents_there there;
  nodes = λ pools place statement program there.
      of_all (λ s. AllByRecursion (λ number. number < length pools.nodes) (nodes_of s)) pools.statements place statement program.nodes_there there;
}
