use Rattle.moa_tree.proofs.GrowthLemmas.{item-kept, list-kept, node-positions, items-kept, tree-kept, trees-behind, trees-kept, walk-positions, walks-behind}
use Rattle.moa_tree.proofs.pool_laws.pools_grow.Goals as goal

pub returns : goal.returns
returns c = record { list = list-kept; trees = trees-kept; behind = trees-behind; tree = tree-kept; walk = walks-behind; position = node-positions; positions = walk-positions; statement = item-kept; statements = items-kept }
