use Rattle.moa_tree.proofs.GrowthLemmas.{list-added, positions-added, tree-added, walk-added}
use Rattle.moa_tree.proofs.pool_laws.what_is_added.Goals as goal

pub returns : goal.returns
returns c = record { list = list-added; tree = tree-added; walk = walk-added; position = positions-added }
