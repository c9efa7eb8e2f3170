use Rattle.moa_tree.proofs.PoolLemmas.{tree-of-node}
use Rattle.moa_tree.proofs.tree_laws.node_trees.Goals as goal

pub returns : goal.returns
returns c = tree-of-node
