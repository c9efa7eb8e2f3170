use Rattle.moa_tree.proofs.PoolLemmas.{expr-same, item-same}
use Rattle.moa_tree.proofs.pool_laws.nodes_are_local.Goals as goal

pub returns : goal.returns
returns c = record { node = expr-same; statement = item-same }
