use Rattle.moa_tree.proofs.PoolLemmas.{walk-of-node}
use Rattle.moa_tree.proofs.WalkLemmas.{walk-each, walk-expressions, walk-once, walk-within}
use Rattle.moa_tree.proofs.tree_laws.walks_in_order.Goals as goal

pub returns-clause-step : goal.returns-clause-step
returns-clause-step c = walk-of-node

pub returns-clause-once : goal.returns-clause-once
returns-clause-once c = walk-once

pub returns-clause-within : goal.returns-clause-within
returns-clause-within c = walk-within

pub returns-clause-expressions : goal.returns-clause-expressions
returns-clause-expressions c = walk-expressions

pub returns-clause-each : goal.returns-clause-each
returns-clause-each c = walk-each
