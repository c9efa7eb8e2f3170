use Rattle.loop_ir.proofs.OrderLemmas.{named-behind, tree-of}
use Rattle.loop_ir.proofs.laws.lists_in_order.Goals as goal

pub returns : goal.returns
returns c = record { trees = tree-of; greater = named-behind }
