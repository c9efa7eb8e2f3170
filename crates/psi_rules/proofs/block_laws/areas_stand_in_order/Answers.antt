use Rattle.psi_rules.proofs.AreaLemmas.{inputs-counted}
use Rattle.psi_rules.proofs.BlockLemmas.{areas-counted, lists-stand, shapes-stand}
use Rattle.psi_rules.proofs.block_laws.areas_stand_in_order.Goals as goal

pub returns : goal.returns
returns c = record { shapes = shapes-stand; lists = lists-stand; inputs = inputs-counted; all = areas-counted }
