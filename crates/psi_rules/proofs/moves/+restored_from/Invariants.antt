use Rattle.std.proofs.Common.{◌-◌, length}
use Rattle.psi_rules.proofs.moves.+restored_from.Given as goal

abbrev pub decreases-restored_from : goal.decreases-restored_from
decreases-restored_from l = length l.list.now - l.axis
