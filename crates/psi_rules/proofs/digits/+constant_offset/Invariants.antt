use Rattle.std.proofs.Common.{length}
use Rattle.psi_rules.proofs.digits.+constant_offset.Given as goal

abbrev pub decreases-constant_offset : goal.decreases-constant_offset
decreases-constant_offset l = length l.list.now
