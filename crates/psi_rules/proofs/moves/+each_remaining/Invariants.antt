use Rattle.std.proofs.Common.{length}
use Rattle.psi_rules.proofs.moves.+each_remaining.Given as goal

abbrev pub decreases-each_remaining : goal.decreases-each_remaining
decreases-each_remaining l = length l.list.now
