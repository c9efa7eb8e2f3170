use Rattle.std.proofs.Common.{length}
use Rattle.psi_rules.proofs.moves.+each_taken.Given as goal

abbrev pub decreases-each_taken : goal.decreases-each_taken
decreases-each_taken l = length l.list.now
