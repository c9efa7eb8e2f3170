use Rattle.std.proofs.Common.{length}
use Rattle.psi_rules.proofs.moves.+indexed.Given as goal

abbrev pub decreases-indexed : goal.decreases-indexed
decreases-indexed l = length l.list.now
