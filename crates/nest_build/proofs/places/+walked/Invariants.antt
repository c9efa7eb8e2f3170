use Rattle.std.proofs.Common.{length}
use Rattle.nest_build.proofs.places.+walked.Given as goal

abbrev pub decreases-walked : goal.decreases-walked
decreases-walked l = length l.strides.now
