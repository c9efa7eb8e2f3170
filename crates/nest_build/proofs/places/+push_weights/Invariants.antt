use Rattle.std.proofs.Common.{length}
use Rattle.nest_build.proofs.places.+push_weights.Given as goal

abbrev pub decreases-push_weights : goal.decreases-push_weights
decreases-push_weights l = length l.extents.now
