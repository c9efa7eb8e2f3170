use Rattle.std.proofs.Common.{length}
use Rattle.nest_build.proofs.places.+stride_along.Given as goal

abbrev pub decreases-stride_along : goal.decreases-stride_along
decreases-stride_along l = length l.strides.now
