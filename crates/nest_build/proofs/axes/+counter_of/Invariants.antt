use Rattle.std.proofs.Common.{length}
use Rattle.nest_build.proofs.axes.+counter_of.Given as goal

abbrev pub decreases-counter_of : goal.decreases-counter_of
decreases-counter_of l = length l.axes.now
