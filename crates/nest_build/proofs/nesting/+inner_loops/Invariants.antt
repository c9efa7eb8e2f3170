use Rattle.std.proofs.Common.{length}
use Rattle.nest_build.proofs.nesting.+inner_loops.Given as goal

abbrev pub decreases-inner_loops : goal.decreases-inner_loops
decreases-inner_loops l = length l.axes.now
