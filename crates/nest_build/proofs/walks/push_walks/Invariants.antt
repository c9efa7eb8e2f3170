use Rattle.std.proofs.Common.{◌≡◌, ◌++◌, length}
use Rattle.nest_build.specs.Coding.{plain, spots_of}
use Rattle.nest_build.specs.Nests.{walks}
use Rattle.nest_build.proofs.walks.push_walks.Given as goal

abbrev pub invariant-loop-stand : goal.invariant-loop-stand
invariant-loop-stand l =
    l.steps.items ++ plain (walks (spots_of l.left) l.var l.times) ≡ l.fn.steps.items ++ plain (walks (spots_of l.stands) l.var l.times)

abbrev pub decreases-loop-stand : goal.decreases-loop-stand
decreases-loop-stand l = length l.left
