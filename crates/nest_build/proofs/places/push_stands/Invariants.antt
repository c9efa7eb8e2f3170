use Rattle.std.proofs.Common.{◌≡◌, ◌++◌, length}
use Rattle.nest_build.specs.Coding.{spots_of}
use Rattle.nest_build.specs.Nests.{spots_from}
use Rattle.nest_build.proofs.places.push_stands.Given as goal

abbrev pub invariant-loop-access : goal.invariant-loop-access
invariant-loop-access l =
    spots_of l.out.items ++ spots_from l.areas l.region l.place l.left ≡ spots_of l.fn.out.items ++ spots_from l.areas l.region l.first l.accesses

abbrev pub decreases-loop-access : goal.decreases-loop-access
decreases-loop-access l = length l.left
