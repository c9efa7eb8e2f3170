use Rattle.std.proofs.Common.{◌≡◌, ◌++◌, length, map}
use Rattle.loop_ir.specs.Steps.{Place}
use Rattle.nest_build.specs.Coding.{plain, spots_of}
use Rattle.nest_build.proofs.walks.push_places.Given as goal

abbrev pub invariant-loop-stand : goal.invariant-loop-stand
invariant-loop-stand l =
    l.steps.items ++ plain (map (λ spot. Place spot.place spot.word) (spots_of l.left))
    ≡ l.fn.steps.items ++ plain (map (λ spot. Place spot.place spot.word) (spots_of l.stands))

abbrev pub decreases-loop-stand : goal.decreases-loop-stand
decreases-loop-stand l = length l.left
