use Rattle.std.proofs.Common.{◌≡◌, ◌+◌, ◌*◌}
use Rattle.shapes_core.specs.Gamma.{IsIndex, gamma}
use Rattle.shapes_core.specs.Shape.{total}
use Rattle.shapes_core.proofs.offset.gamma.Given as goal

-- what is counted so far is that many arrays of the axes that are left
abbrev pub invariant-loop-place : goal.invariant-loop-place
invariant-loop-place l =
    (l.offset * total l.place-iterator.b.rest.now + gamma l.place-iterator.a.rest.now l.place-iterator.b.rest.now ≡ gamma l.index l.shape)
    × IsIndex l.place-iterator.a.rest.now l.place-iterator.b.rest.now
