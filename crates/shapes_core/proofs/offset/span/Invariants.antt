use Rattle.std.proofs.Common.{◌≡◌, ◌*◌, drop}
use Rattle.shapes_core.specs.Shape.{span}
use Rattle.shapes_core.proofs.offset.span.Given as goal

abbrev pub invariant-loop-extent : goal.invariant-loop-extent
invariant-loop-extent l = l.span * span (drop l.extent-index l.extents) ≡ span l.extents
