use Rattle.std.proofs.Common.{◌≡◌, ◌-◌, ◌^◌, ◌<◌, ◌*◌, min, drop}
use Rattle.shapes_core.specs.Shape.{span}
use Rattle.shape_check.proofs.limits.capped_span.Given as goal

abbrev pub invariant-loop-extent : goal.invariant-loop-extent
invariant-loop-extent l = (l.span < 2 ^ 64) × (min (l.span * span (drop l.extent-index l.extents)) (2 ^ 64 - 1) ≡ min (span l.extents) (2 ^ 64 - 1))
