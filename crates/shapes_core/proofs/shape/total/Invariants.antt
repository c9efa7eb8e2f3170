use Rattle.std.proofs.Common.{◌≡◌, ◌*◌, ◌≤◌, drop}
use Rattle.shapes_core.specs.Limits.{greatest_extent}
use Rattle.shapes_core.specs.Shape.{span, total}
use Rattle.shapes_core.proofs.shape.total.Given as goal

-- what is counted so far, times what is left, is the total; it is no more than the same with spans
abbrev pub invariant-loop-extent : goal.invariant-loop-extent
invariant-loop-extent l =
    (l.total * total (drop l.extent-index l.extent-items) ≡ total l.extent-items) × (l.total * span (drop l.extent-index l.extent-items) ≤ greatest_extent)
