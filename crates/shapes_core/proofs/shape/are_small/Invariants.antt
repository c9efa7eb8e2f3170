use Rattle.std.proofs.Common.{◌≡◌, ◌*◌, ◌≤◌, drop, nat_le}
use Rattle.std.specs.List.{list_all}
use Rattle.shapes_core.specs.Limits.{greatest_extent}
use Rattle.shapes_core.specs.Shape.{span}
use Rattle.shapes_core.proofs.shape.are_small.Given as goal

abbrev pub invariant-loop-extent : goal.invariant-loop-extent
invariant-loop-extent l =
    (l.span * span (drop l.extent-index l.extents) ≡ span l.extents) × (l.span ≤ greatest_extent)
    × (list_all (λ extent. nat_le extent greatest_extent) (drop l.extent-index l.extents) ≡ list_all (λ extent. nat_le extent greatest_extent) l.extents)
