use Rattle.std.proofs.Common.{◌≡◌, ◌-◌, ◌^◌, ◌<◌, ◌*◌, min, drop}
use Rattle.shapes_core.specs.Shape.{total}
use Rattle.moa_tree.specs.Axes.{naturals}
use Rattle.shape_check.proofs.entries.capped_total.Given as goal

abbrev pub invariant-loop-k : goal.invariant-loop-k
invariant-loop-k l = (l.total < 2 ^ 64) × (min (l.total * total (naturals (drop l.k-index l.list))) (2 ^ 64 - 1) ≡ min (total (naturals l.list)) (2 ^ 64 - 1))
