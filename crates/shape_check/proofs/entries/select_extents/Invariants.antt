use Rattle.std.proofs.Common.{◌≡◌, map, slice_index, take}
use Rattle.moa_tree.specs.Axes.{naturals}
use Rattle.shape_check.proofs.entries.select_extents.Given as goal

abbrev pub invariant-loop-axis : goal.invariant-loop-axis
invariant-loop-axis l = take l.axis l.buffer ≡ map (λ axis. slice_index l.extents axis) (naturals (take l.axis l.list))
