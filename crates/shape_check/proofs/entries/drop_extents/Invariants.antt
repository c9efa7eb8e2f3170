use Rattle.std.proofs.Common.{◌≡◌, ◌++◌, take, drop}
use Rattle.moa_tree.specs.Axes.{each_extent, remaining}
use Rattle.shape_check.proofs.entries.drop_extents.Given as goal

abbrev pub invariant-loop-axis : goal.invariant-loop-axis
invariant-loop-axis l = each_extent remaining l.list l.fn.extents ≡ take l.axis l.extents ++ each_extent remaining (drop l.axis l.list) (drop l.axis l.extents)
