use Rattle.std.proofs.Common.{◌≡◌, take}
use Rattle.moa_tree.specs.Axes.{naturals}
use Rattle.shape_check.proofs.entries.write_extents.Given as goal

abbrev pub invariant-loop-axis : goal.invariant-loop-axis
invariant-loop-axis l = take l.axis l.buffer ≡ naturals (take l.axis l.list)
