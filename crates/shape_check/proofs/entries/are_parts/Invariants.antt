use Rattle.std.proofs.Common.{◌≡◌, drop}
use Rattle.shape_check.specs.Rules.{each_entry, is_part}
use Rattle.shape_check.proofs.entries.are_parts.Given as goal

abbrev pub invariant-loop-axis : goal.invariant-loop-axis
invariant-loop-axis l = each_entry is_part l.list l.extents ≡ each_entry is_part (drop l.axis l.list) (drop l.axis l.extents)
