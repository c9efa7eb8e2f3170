use Rattle.std.proofs.Common.{◌≡◌, ◌++◌, ◌-◌}
use Rattle.array_text.specs.Printed.{row_lines}
use Rattle.array_text.proofs.printer.push_rows.Given as goal

-- the rows so far, and those that are left
abbrev pub invariant-loop-row : goal.invariant-loop-row
invariant-loop-row l =
    l.out.items ++ row_lines (l.count - l.row) l.length l.rest ≡ l.initial.out.items ++ row_lines l.count l.length l.initial.rest
