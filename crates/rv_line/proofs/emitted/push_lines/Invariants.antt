use Rattle.std.proofs.Common.{◌≡◌, ◌++◌, drop}
use Rattle.rv_line.specs.Emitted.{lines_text, is_labelled}
use Rattle.rv_line.proofs.emitted.push_lines.Given as goal

-- what is written, and then what is left, is the whole
abbrev pub invariant-loop-at : goal.invariant-loop-at
invariant-loop-at l =
    l.out.items ++ lines_text (is_labelled l.lines) l.at (drop l.at l.lines) ≡ l.initial.out.items ++ lines_text (is_labelled l.lines) 0 l.lines
