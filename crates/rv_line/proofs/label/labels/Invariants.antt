use Rattle.std.proofs.Common.{◌≡◌, ◌≤◌, ◌+◌, ℕ, length, take}
use Rattle.std.specs.Prelude.{false}
use Rattle.std.proofs.Common.{get_or}
use Rattle.rv_line.specs.Emitted.{is_labelled}
use Rattle.rv_line.proofs.label.labels.Given as goal

abbrev pub invariant-loop-line : goal.invariant-loop-line
invariant-loop-line l =
    (length l.labelled.items ≡ length l.lines + 1)
    × ((number : ℕ) → number ≤ length l.lines → get_or l.labelled.items number false ≡ is_labelled (take l.line-index l.lines) number)
