use Rattle.std.proofs.Common.{◌≡◌, ◌≤◌, ◌+◌, ◌*◌, ◌++◌, drop}
use Rattle.rv_line.specs.Emitted.{places_from, is_labelled}
use Rattle.rv_line.proofs.label.places.Given as goal

-- what is done, and then what is left, is the whole
abbrev pub invariant-loop-at : goal.invariant-loop-at
invariant-loop-at l =
    (l.places.items ++ places_from (is_labelled l.lines) l.place l.at (drop l.at l.lines) ≡ places_from (is_labelled l.lines) l.first 0 l.lines)
    × (l.place ≤ l.first + 2 * l.at)
