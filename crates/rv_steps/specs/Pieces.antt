-- Pieces of a program. This project's own.
use Rattle.std.specs.Prelude.{◌≡◌, ℕ, List, length, take, drop}
use Rattle.rv_line.specs.declared.line.Line.{Line}

-- these lines stand in the program from line k on
abbrev pub StandsAt : List Line → ℕ → List Line → Type 0
StandsAt lines k piece = take (length piece) (drop k lines) ≡ piece
