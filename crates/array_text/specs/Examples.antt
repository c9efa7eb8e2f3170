-- Declared arrays and an outcome for the worked examples. This project's own.
use Rattle.std.specs.Prelude.{ℕ, List, [], ◌∷◌, codes}
use Rattle.shapes_core.specs.declared.area.Declared.{Declared}
use Rattle.array_text.specs.Outcome.{Outcome, outcome_of}

abbrev pub a_vector : Declared
a_vector = record { name = codes "A"; shape = 2 ∷ [] }

abbrev pub a_scalar : Declared
a_scalar = record { name = codes "B"; shape = [] }

abbrev pub a_matrix : Declared
a_matrix = record { name = codes "C"; shape = 2 ∷ 3 ∷ [] }

abbrev pub an_empty : Declared
an_empty = record { name = codes "E"; shape = 2 ∷ 0 ∷ [] }

-- a vector of two values and a scalar
abbrev pub two : List Declared
two = a_vector ∷ a_scalar ∷ []

-- what becomes of a file that is to give them values
abbrev pub outcome : List ℕ → Outcome
outcome text = outcome_of two text
