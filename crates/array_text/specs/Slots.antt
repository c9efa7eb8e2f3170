-- The arrays that came, by whether each came and by their values. This project's own.
use Rattle.std.specs.Prelude.{ℤ, Bool, List, [], ◌∷◌, if◌then◌else◌, Some, None}
use Rattle.array_text.specs.Outcome.{Came}

abbrev pub slots_of : List Bool → List (List ℤ) → Came
slots_of [] lists = []
slots_of (here ∷ others) [] = []
slots_of (here ∷ others) (values ∷ lists) = (if here then Some values else None) ∷ slots_of others lists
