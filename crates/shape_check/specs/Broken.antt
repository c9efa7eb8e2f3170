-- What an operator's rules say before the operator has a place. This project's own.
use Rattle.std.specs.Prelude.{◌≡◌, ℕ, List, Some, Result, Ok, Err}
use Rattle.shape_check.specs.declared.broken.Broken.{Broken}
use Rattle.shape_check.specs.declared.broken.Broken.TheVariants as broken
use Rattle.shape_check.specs.Rules.{Failure, Place}
use Rattle.shape_check.specs.Verdict.{shaped}

-- the same at a node of this number
abbrev pub failure_at : ℕ → Broken → Failure
failure_at at (broken.Rule rule) = Failure.Rule (Place.Node at) rule
failure_at at (broken.Limit which value) = Failure.Limit (Some (Place.Node at)) which value

abbrev pub located : {A : Type 0} → ℕ → Result A Broken → Result A Failure
located at (Ok made) = Ok made
located at (Err broken) = Err (failure_at at broken)

-- the answer at each node that has these rules and this shape
abbrev pub IsShaped : (ℕ → List Failure) → List ℕ → Result (List ℕ) Broken → Type 0
IsShaped rules shape result = (at : ℕ) → located at result ≡ shaped at (rules at) shape
