-- What the forms that a former makes keep at each term, wherever its entries belong to axes with items. This project's own.
use Rattle.std.specs.Prelude.{ℕ, ◌+◌, ◌<◌, ◌≤◌, pos, negsuc, List, [], ◌∷◌, unsigned_abs}
use Rattle.std.specs.List.{AllByRecursion, AllZip, Contains}
use Rattle.normal_form.specs.declared.entry.Entry.{Entry}
use Rattle.normal_form.specs.declared.entry.Entry.TheVariants.{At, Plus, Minus}
use Rattle.normal_form.specs.Cutting.{IsRoomy, IsVarying, Scope, carried}
use Rattle.normal_form.specs.Formers.{Former}
use Rattle.normal_form.specs.Forms.{Normal}
use Rattle.normal_form.specs.Kept.{IsKept}

-- the variables of a scope
abbrev pub variables_in : Scope → List ℕ
variables_in [] = []
variables_in (first ∷ others) = first.0 ∷ variables_in others

-- variables before one
abbrev pub AreEarlier : ℕ → Scope → Type 0
AreEarlier next scope = AllByRecursion (λ var. var < next) (variables_in scope)

-- an entry of an axis of n items, which are some, among these variables: a constant beside a variable, and what turns in the variable's place
-- would add to it, is at most `room`
abbrev pub IsWithin : ℕ → Scope → Entry → ℕ → Type 0
IsWithin room scope (At (pos constant)) n = constant < n
IsWithin room scope (At (negsuc constant)) n = ⊥
IsWithin room scope (Plus var add) n = (0 < n) × Contains (variables_in scope) var × (unsigned_abs add + carried scope var ≤ room)
IsWithin room scope (Minus var add) n = (0 < n) × Contains (variables_in scope) var × (unsigned_abs add + carried scope var ≤ room)

-- entries of a shape, none of whose extents is 0
abbrev pub AreWithin : ℕ → Scope → List Entry → List ℕ → Type 0
AreWithin room scope entries shape = AllZip (IsWithin room scope) entries shape

-- a move of the entries of one shape to those of another, whose constants are at most this much
abbrev pub MovesWithin : ℕ → ℕ → (List Entry → List Entry) → List ℕ → List ℕ → Type 0
MovesWithin room further move from to =
    (scope : Scope) (entries : List Entry) → AreWithin room scope entries from → AreWithin further scope (move entries) to

-- a form of this area that keeps what forms keep among these variables: no choice, turn or digit is of a constant, and constants leave room
pub record IsKeptIn (own : ℕ) (scope : Scope) (form : Normal) : Type 0 where
  pub kept : IsKept own (variables_in scope) form
  pub varying : IsVarying form
  pub roomy : IsRoomy scope form

-- the next variable never falls, and at entries of known variables, none of which is to come, what is made is kept by a form of this area
pub record Keeps (own room : ℕ) (former : Former) (shape : List ℕ) : Type 0 where
  pub grows : (entries : List Entry) (next : ℕ) → next ≤ (former entries next).1
  pub keeps : (scope : Scope) (next : ℕ) (entries : List Entry)
      → AreEarlier next scope → AreWithin room scope entries shape → IsKeptIn own scope (former entries next).0
