-- What is known of variables is true of the numbers that they stand for. This project's own.
use Rattle.std.specs.Prelude.{◌≡◌, ℕ, ◌<◌, ◌≤◌, ℤ, pos, ◌+ℤ◌, ◌≤ℤ◌, List, ⊤}
use Rattle.std.specs.List.{Contains}
use Rattle.shapes_core.specs.Gamma.{digit}
use Rattle.normal_form.specs.declared.entry.Entry.{Entry}
use Rattle.normal_form.specs.declared.entry.Entry.TheVariants.{At, Plus, Minus}
use Rattle.normal_form.specs.Assignments.{Assignment, number, place}
use Rattle.normal_form.specs.Stands.{IsPlace}
use Rattle.stride_form.specs.declared.facts.Fact.{Fact}
use Rattle.stride_form.specs.declared.facts.Fact.TheVariants.{Range, Alias, Offset, DigitOf}
use Rattle.stride_form.specs.declared.facts.Number.{Number}
use Rattle.stride_form.specs.declared.walk.Walk.{Walk}
use Rattle.stride_form.specs.Accesses.{walked}
use Rattle.stride_form.specs.Facts.{Facts}
use Rattle.stride_form.specs.Kept.{AreSteps}

-- an entry among these variables
abbrev pub IsAmongThese : List ℕ → Entry → Type 0
IsAmongThese known (At constant) = ⊤
IsAmongThese known (Plus var add) = Contains known var
IsAmongThese known (Minus var add) = Contains known var

-- an offset comes to a number
abbrev pub ComesTo : Assignment → Walk → ℤ → Type 0
ComesTo m walk n = walk.start +ℤ walked m walk.strides ≡ n

-- a number is no negative one, in its range, and its offset is it
pub record IsTrueNumber (m : Assignment) (known : List ℕ) (one : Number) : Type 0 where
  pub among : IsAmongThese known one.entry
  pub over : AreSteps known one.walk.strides
  pub place : IsPlace m one.entry
  pub least : one.least ≤ℤ number m one.entry
  pub greatest : number m one.entry ≤ℤ one.greatest
  pub walk : ComesTo m one.walk (number m one.entry)

-- what is known of a variable that stands for a number, over these variables
abbrev pub IsTrue : Assignment → List ℕ → ℕ → Fact → Type 0
IsTrue m known var (Range low high) = (low ≤ m var) × (m var < high)
IsTrue m known var (Alias entry) = IsAmongThese known entry × (number m entry ≡ pos (m var))
IsTrue m known var (Offset total walk) = (m var < total) × (AreSteps known walk.strides × ComesTo m walk (pos (m var)))
IsTrue m known var (DigitOf of weight extent) =
    IsTrueNumber m known of × ((m var ≡ digit (place m of.entry) weight extent) × (m var < extent))

-- and of all that are known
abbrev pub AreTrue : Assignment → List ℕ → Facts → Type 0
AreTrue m known facts = (var : ℕ) → Contains known var → IsTrue m known var (facts var)
