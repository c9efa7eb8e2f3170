-- What is known of the variables of a kept form is small, and over variables that are known. This project's own.
use Rattle.std.specs.Prelude.{List, ℕ, ◌*◌, ◌≤◌, ℤ, pos, ◌+ℤ◌, ◌-ℤ◌, ◌≤ℤ◌, unsigned_abs}
use Rattle.std.specs.List.{Contains}
use Rattle.shapes_core.specs.Limits.{greatest_extent}
use Rattle.normal_form.specs.declared.entry.Entry.{Entry}
use Rattle.normal_form.specs.declared.entry.Entry.TheVariants.{At, Plus, Minus}
use Rattle.stride_form.specs.declared.facts.Fact.{Fact}
use Rattle.stride_form.specs.declared.facts.Fact.TheVariants.{Range, Alias, Offset, DigitOf}
use Rattle.stride_form.specs.declared.facts.Number.{Number}
use Rattle.stride_form.specs.Facts.{Facts}
use Rattle.stride_form.specs.Kept.{IsWalk, most_constant}

-- an entry over one of these variables, beside a constant that is at most so great
abbrev pub IsBeside : List ℕ → ℕ → Entry → Type 0
IsBeside known most (At constant) = ⊥
IsBeside known most (Plus var add) = Contains known var × (unsigned_abs add ≤ most)
IsBeside known most (Minus var add) = Contains known var × (unsigned_abs add ≤ most)

-- The constant of an entry with this least and this greatest number: a variable runs from at most an extent on and ends at most there, so a number
-- that lies in a shape has a constant of at most two extents.
abbrev pub IsRanged : Entry → ℤ → ℤ → Type 0
IsRanged (At constant) least greatest = ⊥
IsRanged (Plus var add) least greatest = (least ≤ℤ (pos greatest_extent +ℤ add)) × ((add -ℤ pos 1) ≤ℤ greatest)
IsRanged (Minus var add) least greatest = (least ≤ℤ (add +ℤ pos 1)) × ((add -ℤ pos greatest_extent) ≤ℤ greatest)

pub record IsKeptNumber (known : List ℕ) (number : Number) : Type 0 where
  pub beside : IsBeside known most_constant number.entry
  pub ranged : IsRanged number.entry number.least number.greatest
  pub walk : IsWalk known number.walk.start number.walk.strides

abbrev pub IsKeptFact : List ℕ → Fact → Type 0
IsKeptFact known (Range low high) = (low ≤ greatest_extent) × (high ≤ greatest_extent)
IsKeptFact known (Alias entry) = IsBeside known (2 * greatest_extent) entry
IsKeptFact known (Offset total walk) = (total ≤ greatest_extent) × IsWalk known walk.start walk.strides
IsKeptFact known (DigitOf of weight extent) = IsKeptNumber known of × (extent ≤ greatest_extent)

abbrev pub AreKeptFacts : List ℕ → Facts → Type 0
AreKeptFacts known facts = (var : ℕ) → Contains known var → IsKeptFact known (facts var)
