-- How small numbers are where entries and offsets are computed, so that 64 bits hold each of them; and tables by variable. This project's own.
use Rattle.std.specs.Prelude.{ℕ, ◌*◌, ◌≤◌, ◌==◌, ◌||◌, Bool, List, if◌then◌else◌, slice_index_or, unsigned_abs, false}
use Rattle.std.specs.List.{AllByRecursion}
use Rattle.shapes_core.specs.Limits.{greatest_extent}
use Rattle.normal_form.specs.declared.entry.Entry.{Entry}
use Rattle.normal_form.specs.declared.term.Bind.{Bind}
use Rattle.normal_form.specs.declared.term.Bind.TheVariants.{Turn, Flat, Digit}
use Rattle.stride_form.specs.declared.facts.Fact.{Fact}
use Rattle.stride_form.specs.declared.facts.Fact.TheVariants.{Range, Alias, Offset, DigitOf}
use Rattle.stride_form.specs.Accesses.{constant_of}
use Rattle.stride_form.specs.Facts.{Facts}
use Rattle.stride_form.specs.Kept.{most_constant}

-- the constant of an entry is at most so great
abbrev pub IsNear : ℕ → Entry → Type 0
IsNear most entry = unsigned_abs (constant_of entry) ≤ most

abbrev pub AreNearEntries : List Entry → Type 0
AreNearEntries entries = AllByRecursion (IsNear most_constant) entries

-- what is known of a variable is small
abbrev pub IsSmallFact : Fact → Type 0
IsSmallFact (Range low high) = (low ≤ greatest_extent) × (high ≤ greatest_extent)
IsSmallFact (Alias entry) = IsNear (2 * greatest_extent) entry
IsSmallFact (Offset total walk) = total ≤ greatest_extent
IsSmallFact (DigitOf of weight extent) = extent ≤ greatest_extent

-- a table of what is known: nothing stands for a variable that is not in it
abbrev pub fact_at : List Fact → Facts
fact_at list var = slice_index_or list var (Range 0 0)

-- ---- tests by variable

abbrev pub Flags : Type 0
Flags = ℕ → Bool

abbrev pub flag_at : List Bool → Flags
flag_at list var = slice_index_or list var false

-- the same with another test of one variable
abbrev pub flagged : Flags → ℕ → Bool → Flags
flagged flags var flag other = if other == var then flag else flags other

-- one or the other
abbrev pub either : Flags → Flags → Flags
either one other var = one var || other var

-- the entries of a binding are near
abbrev pub IsNearBind : Bind → Type 0
IsNearBind (Turn of by extent) = IsNear most_constant of
IsNearBind (Flat of shape) = AreNearEntries of
IsNearBind (Digit of weight extent) = IsNear most_constant of
