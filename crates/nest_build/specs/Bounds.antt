-- What nests of straight forms cost, what they name, and what they write. This project's own.
use Rattle.std.specs.Prelude.{◌≡◌, ℕ, ◌+◌, ◌-◌, ◌*◌, ◌≤◌, ℤ, FitsSigned, List, [], ◌∷◌, ◌++◌, ⊤}
use Rattle.std.specs.Int.{w32}
use Rattle.std.specs.List.{AllByRecursion}
use Rattle.normal_form.specs.Forms.{Un, Bin}
use Rattle.stride_form.specs.Operational.{Operational}
use Rattle.loop_ir.specs.Costs.{Prices}
use Rattle.loop_ir.specs.Running.{Access as Touch, Key, ReadsWord, WritesWord}

-- prices as a machine has them: a number takes at most 8 lines, one of 32 signed bits at most 2, and a width is at most 3
pub record AreLow (prices : Prices) : Type 0 where
  pub most : (value : ℤ) → prices.lines value ≤ 8
  pub short : (value : ℤ) → FitsSigned w32 value → prices.lines value ≤ 2
  pub width : (key : Key) → prices.width key ≤ 3

-- the terms of a straight form
abbrev pub terms : Operational → ℕ
terms (Un op of) = 1 + terms of
terms (Bin op left right) = 1 + (terms left + terms right)
terms _ = 1

-- how many index vectors a region has
abbrev pub places_in : List (ℕ × ℕ) → ℕ
places_in [] = 1
places_in (pair ∷ pairs) = (pair.1 - pair.0) * places_in pairs

-- a write is one of the job's own area
abbrev pub IsOwnWrite : ℕ → Touch → Type 0
IsOwnWrite own (ReadsWord area word) = ⊤
IsOwnWrite own (WritesWord area word) = area ≡ own

-- the accesses behind those that were made before write the job's own area alone
pub record AddsOwn (own : ℕ) (before after : List Touch) : Type 0 where
  pub more : List Touch
  pub same : after ≡ more ++ before
  pub each : AllByRecursion (IsOwnWrite own) more
