-- Homes of registers and places: machine registers and spill words. This project's own.
use Rattle.std.specs.Prelude.{◌≡◌, ℕ, suc, ◌*◌, ◌^◌, ◌<◌, ◌≤◌, ◌⊎◌, nat_le, ◌&&◌, ◌||◌, ◌==◌, Bool, true, List, Option, Some}
use Rattle.std.specs.Map.{lookup}
use Rattle.loop_ir.specs.Running.{Key, Register, Pointer}
use Rattle.register_map.specs.declared.home.Home.{Home}
use Rattle.register_map.specs.declared.home.Home.TheVariants as home

-- registers and places in one order
abbrev pub code : Key → ℕ
code (Register number) = 2 * number
code (Pointer number) = suc (2 * number)

-- the number of a register, or of a place
abbrev pub number_of : Key → ℕ
number_of (Register number) = number
number_of (Pointer number) = number

-- homes by the codes of those that have them, and the number of spill words
pub record Given : Type 0 where
  pub homes : List (ℕ × Home)
  pub spill : ℕ

abbrev pub home_of : Given → Key → Option Home
home_of given key = lookup (λ other. code key == other) given.homes

-- the machine registers that are given: x5 to x7 and x11 to x17
abbrev pub is_given : ℕ → Bool
is_given number = (nat_le 5 number && nat_le number 7) || (nat_le 11 number && nat_le number 17)

-- a home is one of these, or a spill word below a number
abbrev pub IsHome : ℕ → Home → Type 0
IsHome spill (home.Register number) = is_given number ≡ true
IsHome spill (home.Spill word) = word < spill

-- the number of spill words is one more than the greatest that is given, or 0, and each is below 2 ^ 31
pub record IsGiven (given : Given) : Type 0 where
  pub below : (key : Key) (word : ℕ) → home_of given key ≡ Some (home.Spill word) → word < given.spill
  pub least : (given.spill ≡ 0) ⊎ ((key : Key) × (word : ℕ) × (home_of given key ≡ Some (home.Spill word)) × (given.spill ≡ suc word))
  pub few : given.spill ≤ 2 ^ 31
