-- Where all that nests read and write is there, and tests of it that compute. This project's own.
use Rattle.std.specs.Prelude.{◌≡◌, ℕ, ◌+◌, ◌<◌, ◌≤◌, nat_le, nat_lt, Bool, false, ◌&&◌, ℤ, pos, negsuc, List, slice_get, Option, None, Some}
use Rattle.std.specs.List.{AllByRecursion}
use Rattle.shapes_core.specs.declared.area.Area.{Area}
use Rattle.shapes_core.specs.Shape.{total}
use Rattle.loop_ir.specs.Running.{Access, ReadsWord, WritesWord, State}

-- a word of an area
pub record IsWordOf (areas : List Area) (number : ℕ) (word : ℤ) : Type 0 where
  pub area : Area
  pub there : slice_get areas number ≡ Some area
  pub place : ℕ
  pub same : word ≡ pos place
  pub begun : area.start ≤ place
  pub within : place < area.start + total area.shape

abbrev pub IsInside : List Area → Access → Type 0
IsInside areas (ReadsWord area word) = IsWordOf areas area word
IsInside areas (WritesWord area word) = IsWordOf areas area word

-- each access that was made is of a word of its area
abbrev pub IsDefined : List Area → State → Type 0
IsDefined areas state = AllByRecursion (IsInside areas) state.trace

-- ---- tests

abbrev pub has_place : Option Area → ℕ → Bool
has_place None place = false
has_place (Some area) place = nat_le area.start place && nat_lt place (area.start + total area.shape)

-- whether this is a word of the area of this number
abbrev pub has_word : List Area → ℕ → ℤ → Bool
has_word areas number (pos place) = has_place (slice_get areas number) place
has_word areas number (negsuc place) = false

-- and whether an access is of a word of its area
abbrev pub allows : List Area → Access → Bool
allows areas (ReadsWord area word) = has_word areas area word
allows areas (WritesWord area word) = has_word areas area word
