-- Why a program that reads is refused: the shape rules of the operators, by their numbers, and the limits. This project's own, after the
-- conformity of arguments in Mullin, A Mathematics of Arrays (1988).
use Rattle.std.specs.Prelude.{ℕ, ◌-◌, ◌^◌, min, Bool, true, false, ◌&&◌, nat_le, nat_lt, slice_index, ℤ, pos, negsuc, unsigned_abs, Option, Some, List, [], ◌∷◌, ◌++◌, length, if◌then◌else◌}
use Rattle.std.specs.List.{flat_map, list_all, list_any, range_with_len}
use Rattle.std.specs.Ordering.{int_eq}
use Rattle.std.specs.Str.{bytes_eq}
use Rattle.shapes_core.specs.Limits.{greatest_extent, greatest_size, greatest_work, most_words}
use Rattle.shapes_core.specs.Shape.{span}
use Rattle.moa_tree.specs.ShapeOf.{Shapes}

-- where a program is refused: at the name of a statement or at a node, each by its number, counted from 0 in the order of the text
pub data Place : Type 0 where
  Name : (statement : ℕ) → Place
  Node : (number : ℕ) → Place

-- a shape rule that is broken, or a limit with the value that exceeds it, which has a place where it is one of a shape
pub data Failure : Type 0 where
  Rule : (place : Place) (rule : ℕ) → Failure
  Limit : (place : Option Place) (which value : ℕ) → Failure

-- the rule is broken where its test does not hold
abbrev pub rule : Place → ℕ → Bool → List Failure
rule place number holds = if holds then [] else Failure.Rule place number ∷ []

-- the greatest value that a limit allows, by its number: 2 axes, 3 an extent, 4 the span of a shape, 5 the size of a program, 6 its work,
-- 7 the words of its areas
abbrev pub greatest : ℕ → ℕ
greatest which = slice_index (0 ∷ 0 ∷ 6 ∷ greatest_extent ∷ greatest_extent ∷ greatest_size ∷ greatest_work ∷ most_words ∷ []) which

-- the limit is exceeded where the value is more than it allows; a value of more than 64 bits is given as the greatest that has 64
abbrev pub limit : Option Place → ℕ → ℕ → ℕ → List Failure
limit place which most value = if nat_lt most value then Failure.Limit place which (min value (2 ^ 64 - 1)) ∷ [] else []

-- the limits of a shape: 2 its axes, 3 each extent, 4 its span
abbrev pub shape_limits : Place → List ℕ → List Failure
shape_limits place shape =
    limit (Some place) 2 (greatest 2) (length shape) ++ flat_map (limit (Some place) 3 (greatest 3)) shape
    ++ limit (Some place) 4 (greatest 4) (span shape)

-- ---- what the rules ask

abbrev pub is_natural : ℤ → Bool
is_natural (pos n) = true
is_natural (negsuc n) = false

abbrev pub is_declared : Shapes → List ℕ → Bool
is_declared shapes name = list_any (λ entry. bytes_eq entry.0 name) shapes

abbrev pub is_scalar : List ℕ → Bool
is_scalar [] = true
is_scalar (n ∷ shape) = false

abbrev pub are_equal : List ℕ → List ℕ → Bool
are_equal shape other = bytes_eq shape other

-- an entry for each of the first axes passes a test with the extent of its axis
abbrev pub each_entry : (ℤ → ℕ → Bool) → List ℤ → List ℕ → Bool
each_entry test [] shape = true
each_entry test (k ∷ list) [] = true
each_entry test (k ∷ list) (n ∷ shape) = test k n && each_entry test list shape

-- a place of an axis, and as much of it as there is, from the front or from the back
abbrev pub is_place : ℤ → ℕ → Bool
is_place k n = is_natural k && nat_lt (unsigned_abs k) n

abbrev pub is_part : ℤ → ℕ → Bool
is_part k n = nat_le (unsigned_abs k) n

-- each of the numbers below the length stands in the list
abbrev pub is_permutation : List ℤ → Bool
is_permutation list = list_all (λ axis. list_any (int_eq (pos axis)) list) (range_with_len 0 (length list))
