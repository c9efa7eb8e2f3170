-- Shapes of arrays. After Mullin, A Mathematics of Arrays (1988); the limits are this project's own.
use Rattle.std.specs.Prelude.{ℕ, ◌*◌, max, Bool, ◌&&◌, nat_eq, nat_le, IsTrue, List, [], ◌∷◌, length, drop}
use Rattle.std.specs.List.{list_all}
use Rattle.std.specs.Cmp.Lexicographic.{pointwise}
use Rattle.shapes_core.specs.Limits.{greatest_extent, most_axes}

-- how many elements an array of this shape has: the product of its extents, and 1 for a scalar
abbrev pub total : List ℕ → ℕ
total [] = 1
total (extent ∷ extents) = extent * total extents

-- the same product with each extent 0 taken as 1
abbrev pub span : List ℕ → ℕ
span [] = 1
span (extent ∷ extents) = max extent 1 * span extents

-- each extent is small, and so is the span
abbrev pub are_small : List ℕ → Bool
are_small extents = list_all (λ extent. nat_le extent greatest_extent) extents && nat_le (span extents) greatest_extent

-- a shape: few small extents
abbrev pub is_shape : List ℕ → Bool
is_shape extents = nat_le (length extents) most_axes && are_small extents

abbrev pub IsShape : List ℕ → Type 0
IsShape extents = IsTrue (is_shape extents)

-- whether two shapes have the same extents after the first
abbrev pub same_tail : List ℕ → List ℕ → Bool
same_tail left right = pointwise nat_eq (drop 1 left) (drop 1 right)
