-- The value of an expression at one index vector of its shape. After Mullin, A Mathematics of Arrays (1988): each operator is given by the
-- place of its operand from which an element comes.
use Rattle.std.specs.Prelude.{ℕ, ◌-◌, Bool, true, false, ℤ, pos, List, [], ◌∷◌, ◌++◌, map, take, drop, length, reverse, nat_lt, slice_index, slice_index_or}
use Rattle.shapes_core.specs.Gamma.{gamma, ungamma}
use Rattle.shapes_core.specs.Shape.{total}
use Rattle.moa_tree.specs.Axes.{naturals, own_index, each_place, taken_from, remaining_from, mirrored, behind, on_axis, turned, restored}
use Rattle.moa_tree.specs.Expr.{Expr, Number, Use, Iota, One, Two, Psi, Take, Drop, Reverse, Rotate, Transpose, Permute, Cat, Reshape, Ravel, Outer, Inner, Reduce, Scan}
use Rattle.moa_tree.specs.Folds.{fold_along, fold_below, fold_until}
use Rattle.moa_tree.specs.Operators.{apply, apply_unary}
use Rattle.moa_tree.specs.ShapeOf.{beside, Shapes, shape_of}

-- what a name stands for: an array, by its shape and its value at each index vector
pub record Known : Type 0 where
  pub shape : List ℕ
  pub at : List ℕ → ℤ

-- the earlier names with their arrays
abbrev pub Env : Type 0
Env = List (List ℕ × Known)

-- what an unknown name stands for, of which nothing is ever said
abbrev pub unknown : Known
unknown = record { shape = []; at = λ index. pos 0 }

-- the element of a stored list: its array lies in row-major order
abbrev pub element : List ℤ → List ℕ → List ℕ → ℤ
element stored shape index = slice_index_or stored (gamma index shape) (pos 0)

-- the shapes of the earlier names
abbrev pub shapes_of : Env → Shapes
shapes_of env = map (λ entry. (entry.0, entry.1.shape)) env

-- the shape of an expression among these names
abbrev pub shape_in : Env → Expr → List ℕ
shape_in env expr = shape_of (shapes_of env) expr

-- the value of the first function where the test holds, else of the other
abbrev pub chosen : {X Y : Type 0} → Bool → (X → Y) → (X → Y) → X → Y
chosen true first other x = first x
chosen false first other x = other x

-- an array that is joined of two on one axis: the first one, and behind its extent the other
abbrev pub either_part : ℕ → List ℕ → (List ℕ → ℤ) → (List ℕ → ℤ) → List ℕ → ℤ
either_part axis shape first other index =
    chosen (nat_lt (slice_index index axis) (slice_index shape axis)) first (λ i. other (on_axis axis behind shape i)) index

-- one equation for each operator
abbrev pub value : Env → Expr → List ℕ → ℤ
value env (Number number) index = number
value env (Use name) index = (beside unknown env name).at index
value env (Iota extent) index = pos (slice_index index 0)
value env (One op of) index = apply_unary op (value env of index)
value env (Two op left right) index =
    apply op (value env left (own_index (shape_in env left) index)) (value env right (own_index (shape_in env right) index))
value env (Psi list of) index = value env of (naturals list ++ index)
value env (Take list of) index = value env of (each_place taken_from list (shape_in env of) index)
value env (Drop list of) index = value env of (each_place remaining_from list (shape_in env of) index)
value env (Reverse of) index = value env of (on_axis 0 mirrored (shape_in env of) index)
value env (Rotate by of) index = value env of (on_axis 0 (turned by) (shape_in env of) index)
value env (Transpose of) index = value env of (reverse index)
value env (Permute list of) index = value env of (restored 0 (naturals list) index)
value env (Cat left right) index = either_part 0 (shape_in env left) (λ i. value env left i) (λ i. value env right i) index
value env (Reshape list of) index = value env of (ungamma (shape_in env of) (gamma index (naturals list)))
value env (Ravel of) index = value env of (ungamma (shape_in env of) (gamma index (total (shape_in env of) ∷ [])))
value env (Outer op left right) index =
    let axes = length (shape_in env left) in
    apply op (value env left (take axes index)) (value env right (drop axes index))
value env (Inner fold op left right) index =
    let axes = length (shape_in env left) - 1 in
    fold_below fold (slice_index (shape_in env left) axes)
    (λ k. apply op (value env left (take axes index ++ k ∷ [])) (value env right (k ∷ drop axes index)))
value env (Reduce fold of) index = fold_along fold 0 (shape_in env of) (λ i. value env of i) index
value env (Scan fold of) index = fold_until fold 0 (λ i. value env of i) index
