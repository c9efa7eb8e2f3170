-- The shape of each expression, where it is well shaped; elsewhere it says nothing. After Mullin, A Mathematics of Arrays (1988).
use Rattle.std.specs.Prelude.{ℕ, List, [], ◌∷◌, ◌++◌, drop, length, reverse, unsigned_abs, if◌then◌else◌}
use Rattle.std.specs.List.{remove}
use Rattle.std.specs.Str.{bytes_eq}
use Rattle.shapes_core.specs.Shape.{total}
use Rattle.moa_tree.specs.Axes.{naturals, common, each_extent, taken, remaining, joined, but_last, selected}
use Rattle.moa_tree.specs.Expr.{Expr, Number, Use, Iota, One, Two, Psi, Take, Drop, Reverse, Rotate, Transpose, Permute, Cat, Reshape, Ravel, Outer, Inner, Reduce, Scan}

-- what stands beside a name in a list of names, or else the first argument
abbrev pub beside : {X : Type 0} → X → List (List ℕ × X) → List ℕ → X
beside otherwise [] name = otherwise
beside otherwise (entry ∷ entries) name = if bytes_eq entry.0 name then entry.1 else beside otherwise entries name

-- the earlier names with their shapes
abbrev pub Shapes : Type 0
Shapes = List (List ℕ × List ℕ)

abbrev pub shape_of : Shapes → Expr → List ℕ
shape_of shapes (Number value) = []
shape_of shapes (Use name) = beside [] shapes name
shape_of shapes (Iota extent) = unsigned_abs extent ∷ []
shape_of shapes (One op of) = shape_of shapes of
shape_of shapes (Two op left right) = common (shape_of shapes left) (shape_of shapes right)
shape_of shapes (Psi list of) = drop (length list) (shape_of shapes of)
shape_of shapes (Take list of) = each_extent taken list (shape_of shapes of)
shape_of shapes (Drop list of) = each_extent remaining list (shape_of shapes of)
shape_of shapes (Reverse of) = shape_of shapes of
shape_of shapes (Rotate by of) = shape_of shapes of
shape_of shapes (Transpose of) = reverse (shape_of shapes of)
shape_of shapes (Permute list of) = selected (naturals list) (shape_of shapes of)
shape_of shapes (Cat left right) = joined 0 (shape_of shapes left) (shape_of shapes right)
shape_of shapes (Reshape list of) = naturals list
shape_of shapes (Ravel of) = total (shape_of shapes of) ∷ []
shape_of shapes (Outer op left right) = shape_of shapes left ++ shape_of shapes right
shape_of shapes (Inner fold op left right) = but_last (shape_of shapes left) ++ drop 1 (shape_of shapes right)
shape_of shapes (Reduce fold of) = remove (shape_of shapes of) 0
shape_of shapes (Scan fold of) = shape_of shapes of
