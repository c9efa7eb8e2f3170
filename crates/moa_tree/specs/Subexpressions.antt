-- The expressions that stand in an expression. This project's own.
use Rattle.std.specs.Prelude.{List, [], ◌∷◌, ◌++◌}
use Rattle.std.specs.List.{flat_map}
use Rattle.moa_tree.specs.Expr.{Expr, Number, Use, Iota, One, Two, Psi, Take, Drop, Reverse, Rotate, Transpose, Permute, Cat, Reshape, Ravel, Outer, Inner, Reduce, Scan, Item, Input, Let, Output}

-- an expression and all those in it, in prefix order: an operator before its operands, these from the left
abbrev pub subexpressions : Expr → List Expr
subexpressions (Number value) = Number value ∷ []
subexpressions (Use name) = Use name ∷ []
subexpressions (Iota extent) = Iota extent ∷ []
subexpressions (One op of) = One op of ∷ subexpressions of
subexpressions (Two op left right) = Two op left right ∷ (subexpressions left ++ subexpressions right)
subexpressions (Psi list of) = Psi list of ∷ subexpressions of
subexpressions (Take list of) = Take list of ∷ subexpressions of
subexpressions (Drop list of) = Drop list of ∷ subexpressions of
subexpressions (Reverse of) = Reverse of ∷ subexpressions of
subexpressions (Rotate by of) = Rotate by of ∷ subexpressions of
subexpressions (Transpose of) = Transpose of ∷ subexpressions of
subexpressions (Permute list of) = Permute list of ∷ subexpressions of
subexpressions (Cat left right) = Cat left right ∷ (subexpressions left ++ subexpressions right)
subexpressions (Reshape list of) = Reshape list of ∷ subexpressions of
subexpressions (Ravel of) = Ravel of ∷ subexpressions of
subexpressions (Outer op left right) = Outer op left right ∷ (subexpressions left ++ subexpressions right)
subexpressions (Inner fold op left right) = Inner fold op left right ∷ (subexpressions left ++ subexpressions right)
subexpressions (Reduce fold of) = Reduce fold of ∷ subexpressions of
subexpressions (Scan fold of) = Scan fold of ∷ subexpressions of

-- the same of a statement
abbrev pub subexpressions_of : Item → List Expr
subexpressions_of (Input name extents) = []
subexpressions_of (Let name of) = subexpressions of
subexpressions_of (Output name of) = subexpressions of

-- the expression, where it is a scan
abbrev pub if_scan : Expr → List Expr
if_scan (Scan fold of) = Scan fold of ∷ []
if_scan _ = []

-- the scans in an expression, by the place of their words in the text
abbrev pub scans_in : Expr → List Expr
scans_in expr = flat_map if_scan (subexpressions expr)
