-- Programs whose forms are straight: they have no choice, no fold and no binding. This project's own.
use Rattle.std.specs.Prelude.{◌≡◌, Bool, true, false, List}
use Rattle.std.specs.List.{AllByRecursion, flat_map}
use Rattle.moa_tree.specs.Expr.{Expr, Rotate, Cat, Reshape, Ravel, Inner, Reduce, Scan, Item}
use Rattle.moa_tree.specs.Subexpressions.{subexpressions_of}

-- whether the operator at the top of an expression makes no choice, no fold and no binding: it is a number, a name, a count, an operator on
-- elements, a view or an outer product
abbrev pub is_plain : Expr → Bool
is_plain (Rotate by of) = false
is_plain (Cat left right) = false
is_plain (Reshape list of) = false
is_plain (Ravel of) = false
is_plain (Inner fold op left right) = false
is_plain (Reduce fold of) = false
is_plain (Scan fold of) = false
is_plain _ = true

-- the same of each of these expressions
abbrev pub EachPlain : List Expr → Type 0
EachPlain exprs = AllByRecursion (λ expr. is_plain expr ≡ true) exprs

-- and of each expression that stands in these statements
abbrev pub ArePlain : List Item → Type 0
ArePlain items = EachPlain (flat_map subexpressions_of items)
