-- The verdict on a program: the shape of each statement, or the first rule or limit that fails. Statements come in order, the name of each
-- before its expression, and the limits of the whole program last. This project's own.
use Rattle.std.specs.Prelude.{ℕ, suc, ◌+◌, not, List, [], ◌∷◌, ◌++◌, length, None, Result}
use Rattle.std.specs.List.{list_all}
use Rattle.moa_tree.specs.Axes.{naturals}
use Rattle.moa_tree.specs.Expr.{Item, Input, Let, Output}
use Rattle.moa_tree.specs.ShapeOf.{Shapes}
use Rattle.moa_tree.specs.Subexpressions.{subexpressions_of}
use Rattle.shape_check.specs.Costs.{size, work}
use Rattle.shape_check.specs.Layout.{name_of, words}
use Rattle.shape_check.specs.Rules.{Failure, Place, greatest, limit, rule, shape_limits, is_declared, is_natural}
use Rattle.shape_check.specs.Verdict.{and_then, judged, verdict}

-- a name that no earlier statement has
abbrev pub new_name : Shapes → ℕ → List ℕ → List Failure
new_name shapes statement name = rule (Place.Name statement) 1 (not (is_declared shapes name))

-- the shape of a statement of this number among earlier names, where the first node of its expression has that number
abbrev pub verdict_on : Shapes → ℕ → ℕ → Item → Result (List ℕ) Failure
verdict_on shapes statement node (Input name extents) =
    judged (new_name shapes statement name ++ rule (Place.Name statement) 3 (list_all is_natural extents)
    ++ shape_limits (Place.Name statement) (naturals extents)) (naturals extents)
verdict_on shapes statement node (Let name of) = and_then (judged (new_name shapes statement name) name) (λ n. verdict shapes node of)
verdict_on shapes statement node (Output name of) = and_then (judged (new_name shapes statement name) name) (λ n. verdict shapes node of)

-- all names with their shapes, the last one first, after these statements and earlier names
abbrev pub verdict_from : Shapes → ℕ → ℕ → List Item → Result Shapes Failure
verdict_from shapes statement node [] = judged [] shapes
verdict_from shapes statement node (item ∷ items) =
    and_then (verdict_on shapes statement node item)
    (λ shape. verdict_from ((name_of item, shape) ∷ shapes) (suc statement) (node + length (subexpressions_of item)) items)

-- the limits of a program: 5 its size, 6 its work, 7 the words of its areas
abbrev pub program_limits : List Item → List Failure
program_limits items = limit None 5 (greatest 5) (size items) ++ limit None 6 (greatest 6) (work items) ++ limit None 7 (greatest 7) (words items)

abbrev pub verdict_of : List Item → Result Shapes Failure
verdict_of items = and_then (verdict_from [] 0 0 items) (λ shapes. judged (program_limits items) shapes)
