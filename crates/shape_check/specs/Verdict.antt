-- The shape of an expression, or what is the first to fail in it: operands from the left before their operator, an operator's rules in the
-- order of their numbers before the limits of its result. This project's own.
use Rattle.std.specs.Prelude.{ℕ, suc, ◌+◌, ◌-◌, ◌==◌, ◌||◌, not, unsigned_abs, List, [], ◌∷◌, ◌++◌, drop, length, reverse, nat_le, slice_index, Result, Ok, Err}
use Rattle.std.specs.List.{list_all, remove}
use Rattle.shapes_core.specs.Shape.{total}
use Rattle.moa_tree.specs.Axes.{naturals, common, each_extent, taken, remaining, joined, but_last, selected}
use Rattle.moa_tree.specs.Expr.{Expr, Number, Use, Iota, One, Two, Psi, Take, Drop, Reverse, Rotate, Transpose, Permute, Cat, Reshape, Ravel, Outer, Inner, Reduce, Scan}
use Rattle.moa_tree.specs.ShapeOf.{beside, Shapes}
use Rattle.moa_tree.specs.Subexpressions.{subexpressions}
use Rattle.shape_check.specs.Rules.{Failure, Place, rule, shape_limits, is_natural, is_declared, is_scalar, are_equal, each_entry, is_place, is_part, is_permutation}

-- what is judged, unless something fails: then the first that does
abbrev pub judged : {A : Type 0} → List Failure → A → Result A Failure
judged [] a = Ok a
judged (first ∷ others) a = Err first

-- with what was judged before, unless that failed
abbrev pub and_then : {A B : Type 0} → Result A Failure → (A → Result B Failure) → Result B Failure
and_then (Ok a) f = f a
and_then (Err failure) f = Err failure

-- a node of this number and shape, after its rules
abbrev pub shaped : ℕ → List Failure → List ℕ → Result (List ℕ) Failure
shaped number broken shape = judged (broken ++ shape_limits (Place.Node number) shape) shape

-- how many nodes an expression has
abbrev pub node_count : Expr → ℕ
node_count expr = length (subexpressions expr)

-- an expression among these names, whose first node has this number
abbrev pub verdict : Shapes → ℕ → Expr → Result (List ℕ) Failure
verdict shapes at (Number value) = shaped at [] []
verdict shapes at (Use name) = shaped at (rule (Place.Node at) 2 (is_declared shapes name)) (beside [] shapes name)
verdict shapes at (Iota extent) = shaped at (rule (Place.Node at) 4 (is_natural extent)) (unsigned_abs extent ∷ [])
verdict shapes at (One op of) = and_then (verdict shapes (suc at) of) (λ s. shaped at [] s)
verdict shapes at (Two op left right) =
    and_then (verdict shapes (suc at) left) (λ s. and_then (verdict shapes (suc at + node_count left) right) (λ t.
    shaped at (rule (Place.Node at) 5 (are_equal s t || is_scalar s || is_scalar t)) (common s t)))
verdict shapes at (Psi list of) =
    and_then (verdict shapes (suc at) of) (λ s.
    shaped at (rule (Place.Node at) 6 (nat_le (length list) (length s)) ++ rule (Place.Node at) 7 (each_entry is_place list s)) (drop (length list) s))
verdict shapes at (Take list of) =
    and_then (verdict shapes (suc at) of) (λ s.
    shaped at (rule (Place.Node at) 8 (nat_le (length list) (length s)) ++ rule (Place.Node at) 9 (each_entry is_part list s)) (each_extent taken list s))
verdict shapes at (Drop list of) =
    and_then (verdict shapes (suc at) of) (λ s.
    shaped at (rule (Place.Node at) 10 (nat_le (length list) (length s)) ++ rule (Place.Node at) 11 (each_entry is_part list s)) (each_extent remaining list s))
verdict shapes at (Reverse of) = and_then (verdict shapes (suc at) of) (λ s. shaped at (rule (Place.Node at) 12 (not (is_scalar s))) s)
verdict shapes at (Rotate by of) = and_then (verdict shapes (suc at) of) (λ s. shaped at (rule (Place.Node at) 13 (not (is_scalar s))) s)
verdict shapes at (Transpose of) = and_then (verdict shapes (suc at) of) (λ s. shaped at [] (reverse s))
verdict shapes at (Permute list of) =
    and_then (verdict shapes (suc at) of) (λ s.
    shaped at (rule (Place.Node at) 14 (length list == length s) ++ rule (Place.Node at) 15 (is_permutation list)) (selected (naturals list) s))
verdict shapes at (Cat left right) =
    and_then (verdict shapes (suc at) left) (λ s. and_then (verdict shapes (suc at + node_count left) right) (λ t.
    shaped at (rule (Place.Node at) 16 (length s == length t) ++ rule (Place.Node at) 17 (not (is_scalar s))
    ++ rule (Place.Node at) 18 (are_equal (drop 1 s) (drop 1 t))) (joined 0 s t)))
verdict shapes at (Reshape list of) =
    and_then (verdict shapes (suc at) of) (λ s.
    shaped at (rule (Place.Node at) 19 (list_all is_natural list) ++ rule (Place.Node at) 20 (total (naturals list) == total s)) (naturals list))
verdict shapes at (Ravel of) = and_then (verdict shapes (suc at) of) (λ s. shaped at [] (total s ∷ []))
verdict shapes at (Outer op left right) =
    and_then (verdict shapes (suc at) left) (λ s. and_then (verdict shapes (suc at + node_count left) right) (λ t. shaped at [] (s ++ t)))
verdict shapes at (Inner fold op left right) =
    and_then (verdict shapes (suc at) left) (λ s. and_then (verdict shapes (suc at + node_count left) right) (λ t.
    shaped at (rule (Place.Node at) 21 (not (is_scalar s || is_scalar t))
    ++ rule (Place.Node at) 22 (slice_index s (length s - 1) == slice_index t 0)) (but_last s ++ drop 1 t)))
verdict shapes at (Reduce fold of) = and_then (verdict shapes (suc at) of) (λ s. shaped at (rule (Place.Node at) 23 (not (is_scalar s))) (remove s 0))
verdict shapes at (Scan fold of) = and_then (verdict shapes (suc at) of) (λ s. shaped at (rule (Place.Node at) 24 (not (is_scalar s))) s)
