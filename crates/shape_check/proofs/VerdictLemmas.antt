-- The shape of an accepted expression is its shape.
use Rattle.std.specs.Prelude.{◌≡◌, ℕ, ◌+◌, ◌-◌, suc, ◌==◌, ◌||◌, not, List, [], ◌∷◌, ◌++◌, drop, reverse, length, nat_le, slice_index, unsigned_abs, Result, Ok, Err}
use Rattle.std.specs.List.{list_all, remove}
use Rattle.std.proofs.Common.{refl, ap, sym, ◌∙◌}
use Rattle.shapes_core.specs.Shape.{total}
use Rattle.moa_tree.specs.Axes.{naturals, common, each_extent, taken, remaining, joined, but_last, selected}
use Rattle.moa_tree.specs.Expr.{Expr, Number, Use, Iota, One, Two, Psi, Take, Drop, Reverse, Rotate, Transpose, Permute, Cat, Reshape, Ravel, Outer, Inner, Reduce, Scan}
use Rattle.moa_tree.specs.ShapeOf.{beside, Shapes, shape_of}
use Rattle.shape_check.specs.Rules.{Failure, Place, rule, shape_limits, is_natural, is_declared, is_scalar, are_equal, each_entry, is_place, is_part, is_permutation}
use Rattle.shape_check.specs.Verdict.{and_then, judged, node_count, shaped, verdict}

-- what a judgement accepts is what it was made for
abbrev value_or : {A : Type 0} → A → Result A Failure → A
value_or other (Ok a) = a
value_or other (Err failure) = other

pub judged-ok : {A : Type 0} (broken : List Failure) (made a : A) → judged broken made ≡ Ok a → a ≡ made
judged-ok [] made a h = sym (ap (value_or made) h)
judged-ok (first ∷ others) made a h = cc

pub shaped-ok : (at : ℕ) (broken : List Failure) (shape s : List ℕ) → shaped at broken shape ≡ Ok s → s ≡ shape
shaped-ok at broken shape s h = judged-ok (broken ++ shape_limits (Place.Node at) shape) shape s h

-- what is judged with something before is accepted after it
pub record Accepted {A B : Type 0} (before : Result A Failure) (then : A → Result B Failure) (b : B) : Type 0 where
  pub made : A
  pub first : before ≡ Ok made
  pub second : then made ≡ Ok b

pub and_then-ok : {A B : Type 0} (before : Result A Failure) (then : A → Result B Failure) (b : B) → and_then before then ≡ Ok b → Accepted before then b
and_then-ok (Ok a) then b h = record { made = a; first = refl; second = h }
and_then-ok (Err failure) then b h = absurd cc

-- with one operand, or two
one-ok : (at : ℕ) (broken : List ℕ → List Failure) (shape : List ℕ → List ℕ) (before : Result (List ℕ) Failure) (operand b : List ℕ)
    → ((s : List ℕ) → before ≡ Ok s → s ≡ operand) → and_then before (λ s. shaped at (broken s) (shape s)) ≡ Ok b → b ≡ shape operand
one-ok at broken shape before operand b h e =
    let parts = and_then-ok before (λ s. shaped at (broken s) (shape s)) b e in
    shaped-ok at (broken parts.made) (shape parts.made) b parts.second ∙ ap shape (h parts.made parts.first)

two-ok : (at : ℕ) (broken : List ℕ → List ℕ → List Failure) (shape : List ℕ → List ℕ → List ℕ) (before next : Result (List ℕ) Failure) (left right b : List ℕ)
    → ((s : List ℕ) → before ≡ Ok s → s ≡ left) → ((s : List ℕ) → next ≡ Ok s → s ≡ right)
    → and_then before (λ s. and_then next (λ t. shaped at (broken s t) (shape s t))) ≡ Ok b → b ≡ shape left right
two-ok at broken shape before next left right b h k e =
    let parts = and_then-ok before (λ s. and_then next (λ t. shaped at (broken s t) (shape s t))) b e in
    one-ok at (broken parts.made) (shape parts.made) next right b k parts.second ∙ ap (λ s. shape s right) (h parts.made parts.first)

-- the shape with which an expression is accepted is its shape
pub verdict-shape : (shapes : Shapes) (at : ℕ) (expr : Expr) (s : List ℕ) → verdict shapes at expr ≡ Ok s → s ≡ shape_of shapes expr
verdict-shape shapes at (Number value) s h = shaped-ok at [] [] s h
verdict-shape shapes at (Use name) s h = shaped-ok at (rule (Place.Node at) 2 (is_declared shapes name)) (beside [] shapes name) s h
verdict-shape shapes at (Iota extent) s h = shaped-ok at (rule (Place.Node at) 4 (is_natural extent)) (unsigned_abs extent ∷ []) s h
verdict-shape shapes at (One op of) b h =
    one-ok at (λ s. []) (λ s. s) (verdict shapes (suc at) of) (shape_of shapes of) b
    (verdict-shape shapes (suc at) of) h
verdict-shape shapes at (Two op left right) b h =
    two-ok at (λ s t. rule (Place.Node at) 5 (are_equal s t || is_scalar s || is_scalar t)) (λ s t. common s t) (verdict shapes (suc at) left) (verdict shapes (suc at + node_count left) right)
    (shape_of shapes left) (shape_of shapes right) b (verdict-shape shapes (suc at) left) (verdict-shape shapes (suc at + node_count left) right) h
verdict-shape shapes at (Psi list of) b h =
    one-ok at (λ s. rule (Place.Node at) 6 (nat_le (length list) (length s)) ++ rule (Place.Node at) 7 (each_entry is_place list s)) (λ s. drop (length list) s) (verdict shapes (suc at) of) (shape_of shapes of) b
    (verdict-shape shapes (suc at) of) h
verdict-shape shapes at (Take list of) b h =
    one-ok at (λ s. rule (Place.Node at) 8 (nat_le (length list) (length s)) ++ rule (Place.Node at) 9 (each_entry is_part list s)) (λ s. each_extent taken list s) (verdict shapes (suc at) of) (shape_of shapes of) b
    (verdict-shape shapes (suc at) of) h
verdict-shape shapes at (Drop list of) b h =
    one-ok at (λ s. rule (Place.Node at) 10 (nat_le (length list) (length s)) ++ rule (Place.Node at) 11 (each_entry is_part list s)) (λ s. each_extent remaining list s) (verdict shapes (suc at) of) (shape_of shapes of) b
    (verdict-shape shapes (suc at) of) h
verdict-shape shapes at (Reverse of) b h =
    one-ok at (λ s. rule (Place.Node at) 12 (not (is_scalar s))) (λ s. s) (verdict shapes (suc at) of) (shape_of shapes of) b
    (verdict-shape shapes (suc at) of) h
verdict-shape shapes at (Rotate by of) b h =
    one-ok at (λ s. rule (Place.Node at) 13 (not (is_scalar s))) (λ s. s) (verdict shapes (suc at) of) (shape_of shapes of) b
    (verdict-shape shapes (suc at) of) h
verdict-shape shapes at (Transpose of) b h =
    one-ok at (λ s. []) (λ s. reverse s) (verdict shapes (suc at) of) (shape_of shapes of) b
    (verdict-shape shapes (suc at) of) h
verdict-shape shapes at (Permute list of) b h =
    one-ok at (λ s. rule (Place.Node at) 14 (length list == length s) ++ rule (Place.Node at) 15 (is_permutation list)) (λ s. selected (naturals list) s) (verdict shapes (suc at) of) (shape_of shapes of) b
    (verdict-shape shapes (suc at) of) h
verdict-shape shapes at (Cat left right) b h =
    two-ok at (λ s t. rule (Place.Node at) 16 (length s == length t) ++ rule (Place.Node at) 17 (not (is_scalar s)) ++ rule (Place.Node at) 18 (are_equal (drop 1 s) (drop 1 t))) (λ s t. joined 0 s t) (verdict shapes (suc at) left) (verdict shapes (suc at + node_count left) right)
    (shape_of shapes left) (shape_of shapes right) b (verdict-shape shapes (suc at) left) (verdict-shape shapes (suc at + node_count left) right) h
verdict-shape shapes at (Reshape list of) b h =
    one-ok at (λ s. rule (Place.Node at) 19 (list_all is_natural list) ++ rule (Place.Node at) 20 (total (naturals list) == total s)) (λ s. naturals list) (verdict shapes (suc at) of) (shape_of shapes of) b
    (verdict-shape shapes (suc at) of) h
verdict-shape shapes at (Ravel of) b h =
    one-ok at (λ s. []) (λ s. total s ∷ []) (verdict shapes (suc at) of) (shape_of shapes of) b
    (verdict-shape shapes (suc at) of) h
verdict-shape shapes at (Outer op left right) b h =
    two-ok at (λ s t. []) (λ s t. s ++ t) (verdict shapes (suc at) left) (verdict shapes (suc at + node_count left) right)
    (shape_of shapes left) (shape_of shapes right) b (verdict-shape shapes (suc at) left) (verdict-shape shapes (suc at + node_count left) right) h
verdict-shape shapes at (Inner fold op left right) b h =
    two-ok at (λ s t. rule (Place.Node at) 21 (not (is_scalar s || is_scalar t)) ++ rule (Place.Node at) 22 (slice_index s (length s - 1) == slice_index t 0)) (λ s t. but_last s ++ drop 1 t) (verdict shapes (suc at) left) (verdict shapes (suc at + node_count left) right)
    (shape_of shapes left) (shape_of shapes right) b (verdict-shape shapes (suc at) left) (verdict-shape shapes (suc at + node_count left) right) h
verdict-shape shapes at (Reduce fold of) b h =
    one-ok at (λ s. rule (Place.Node at) 23 (not (is_scalar s))) (λ s. remove s 0) (verdict shapes (suc at) of) (shape_of shapes of) b
    (verdict-shape shapes (suc at) of) h
verdict-shape shapes at (Scan fold of) b h =
    one-ok at (λ s. rule (Place.Node at) 24 (not (is_scalar s))) (λ s. s) (verdict shapes (suc at) of) (shape_of shapes of) b
    (verdict-shape shapes (suc at) of) h
