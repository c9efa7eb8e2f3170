-- Values of an accepted expression among two lists of names, whose arrays are related at each index vector: they are related too.
use Rattle.std.specs.Prelude.{◌≡◌, ℕ, zero, suc, ◌+◌, ◌-◌, ◌<◌, Bool, true, false, ℤ, pos, FitsSigned, List, [], ◌∷◌, ◌++◌, drop, length, map, nat_lt, reverse, slice_index, slice_set, take, unsigned_abs, if◌then◌else◌}
use Rattle.std.specs.Int.{w64}
use Rattle.std.specs.List.{All, AllByRecursion, AllZip, Contains, insert, range_with_len}
use Rattle.std.specs.Str.{bytes_eq}
use Rattle.std.proofs.Common.{refl, ap, sym, subst, ◌∙◌, arith}
use Rattle.std.proofs.lemmas.Bool.{eqb-true}
use Rattle.std.proofs.lemmas.List.Elements.{Contains-append_left, Contains-append_right}
use Rattle.std.proofs.lemmas.List.FromFn.{get_or-map-range_with_len, length-map-range_with_len}
use Rattle.shapes_core.specs.Limits.{greatest_extent}
use Rattle.shapes_core.specs.Gamma.{IsIndex, gamma, ungamma}
use Rattle.shapes_core.specs.Shape.{IsShape, total}
use Rattle.moa_tree.specs.declared.operator.Op.{Op}
use Rattle.moa_tree.specs.declared.operator.Unary.{Unary}
use Rattle.moa_tree.specs.Axes.{naturals, own_index, each_place, taken_from, remaining_from, mirrored, behind, on_axis, turned, restored}
use Rattle.moa_tree.specs.Expr.{Expr, Number, Use, Iota, One, Two, Psi, Take, Drop, Reverse, Rotate, Transpose, Permute, Cat, Reshape, Ravel, Outer, Inner, Reduce, Scan}
use Rattle.moa_tree.specs.Folds.{fold_below, fold_of}
use Rattle.moa_tree.specs.Operators.{apply, apply_unary}
use Rattle.moa_tree.specs.ShapeOf.{beside, shape_of}
use Rattle.moa_tree.specs.Subexpressions.{subexpressions}
use Rattle.moa_tree.specs.Values.{Env, Known, chosen, either_part, shape_in, shapes_of, unknown, value}
use Rattle.shape_check.proofs.JoinLemmas.{cat-first, cat-second, index-split, inner-place, pointwise-place, reduce-place, scan-place}
use Rattle.shape_check.proofs.PlaceLemmas.{drop-place, permute-place, psi-place, reverse-place, rotate-place, take-place, transpose-place}
use Rattle.shape_check.proofs.SoundLemmas.{IsWell, extent-small}

-- an index vector of one shape leads to one of another of the same total
abbrev pub Unravels : Type 0
Unravels = (s t index : List ℕ) → total t ≡ total s → IsIndex index t → IsIndex (ungamma s (gamma index t)) s

-- a relation that the operators and small numbers keep
pub record IsKept (R : ℤ → ℤ → Type 0) : Type 0 where
  pub small : (n : ℕ) → n < greatest_extent → R (pos n) (pos n)
  pub unary : (op : Unary) (x y : ℤ) → R x y → R (apply_unary op x) (apply_unary op y)
  pub binary : (op : Op) (x y u v : ℤ) → R x u → R y v → R (apply op x y) (apply op u v)
  pub folds : (op : Op) (count : ℕ) (f g : ℕ → ℤ) → ((k : ℕ) → k < count → R (f k) (g k)) → R (fold_below op count f) (fold_below op count g)

-- two names with arrays of one shape, related at each index vector
abbrev pub IsAlike : (ℤ → ℤ → Type 0) → List ℕ × Known → List ℕ × Known → Type 0
IsAlike R here there = (here.0 ≡ there.0) × (here.1.shape ≡ there.1.shape) × ((place : List ℕ) → IsIndex place here.1.shape → R (here.1.at place) (there.1.at place))

abbrev pub AreAlike : (ℤ → ℤ → Type 0) → Env → Env → Type 0
AreAlike R env other = AllZip (IsAlike R) env other

same-shapes : (R : ℤ → ℤ → Type 0) (env other : Env) → AreAlike R env other → shapes_of env ≡ shapes_of other
same-shapes R [] [] h = refl
same-shapes R [] (there ∷ other) h = absurd h
same-shapes R (here ∷ env) [] h = absurd h
same-shapes R (here ∷ env) (there ∷ other) h =
    ap (λ name. (name, here.1.shape) ∷ shapes_of env) h.0.0
    ∙ ap (λ shape. (there.0, shape) ∷ shapes_of env) h.0.1
    ∙ ap (λ shapes. (there.0, there.1.shape) ∷ shapes) (same-shapes R env other h.1)

same-in : (R : ℤ → ℤ → Type 0) (env other : Env) → AreAlike R env other → (of : Expr) → shape_in env of ≡ shape_in other of
same-in R env other h of = ap (λ shapes. shape_of shapes of) (same-shapes R env other h)

-- ---- names

use-step : (R : ℤ → ℤ → Type 0) (test : Bool) (here there one two : Known) (shape index : List ℕ)
    → (IsIndex index here.shape → R (here.at index) (there.at index)) → (IsIndex index shape → R (one.at index) (two.at index))
    → IsIndex index (if test then here.shape else shape) → R ((if test then here else one).at index) ((if test then there else two).at index)
use-step R true here there one two shape index first later inside = first inside
use-step R false here there one two shape index first later inside = later inside

use-alike : (R : ℤ → ℤ → Type 0) → IsKept R → (env other : Env) (name index : List ℕ) → AreAlike R env other
    → IsIndex index (beside [] (shapes_of env) name) → R ((beside unknown env name).at index) ((beside unknown other name).at index)
use-alike R kept [] [] name index h inside = kept.small 0 (omega arith)
use-alike R kept [] (there ∷ other) name index h inside = absurd h
use-alike R kept (here ∷ env) [] name index h inside = absurd h
use-alike R kept (here ∷ env) (there ∷ other) name index h inside =
    let both = use-step R (bytes_eq here.0 name) here.1 there.1 (beside unknown env name) (beside unknown other name) (beside [] (shapes_of env) name) index
    (h.0.2 index) (λ later. use-alike R kept env other name index h.1 later) inside in
    subst (λ first. R ((if bytes_eq here.0 name then here.1 else beside unknown env name).at index) ((if bytes_eq first name then there.1 else beside unknown other name).at index))
    h.0.0 both

-- ---- numbers

-- the numbers of an expression are related to themselves
abbrev pub AreFine : (ℤ → ℤ → Type 0) → Expr → Type 0
AreFine R expr = (number : ℤ) → Contains (subexpressions expr) (Number number) → R number number

contains-later : (x y : Expr) (xs : List Expr) → Contains xs x → Contains (y ∷ xs) x
contains-later x y xs h = (suc h.0, omega (arith, h.1), h.2)

in-one : (R : ℤ → ℤ → Type 0) (expr of : Expr) → ((number : ℤ) → Contains (expr ∷ subexpressions of) (Number number) → R number number) → AreFine R of
in-one R expr of h number at = h number (contains-later (Number number) expr (subexpressions of) at)

in-left : (R : ℤ → ℤ → Type 0) (expr left right : Expr)
    → ((number : ℤ) → Contains (expr ∷ (subexpressions left ++ subexpressions right)) (Number number) → R number number) → AreFine R left
in-left R expr left right h number at =
    h number (contains-later (Number number) expr (subexpressions left ++ subexpressions right) (Contains-append_left (subexpressions left) (subexpressions right) (Number number) at))

in-right : (R : ℤ → ℤ → Type 0) (expr left right : Expr)
    → ((number : ℤ) → Contains (expr ∷ (subexpressions left ++ subexpressions right)) (Number number) → R number number) → AreFine R right
in-right R expr left right h number at =
    h number (contains-later (Number number) expr (subexpressions left ++ subexpressions right) (Contains-append_right (subexpressions left) (subexpressions right) (Number number) at))

place-small : (n : ℕ) (index : List ℕ) → IsShape (n ∷ []) → IsIndex index (n ∷ []) → slice_index index 0 < greatest_extent
place-small n [] h inside = absurd inside
place-small n (i ∷ index) h inside = omega (arith, extent-small n h, inside.0)

chosen-alike : (R : ℤ → ℤ → Type 0) (test : Bool) (f g u v : List ℕ → ℤ) (index : List ℕ)
    → (test ≡ true → R (f index) (u index)) → (test ≡ false → R (g index) (v index)) → R (chosen test f g index) (chosen test u v index)
chosen-alike R true f g u v index first later = first refl
chosen-alike R false f g u v index first later = later refl

-- ---- the value

pub value-alike : (R : ℤ → ℤ → Type 0) → IsKept R → Unravels → (env other : Env) → AreAlike R env other
    → (expr : Expr) (index : List ℕ) → AreFine R expr → IsWell (shapes_of env) expr → IsIndex index (shape_in env expr) → R (value env expr index) (value other expr index)
value-alike R kept unravels env other alike (Number number) index fine well inside = fine number (0, omega arith, refl)
value-alike R kept unravels env other alike (Use name) index fine well inside = use-alike R kept env other name index alike inside
value-alike R kept unravels env other alike (Iota extent) index fine well inside = kept.small (slice_index index 0) (place-small (unsigned_abs extent) index well.1 inside)
value-alike R kept unravels env other alike (One op of) index fine well inside =
    kept.unary op (value env of index) (value other of index) (value-alike R kept unravels env other alike of index (in-one R (One op of) of fine) well.0 inside)
value-alike R kept unravels env other alike (Two op left right) index fine well inside =
    let s = shape_in env left in
    let t = shape_in env right in
    let places = pointwise-place s t index well.2 inside in
    let first = subst (λ shape. R (value env left (own_index s index)) (value other left (own_index shape index))) (same-in R env other alike left)
    (value-alike R kept unravels env other alike left (own_index s index) (in-left R (Two op left right) left right fine) well.0 places.0) in
    let second = subst (λ shape. R (value env right (own_index t index)) (value other right (own_index shape index))) (same-in R env other alike right)
    (value-alike R kept unravels env other alike right (own_index t index) (in-right R (Two op left right) left right fine) well.1 places.1) in
    kept.binary op (value env left (own_index s index)) (value env right (own_index t index))
    (value other left (own_index (shape_in other left) index)) (value other right (own_index (shape_in other right) index)) first second
value-alike R kept unravels env other alike (Psi list of) index fine well inside =
    value-alike R kept unravels env other alike of (naturals list ++ index) (in-one R (Psi list of) of fine) well.0 (psi-place list index (shape_in env of) well.1 well.2 inside)
value-alike R kept unravels env other alike (Take list of) index fine well inside =
    let s = shape_in env of in
    subst (λ shape. R (value env of (each_place taken_from list s index)) (value other of (each_place taken_from list shape index))) (same-in R env other alike of)
    (value-alike R kept unravels env other alike of (each_place taken_from list s index) (in-one R (Take list of) of fine) well.0 (take-place list s index well.2 inside))
value-alike R kept unravels env other alike (Drop list of) index fine well inside =
    let s = shape_in env of in
    subst (λ shape. R (value env of (each_place remaining_from list s index)) (value other of (each_place remaining_from list shape index))) (same-in R env other alike of)
    (value-alike R kept unravels env other alike of (each_place remaining_from list s index) (in-one R (Drop list of) of fine) well.0 (drop-place list s index inside))
value-alike R kept unravels env other alike (Reverse of) index fine well inside =
    let s = shape_in env of in
    subst (λ shape. R (value env of (on_axis 0 mirrored s index)) (value other of (on_axis 0 mirrored shape index))) (same-in R env other alike of)
    (value-alike R kept unravels env other alike of (on_axis 0 mirrored s index) (in-one R (Reverse of) of fine) well.0 (reverse-place s index inside))
value-alike R kept unravels env other alike (Rotate by of) index fine well inside =
    let s = shape_in env of in
    subst (λ shape. R (value env of (on_axis 0 (turned by) s index)) (value other of (on_axis 0 (turned by) shape index))) (same-in R env other alike of)
    (value-alike R kept unravels env other alike of (on_axis 0 (turned by) s index) (in-one R (Rotate by of) of fine) well.0 (rotate-place by s index inside))
value-alike R kept unravels env other alike (Transpose of) index fine well inside =
    value-alike R kept unravels env other alike of (reverse index) (in-one R (Transpose of) of fine) well.0 (transpose-place (shape_in env of) index inside)
value-alike R kept unravels env other alike (Permute list of) index fine well inside =
    value-alike R kept unravels env other alike of (restored 0 (naturals list) index) (in-one R (Permute list of) of fine) well.0
    (permute-place list (shape_in env of) index well.1 well.2 inside)
value-alike R kept unravels env other alike (Cat left right) index fine well inside =
    let s = shape_in env left in
    let t = shape_in env right in
    subst (λ shape. R (either_part 0 s (λ i. value env left i) (λ i. value env right i) index) (either_part 0 shape (λ i. value other left i) (λ i. value other right i) index))
    (same-in R env other alike left)
    (chosen-alike R (nat_lt (slice_index index 0) (slice_index s 0)) (λ i. value env left i) (λ i. value env right (on_axis 0 behind s i))
    (λ i. value other left i) (λ i. value other right (on_axis 0 behind s i)) index
    (λ front. value-alike R kept unravels env other alike left index (in-left R (Cat left right) left right fine) well.0 (cat-first s t index inside front))
    (λ back. value-alike R kept unravels env other alike right (on_axis 0 behind s index) (in-right R (Cat left right) left right fine) well.1
    (cat-second s t index well.2 well.3 well.4 inside back)))
value-alike R kept unravels env other alike (Reshape list of) index fine well inside =
    let s = shape_in env of in
    let offset = gamma index (naturals list) in
    subst (λ shape. R (value env of (ungamma s offset)) (value other of (ungamma shape offset))) (same-in R env other alike of)
    (value-alike R kept unravels env other alike of (ungamma s offset) (in-one R (Reshape list of) of fine) well.0
    (unravels s (naturals list) index (eqb-true (total (naturals list)) (total s) well.2) inside))
value-alike R kept unravels env other alike (Ravel of) index fine well inside =
    let s = shape_in env of in
    subst (λ shape. R (value env of (ungamma s (gamma index (total s ∷ [])))) (value other of (ungamma shape (gamma index (total shape ∷ []))))) (same-in R env other alike of)
    (value-alike R kept unravels env other alike of (ungamma s (gamma index (total s ∷ []))) (in-one R (Ravel of) of fine) well.0
    (unravels s (total s ∷ []) index (omega arith) inside))
value-alike R kept unravels env other alike (Outer op left right) index fine well inside =
    let s = shape_in env left in
    let t = shape_in env right in
    let places = index-split index s t inside in
    subst (λ shape. R (apply op (value env left (take (length s) index)) (value env right (drop (length s) index)))
    (apply op (value other left (take (length shape) index)) (value other right (drop (length shape) index)))) (same-in R env other alike left)
    (kept.binary op (value env left (take (length s) index)) (value env right (drop (length s) index))
    (value other left (take (length s) index)) (value other right (drop (length s) index))
    (value-alike R kept unravels env other alike left (take (length s) index) (in-left R (Outer op left right) left right fine) well.0 places.0)
    (value-alike R kept unravels env other alike right (drop (length s) index) (in-right R (Outer op left right) left right fine) well.1 places.1))
value-alike R kept unravels env other alike (Inner fold op left right) index fine well inside =
    let s = shape_in env left in
    let t = shape_in env right in
    let axes = length s - 1 in
    subst (λ shape. R (fold_below fold (slice_index s axes) (λ k. apply op (value env left (take axes index ++ k ∷ [])) (value env right (k ∷ drop axes index))))
    (fold_below fold (slice_index shape (length shape - 1))
    (λ k. apply op (value other left (take (length shape - 1) index ++ k ∷ [])) (value other right (k ∷ drop (length shape - 1) index))))) (same-in R env other alike left)
    (kept.folds fold (slice_index s axes) (λ k. apply op (value env left (take axes index ++ k ∷ [])) (value env right (k ∷ drop axes index)))
    (λ k. apply op (value other left (take axes index ++ k ∷ [])) (value other right (k ∷ drop axes index)))
    (λ k below. let places = inner-place s t index k well.3 inside below in
    kept.binary op (value env left (take axes index ++ k ∷ [])) (value env right (k ∷ drop axes index))
    (value other left (take axes index ++ k ∷ [])) (value other right (k ∷ drop axes index))
    (value-alike R kept unravels env other alike left (take axes index ++ k ∷ []) (in-left R (Inner fold op left right) left right fine) well.0 places.0)
    (value-alike R kept unravels env other alike right (k ∷ drop axes index) (in-right R (Inner fold op left right) left right fine) well.1 places.1)))
value-alike R kept unravels env other alike (Reduce fold of) index fine well inside =
    let s = shape_in env of in
    subst (λ shape. R (fold_below fold (slice_index s 0) (λ k. value env of (insert index 0 k))) (fold_below fold (slice_index shape 0) (λ k. value other of (insert index 0 k))))
    (same-in R env other alike of)
    (kept.folds fold (slice_index s 0) (λ k. value env of (insert index 0 k)) (λ k. value other of (insert index 0 k))
    (λ k below. value-alike R kept unravels env other alike of (insert index 0 k) (in-one R (Reduce fold of) of fine) well.0 (reduce-place s index k inside below)))
value-alike R kept unravels env other alike (Scan fold of) index fine well inside =
    kept.folds fold (suc (slice_index index 0)) (λ k. value env of (slice_set index 0 k)) (λ k. value other of (slice_set index 0 k))
    (λ k below. value-alike R kept unravels env other alike of (slice_set index 0 k) (in-one R (Scan fold of) of fine) well.0
    (scan-place (shape_in env of) index k inside (omega (arith, below))))

-- ---- equal values

range-same : (f g : ℕ → ℤ) (start count : ℕ) → ((k : ℕ) → k < count → f (start + k) ≡ g (start + k)) → map f (range_with_len start count) ≡ map g (range_with_len start count)
range-same f g start zero each = refl
range-same f g start (suc count) each =
    let here : start + 0 ≡ start = omega arith in
    let next = λ (k : ℕ) (below : k < count). let e : start + suc k ≡ start + 1 + k = omega arith in
    subst (λ m. f m ≡ g m) e (each (suc k) (omega (arith, below))) in
    ap (λ x. x ∷ map f (range_with_len (start + 1) count)) (subst (λ m. f m ≡ g m) here (each 0 (omega arith)))
    ∙ ap (λ rest. g start ∷ rest) (range-same f g (start + 1) count next)

pub equal-kept : IsKept (λ x y. x ≡ y)
equal-kept = record {
  small = λ n h. refl;
  unary = λ op x y h. ap (apply_unary op) h;
  binary = λ op x y u v h k. ap (λ a. apply op a y) h ∙ ap (λ b. apply op u b) k;
  folds = λ op count f g each. ap (fold_of op) (range-same f g 0 count (λ k below. let e : k ≡ 0 + k = omega arith in subst (λ m. f m ≡ g m) e (each k below)));
}

-- ---- values within 64 bits

abbrev pub Fits : ℤ → ℤ → Type 0
Fits x y = FitsSigned w64 x

range-all : (P : ℤ → Type 0) (f : ℕ → ℤ) (count : ℕ) → ((k : ℕ) → k < count → P (f k)) → All P (map f (range_with_len 0 count))
range-all P f count each k d below =
    let within : k < count = omega (arith, below, length-map-range_with_len f 0 count) in
    subst P (sym (get_or-map-range_with_len f 0 count k k d within (omega arith))) (each k within)

pub fits-kept : ((op : Op) (x y : ℤ) → FitsSigned w64 x → FitsSigned w64 y → FitsSigned w64 (apply op x y))
    → ((op : Unary) (x : ℤ) → FitsSigned w64 x → FitsSigned w64 (apply_unary op x))
    → ((op : Op) (numbers : List ℤ) → All (λ x. FitsSigned w64 x) numbers → FitsSigned w64 (fold_of op numbers)) → IsKept Fits
fits-kept binary unary folds = record {
  small = λ n h. record { sfits = omega (arith, h) };
  unary = λ op x y h. unary op x h;
  binary = λ op x y u v h k. binary op x y h k;
  folds = λ op count f g each. folds op (map f (range_with_len 0 count)) (range-all (λ x. FitsSigned w64 x) f count each);
}

pub fits-alike : (env : Env) → AllByRecursion (λ entry. (place : List ℕ) → IsIndex place entry.1.shape → FitsSigned w64 (entry.1.at place)) env → AreAlike Fits env env
fits-alike [] h = tt
fits-alike (entry ∷ env) h = ((refl, refl, h.0), fits-alike env h.1)
