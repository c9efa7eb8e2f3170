-- The places from which joins, reshapes, products and folds take their elements are index vectors of their operands.
use Rattle.std.specs.Prelude.{◌≡◌, ◌⊎◌, ◌==◌, ◌||◌, ℕ, suc, ◌+◌, ◌-◌, ◌<◌, ◌≤◌, Bool, true, false, not, List, [], ◌∷◌, ◌++◌, drop, length, nat_lt, slice_index, slice_set, take}
use Rattle.std.specs.List.{insert, remove}
use Rattle.std.proofs.Common.{refl, sym, subst, inl, inr, ⊎_elim, ◌∙◌, arith}
use Rattle.std.proofs.lemmas.Bool.{cond-false, cond-true, eqb-true, false≢true, le-ltb, lt-ltb, ltb-false, ltb-true}
use Rattle.std.proofs.lemmas.List.{drop_all, length-take-le, take_all, take_more}
use Rattle.std.proofs.lemmas.List.Elements.{length_all_zip}
use Rattle.std.proofs.lemmas.Slice.Eq.{bytes_eq-Decides}
use Rattle.shapes_core.specs.Gamma.{IsIndex}
use Rattle.moa_tree.specs.Axes.{behind, but_last, common, joined, on_axis, own_index}
use Rattle.shape_check.specs.Rules.{are_equal, is_scalar}

pub index-length : (index shape : List ℕ) → IsIndex index shape → length index ≡ length shape
index-length index shape h = length_all_zip (λ k n. k < n) index shape h

pub index-append : (index more shape others : List ℕ) → IsIndex index shape → IsIndex more others → IsIndex (index ++ more) (shape ++ others)
index-append [] more [] others h k = k
index-append [] more (n ∷ shape) others h k = absurd h
index-append (i ∷ index) more [] others h k = absurd h
index-append (i ∷ index) more (n ∷ shape) others h k = (h.0, index-append index more shape others h.1 k)

pub index-split : (index shape others : List ℕ) → IsIndex index (shape ++ others)
    → IsIndex (take (length shape) index) shape × IsIndex (drop (length shape) index) others
index-split index [] others h = (tt, h)
index-split [] (n ∷ shape) others h = absurd h
index-split (i ∷ index) (n ∷ shape) others h = let parts = index-split index shape others h.1 in ((h.0, parts.0), parts.1)

-- ---- two operands of one shape, or a scalar and another

common-left : (shape : List ℕ) → common shape [] ≡ shape
common-left shape = cond-false (nat_lt (length shape) 0) [] shape (le-ltb (length shape) 0 (omega arith))

common-right : (shape : List ℕ) → common [] shape ≡ shape
common-right [] = refl
common-right (n ∷ shape) = cond-true (nat_lt 0 (suc (length shape))) (n ∷ shape) [] (lt-ltb 0 (suc (length shape)) (omega arith))

common-same : (shape : List ℕ) → common shape shape ≡ shape
common-same shape = cond-false (nat_lt (length shape) (length shape)) shape shape (le-ltb (length shape) (length shape) (omega arith))

whole-place : (shape index : List ℕ) → IsIndex index shape → IsIndex (own_index shape index) shape
whole-place shape index h =
    let none : 0 ≡ length index - length shape = omega (arith, index-length index shape h) in
    subst (λ n. IsIndex (drop n index) shape) none h

scalar-place : (index : List ℕ) → IsIndex (own_index [] index) []
scalar-place index = subst (λ i. IsIndex i []) (sym (drop_all (length index - 0) index (omega arith))) tt

one-of-three : (a b c : Bool) → (a || b || c) ≡ true → (a ≡ true) ⊎ ((b ≡ true) ⊎ (c ≡ true))
one-of-three true b c h = inl refl
one-of-three false true c h = inr (inl refl)
one-of-three false false true h = inr (inr refl)
one-of-three false false false h = absurd (false≢true h)

same-place : (s t index : List ℕ) → s ≡ t → IsIndex index (common s t) → IsIndex (own_index s index) s × IsIndex (own_index t index) t
same-place s t index e h =
    let here : IsIndex index s = subst (λ r. IsIndex index r) (common-same s) (subst (λ r. IsIndex index (common s r)) (sym e) h) in
    (whole-place s index here, whole-place t index (subst (λ r. IsIndex index r) e here))

pub pointwise-place : (s t index : List ℕ) → (are_equal s t || is_scalar s || is_scalar t) ≡ true
    → IsIndex index (common s t) → IsIndex (own_index s index) s × IsIndex (own_index t index) t
pointwise-place [] t index test h = (scalar-place index, whole-place t index (subst (λ r. IsIndex index r) (common-right t) h))
pointwise-place (n ∷ s) [] index test h = (whole-place (n ∷ s) index (subst (λ r. IsIndex index r) (common-left (n ∷ s)) h), scalar-place index)
pointwise-place (n ∷ s) (m ∷ t) index test h =
    ⊎_elim (λ same. same-place (n ∷ s) (m ∷ t) index ((bytes_eq-Decides (n ∷ s) (m ∷ t)).0 same) h)
    (λ none. absurd (⊎_elim false≢true false≢true none))
    (one-of-three (are_equal (n ∷ s) (m ∷ t)) (is_scalar (n ∷ s)) (is_scalar (m ∷ t)) test)

-- ---- joins

pub cat-first : (s t index : List ℕ) → IsIndex index (joined 0 s t) → nat_lt (slice_index index 0) (slice_index s 0) ≡ true → IsIndex index s
cat-first [] t index h front = h
cat-first (n ∷ s) t [] h front = absurd h
cat-first (n ∷ s) t (i ∷ index) h front = (ltb-true i n front, h.1)

pub cat-second : (s t index : List ℕ) → (length s == length t) ≡ true → not (is_scalar s) ≡ true → are_equal (drop 1 s) (drop 1 t) ≡ true
    → IsIndex index (joined 0 s t) → nat_lt (slice_index index 0) (slice_index s 0) ≡ false → IsIndex (on_axis 0 behind s index) t
cat-second [] t index long full same h back = absurd (false≢true full)
cat-second (n ∷ s) [] index long full same h back = absurd (let e : suc (length s) ≡ 0 = eqb-true (suc (length s)) 0 long in omega (arith, e))
cat-second (n ∷ s) (m ∷ t) [] long full same h back = absurd h
cat-second (n ∷ s) (m ∷ t) (i ∷ index) long full same h back =
    (omega (arith, h.0, ltb-false i n back), subst (λ r. IsIndex index r) ((bytes_eq-Decides s t).0 same) h.1)

-- ---- products

but-last-more : (s : List ℕ) → 0 < length s → but_last s ++ slice_index s (length s - 1) ∷ [] ≡ s
but-last-more s full = sym (take_more s (length s - 1) 0 (omega (arith, full))) ∙ take_all (length s - 1 + 1) s (omega (arith, full))

not-empty : (s : List ℕ) (place k : ℕ) → k < slice_index s place → 0 < length s
not-empty [] place k below = absurd (omega (arith, below))
not-empty (n ∷ s) place k below = omega arith

inner-left : (s others index : List ℕ) (k : ℕ) → IsIndex index (but_last s ++ others) → k < slice_index s (length s - 1)
    → IsIndex (take (length s - 1) index ++ k ∷ []) s
inner-left s others index k h below =
    let axes = length s - 1 in
    let long : length (but_last s) ≡ axes = length-take-le axes s (omega arith) in
    let front : IsIndex (take axes index) (but_last s) = subst (λ n. IsIndex (take n index) (but_last s)) long (index-split index (but_last s) others h).0 in
    subst (λ t. IsIndex (take axes index ++ k ∷ []) t) (but-last-more s (not-empty s axes k below))
    (index-append (take axes index) (k ∷ []) (but_last s) (slice_index s axes ∷ []) front (below, tt))

behind-first : (t index : List ℕ) (k : ℕ) → IsIndex index (drop 1 t) → k < slice_index t 0 → IsIndex (k ∷ index) t
behind-first [] index k h below = absurd (omega (arith, below))
behind-first (m ∷ t) index k h below = (below, h)

inner-right : (s t index : List ℕ) (k : ℕ) → IsIndex index (but_last s ++ drop 1 t) → k < slice_index t 0
    → IsIndex (k ∷ drop (length s - 1) index) t
inner-right s t index k h below =
    let axes = length s - 1 in
    let long : length (but_last s) ≡ axes = length-take-le axes s (omega arith) in
    behind-first t (drop axes index) k (subst (λ n. IsIndex (drop n index) (drop 1 t)) long (index-split index (but_last s) (drop 1 t) h).1) below

pub inner-place : (s t index : List ℕ) (k : ℕ) → (slice_index s (length s - 1) == slice_index t 0) ≡ true → IsIndex index (but_last s ++ drop 1 t)
    → k < slice_index s (length s - 1) → IsIndex (take (length s - 1) index ++ k ∷ []) s × IsIndex (k ∷ drop (length s - 1) index) t
inner-place s t index k same h below =
    let e : slice_index s (length s - 1) ≡ slice_index t 0 = eqb-true _ _ same in
    (inner-left s (drop 1 t) index k h below, inner-right s t index k h (omega (arith, below, e)))

-- ---- folds

pub reduce-place : (s index : List ℕ) (k : ℕ) → IsIndex index (remove s 0) → k < slice_index s 0 → IsIndex (insert index 0 k) s
reduce-place [] index k h below = absurd (omega (arith, below))
reduce-place (n ∷ s) index k h below = (below, h)

pub scan-place : (s index : List ℕ) (k : ℕ) → IsIndex index s → k ≤ slice_index index 0 → IsIndex (slice_set index 0 k) s
scan-place s [] k h within = h
scan-place [] (i ∷ index) k h within = absurd h
scan-place (n ∷ s) (i ∷ index) k h within = (omega (arith, h.0, within), h.1)
