-- What the limits of a shape come to, and products that are capped.
use Rattle.std.specs.Prelude.{◌≡◌, ℕ, zero, suc, ◌+◌, ◌-◌, ◌*◌, ◌^◌, ◌<◌, ◌≤◌, max, min, true, false, nat_le, nat_lt, unsigned_abs, slice_index_or, ℤ, IsTrue, List, [], ◌∷◌, ◌++◌, length, drop, slice_index, Bool, if◌then◌else◌, Option, None, Some, Err}
use Rattle.std.specs.List.{find, flat_map, list_all}
use Rattle.std.proofs.Common.{refl, ap, sym, ◌∙◌, arith, inl, inr}
use Rattle.std.proofs.lemmas.Bool.{cases_lt}
use Rattle.std.proofs.lemmas.Bool.Decides.{nat_tests}
use Rattle.std.proofs.lemmas.List.{at_drop_more}
use Rattle.std.proofs.Math.Nat.{mul_assoc}
use Rattle.shapes_core.specs.Limits.{greatest_extent}
use Rattle.shapes_core.specs.Shape.{is_shape, span, total}
use Rattle.moa_tree.specs.Axes.{naturals}
use Rattle.shape_check.specs.Rules.{Failure, Place, limit, shape_limits}
use Rattle.shape_check.specs.Verdict.{judged}

-- ---- products

-- a product that is capped on the way is the product, capped
capped-low : (product r most : ℕ) → product ≤ most → min (min product most * r) most ≡ min (product * r) most
capped-low product r most h = let e : min product most ≡ product = omega arith in rw e refl

capped-high : (product r most : ℕ) → most < product → min (min product most * r) most ≡ min (product * r) most
capped-high product zero most h = omega arith
capped-high product (suc r) most h =
    let e : min product most ≡ most = omega arith in
    let f : min (most * suc r) most ≡ min (product * suc r) most = omega arith in
    rw e f

pub capped-product : (product r most : ℕ) → min (min product most * r) most ≡ min (product * r) most
capped-product product r most = elim (cases_lt most product) [
  | inl h ↦ capped-high product r most h
  | inr h ↦ capped-low product r most h
]

-- one more extent is taken from what is left of a span, and one more number of what is left of a total
pub span-step : (so_far most : ℕ) (extents : List ℕ) (i : ℕ) → i < length extents
    → min (min (so_far * max (slice_index extents i) 1) most * span (drop (i + 1) extents)) most ≡ min (so_far * span (drop i extents)) most
span-step so_far most extents i h =
    capped-product (so_far * max (slice_index extents i) 1) (span (drop (i + 1) extents)) most
    ∙ ap (λ product. min product most) (mul_assoc so_far (max (slice_index extents i) 1) (span (drop (i + 1) extents)) ∙ sym (ap (λ t. so_far * t) (at_drop_more span extents i 0 h)))

pub total-step : (so_far most : ℕ) (list : List ℤ) (i : ℕ) (k : ℤ) → i < length list
    → min (min (so_far * unsigned_abs (slice_index_or list i k)) most * total (naturals (drop (i + 1) list))) most ≡ min (so_far * total (naturals (drop i list))) most
total-step so_far most list i k h =
    capped-product (so_far * unsigned_abs (slice_index_or list i k)) (total (naturals (drop (i + 1) list))) most
    ∙ ap (λ product. min product most) (mul_assoc so_far (unsigned_abs (slice_index_or list i k)) (total (naturals (drop (i + 1) list))) ∙ sym (ap (λ t. so_far * t) (at_drop_more (λ l. total (naturals l)) list i k h)))

-- ---- limits

within : (place : Option Place) (which greatest value : ℕ) → value ≤ greatest → limit place which greatest value ≡ []
within place which greatest value h = grind (arith, nat_tests)

each-within : (place : Option Place) (which greatest : ℕ) (shape : List ℕ) → list_all (λ extent. nat_le extent greatest) shape ≡ true
    → flat_map (limit place which greatest) shape ≡ []
each-within place which greatest [] h = refl
each-within place which greatest (extent ∷ shape) h =
    let first = within place which greatest extent (grind (arith, nat_tests)) in
    let others = each-within place which greatest shape (grind (arith, nat_tests)) in
    grind arith

beyond : (place : Option Place) (which greatest value : ℕ) → greatest < value → limit place which greatest value ≡ Failure.Limit place which (min value (2 ^ 64 - 1)) ∷ []
beyond place which greatest value h = grind (arith, nat_tests)

-- a shape exceeds no limit
pub shape-within : (place : Place) (shape : List ℕ) → IsTrue (is_shape shape) → shape_limits place shape ≡ []
shape-within place shape h =
    let axes = within (Some place) 2 6 (length shape) (grind (arith, nat_tests)) in
    let extents = each-within (Some place) 3 greatest_extent shape (grind (arith, nat_tests)) in
    let all = within (Some place) 4 greatest_extent (span shape) (grind (arith, nat_tests)) in
    ap (λ l. l ++ flat_map (limit (Some place) 3 greatest_extent) shape ++ limit (Some place) 4 greatest_extent (span shape)) axes
    ∙ ap (λ l. l ++ limit (Some place) 4 greatest_extent (span shape)) extents ∙ all

-- the first extent that is too large
found-beyond : (place : Place) (n extent : ℕ) (found : Option ℕ) (rest others : List Failure) (made : List ℕ) (large : Bool) → (if large then Some n else found) ≡ Some extent
    → (found ≡ Some extent → judged (rest ++ others) made ≡ Err (Failure.Limit (Some place) 3 (min extent (2 ^ 64 - 1))))
    → judged ((if large then Failure.Limit (Some place) 3 (min n (2 ^ 64 - 1)) ∷ [] else []) ++ rest ++ others) made ≡ Err (Failure.Limit (Some place) 3 (min extent (2 ^ 64 - 1)))
found-beyond place n extent found rest others made true h later =
    let same : n ≡ extent = cc in
    ap (λ value. Err (Failure.Limit (Some place) 3 (min value (2 ^ 64 - 1)))) same
found-beyond place n extent found rest others made false h later = later h

first-beyond : (place : Place) (greatest extent : ℕ) (shape made : List ℕ) (others : List Failure) → find (λ n. nat_lt greatest n) shape ≡ Some extent
    → judged (flat_map (limit (Some place) 3 greatest) shape ++ others) made ≡ Err (Failure.Limit (Some place) 3 (min extent (2 ^ 64 - 1)))
first-beyond place greatest extent [] made others h = cc
first-beyond place greatest extent (n ∷ shape) made others h =
    found-beyond place n extent (find (λ m. nat_lt greatest m) shape) (flat_map (limit (Some place) 3 greatest) shape) others made (nat_lt greatest n) h
    (λ later. first-beyond place greatest extent shape made others later)

find-small : (greatest : ℕ) (shape : List ℕ) → find (λ n. nat_lt greatest n) shape ≡ None → list_all (λ n. nat_le n greatest) shape ≡ true
find-small greatest [] h = refl
find-small greatest (n ∷ shape) h = elim (cases_lt greatest n) [
  | inl large ↦
      let e : nat_lt greatest n ≡ true = grind (arith, nat_tests) in
      let some = rw e at h in
      cc
  | inr small ↦
      let e : nat_lt greatest n ≡ false = grind (arith, nat_tests) in
      let f : nat_le n greatest ≡ true = grind (arith, nat_tests) in
      let others = find-small greatest shape (rw e at h) in
      rw (f, others) refl
]

-- an extent that is found is one of the shape's
find-fits : (bound greatest extent : ℕ) (shape : List ℕ) → ((i : ℕ) → slice_index shape i < bound) → find (λ n. nat_lt greatest n) shape ≡ Some extent → extent < bound
find-fits bound greatest extent [] fits h = cc
find-fits bound greatest extent (n ∷ shape) fits h = elim (cases_lt greatest n) [
  | inl large ↦
      let e : nat_lt greatest n ≡ true = grind (arith, nat_tests) in
      let some = rw e at h in
      let same : n ≡ extent = cc in
      omega (arith, same, fits 0)
  | inr small ↦
      let e : nat_lt greatest n ≡ false = grind (arith, nat_tests) in
      find-fits bound greatest extent shape (λ i. fits (suc i)) (rw e at h)
]

-- the answer where an extent is too large, and where the span is, after the limits before it
pub extent-beyond : (place : Place) (extent : ℕ) (shape : List ℕ) → length shape ≤ 6 → ((i : ℕ) → slice_index shape i < 2 ^ 64)
    → find (λ n. nat_lt greatest_extent n) shape ≡ Some extent → judged (shape_limits place shape) shape ≡ Err (Failure.Limit (Some place) 3 extent)
extent-beyond place extent shape few fits h =
    let axes = within (Some place) 2 6 (length shape) few in
    let fitting = find-fits (2 ^ 64) greatest_extent extent shape fits h in
    let same : min extent (2 ^ 64 - 1) ≡ extent = omega (arith, fitting) in
    ap (λ l. judged (l ++ flat_map (limit (Some place) 3 greatest_extent) shape ++ limit (Some place) 4 greatest_extent (span shape)) shape) axes
    ∙ first-beyond place greatest_extent extent shape shape (limit (Some place) 4 greatest_extent (span shape)) h
    ∙ ap (λ value. Err (Failure.Limit (Some place) 3 value)) same

pub span-beyond : (place : Place) (shape : List ℕ) → length shape ≤ 6 → find (λ n. nat_lt greatest_extent n) shape ≡ None → is_shape shape ≡ false
    → judged (shape_limits place shape) shape ≡ Err (Failure.Limit (Some place) 4 (min (span shape) (2 ^ 64 - 1)))
span-beyond place shape few none refused =
    let small = find-small greatest_extent shape none in
    let axes = within (Some place) 2 6 (length shape) few in
    let extents = each-within (Some place) 3 greatest_extent shape small in
    let large : greatest_extent < span shape = grind (arith, nat_tests) in
    let last = beyond (Some place) 4 greatest_extent (span shape) large in
    ap (λ l. judged (l ++ flat_map (limit (Some place) 3 greatest_extent) shape ++ limit (Some place) 4 greatest_extent (span shape)) shape) axes
    ∙ ap (λ l. judged (l ++ limit (Some place) 4 greatest_extent (span shape)) shape) extents
    ∙ ap (λ l. judged l shape) last

-- each extent of a shape is small
all-small : (greatest : ℕ) (shape : List ℕ) → list_all (λ n. nat_le n greatest) shape ≡ true → (axis : ℕ) → slice_index shape axis ≤ greatest
all-small greatest [] h axis = omega arith
all-small greatest (n ∷ shape) h zero = grind (arith, nat_tests)
all-small greatest (n ∷ shape) h (suc axis) = all-small greatest shape (grind (arith, nat_tests)) axis

pub shape-small : (shape : List ℕ) → IsTrue (is_shape shape) → (axis : ℕ) → slice_index shape axis ≤ greatest_extent
shape-small shape h = all-small greatest_extent shape (grind (arith, nat_tests))
