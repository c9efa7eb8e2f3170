-- What holds of the items of a list with the extents of a shape holds of what an operator makes of them, with those of its operands.
use Rattle.std.specs.Prelude.{◌≡◌, ◌⊎◌, ◌==◌, ◌||◌, ℕ, zero, suc, ◌+◌, ◌-◌, ◌<◌, Bool, true, false, cond, not, ℤ, pos, List, [], ◌∷◌, ◌++◌, drop, length, map, nat_lt, reverse, slice_index, slice_index_or, take, unsigned_abs}
use Rattle.std.specs.List.{AllZip, insert, list_all, list_any, position_or_len, range_with_len, remove}
use Rattle.std.specs.Ordering.{int_eq}
use Rattle.std.proofs.Common.{refl, ap, sym, subst, inl, inr, ⊎_elim, ◌∙◌, arith}
use Rattle.std.proofs.lemmas.Bool.{cond-false, cond-true, eqb-false, eqb-true, false≢true, le-ltb, lt-ltb, or_cases}
use Rattle.std.proofs.lemmas.Bool.Decides.{Decides-int_eq}
use Rattle.std.proofs.lemmas.List.{drop_all, get_or-map, length-map, length-take-le, reverse-reverse, take_all, take_more}
use Rattle.std.proofs.lemmas.List.FromFn.{get_or-range_with_len, length-range_with_len}
use Rattle.std.proofs.lemmas.List.Recursion.{and_at}
use Rattle.std.proofs.lemmas.Slice.Eq.{bytes_eq-Decides}
use Rattle.std.proofs.lemmas.Slice.Zip.{AllZip-long}
use Rattle.moa_tree.specs.Axes.{but_last, common, naturals, own_index, restored, selected}
use Rattle.shape_check.specs.Rules.{are_equal, is_permutation, is_scalar}
use Rattle.psi_rules.proofs.ListLemmas.{zip-append, zip-reverse}

-- ---- two operands of one shape, or a scalar and another

common-left : (shape : List ℕ) → common shape [] ≡ shape
common-left shape = cond-false (nat_lt (length shape) 0) [] shape (le-ltb (length shape) 0 (omega arith))

common-right : (shape : List ℕ) → common [] shape ≡ shape
common-right [] = refl
common-right (n ∷ shape) = cond-true (nat_lt 0 (suc (length shape))) (n ∷ shape) [] (lt-ltb 0 (suc (length shape)) (omega arith))

common-same : (shape : List ℕ) → common shape shape ≡ shape
common-same shape = cond-false (nat_lt (length shape) (length shape)) shape shape (le-ltb (length shape) (length shape) (omega arith))

one-of-three : (a b c : Bool) → (a || b || c) ≡ true → (a ≡ true) ⊎ ((b ≡ true) ⊎ (c ≡ true))
one-of-three true b c h = inl refl
one-of-three false true c h = inr (inl refl)
one-of-three false false true h = inr (inr refl)
one-of-three false false false h = absurd (false≢true h)

-- ---- places of a permutation

found-first : (b : Bool) (k axis rest : ℕ) (others : List ℕ) → (k == axis) ≡ b
    → (b ≡ false → (rest < length others) × (slice_index others rest ≡ axis))
    → (cond (not b) (1 + rest) 0 < suc (length others)) × (slice_index (k ∷ others) (cond (not b) (1 + rest) 0) ≡ axis)
found-first true k axis rest others e later = (omega arith, eqb-true k axis e)
found-first false k axis rest others e later =
    let more : 1 + rest ≡ suc rest = omega arith in
    (omega (arith, (later refl).0), ap (λ m. slice_index (k ∷ others) m) more ∙ (later refl).1)

found : (axis : ℕ) (list : List ℤ) → list_any (int_eq (pos axis)) list ≡ true
    → (position_or_len (λ p. p == axis) (naturals list) < length (naturals list))
    × (slice_index (naturals list) (position_or_len (λ p. p == axis) (naturals list)) ≡ axis)
found axis [] h = absurd (false≢true h)
found axis (k ∷ list) h =
    found-first (unsigned_abs k == axis) (unsigned_abs k) axis (position_or_len (λ p. p == axis) (naturals list)) (naturals list) refl
    (λ other. ⊎_elim (λ same. absurd (eqb-false (unsigned_abs k) axis other (ap unsigned_abs (sym ((Decides-int_eq (pos axis) k).0 same)))))
    (λ later. found axis list later) (or_cases (int_eq (pos axis) k) (list_any (int_eq (pos axis)) list) h))

axis-stands : (list : List ℤ) (axis : ℕ) → is_permutation list ≡ true → axis < length list → list_any (int_eq (pos axis)) list ≡ true
axis-stands list axis h below =
    let stands = λ (a : ℕ). list_any (int_eq (pos a)) list in
    let range = range_with_len 0 (length list) in
    let at = and_at (list_all stands) stands refl (λ _ _. refl) range axis 0
    (omega (arith, length-range_with_len 0 (length list), below)) h in
    let e : slice_index_or range axis 0 ≡ axis = get_or-range_with_len 0 (length list) axis 0 below ∙
    (let f : 0 + axis ≡ axis = omega arith in f) in
    subst (λ a. list_any (int_eq (pos a)) list ≡ true) e at

-- ---- items with extents

but-last-more : (s : List ℕ) → 0 < length s → but_last s ++ slice_index s (length s - 1) ∷ [] ≡ s
but-last-more s full = sym (take_more s (length s - 1) 0 (omega (arith, full))) ∙ take_all (length s - 1 + 1) s (omega (arith, full))

module _ {X : Type 0} (P : X → ℕ → Type 0) where
  zip-place : (items : List X) (shape : List ℕ) (place : ℕ) (other : X) → AllZip P items shape → place < length shape
      → P (slice_index_or items place other) (slice_index shape place)
  zip-place [] [] place other h below = absurd (omega (arith, below))
  zip-place [] (n ∷ shape) place other h below = absurd h
  zip-place (item ∷ items) [] place other h below = absurd h
  zip-place (item ∷ items) (n ∷ shape) zero other h below = h.0
  zip-place (item ∷ items) (n ∷ shape) (suc place) other h below = zip-place items shape place other h.1 (omega (arith, below))

  pub zip-split : (items : List X) (shape others : List ℕ) → AllZip P items (shape ++ others)
      → AllZip P (take (length shape) items) shape × AllZip P (drop (length shape) items) others
  zip-split items [] others h = (tt, h)
  zip-split [] (n ∷ shape) others h = absurd h
  zip-split (item ∷ items) (n ∷ shape) others h = let parts = zip-split items shape others h.1 in ((h.0, parts.0), parts.1)

  -- ---- pointwise operands

  whole-own : (shape : List ℕ) (items : List X) → AllZip P items shape → AllZip P (own_index shape items) shape
  whole-own shape items h =
      let none : 0 ≡ length items - length shape = omega (arith, AllZip-long P items shape h) in
      subst (λ n. AllZip P (drop n items) shape) none h

  scalar-own : (items : List X) → AllZip P (own_index [] items) []
  scalar-own items = subst (λ i. AllZip P i []) (sym (drop_all (length items - 0) items (omega arith))) tt

  same-own : (s t : List ℕ) (items : List X) → s ≡ t → AllZip P items (common s t)
      → AllZip P (own_index s items) s × AllZip P (own_index t items) t
  same-own s t items e h =
      let here : AllZip P items s = subst (AllZip P items) (common-same s) (subst (λ r. AllZip P items (common s r)) (sym e) h) in
      (whole-own s items here, whole-own t items (subst (AllZip P items) e here))

  pub own-zip : (s t : List ℕ) → (are_equal s t || is_scalar s || is_scalar t) ≡ true → (items : List X)
      → AllZip P items (common s t) → AllZip P (own_index s items) s × AllZip P (own_index t items) t
  own-zip [] t test items h = (scalar-own items, whole-own t items (subst (AllZip P items) (common-right t) h))
  own-zip (n ∷ s) [] test items h = (whole-own (n ∷ s) items (subst (AllZip P items) (common-left (n ∷ s)) h), scalar-own items)
  own-zip (n ∷ s) (m ∷ t) test items h =
      ⊎_elim (λ same. same-own (n ∷ s) (m ∷ t) items ((bytes_eq-Decides (n ∷ s) (m ∷ t)).0 same) h)
      (λ none. absurd (⊎_elim false≢true false≢true none))
      (one-of-three (are_equal (n ∷ s) (m ∷ t)) (is_scalar (n ∷ s)) (is_scalar (m ∷ t)) test)

  -- ---- the order of axes

  pub reverse-zip : (shape : List ℕ) (items : List X) → AllZip P items (reverse shape) → AllZip P (reverse items) shape
  reverse-zip shape items h = subst (AllZip P (reverse items)) (reverse-reverse shape) (zip-reverse P items (reverse shape) h)

  -- a list with such an item for each extent
  zip-by : (f : ℕ → X) (start : ℕ) (shape : List ℕ) → ((k : ℕ) → k < length shape → P (f (start + k)) (slice_index shape k))
      → AllZip P (map f (range_with_len start (length shape))) shape
  zip-by f start [] each = tt
  zip-by f start (n ∷ shape) each =
      let here : start + 0 ≡ start = omega arith in
      let next = λ (k : ℕ) (below : k < length shape). let e : start + suc k ≡ start + 1 + k = omega arith in
      subst (λ m. P (f m) (slice_index shape k)) e (each (suc k) (omega (arith, below))) in
      (subst (λ m. P (f m) n) here (each 0 (omega arith)), zip-by f (start + 1) shape next)

  item-at : (other : X) (list : List ℤ) (shape : List ℕ) (items : List X) (axis : ℕ) → is_permutation list ≡ true → axis < length list
      → AllZip P items (selected (naturals list) shape)
      → P (slice_index_or items (position_or_len (λ p. p == axis) (naturals list)) other) (slice_index shape axis)
  item-at other list shape items axis permutes below h =
      let first = found axis list (axis-stands list axis permutes below) in
      let place = position_or_len (λ p. p == axis) (naturals list) in
      let chosen = selected (naturals list) shape in
      let many : length chosen ≡ length (naturals list) = length-map (naturals list) (λ a. slice_index shape a) in
      let extent : slice_index chosen place ≡ slice_index shape axis =
      get_or-map (λ a. slice_index shape a) (naturals list) place 0 0 first.0 ∙ ap (λ a. slice_index shape a) first.1 in
      subst (P (slice_index_or items place other)) extent (zip-place items chosen place other h (omega (arith, first.0, many)))

  pub permute-zip : (other : X) (list : List ℤ) (shape : List ℕ) → (length list == length shape) ≡ true → is_permutation list ≡ true
      → (items : List X) → AllZip P items (selected (naturals list) shape) → AllZip P (restored other (naturals list) items) shape
  permute-zip other list shape same permutes items h =
      let item = λ (axis : ℕ). slice_index_or items (position_or_len (λ p. p == axis) (naturals list)) other in
      let long : length list ≡ length shape = eqb-true (length list) (length shape) same in
      let many : length shape ≡ length (naturals list) = sym long ∙ sym (length-map list unsigned_abs) in
      let each = λ (k : ℕ) (below : k < length shape). let e : k ≡ 0 + k = omega arith in
      subst (λ m. P (item m) (slice_index shape k)) e (item-at other list shape items k permutes (omega (arith, below, long)) h) in
      subst (λ n. AllZip P (map item (range_with_len 0 n)) shape) many (zip-by item 0 shape each)

  -- ---- products and folds, where an item of the folded axis is in front

  pub last-zip : (s others : List ℕ) (other : X) → 0 < length s → (items : List X)
      → AllZip P items (slice_index s (length s - 1) ∷ (but_last s ++ others))
      → AllZip P (take (length s - 1) (drop 1 items) ++ slice_index_or items 0 other ∷ []) s
  last-zip s others other full [] h = absurd h
  last-zip s others other full (item ∷ items) h =
      let axes = length s - 1 in
      let long : length (but_last s) ≡ axes = length-take-le axes s (omega arith) in
      let front : AllZip P (take axes items) (but_last s) =
      subst (λ n. AllZip P (take n items) (but_last s)) long (zip-split items (but_last s) others h.1).0 in
      subst (AllZip P (take axes items ++ item ∷ [])) (but-last-more s full)
      (zip-append P (take axes items) (item ∷ []) (but_last s) (slice_index s axes ∷ []) front (h.0, tt))

  pub first-zip : (s t : List ℕ) (other : X) → 0 < length t → slice_index s (length s - 1) ≡ slice_index t 0 → (items : List X)
      → AllZip P items (slice_index s (length s - 1) ∷ (but_last s ++ drop 1 t))
      → AllZip P (slice_index_or items 0 other ∷ drop (length s - 1) (drop 1 items)) t
  first-zip s t other full same [] h = absurd h
  first-zip s [] other full same (item ∷ items) h = absurd (omega (arith, full))
  first-zip s (m ∷ t) other full same (item ∷ items) h =
      let axes = length s - 1 in
      let long : length (but_last s) ≡ axes = length-take-le axes s (omega arith) in
      (subst (P item) same h.0, subst (λ n. AllZip P (drop n items) t) long (zip-split items (but_last s) t h.1).1)

  pub insert-zip : (s : List ℕ) (other : X) → 0 < length s → (items : List X) → AllZip P items (slice_index s 0 ∷ remove s 0)
      → AllZip P (insert (drop 1 items) 0 (slice_index_or items 0 other)) s
  insert-zip [] other full items h = absurd (omega (arith, full))
  insert-zip (n ∷ s) other full [] h = absurd h
  insert-zip (n ∷ s) other full (item ∷ items) h = h
