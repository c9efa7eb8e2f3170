-- The places from which the views of one array take their elements are index vectors of it.
use Rattle.std.specs.Prelude.{◌≡◌, ◌==◌, ℕ, suc, ◌+◌, ◌<◌, ◌≤◌, Bool, true, false, cond, not, ℤ, pos, negsuc, List, [], ◌∷◌, ◌++◌, map, drop, length, nat_le, reverse, slice_index, slice_index_or, unsigned_abs}
use Rattle.std.specs.Int.{int_rem_euclid}
use Rattle.std.specs.List.{list_all, list_any, position_or_len, range_with_len}
use Rattle.std.specs.Ordering.{int_eq}
use Rattle.std.proofs.Common.{refl, ap, sym, subst, ⊎_elim, ◌∙◌, arith}
use Rattle.std.proofs.Math.Nat.{mod-lt}
use Rattle.std.proofs.lemmas.Bool.{and_parts, eqb-false, eqb-true, false≢true, le-leb, leb-true, ltb-true, or_cases}
use Rattle.std.proofs.lemmas.Bool.Decides.{Decides-int_eq}
use Rattle.std.proofs.lemmas.Grind.{reverse_onto}
use Rattle.std.proofs.lemmas.List.{get_or-map, length-map, reverse-reverse}
use Rattle.std.proofs.lemmas.List.Elements.{AllZip-get_or, AllZip-push, length_all_zip}
use Rattle.std.proofs.lemmas.List.FromFn.{get_or-range_with_len, length-range_with_len}
use Rattle.std.proofs.lemmas.List.Recursion.{and_at}
use Rattle.shapes_core.specs.Gamma.{IsIndex}
use Rattle.moa_tree.specs.Axes.{each_extent, each_place, mirrored, naturals, on_axis, remaining, remaining_from, restored, selected, taken, taken_from, turned}
use Rattle.shape_check.specs.Rules.{each_entry, is_natural, is_part, is_permutation, is_place}

-- ---- selections

place-below : (k : ℤ) (n : ℕ) → is_place k n ≡ true → unsigned_abs k < n
place-below k n h = ltb-true (unsigned_abs k) n ((and_parts (is_natural k) _ h).1)

pub psi-place : (list : List ℤ) (index shape : List ℕ) → nat_le (length list) (length shape) ≡ true → each_entry is_place list shape ≡ true
    → IsIndex index (drop (length list) shape) → IsIndex (naturals list ++ index) shape
psi-place [] index shape short each h = h
psi-place (k ∷ list) index [] short each h = absurd (let e : suc (length list) ≤ 0 = leb-true (suc (length list)) 0 short in omega (arith, e))
psi-place (k ∷ list) index (n ∷ shape) short each h =
    let parts = and_parts (is_place k n) (each_entry is_place list shape) each in
    let shorter : suc (length list) ≤ suc (length shape) = leb-true (suc (length list)) (suc (length shape)) short in
    (place-below k n parts.0, psi-place list index shape (le-leb (length list) (length shape) (omega (arith, shorter))) parts.1 h)

taken-place : (k : ℤ) (n i : ℕ) → is_part k n ≡ true → i < taken k n → taken_from k n i < n
taken-place (pos k) n i h below = omega (arith, leb-true k n h, below)
taken-place (negsuc k) n i h below = omega (arith, leb-true (suc k) n h, below)

pub take-place : (list : List ℤ) (shape index : List ℕ) → each_entry is_part list shape ≡ true
    → IsIndex index (each_extent taken list shape) → IsIndex (each_place taken_from list shape index) shape
take-place [] shape index each h = h
take-place (k ∷ list) [] index each h = h
take-place (k ∷ list) (n ∷ shape) [] each h = absurd h
take-place (k ∷ list) (n ∷ shape) (i ∷ index) each h =
    let parts = and_parts (is_part k n) (each_entry is_part list shape) each in
    (taken-place k n i parts.0 h.0, take-place list shape index parts.1 h.1)

remaining-place : (k : ℤ) (n i : ℕ) → i < remaining k n → remaining_from k n i < n
remaining-place (pos k) n i below = omega (arith, below)
remaining-place (negsuc k) n i below = omega (arith, below)

pub drop-place : (list : List ℤ) (shape index : List ℕ) → IsIndex index (each_extent remaining list shape) → IsIndex (each_place remaining_from list shape index) shape
drop-place [] shape index h = h
drop-place (k ∷ list) [] index h = h
drop-place (k ∷ list) (n ∷ shape) [] h = absurd h
drop-place (k ∷ list) (n ∷ shape) (i ∷ index) h = (remaining-place k n i h.0, drop-place list shape index h.1)

-- ---- turns

axis-place : (f : ℕ → ℕ → ℕ) (shape index : List ℕ) → ((n i : ℕ) → i < n → f n i < n) → IsIndex index shape → IsIndex (on_axis 0 f shape index) shape
axis-place f [] index each h = h
axis-place f (n ∷ shape) [] each h = absurd h
axis-place f (n ∷ shape) (i ∷ index) each h = (each n i h.0, h.1)

pub reverse-place : (shape index : List ℕ) → IsIndex index shape → IsIndex (on_axis 0 mirrored shape index) shape
reverse-place shape index h = axis-place mirrored shape index (λ n i below. omega (arith, below)) h

rest-below : (z : ℤ) (n : ℕ) → 0 < n → unsigned_abs (int_rem_euclid z (pos n)) < n
rest-below (pos a) n h = mod-lt a h
rest-below (negsuc a) n h = omega (arith, h)

pub rotate-place : (by : ℤ) (shape index : List ℕ) → IsIndex index shape → IsIndex (on_axis 0 (turned by) shape index) shape
rotate-place by shape index h = axis-place (turned by) shape index (λ n i below. rest-below _ n (omega (arith, below))) h

reversed : (index shape : List ℕ) → IsIndex index shape → IsIndex (reverse index) (reverse shape)
reversed [] [] h = tt
reversed [] (n ∷ shape) h = absurd h
reversed (i ∷ index) [] h = absurd h
reversed (i ∷ index) (n ∷ shape) h =
    let more = AllZip-push (λ k n. k < n) (reverse index) (reverse shape) i n (reversed index shape h.1) h.0 in
    let to_index : reverse index ++ i ∷ [] ≡ reverse (i ∷ index) = sym (reverse_onto index i []) in
    let to_shape : reverse shape ++ n ∷ [] ≡ reverse (n ∷ shape) = sym (reverse_onto shape n []) in
    subst (λ t. IsIndex (reverse (i ∷ index)) t) to_shape (subst (λ j. IsIndex j (reverse shape ++ n ∷ [])) to_index more)

pub transpose-place : (shape index : List ℕ) → IsIndex index (reverse shape) → IsIndex (reverse index) shape
transpose-place shape index h = subst (λ t. IsIndex (reverse index) t) (reverse-reverse shape) (reversed index (reverse shape) h)

-- ---- permutations

-- a list with an entry below each extent is an index vector
index-by : (f : ℕ → ℕ) (start : ℕ) (shape : List ℕ) → ((k : ℕ) → k < length shape → f (start + k) < slice_index shape k)
    → IsIndex (map f (range_with_len start (length shape))) shape
index-by f start [] each = tt
index-by f start (n ∷ shape) each =
    let here : start + 0 ≡ start = omega arith in
    let next = λ (k : ℕ) (below : k < length shape). let e : start + suc k ≡ start + 1 + k = omega arith in
    subst (λ m. f m < slice_index shape k) e (each (suc k) (omega (arith, below))) in
    (subst (λ m. f m < n) here (each 0 (omega arith)), index-by f (start + 1) shape next)

found-first : (b : Bool) (k axis rest : ℕ) (others : List ℕ) → (k == axis) ≡ b → (b ≡ false → (rest < length others) × (slice_index others rest ≡ axis))
    → (cond (not b) (1 + rest) 0 < suc (length others)) × (slice_index (k ∷ others) (cond (not b) (1 + rest) 0) ≡ axis)
found-first true k axis rest others e later = (omega arith, eqb-true k axis e)
found-first false k axis rest others e later =
    let more : 1 + rest ≡ suc rest = omega arith in
    (omega (arith, (later refl).0), ap (λ m. slice_index (k ∷ others) m) more ∙ (later refl).1)

-- an axis that stands in a list is found where it first stands
found : (axis : ℕ) (list : List ℤ) → list_any (int_eq (pos axis)) list ≡ true
    → (position_or_len (λ p. p == axis) (naturals list) < length (naturals list)) × (slice_index (naturals list) (position_or_len (λ p. p == axis) (naturals list)) ≡ axis)
found axis [] h = absurd (false≢true h)
found axis (k ∷ list) h =
    found-first (unsigned_abs k == axis) (unsigned_abs k) axis (position_or_len (λ p. p == axis) (naturals list)) (naturals list) refl
    (λ other. ⊎_elim (λ same. absurd (eqb-false (unsigned_abs k) axis other (ap unsigned_abs (sym ((Decides-int_eq (pos axis) k).0 same))))) (λ later. found axis list later)
    (or_cases (int_eq (pos axis) k) (list_any (int_eq (pos axis)) list) h))

-- each axis stands in a permutation
axis-stands : (list : List ℤ) (axis : ℕ) → is_permutation list ≡ true → axis < length list → list_any (int_eq (pos axis)) list ≡ true
axis-stands list axis h below =
    let stands = λ (a : ℕ). list_any (int_eq (pos a)) list in
    let range = range_with_len 0 (length list) in
    let at = and_at (list_all stands) stands refl (λ _ _. refl) range axis 0 (omega (arith, length-range_with_len 0 (length list), below)) h in
    let e : slice_index_or range axis 0 ≡ axis = get_or-range_with_len 0 (length list) axis 0 below ∙ (let f : 0 + axis ≡ axis = omega arith in f) in
    subst (λ a. list_any (int_eq (pos a)) list ≡ true) e at

entry-below : (list : List ℤ) (shape index : List ℕ) (axis : ℕ) → is_permutation list ≡ true → axis < length list
    → IsIndex index (selected (naturals list) shape) → slice_index_or index (position_or_len (λ p. p == axis) (naturals list)) 0 < slice_index shape axis
entry-below list shape index axis permutes below h =
    let first = found axis list (axis-stands list axis permutes below) in
    let place = position_or_len (λ p. p == axis) (naturals list) in
    let chosen = selected (naturals list) shape in
    let many : length index ≡ length (naturals list) = length_all_zip (λ k n. k < n) index chosen h ∙ length-map (naturals list) (λ a. slice_index shape a) in
    let inside : slice_index_or index place 0 < slice_index_or chosen place 0 = AllZip-get_or (λ k n. k < n) index chosen place 0 0 h (omega (arith, first.0, many)) in
    let extent : slice_index_or chosen place 0 ≡ slice_index shape axis =
    get_or-map (λ a. slice_index shape a) (naturals list) place 0 0 first.0 ∙ ap (λ a. slice_index shape a) first.1 in
    omega (arith, inside, extent)

pub permute-place : (list : List ℤ) (shape index : List ℕ) → (length list == length shape) ≡ true → is_permutation list ≡ true
    → IsIndex index (selected (naturals list) shape) → IsIndex (restored 0 (naturals list) index) shape
permute-place list shape index same permutes h =
    let entry = λ (axis : ℕ). slice_index_or index (position_or_len (λ p. p == axis) (naturals list)) 0 in
    let long : length list ≡ length shape = eqb-true (length list) (length shape) same in
    let many : length shape ≡ length (naturals list) = sym long ∙ sym (length-map list unsigned_abs) in
    let each = λ (k : ℕ) (below : k < length shape). let e : k ≡ 0 + k = omega arith in
    subst (λ m. entry m < slice_index shape k) e (entry-below list shape index k permutes (omega (arith, below, long)) h) in
    subst (λ n. IsIndex (map entry (range_with_len 0 n)) shape) many (index-by entry 0 shape each)
