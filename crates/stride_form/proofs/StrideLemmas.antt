-- Where a stride is added, and the walk of entries with one more.
use Rattle.std.specs.Prelude.{◌≡◌, ℕ, zero, suc, ◌+◌, ◌*◌, ◌^◌, ◌<◌, ◌≤◌, ◌⊎◌, ◌==◌, ℤ, pos, ◌+ℤ◌, ◌-ℤ◌, ◌*ℤ◌, unsigned_abs}
use Rattle.std.specs.Prelude.{Bool, true, false, if◌then◌else◌, List, [], ◌∷◌, length, nat_lt, slice_index_or, slice_set}
use Rattle.std.specs.Int.{w64}
use Rattle.std.specs.Prelude.{FitsSigned}
use Rattle.std.specs.List.{insert}
use Rattle.std.proofs.Common.{refl, sym, ap, ap₂, ◌∙◌, arith, inl, inr, of_z, to_z, ne_eqb, eq-eqb, le-ltb, lt-ltb}
use Rattle.std.proofs.Math.Nat.{mul-le-mul}
use Rattle.std.proofs.lemmas.Bool.{cond-false, cond-true}
use Rattle.std.proofs.lemmas.Int.{fits_signed_from_abs, ints, to_z-of_z, unsigned_abs-mul}
use Rattle.shapes_core.specs.Limits.{greatest_extent}
use Rattle.shapes_core.specs.Shape.{span, total}
use Rattle.shapes_core.proofs.DigitLemmas.{span-total}
use Rattle.shapes_core.proofs.SpanLemmas.{span_drop}
use Rattle.normal_form.specs.declared.entry.Entry.{Entry}
use Rattle.normal_form.specs.declared.entry.Entry.TheVariants.{At, Plus, Minus}
use Rattle.stride_form.specs.declared.walk.Walk.{Walk}
use Rattle.stride_form.specs.Accesses.{AreNear, Steps, constant_of, strides_with, walk_of, with_stride}
use Rattle.stride_form.specs.Kept.{most_constant}
use Rattle.stride_form.specs.Small.{AreNearEntries}

abbrev pub var_at : Steps → ℕ → ℕ
var_at steps place = (slice_index_or steps place (0, pos 0)).0

-- strides in front of a place are of smaller variables
abbrev pub AreSmaller : ℕ → Steps → ℕ → Type 0
AreSmaller var steps place = (k : ℕ) → k < place → var_at steps k < var

later : (var : ℕ) (stride : ℤ) (first : ℕ × ℤ) (others : Steps) → first.0 < var
    → with_stride var stride (first ∷ others) ≡ first ∷ with_stride var stride others
later var stride first others below =
    cond-false (var == first.0) _ _ (ne_eqb var first.0 (λ e. omega (arith, e, below)))
    ∙ cond-false (nat_lt var first.0) _ _ (le-ltb var first.0 (omega (arith, below)))

pub stride-there : (var : ℕ) (stride : ℤ) (steps : Steps) (place : ℕ) → place < length steps → AreSmaller var steps place
    → var_at steps place ≡ var
    → with_stride var stride steps ≡ slice_set steps place (var, (slice_index_or steps place (0, pos 0)).1 +ℤ stride)
stride-there var stride [] place within smaller same = absurd (omega (arith, within))
stride-there var stride (first ∷ others) zero within smaller same =
    cond-true (var == first.0) _ _ (eq-eqb var first.0 (sym same))
stride-there var stride (first ∷ others) (suc place) within smaller same =
    later var stride first others (smaller 0 (omega arith))
    ∙ ap (λ more. first ∷ more) (stride-there var stride others place (omega (arith, within))
    (λ k below. smaller (suc k) (omega (arith, below))) same)

pub stride-new : (var : ℕ) (stride : ℤ) (steps : Steps) (place : ℕ) → place ≤ length steps → AreSmaller var steps place
    → (place < length steps → var < var_at steps place)
    → with_stride var stride steps ≡ insert steps place (var, stride)
stride-new var stride [] zero within smaller next = refl
stride-new var stride [] (suc place) within smaller next = absurd (omega (arith, within))
stride-new var stride (first ∷ others) zero within smaller next =
    let below : var < first.0 = next (omega arith) in
    cond-false (var == first.0) _ _ (ne_eqb var first.0 (λ e. omega (arith, e, below)))
    ∙ cond-true (nat_lt var first.0) _ _ (lt-ltb var first.0 below)
stride-new var stride (first ∷ others) (suc place) within smaller next =
    later var stride first others (smaller 0 (omega arith))
    ∙ ap (λ more. first ∷ more) (stride-new var stride others place (omega (arith, within))
    (λ k below. smaller (suc k) (omega (arith, below))) (λ inside. next (omega (arith, inside))))

-- ---- how great strides are, and how many

pub nearer : (few most : ℕ) (steps : Steps) → few ≤ most → AreNear few steps → AreNear most steps
nearer few most [] h near = tt
nearer few most (first ∷ others) h near = (omega (arith, h, near.0), nearer few most others h near.1)

pub near-at : (most place : ℕ) (steps : Steps) → place < length steps → AreNear most steps
    → unsigned_abs (slice_index_or steps place (0, pos 0)).1 ≤ most
near-at most place [] within near = absurd (omega (arith, within))
near-at most zero (first ∷ others) within near = near.0
near-at most (suc place) (first ∷ others) within near = near-at most place others (omega (arith, within)) near.1

pub sum-near : (k g : ℕ) (a b : ℤ) → unsigned_abs a ≤ k → unsigned_abs b ≤ g → unsigned_abs (a +ℤ b) ≤ k + g
sum-near k g a b one other = omega (arith, ints, one, other)

near-choice : (k g var : ℕ) (stride : ℤ) (first : ℕ × ℤ) (others more : Steps) (same below : Bool) → unsigned_abs stride ≤ g
    → AreNear k (first ∷ others) → AreNear (k + g) more
    → AreNear (k + g) (if same then (var, first.1 +ℤ stride) ∷ others else (if below then (var, stride) ∷ first ∷ others else first ∷ more))
near-choice k g var stride first others more true below small near later =
    (sum-near k g first.1 stride near.0 small, nearer k (k + g) others (omega arith) near.1)
near-choice k g var stride first others more false true small near later =
    (omega (arith, small), nearer k (k + g) (first ∷ others) (omega arith) near)
near-choice k g var stride first others more false false small near later = (omega (arith, near.0), later)

near-with : (k g var : ℕ) (stride : ℤ) (steps : Steps) → unsigned_abs stride ≤ g → AreNear k steps
    → AreNear (k + g) (with_stride var stride steps)
near-with k g var stride [] small near = (omega (arith, small), tt)
near-with k g var stride (first ∷ others) small near =
    near-choice k g var stride first others (with_stride var stride others) (var == first.0) (nat_lt var first.0) small near
    (near-with k g var stride others small near.1)

near-entry : (k g w : ℕ) (entry : Entry) (steps : Steps) → w ≤ g → AreNear k steps → AreNear (k + g) (strides_with (pos w) entry steps)
near-entry k g w (At constant) steps small near = nearer k (k + g) steps (omega arith) near
near-entry k g w (Plus var add) steps small near = near-with k g var (pos w) steps small near
near-entry k g w (Minus var add) steps small near = near-with k g var (pos 0 -ℤ pos w) steps (omega (arith, ints, small)) near

length-choice : (var : ℕ) (stride : ℤ) (first : ℕ × ℤ) (others more : Steps) (same below : Bool) → length more ≤ suc (length others)
    → length (if same then (var, first.1 +ℤ stride) ∷ others else (if below then (var, stride) ∷ first ∷ others else first ∷ more))
    ≤ suc (suc (length others))
length-choice var stride first others more true below h = omega arith
length-choice var stride first others more false true h = omega arith
length-choice var stride first others more false false h = omega (arith, h)

length-with : (var : ℕ) (stride : ℤ) (steps : Steps) → length (with_stride var stride steps) ≤ suc (length steps)
length-with var stride [] = omega arith
length-with var stride (first ∷ others) =
    length-choice var stride first others (with_stride var stride others) (var == first.0) (nat_lt var first.0) (length-with var stride others)

length-entry : (w : ℤ) (entry : Entry) (steps : Steps) → length (strides_with w entry steps) ≤ suc (length steps)
length-entry w (At constant) steps = omega arith
length-entry w (Plus var add) steps = length-with var w steps
length-entry w (Minus var add) steps = length-with var (pos 0 -ℤ w) steps

-- ---- walks

-- a total is no greater than the span
pub small-total : (shape : List ℕ) (g : ℕ) → span shape ≤ g → total shape ≤ g
small-total shape g small = least (total shape) (span shape) g (span-total shape) small where
  least : (t s g : ℕ) → (0 < t → s ≡ t) → s ≤ g → t ≤ g
  least zero s g same small = omega arith
  least (suc t) s g same small = omega (arith, same (omega arith), small)

pub small-rest : (n : ℕ) (shape : List ℕ) (g : ℕ) → span (n ∷ shape) ≤ g → span shape ≤ g
small-rest n shape g small = omega (arith, span_drop 1 (n ∷ shape), small)

pub walk-near : (entries : List Entry) (shape : List ℕ) (g : ℕ) → span shape ≤ g
    → AreNear (length entries * g) (walk_of entries shape).strides
walk-near [] shape g small = tt
walk-near (entry ∷ entries) [] g small = tt
walk-near (entry ∷ entries) (n ∷ shape) g small =
    let rest = small-rest n shape g small in
    nearer (length entries * g + g) (suc (length entries) * g) _ (omega arith)
    (near-entry (length entries * g) g (total shape) entry (walk_of entries shape).strides (small-total shape g rest)
    (walk-near entries shape g rest))

-- a list of strides that may still grow
pub walk-room : (entries : List Entry) (shape : List ℕ) → length entries ≤ 6 → span shape ≤ greatest_extent
    → AreNear (2 ^ 62) (walk_of entries shape).strides
walk-room entries shape few small =
    nearer (length entries * greatest_extent) (2 ^ 62) _ (omega (arith, few)) (walk-near entries shape greatest_extent small)

pub walk-few : (entries : List Entry) (shape : List ℕ) → length (walk_of entries shape).strides ≤ length entries
walk-few [] shape = omega arith
walk-few (entry ∷ entries) [] = omega arith
walk-few (entry ∷ entries) (n ∷ shape) =
    omega (arith, length-entry (pos (total shape)) entry (walk_of entries shape).strides, walk-few entries shape)

abbrev pub no_walk : Walk
no_walk = record { start = pos 0; strides = [] }

pub walk-none : (entries : List Entry) (extents : List ℕ) → (length entries ≡ 0) ⊎ (length extents ≡ 0) → walk_of entries extents ≡ no_walk
walk-none [] extents none = refl
walk-none (entry ∷ entries) [] none = refl
walk-none (entry ∷ entries) (n ∷ extents) (inl none) = absurd (omega (arith, none))
walk-none (entry ∷ entries) (n ∷ extents) (inr none) = absurd (omega (arith, none))

-- with an entry in front, the start and the strides are those of the rest with it
pub start-more : (all entries : List Entry) (entry : Entry) (shape extents : List ℕ) (n : ℕ) (w start made : ℤ)
    → all ≡ entry ∷ entries → shape ≡ n ∷ extents → w ≡ pos (total extents) → start ≡ (walk_of entries extents).start
    → made ≡ start +ℤ w *ℤ constant_of entry → made ≡ (walk_of all shape).start
start-more all entries entry shape extents n w start made front outer weight before made_so =
    made_so ∙ ap₂ (λ start weight. start +ℤ weight *ℤ constant_of entry) before weight
    ∙ sym (ap₂ (λ list extents. (walk_of list extents).start) front outer)

pub strides-more : (all entries : List Entry) (entry : Entry) (shape extents : List ℕ) (n : ℕ) (w : ℤ) (strides made : Steps)
    → all ≡ entry ∷ entries → shape ≡ n ∷ extents → w ≡ pos (total extents) → strides ≡ (walk_of entries extents).strides
    → made ≡ strides_with w entry strides → made ≡ (walk_of all shape).strides
strides-more all entries entry shape extents n w strides made front outer weight before made_so =
    made_so ∙ ap₂ (λ z list. strides_with z entry list) weight before
    ∙ sym (ap₂ (λ list extents. (walk_of list extents).strides) front outer)

-- ---- how great a start is

abbrev pub most_start : ℕ
most_start = greatest_extent * most_constant

product-small : (w c : ℤ) → unsigned_abs w ≤ greatest_extent → unsigned_abs c ≤ most_constant → unsigned_abs (w *ℤ c) ≤ most_start
product-small w c weight constant = omega (arith, unsigned_abs-mul w c, mul-le-mul weight constant)

pub product-fits : (w c : ℤ) → unsigned_abs w ≤ greatest_extent → unsigned_abs c ≤ most_constant → FitsSigned w64 (w *ℤ c)
product-fits w c weight constant = fits_signed_from_abs w64 (w *ℤ c) (omega (arith, product-small w c weight constant))

pub start-fits : (w c start : ℤ) → unsigned_abs w ≤ greatest_extent → unsigned_abs c ≤ most_constant → unsigned_abs start ≤ 5 * most_start
    → FitsSigned w64 (start +ℤ w *ℤ c)
start-fits w c start weight constant room =
    fits_signed_from_abs w64 (start +ℤ w *ℤ c)
    (omega (arith, sum-near (5 * most_start) most_start start (w *ℤ c) room (product-small w c weight constant)))

-- the sum as 64 bits hold it
pub start-word : (w c given start : ℤ) → given ≡ c → FitsSigned w64 w → FitsSigned w64 start
    → unsigned_abs w ≤ greatest_extent → unsigned_abs c ≤ most_constant → unsigned_abs start ≤ 5 * most_start
    → to_z w64 (of_z w64 (to_z w64 (of_z w64 start) +ℤ to_z w64 (of_z w64 (to_z w64 (of_z w64 w) *ℤ to_z w64 (of_z w64 given))))) ≡ start +ℤ w *ℤ c
start-word w c given start same fits_weight fits_start weight constant room =
    let other : to_z w64 (of_z w64 given) ≡ c =
    ap (λ z. to_z w64 (of_z w64 z)) same ∙ to_z-of_z w64 c (fits_signed_from_abs w64 c (omega (arith, constant))) in
    let product : to_z w64 (of_z w64 (to_z w64 (of_z w64 w) *ℤ to_z w64 (of_z w64 given))) ≡ w *ℤ c =
    ap₂ (λ a b. to_z w64 (of_z w64 (a *ℤ b))) (to_z-of_z w64 w fits_weight) other ∙ to_z-of_z w64 (w *ℤ c) (product-fits w c weight constant) in
    ap₂ (λ a b. to_z w64 (of_z w64 (a +ℤ b))) (to_z-of_z w64 start fits_start) product
    ∙ to_z-of_z w64 (start +ℤ w *ℤ c) (start-fits w c start weight constant room)

pub start-small : (entries : List Entry) (shape : List ℕ) → span shape ≤ greatest_extent → AreNearEntries entries
    → unsigned_abs (walk_of entries shape).start ≤ length entries * most_start
start-small [] shape small near = omega arith
start-small (entry ∷ entries) [] small near = omega arith
start-small (entry ∷ entries) (n ∷ shape) small near =
    let rest = small-rest n shape greatest_extent small in
    let weight : unsigned_abs (pos (total shape)) ≤ greatest_extent = small-total shape greatest_extent rest in
    omega (
      arith,
      sum-near (length entries * most_start) most_start (walk_of entries shape).start (pos (total shape) *ℤ constant_of entry)
          (start-small entries shape rest near.1) (product-small (pos (total shape)) (constant_of entry) weight near.0),
    )

-- the start of at most five entries leaves room for one more
pub start-room : (entries : List Entry) (shape : List ℕ) → length entries ≤ 5 → span shape ≤ greatest_extent → AreNearEntries entries
    → unsigned_abs (walk_of entries shape).start ≤ 5 * most_start
start-room entries shape few small near = omega (arith, start-small entries shape small near, few)
