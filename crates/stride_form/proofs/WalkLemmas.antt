-- The walks of entries that are kept rise, and are few and small.
use Rattle.std.specs.Prelude.{◌≡◌, ℕ, suc, ◌*◌, ◌<◌, ◌≤◌, ◌==◌, ℤ, pos, negsuc, ◌+ℤ◌, ◌-ℤ◌, ◌*ℤ◌, unsigned_abs}
use Rattle.std.specs.Prelude.{Bool, true, false, if◌then◌else◌, List, [], ◌∷◌, length, max, nat_lt}
use Rattle.std.specs.List.{AllByRecursion, AllZip, Contains}
use Rattle.std.proofs.Common.{refl, subst, arith, ltb-true}
use Rattle.std.proofs.Math.Nat.{mul-le-mul, mul-le-mul_left}
use Rattle.std.proofs.lemmas.Bool.Decides.{nat_tests}
use Rattle.std.proofs.lemmas.Int.{unsigned_abs-mul}
use Rattle.shapes_core.specs.Limits.{greatest_extent, most_axes}
use Rattle.shapes_core.specs.Shape.{IsShape, span, total}
use Rattle.shapes_core.proofs.SpanLemmas.{span_pos, span_within}
use Rattle.normal_form.specs.declared.entry.Entry.{Entry}
use Rattle.normal_form.specs.declared.entry.Entry.TheVariants.{At, Plus, Minus}
use Rattle.stride_form.specs.Accesses.{Steps, constant_of, strides_with, walk_of, with_stride}
use Rattle.stride_form.specs.Facts.{own_walk}
use Rattle.stride_form.specs.Kept.{AreRising, AreSteps, IsOpEntry, IsWalk, greatest_stride, most_constant}
use Rattle.stride_form.proofs.StrideLemmas.{nearer, small-rest, small-total, sum-near, walk-few, walk-near}

-- entries of a shape
abbrev pub AreOpEntries : List ℕ → List Entry → List ℕ → Type 0
AreOpEntries known entries shape = AllZip (IsOpEntry known) entries shape

-- ---- by rising variable

higher : (low next : ℕ) (steps : Steps) → low < next → AllByRecursion (λ step. next < step.0) steps → AllByRecursion (λ step. low < step.0) steps
higher low next [] h above = tt
higher low next (first ∷ others) h above = (omega (arith, h, above.0), higher low next others h above.1)

above-choice : (low var : ℕ) (stride : ℤ) (first : ℕ × ℤ) (others more : Steps) (same below : Bool) → low < var
    → AllByRecursion (λ step. low < step.0) (first ∷ others) → AllByRecursion (λ step. low < step.0) more
    → AllByRecursion (λ step. low < step.0)
    (if same then (var, first.1 +ℤ stride) ∷ others else (if below then (var, stride) ∷ first ∷ others else first ∷ more))
above-choice low var stride first others more true below here old later = (here, old.1)
above-choice low var stride first others more false true here old later = (here, old)
above-choice low var stride first others more false false here old later = (old.0, later)

above-with : (low var : ℕ) (stride : ℤ) (steps : Steps) → low < var → AllByRecursion (λ step. low < step.0) steps
    → AllByRecursion (λ step. low < step.0) (with_stride var stride steps)
above-with low var stride [] here old = (here, tt)
above-with low var stride (first ∷ others) here old =
    above-choice low var stride first others (with_stride var stride others) (var == first.0) (nat_lt var first.0) here old
    (above-with low var stride others here old.1)

rising-choice : (var : ℕ) (stride : ℤ) (first : ℕ × ℤ) (others more : Steps) (same below : Bool) → AreRising (first ∷ others) → AreRising more
    → (same ≡ true → first.0 ≡ var) → (below ≡ true → var < first.0)
    → (same ≡ false → below ≡ false → AllByRecursion (λ step. first.0 < step.0) more)
    → AreRising (if same then (var, first.1 +ℤ stride) ∷ others else (if below then (var, stride) ∷ first ∷ others else first ∷ more))
rising-choice var stride first others more true below old later one two three =
    (subst (λ v. AllByRecursion (λ step. v < step.0) others) (one refl) old.0, old.1)
rising-choice var stride first others more false true old later one two three =
    ((two refl, higher var first.0 others (two refl) old.0), old)
rising-choice var stride first others more false false old later one two three = (three refl refl, later)

pub rising-with : (var : ℕ) (stride : ℤ) (steps : Steps) → AreRising steps → AreRising (with_stride var stride steps)
rising-with var stride [] old = (tt, tt)
rising-with var stride (first ∷ others) old =
    rising-choice var stride first others (with_stride var stride others) (var == first.0) (nat_lt var first.0) old
    (rising-with var stride others old.1) (λ e. grind (arith, e)) (λ e. ltb-true var first.0 e)
    (λ e f. above-with first.0 var stride others (grind (arith, nat_tests, e, f)) old.0)

pub walk-rising : (entries : List Entry) (shape : List ℕ) → AreRising (walk_of entries shape).strides
walk-rising [] shape = tt
walk-rising (entry ∷ entries) [] = tt
walk-rising (At constant ∷ entries) (n ∷ shape) = walk-rising entries shape
walk-rising (Plus var add ∷ entries) (n ∷ shape) = rising-with var (pos (total shape)) (walk_of entries shape).strides (walk-rising entries shape)
walk-rising (Minus var add ∷ entries) (n ∷ shape) =
    rising-with var (pos 0 -ℤ pos (total shape)) (walk_of entries shape).strides (walk-rising entries shape)

-- ---- over known variables

steps-choice : (known : List ℕ) (var : ℕ) (stride : ℤ) (first : ℕ × ℤ) (others more : Steps) (same below : Bool)
    → Contains known var → AreSteps known (first ∷ others) → AreSteps known more
    → AreSteps known (if same then (var, first.1 +ℤ stride) ∷ others else (if below then (var, stride) ∷ first ∷ others else first ∷ more))
steps-choice known var stride first others more true below here old later = (here, old.1)
steps-choice known var stride first others more false true here old later = (here, old)
steps-choice known var stride first others more false false here old later = (old.0, later)

pub steps-with : (known : List ℕ) (var : ℕ) (stride : ℤ) (steps : Steps) → Contains known var → AreSteps known steps
    → AreSteps known (with_stride var stride steps)
steps-with known var stride [] here old = (here, tt)
steps-with known var stride (first ∷ others) here old =
    steps-choice known var stride first others (with_stride var stride others) (var == first.0) (nat_lt var first.0)
    here old (steps-with known var stride others here old.1)

steps-entry : (known : List ℕ) (n : ℕ) (weight : ℤ) (entry : Entry) (steps : Steps) → IsOpEntry known entry n → AreSteps known steps
    → AreSteps known (strides_with weight entry steps)
steps-entry known n weight (At constant) steps h old = old
steps-entry known n weight (Plus var add) steps h old = steps-with known var weight steps h.0 old
steps-entry known n weight (Minus var add) steps h old = steps-with known var (pos 0 -ℤ weight) steps h.0 old

walk-steps : (known : List ℕ) (entries : List Entry) (shape : List ℕ) → AreOpEntries known entries shape
    → AreSteps known (walk_of entries shape).strides
walk-steps known [] shape h = tt
walk-steps known (entry ∷ entries) [] h = tt
walk-steps known (entry ∷ entries) (n ∷ shape) h =
    steps-entry known n (pos (total shape)) entry (walk_of entries shape).strides h.0 (walk-steps known entries shape h.1)

-- ---- small starts

small-constant : (known : List ℕ) (entry : Entry) (n : ℕ) → n ≤ greatest_extent → IsOpEntry known entry n
    → unsigned_abs (constant_of entry) ≤ most_constant
small-constant known (At (pos constant)) n small h = omega (arith, small, h)
small-constant known (At (negsuc constant)) n small h = elim h [ ]
small-constant known (Plus var add) n small h = h.1
small-constant known (Minus var add) n small h = h.1

step-start : (w k : ℕ) (s c : ℤ) → w ≤ greatest_extent → unsigned_abs c ≤ most_constant → unsigned_abs s ≤ k * (greatest_extent * most_constant)
    → unsigned_abs (s +ℤ pos w *ℤ c) ≤ suc k * (greatest_extent * most_constant)
step-start w k s c weight constant start =
    let product : unsigned_abs (pos w *ℤ c) ≤ greatest_extent * most_constant =
    omega (arith, unsigned_abs-mul (pos w) c, mul-le-mul weight constant) in
    let sum = sum-near (k * (greatest_extent * most_constant)) (greatest_extent * most_constant) s (pos w *ℤ c) start product in
    omega (arith, sum)

pub first-extent : (n : ℕ) (shape : List ℕ) → span (n ∷ shape) ≤ greatest_extent → n ≤ greatest_extent
first-extent n shape small =
    let one : max n 1 * 1 ≤ max n 1 * span shape = mul-le-mul_left (max n 1) (span_pos shape) in
    omega (arith, one, small)

pub small-rest-of : (n : ℕ) (shape : List ℕ) → span (n ∷ shape) ≤ greatest_extent → span shape ≤ greatest_extent
small-rest-of n shape small = small-rest n shape greatest_extent small

start-small : (known : List ℕ) (entries : List Entry) (shape : List ℕ) → span shape ≤ greatest_extent → AreOpEntries known entries shape
    → unsigned_abs (walk_of entries shape).start ≤ length entries * (greatest_extent * most_constant)
start-small known [] [] small h = omega arith
start-small known [] (n ∷ shape) small h = elim h [ ]
start-small known (entry ∷ entries) [] small h = elim h [ ]
start-small known (entry ∷ entries) (n ∷ shape) small h =
    let rest = small-rest n shape greatest_extent small in
    step-start (total shape) (length entries) (walk_of entries shape).start (constant_of entry) (small-total shape greatest_extent rest)
    (small-constant known entry n (first-extent n shape small) h.0) (start-small known entries shape rest h.1)

-- ---- walks

same-lengths : (known : List ℕ) (entries : List Entry) (shape : List ℕ) → AreOpEntries known entries shape → length entries ≡ length shape
same-lengths known [] [] h = refl
same-lengths known [] (n ∷ shape) h = elim h [ ]
same-lengths known (entry ∷ entries) [] h = elim h [ ]
same-lengths known (entry ∷ entries) (n ∷ shape) h = omega (arith, same-lengths known entries shape h.1)

pub walk-kept : (known : List ℕ) (entries : List Entry) (shape : List ℕ) → IsShape shape → AreOpEntries known entries shape
    → IsWalk known (walk_of entries shape).start (walk_of entries shape).strides
walk-kept known entries shape shaped h =
    let small = span_within shape shaped in
    let few : length shape ≤ most_axes = grind (arith, nat_tests, shaped) in
    let same = same-lengths known entries shape h in
    record {
      over = walk-steps known entries shape h;
      rising = walk-rising entries shape;
      few = omega (arith, walk-few entries shape, few, same);
      near = nearer (length entries * greatest_extent) greatest_stride _ (omega (arith, few, same)) (walk-near entries shape greatest_extent small);
      small = omega (arith, start-small known entries shape small h, few, same);
    }

pub own-kept : (known : List ℕ) (entry : Entry) (n : ℕ) → n ≤ greatest_extent → IsOpEntry known entry n
    → IsWalk known (own_walk entry).start (own_walk entry).strides
own-kept known entry n small h = walk-kept known (entry ∷ []) (greatest_extent ∷ []) (grind (arith, nat_tests)) (wider known entry n small h, tt) where
  wider : (known : List ℕ) (entry : Entry) (n : ℕ) → n ≤ greatest_extent → IsOpEntry known entry n → IsOpEntry known entry greatest_extent
  wider known (At (pos constant)) n small h = omega (arith, small, h)
  wider known (At (negsuc constant)) n small h = elim h [ ]
  wider known (Plus var add) n small h = h
  wider known (Minus var add) n small h = h
