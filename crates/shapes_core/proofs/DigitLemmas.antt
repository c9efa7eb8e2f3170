-- The digits of an offset are its index vector.
use Rattle.std.specs.Prelude.{◌≡◌, ℕ, zero, suc, ◌+◌, ◌*◌, ◌/◌, ◌%◌, ◌<◌, ◌≤◌, max, List, [], ◌∷◌, length, slice_index_or}
use Rattle.std.specs.List.{AllByRecursion}
use Rattle.std.proofs.Common.{refl, ap, sym, subst, ◌∙◌, arith}
use Rattle.std.proofs.Math.Nat.{div-add-mod, div-lt_iff_lt-mul, mod-eq_of_lt, mod-lt, mul-add-div_right, mul-add-mod_self_right, mul-le-mul}
use Rattle.shapes_core.specs.Gamma.{IsIndex, digit, digits, gamma, ungamma, weight}
use Rattle.shapes_core.specs.Shape.{span, total}
use Rattle.shapes_core.proofs.GammaLemmas.{gamma-below, gamma-ungamma, total-positive, ungamma-IsIndex, ungamma-gamma}

product-positive : (n t : ℕ) → 0 < n → 0 < t → 0 < n * t
product-positive n t first rest =
    let least : 1 * 1 ≤ n * t = mul-le-mul first rest in
    omega (arith, least)

-- a factor of a positive product is positive
pub first-positive : (n t : ℕ) → 0 < n * t → 0 < n
first-positive zero t h = omega (arith, h)
first-positive (suc n) t h = omega arith

pub rest-positive : (n t : ℕ) → 0 < n * t → 0 < t
rest-positive n t h = total-positive 0 n t h

-- a total is positive where each extent is
pub positive-extents : (shape : List ℕ) → 0 < total shape → AllByRecursion (λ n. 0 < n) shape
positive-extents [] h = tt
positive-extents (n ∷ shape) h = (first-positive n (total shape) h, positive-extents shape (rest-positive n (total shape) h))

pub positive-total : (shape : List ℕ) → AllByRecursion (λ n. 0 < n) shape → 0 < total shape
positive-total [] h = omega arith
positive-total (n ∷ shape) h = product-positive n (total shape) h.0 (positive-total shape h.1)

-- and then it is the span
pub span-total : (shape : List ℕ) → 0 < total shape → span shape ≡ total shape
span-total [] h = refl
span-total (n ∷ shape) h =
    let first = first-positive n (total shape) h in
    let one : max n 1 ≡ n = omega (arith, first) in
    ap (λ m. m * span shape) one ∙ ap (λ t. n * t) (span-total shape (rest-positive n (total shape) h))

pub span-of-index : (index shape : List ℕ) → IsIndex index shape → span shape ≡ total shape
span-of-index index shape h =
    let below = gamma-below index shape h in
    span-total shape (omega (arith, below))

pub length-digits : (shape : List ℕ) (offset : ℕ) → length (digits shape offset) ≡ length shape
length-digits [] offset = refl
length-digits (n ∷ shape) offset = ap suc (length-digits shape offset)

pub digits-at : (shape : List ℕ) (offset axis : ℕ) → axis < length shape →
    slice_index_or (digits shape offset) axis 0 ≡ digit offset (weight shape axis) (slice_index_or shape axis 0)
digits-at [] offset axis h = absurd (omega (arith, h))
digits-at (n ∷ shape) offset zero h = refl
digits-at (n ∷ shape) offset (suc axis) h = digits-at shape offset axis (omega (arith, h))

-- a digit repeats after its axis is passed once
digit-again : (q n t r : ℕ) → 0 < n → 0 < t → digit (q * (n * t) + r) t n ≡ digit r t n
digit-again q n t r first rest =
    ap (λ offset. digit offset t n) (let e : q * (n * t) + r ≡ q * n * t + r = grind arith in e)
    ∙ ap (λ quotient. quotient % n) (mul-add-div_right {m = t} rest (q * n) r)
    ∙ mul-add-mod_self_right q n (r / t)

-- the digits repeat after the total
pub digits-again : (shape : List ℕ) (q r : ℕ) → 0 < total shape → digits shape (q * total shape + r) ≡ digits shape r
digits-again [] q r h = refl
digits-again (n ∷ shape) q r h =
    let t = total shape in
    let first = first-positive n t h in
    let rest = rest-positive n t h in
    ap (λ weight. digit (q * (n * t) + r) weight n ∷ digits shape (q * (n * t) + r)) (span-total shape rest)
    ∙ ap (λ first. first ∷ digits shape (q * (n * t) + r)) (digit-again q n t r first rest)
    ∙ ap (λ weight. digit r weight n ∷ digits shape (q * (n * t) + r)) (sym (span-total shape rest))
    ∙ ap (λ offset. digit r (span shape) n ∷ digits shape offset) (let e : q * (n * t) + r ≡ q * n * t + r = grind arith in e)
    ∙ ap (λ others. digit r (span shape) n ∷ others) (digits-again shape (q * n) r rest)

-- below the total they are the index vector
pub digits-ungamma : (shape : List ℕ) (offset : ℕ) → offset < total shape → digits shape offset ≡ ungamma shape offset
digits-ungamma [] offset h = refl
digits-ungamma (n ∷ shape) offset h =
    let t = total shape in
    let rest = total-positive offset n t h in
    let within : offset / t < n = (div-lt_iff_lt-mul {k = t} {x = offset} {y = n} rest).1 h in
    let whole : offset ≡ offset / t * t + offset % t = grind (arith, div-add-mod offset t) in
    ap (λ weight. digit offset weight n ∷ digits shape offset) (span-total shape rest)
    ∙ ap (λ first. first ∷ digits shape offset) (mod-eq_of_lt within)
    ∙ ap (λ place. offset / t ∷ digits shape place) whole
    ∙ ap (λ others. offset / t ∷ others) (digits-again shape (offset / t) (offset % t) rest)
    ∙ ap (λ others. offset / t ∷ others) (digits-ungamma shape (offset % t) (mod-lt offset rest))

pub digits-IsIndex : (shape : List ℕ) (offset : ℕ) → offset < total shape → IsIndex (digits shape offset) shape
digits-IsIndex shape offset h = subst (λ index. IsIndex index shape) (sym (digits-ungamma shape offset h)) (ungamma-IsIndex shape offset h)

pub gamma-digits : (shape : List ℕ) (offset : ℕ) → offset < total shape → gamma (digits shape offset) shape ≡ offset
gamma-digits shape offset h = ap (λ index. gamma index shape) (digits-ungamma shape offset h) ∙ gamma-ungamma shape offset h

pub digits-gamma : (index shape : List ℕ) → IsIndex index shape → digits shape (gamma index shape) ≡ index
digits-gamma index shape h = digits-ungamma shape (gamma index shape) (gamma-below index shape h) ∙ ungamma-gamma index shape h
