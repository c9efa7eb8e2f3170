-- The row-major offset counts the elements of an array, and the index vectors stand in its order.
use Rattle.std.specs.Prelude.{◌≡◌, ℕ, zero, suc, ◌+◌, ◌*◌, ◌%◌, ◌<◌, ◌≤◌, List, [], ◌∷◌, ◌++◌, map, length, slice_index_or}
use Rattle.std.specs.List.{flat_map, range_with_len}
use Rattle.std.proofs.Common.{refl, ap, sym, ◌∙◌, arith, length-append}
use Rattle.std.proofs.lemmas.List.{get_or_append_left, get_or-append-add, get_or-map, length-map}
use Rattle.std.proofs.Math.Nat.{div-add-mod, div-lt_iff_lt-mul, mod-lt, mul-le-mul_left, mul-le-mul_right}
use Rattle.std.proofs.lemmas.Nat.{div-mul-add, mod-mul-add}
use Rattle.shapes_core.specs.Gamma.{IsIndex, gamma, rows, ungamma}
use Rattle.shapes_core.specs.Shape.{total}

-- one axis more multiplies the total
pub total-last : (shape : List ℕ) (n : ℕ) → total (shape ++ n ∷ []) ≡ total shape * n
total-last [] n = omega arith
total-last (m ∷ shape) n = grind (arith, total-last shape n)

-- gamma by the last axis, as Mullin defines it; gamma of no axis is 0
pub gamma-last : (index shape : List ℕ) (k n : ℕ) → length index ≡ length shape → gamma (index ++ k ∷ []) (shape ++ n ∷ []) ≡ gamma index shape * n + k
gamma-last [] [] k n same = omega arith
gamma-last [] (m ∷ shape) k n same = grind arith
gamma-last (x ∷ index) [] k n same = grind arith
gamma-last (x ∷ index) (m ∷ shape) k n same = grind (arith, gamma-last index shape k n (omega (arith, same)), total-last shape n)

row-below : (k n t g : ℕ) → k < n → g < t → k * t + g < n * t
row-below k n t g below inner =
    let next = mul-le-mul_right {m = suc k} {n = n} t below in
    omega (arith, next, inner)

-- gamma of an index vector is below the total
pub gamma-below : (index shape : List ℕ) → IsIndex index shape → gamma index shape < total shape
gamma-below [] [] h = omega arith
gamma-below [] (n ∷ shape) h = absurd h
gamma-below (k ∷ index) [] h = absurd h
gamma-below (k ∷ index) (n ∷ shape) h = row-below k n (total shape) (gamma index shape) h.0 (gamma-below index shape h.1)

-- what is counted so far, with the next axis, is no more than the whole offset
gamma-step : (so_far k n : ℕ) (index shape : List ℕ) → IsIndex index shape →
    so_far * n + k ≤ so_far * total (n ∷ shape) + gamma (k ∷ index) (n ∷ shape)
gamma-step so_far k n index shape h =
    let t = total shape in
    let below = gamma-below index shape h in
    let positive : 1 ≤ t = omega (arith, below) in
    let more = mul-le-mul_left (so_far * n + k) positive in
    let e : (so_far * n + k) * t ≡ so_far * (n * t) + k * t = grind arith in
    omega (arith, more, e)

pub gamma-next : (so_far : ℕ) {k n : ℕ} {left_index left_shape index shape : List ℕ} → (left_index ≡ k ∷ index) × (left_shape ≡ n ∷ shape) → IsIndex left_index left_shape →
    so_far * n + k ≤ so_far * total left_shape + gamma left_index left_shape
gamma-next so_far {k} {n} {index = index} {shape = shape} next h = rw (next.0, next.1) (gamma-step so_far k n index shape (rw (next.0, next.1) at h).1)

-- an index vector has one number an axis
pub length-IsIndex : (index shape : List ℕ) → IsIndex index shape → length index ≡ length shape
length-IsIndex [] [] h = refl
length-IsIndex [] (n ∷ shape) h = absurd h
length-IsIndex (k ∷ index) [] h = absurd h
length-IsIndex (k ∷ index) (n ∷ shape) h = ap suc (length-IsIndex index shape h.1)

-- where no axis is left, what is counted is the whole offset
pub gamma-ended : (so_far : ℕ) (index shape : List ℕ) → IsIndex index shape → length index ≡ 0 → so_far * total shape + gamma index shape ≡ so_far
gamma-ended so_far [] [] h none = omega arith
gamma-ended so_far [] (n ∷ shape) h none = absurd h
gamma-ended so_far (k ∷ index) shape h none = absurd (omega (arith, none))

-- an offset below the total has an index vector
pub total-positive : (offset n t : ℕ) → offset < n * t → 0 < t
total-positive offset n zero h = omega (arith, h)
total-positive offset n (suc t) h = omega arith

pub ungamma-IsIndex : (shape : List ℕ) (offset : ℕ) → offset < total shape → IsIndex (ungamma shape offset) shape
ungamma-IsIndex [] offset h = tt
ungamma-IsIndex (n ∷ shape) offset h =
    let positive = total-positive offset n (total shape) h in
    ((div-lt_iff_lt-mul {k = total shape} {x = offset} {y = n} positive).1 h, ungamma-IsIndex shape (offset % total shape) (mod-lt offset positive))

-- whose gamma it is
pub gamma-ungamma : (shape : List ℕ) (offset : ℕ) → offset < total shape → gamma (ungamma shape offset) shape ≡ offset
gamma-ungamma [] offset h = omega (arith, h)
gamma-ungamma (n ∷ shape) offset h =
    let positive = total-positive offset n (total shape) h in
    let inner = gamma-ungamma shape (offset % total shape) (mod-lt offset positive) in
    let whole = div-add-mod offset (total shape) in
    grind (arith, inner, whole)

-- and it is the only one
pub ungamma-gamma : (index shape : List ℕ) → IsIndex index shape → ungamma shape (gamma index shape) ≡ index
ungamma-gamma [] [] h = refl
ungamma-gamma [] (n ∷ shape) h = absurd h
ungamma-gamma (k ∷ index) [] h = absurd h
ungamma-gamma (k ∷ index) (n ∷ shape) h =
    let below = gamma-below index shape h.1 in
    ap (λ first. first ∷ ungamma shape ((k * total shape + gamma index shape) % total shape)) (div-mul-add k (total shape) (gamma index shape) below)
    ∙ ap (λ offset. k ∷ ungamma shape offset) (mod-mul-add k (total shape) (gamma index shape) below)
    ∙ ap (λ rest. k ∷ rest) (ungamma-gamma index shape h.1)

-- the rows that begin with one of n numbers
abbrev blocks : List (List ℕ) → ℕ → ℕ → List (List ℕ)
blocks inner from n = flat_map (λ k. map (λ index. k ∷ index) inner) (range_with_len from n)

abbrev block : List (List ℕ) → ℕ → List (List ℕ)
block inner k = map (λ index. k ∷ index) inner

length-block : (inner : List (List ℕ)) (k : ℕ) → length (block inner k) ≡ length inner
length-block inner k = length-map inner (λ index. k ∷ index)

length-blocks : (inner : List (List ℕ)) (from n : ℕ) → length (blocks inner from n) ≡ n * length inner
length-blocks inner from zero = omega arith
length-blocks inner from (suc n) =
    grind (arith, length-append (block inner from) (blocks inner (from + 1) n), length-block inner from, length-blocks inner (from + 1) n)

-- there are as many index vectors as elements
pub length-rows : (shape : List ℕ) → length (rows shape) ≡ total shape
length-rows [] = refl
length-rows (n ∷ shape) = length-blocks (rows shape) 0 n ∙ ap (λ t. n * t) (length-rows shape)

block-at : (inner : List (List ℕ)) (from n k r : ℕ) (other : List ℕ) → k < n → r < length inner →
    slice_index_or (blocks inner from n) (k * length inner + r) other ≡ (from + k) ∷ slice_index_or inner r other
block-at inner from zero k r other below within = absurd (omega (arith, below))
block-at inner from (suc n) zero r other below within =
    ap (λ place. slice_index_or (block inner from ++ blocks inner (from + 1) n) place other) (let e : zero * length inner + r ≡ r = omega arith in e)
    ∙ get_or_append_left (block inner from) (blocks inner (from + 1) n) other r (omega (arith, within, length-block inner from))
    ∙ get_or-map (λ index. from ∷ index) inner r other other within
    ∙ ap (λ first. first ∷ slice_index_or inner r other) (let e : from ≡ from + zero = omega arith in e)
block-at inner from (suc n) (suc k) r other below within =
    ap (λ place. slice_index_or (block inner from ++ blocks inner (from + 1) n) place other)
    (let e : suc k * length inner + r ≡ length (block inner from) + (k * length inner + r) = grind (arith, length-block inner from) in e)
    ∙ get_or-append-add (block inner from) (blocks inner (from + 1) n) (k * length inner + r) other
    ∙ block-at inner (from + 1) n k r other (omega (arith, below)) within
    ∙ ap (λ first. first ∷ slice_index_or inner r other) (let e : from + 1 + k ≡ from + suc k = omega arith in e)

-- each stands at its gamma
pub rows-gamma : (index shape other : List ℕ) → IsIndex index shape → slice_index_or (rows shape) (gamma index shape) other ≡ index
rows-gamma [] [] other h = refl
rows-gamma [] (n ∷ shape) other h = absurd h
rows-gamma (k ∷ index) [] other h = absurd h
rows-gamma (k ∷ index) (n ∷ shape) other h =
    let below = gamma-below index shape h.1 in
    ap (λ t. slice_index_or (rows (n ∷ shape)) (k * t + gamma index shape) other) (sym (length-rows shape))
    ∙ block-at (rows shape) 0 n k (gamma index shape) other h.0 (omega (arith, below, length-rows shape))
    ∙ ap (λ first. first ∷ slice_index_or (rows shape) (gamma index shape) other) (let e : 0 + k ≡ k = omega arith in e)
    ∙ ap (λ rest. k ∷ rest) (rows-gamma index shape other h.1)
