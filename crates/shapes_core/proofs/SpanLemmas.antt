-- Totals and spans of extents: how they grow extent by extent, and when they are too large for a shape.
use Rattle.std.proofs.Common.{◌≡◌, ℕ, zero, suc, ◌+◌, ◌*◌, ◌<◌, ◌≤◌, max, true, false, List, [], ◌∷◌, length, drop, get_or, sym, ap, ◌∙◌, arith}
use Rattle.std.specs.Prelude.{nat_le, IsTrue}
use Rattle.std.specs.List.{list_all}
use Rattle.std.proofs.Math.Nat.{mul-le-mul, mul-le-mul_left, mul_assoc}
use Rattle.std.proofs.lemmas.List.{at_drop_more}
use Rattle.std.proofs.lemmas.List.Folds.{list_all_at}
use Rattle.std.proofs.lemmas.Bool.Decides.{nat_tests}
use Rattle.std.proofs.Math.ListN.{drop_of_length-le}
use Rattle.shapes_core.specs.Limits.{greatest_extent}
use Rattle.shapes_core.specs.Shape.{are_small, is_shape, span, total}

-- no extent counts as less than 1 in a span
pub span_pos : (extents : List ℕ) → 1 ≤ span extents
span_pos [] = omega arith
span_pos (extent ∷ extents) =
    let first : 1 ≤ max extent 1 = omega arith in
    omega (arith, mul-le-mul first (span_pos extents))

-- and so a total is no greater than the span
total_least : (extents : List ℕ) → total extents ≤ span extents
total_least [] = omega arith
total_least (extent ∷ extents) =
    let first : extent ≤ max extent 1 = omega arith in
    mul-le-mul first (total_least extents)

-- one more extent is taken from what is left of a total
pub total_more : (so_far : ℕ) (extents : List ℕ) (i : ℕ) → i < length extents → so_far * total (drop i extents) ≡ so_far * get_or extents i 0 * total (drop (i + 1) extents)
total_more so_far extents i h = ap (λ t. so_far * t) (at_drop_more total extents i 0 h) ∙ sym (mul_assoc so_far (get_or extents i 0) (total (drop (i + 1) extents)))

-- the same of a span
pub span_more : (so_far : ℕ) (extents : List ℕ) (i : ℕ) → i < length extents → so_far * span (drop i extents) ≡ so_far * max (get_or extents i 0) 1 * span (drop (i + 1) extents)
span_more so_far extents i h = ap (λ t. so_far * t) (at_drop_more span extents i 0 h) ∙ sym (mul_assoc so_far (max (get_or extents i 0) 1) (span (drop (i + 1) extents)))

-- a product with what is left of a span is no smaller
pub span_above : (so_far : ℕ) (extents : List ℕ) → so_far ≤ so_far * span extents
span_above so_far extents = omega (arith, mul-le-mul_left so_far (span_pos extents))

-- the total so far, with the next extent, is within what the span is within
pub total_step : (so_far bound : ℕ) (extents : List ℕ) (i : ℕ) → i < length extents → so_far * span (drop i extents) ≤ bound → so_far * get_or extents i 0 * span (drop (i + 1) extents) ≤ bound
total_step so_far bound extents i h within =
    let e = get_or extents i 0 in
    let rest = span (drop (i + 1) extents) in
    let raised : e ≤ max e 1 = omega arith in
    let more : so_far * e * rest ≤ so_far * max e 1 * rest = mul-le-mul (mul-le-mul_left so_far raised) (omega arith) in
    omega (arith, more, span_more so_far extents i h)

-- what a shape says of its span
pub span_within : (extents : List ℕ) → IsTrue (is_shape extents) → span extents ≤ greatest_extent
span_within extents h = grind (arith, nat_tests)

-- one extent too large makes no shape
pub extent_beyond : (extents : List ℕ) (i : ℕ) → i < length extents → greatest_extent < get_or extents i 0 → are_small extents ≡ false
extent_beyond extents i h large =
    let test : list_all (λ extent. nat_le extent greatest_extent) extents ≡ false =
    list_all_at (λ extent. nat_le extent greatest_extent) extents i 0 h (grind (arith, nat_tests)) in
    grind (arith, nat_tests)

-- a product that is too large with one more extent makes no shape
pub span_beyond : (so_far : ℕ) (extents : List ℕ) (i : ℕ) → so_far * span (drop i extents) ≡ span extents → i < length extents → greatest_extent < max (get_or extents i 0) 1 * so_far → are_small extents ≡ false
span_beyond so_far extents i e h large =
    let above : so_far * max (get_or extents i 0) 1 ≤ so_far * max (get_or extents i 0) 1 * span (drop (i + 1) extents) = span_above _ _ in
    let beyond : greatest_extent < span extents = omega (arith, span_more so_far extents i h) in
    grind (arith, nat_tests)

-- each extent has passed, and so the span is what was counted
pub span_passed : (so_far : ℕ) (extents : List ℕ) (i : ℕ) → length extents ≤ i → so_far * span (drop i extents) ≡ span extents → so_far ≤ greatest_extent → list_all (λ extent. nat_le extent greatest_extent) (drop i extents) ≡ list_all (λ extent. nat_le extent greatest_extent) extents → are_small extents ≡ true
span_passed so_far extents i h e within all =
    let ended = drop_of_length-le extents h in
    let one : so_far * span [] ≡ span extents = rw ended at e in
    let none : true ≡ list_all (λ extent. nat_le extent greatest_extent) extents = rw ended at all in
    grind (arith, nat_tests)

-- a product so far that keeps what it comes to is within the span
pub span_step : (so_far : ℕ) (extents : List ℕ) (i : ℕ) → i < length extents → so_far * span (drop i extents) ≡ span extents → so_far * max (get_or extents i 0) 1 ≤ span extents
span_step so_far extents i h e =
    let above = span_above (so_far * max (get_or extents i 0) 1) (drop (i + 1) extents) in
    omega (arith, above, span_more so_far extents i h)

-- fewer extents have no greater span
pub span_drop : (n : ℕ) (extents : List ℕ) → span (drop n extents) ≤ span extents
span_drop zero extents = omega arith
span_drop (suc n) [] = omega arith
span_drop (suc n) (extent ∷ extents) =
    let first : 1 ≤ max extent 1 = omega arith in
    let more : 1 * span extents ≤ max extent 1 * span extents = mul-le-mul first (omega arith) in
    omega (arith, more, span_drop n extents)

-- what a shape says of its total
pub total_within : (extents : List ℕ) → IsTrue (is_shape extents) → total extents ≤ greatest_extent
total_within extents h = omega (arith, span_within extents h, total_least extents)
