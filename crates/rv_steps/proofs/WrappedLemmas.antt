-- Whole numbers as words: sums and multiples, and the signed numbers of 64 and 32 bits.
use Rattle.std.proofs.Common.{◌≡◌, ℕ, suc, ◌+◌, ◌-◌, ◌*◌, ◌/◌, ◌%◌, ◌^◌, ◌<◌, ℤ, pos, negsuc, ◌+ℤ◌, ◌*ℤ◌, sym, ap, ◌∙◌, arith}
use Rattle.std.proofs.Math.IntN.{neg_ℤ}
use Rattle.std.proofs.Math.Nat.{mul-add, mul_comm, mul_left_comm}
use Rattle.std.proofs.lemmas.Int.{ints}
use Rattle.std.proofs.lemmas.Nat.{mul-mod}
use Rattle.std.specs.Prelude.{FitsSigned}
use Rattle.std.specs.Int.{w64}
use Rattle.rv_steps.specs.Effects.{word_of}
use Rattle.rv_steps.specs.Wrapped.{wrapped}

pub wrapped-natural : (n : ℕ) → n < 2 ^ 64 → wrapped (pos n) ≡ n
wrapped-natural n small = omega arith

pub wrapped-below : (z : ℤ) → wrapped z < 2 ^ 64
wrapped-below (pos n) = omega arith
wrapped-below (negsuc n) = omega arith

pub word_of-wrapped : (z : ℤ) → FitsSigned w64 z → word_of z ≡ wrapped z
word_of-wrapped (pos n) fits = let h : n < 2 ^ 63 = fits.sfits in omega arith
word_of-wrapped (negsuc n) fits = let h : n < 2 ^ 63 = fits.sfits in omega arith

-- z and a differ by a multiple of 2^64
pub wrapped-is : (z : ℤ) (a t u : ℕ) → z +ℤ pos (2 ^ 64 * t) ≡ pos (a + 2 ^ 64 * u) → wrapped z ≡ a % 2 ^ 64
wrapped-is (pos n) a t u same = omega (arith, ints)
wrapped-is (negsuc n) a t u same = omega (arith, ints)

pub wrapped-sum : (x y : ℤ) → (wrapped x + wrapped y) % 2 ^ 64 ≡ wrapped (x +ℤ y)
wrapped-sum (pos a) (pos b) = omega arith
wrapped-sum (pos a) (negsuc b) = sym (wrapped-is (pos a +ℤ negsuc b) (a % 2 ^ 64 + (2 ^ 64 - suc (b % 2 ^ 64))) (b / 2 ^ 64 + 1) (a / 2 ^ 64) (omega (arith, ints)))
wrapped-sum (negsuc a) (pos b) = sym (wrapped-is (negsuc a +ℤ pos b) ((2 ^ 64 - suc (a % 2 ^ 64)) + b % 2 ^ 64) (a / 2 ^ 64 + 1) (b / 2 ^ 64) (omega (arith, ints)))
wrapped-sum (negsuc a) (negsuc b) = omega arith

neg-wrapped : (b a t : ℕ) → b + a ≡ 2 ^ 64 * t → wrapped (neg_ℤ (pos b)) ≡ a % 2 ^ 64
neg-wrapped b a t sum = wrapped-is (neg_ℤ (pos b)) a t 0 (omega (arith, ints))

pub wrapped-multiple : (k : ℕ) (x : ℤ) → (wrapped x * k) % 2 ^ 64 ≡ wrapped (pos k *ℤ x)
wrapped-multiple k (pos n) =
    let again : n % 2 ^ 64 % 2 ^ 64 ≡ n % 2 ^ 64 = omega arith in
    mul-mod (n % 2 ^ 64) k (2 ^ 64) ∙ rw again (sym (mul-mod n k (2 ^ 64))) ∙ ap (λ (m : ℕ). m % 2 ^ 64) (mul_comm n k)
wrapped-multiple k (negsuc n) =
    let rest = wrapped (negsuc n) in
    let turns = n / 2 ^ 64 + 1 in
    let whole : suc n + rest ≡ 2 ^ 64 * turns = omega arith in
    let sum : k * suc n + rest * k ≡ 2 ^ 64 * (k * turns) =
    ap (λ (m : ℕ). k * suc n + m) (mul_comm rest k) ∙ sym (mul-add k (suc n) rest) ∙ ap (λ (m : ℕ). k * m) whole ∙ mul_left_comm k (2 ^ 64) turns in
    sym (neg-wrapped (k * suc n) (rest * k) (k * turns) sum)
