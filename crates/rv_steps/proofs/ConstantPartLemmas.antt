-- The upper part of a number and what is left, and the words that lines make of them.
use Rattle.std.proofs.Common.{◌≡◌, ℕ, ◌+◌, ◌-◌, ◌*◌, ◌%◌, ◌^◌, ◌<◌, ◌≤◌, ℤ, pos, negsuc, ◌+ℤ◌, ◌*ℤ◌, ap, ◌∙◌, arith}
use Rattle.std.proofs.lemmas.Int.{ints, to_z-of_z, fits_signed_from_abs}
use Rattle.std.specs.Prelude.{FitsSigned, unsigned_abs}
use Rattle.std.specs.Int.{cast_signed, cast_unsigned, int_shr, w32, w64}
use Rattle.rv_line.specs.declared.line.Imm.{Imm}
use Rattle.rv_line.specs.Fits.{IsImmediate}
use Rattle.rv_steps.specs.Constants.{lower_of, upper_of}
use Rattle.rv_steps.specs.Effects.{immediate_value, low_half_value, sign_extension, sum_of, upper_value, word_of}
use Rattle.rv_steps.specs.Wrapped.{residue, wrapped}
use Rattle.rv_steps.proofs.WrappedLemmas.{word_of-wrapped, wrapped-multiple, wrapped-sum}

-- a shift down leaves less than 4096
shifted : (y : ℤ) → (r : ℕ) × (r < 4096) × (y ≡ pos 4096 *ℤ int_shr y 12 +ℤ pos r)
shifted (pos n) = (n % 4096, omega arith, omega (arith, ints))
shifted (negsuc n) = (4095 - n % 4096, omega arith, omega (arith, ints))

pub lower-small : (z : ℤ) → IsImmediate (lower_of z)
lower-small z = let s = shifted (z +ℤ pos 2048) in record { low = omega (arith, ints); high = omega (arith, ints) }

pub upper-below : (z : ℤ) (most : ℕ) → unsigned_abs z ≤ 4096 * most → unsigned_abs (upper_of z) ≤ most
upper-below z most h = let s = shifted (z +ℤ pos 2048) in omega (arith, ints)

pub whole : (z : ℤ) → pos 4096 *ℤ upper_of z +ℤ lower_of z ≡ z
whole z = omega (arith, ints)

-- the low 32 bits of a number, as a word that is extended by their sign
low_bits : (z : ℤ) → FitsSigned w32 z → wrapped z % 2 ^ 32 ≡ cast_unsigned w32 z
low_bits (pos n) fits = let h : n < 2 ^ 31 = fits.sfits in omega arith
low_bits (negsuc n) fits = let h : n < 2 ^ 31 = fits.sfits in omega arith

low-half : (z : ℤ) → FitsSigned w32 z → word_of (cast_signed w32 (wrapped z % 2 ^ 32)) ≡ wrapped z
low-half z fits =
    let h : unsigned_abs z ≤ 2 ^ 31 = omega (arith, ints) in
    rw (low_bits z fits, to_z-of_z w32 z fits) (word_of-wrapped z (fits_signed_from_abs w64 z (omega arith)))

-- the 32 bits that `lui` sets
low_part : (m : ℕ) → m < 2 ^ 32 → sign_extension w32 m % 2 ^ 32 ≡ m
low_part m small = grind (arith, ints)

upper_part : (u : ℤ) → residue 1048576 u * 4096 ≡ (wrapped u * 4096) % 2 ^ 64 % 2 ^ 32
upper_part (pos n) = omega arith
upper_part (negsuc n) = omega arith

pub residue-below : (u : ℤ) → residue 1048576 u < 1048576
residue-below (pos n) = omega arith
residue-below (negsuc n) = omega arith

upper_bits : (u : ℤ) → upper_value (residue 1048576 u) % 2 ^ 32 ≡ wrapped (pos 4096 *ℤ u) % 2 ^ 32
upper_bits u =
    let b = residue-below u in
    low_part (residue 1048576 u * 4096) (omega arith) ∙ upper_part u ∙ ap (λ (m : ℕ). m % 2 ^ 32) (wrapped-multiple 4096 u)

sum_of_halves : (a b c d : ℕ) → a % 2 ^ 32 ≡ b % 2 ^ 32 → (b + c) % 2 ^ 64 ≡ d → (a % 2 ^ 32 + c % 2 ^ 32) % 2 ^ 32 % 2 ^ 32 ≡ d % 2 ^ 32
sum_of_halves a b c d same sum = omega arith

lower-word : (z : ℤ) → word_of (lower_of z) ≡ wrapped (lower_of z)
lower-word z = let s = lower-small z in word_of-wrapped (lower_of z) (fits_signed_from_abs w64 (lower_of z) (omega (arith, ints)))

parts-sum : (z : ℤ) → (wrapped (pos 4096 *ℤ upper_of z) + wrapped (lower_of z)) % 2 ^ 64 ≡ wrapped z
parts-sum z = wrapped-sum (pos 4096 *ℤ upper_of z) (lower_of z) ∙ ap wrapped (whole z)

-- what `lui` and `addiw` make
pub two-lines : (z : ℤ) → FitsSigned w32 z → immediate_value Imm.Addiw (upper_value (residue 1048576 (upper_of z))) (lower_of z) ≡ wrapped z
two-lines z fits =
    let low = lower-word z in
    let sum = sum_of_halves (upper_value (residue 1048576 (upper_of z))) (wrapped (pos 4096 *ℤ upper_of z)) (wrapped (lower_of z)) (wrapped z) (upper_bits (upper_of z)) (parts-sum z) in
    ap (λ (b : ℕ). low_half_value sum_of (upper_value (residue 1048576 (upper_of z))) b) low
    ∙ ap (λ (m : ℕ). word_of (cast_signed w32 m)) sum
    ∙ low-half z fits

-- what `slli` and `addi` make of the upper part
pub shift-added : (z : ℤ) → immediate_value Imm.Addi (immediate_value Imm.Slli (wrapped (upper_of z)) (pos 12)) (lower_of z) ≡ wrapped z
shift-added z =
    ap (λ (b : ℕ). (immediate_value Imm.Slli (wrapped (upper_of z)) (pos 12) + b) % 2 ^ 64) (lower-word z)
    ∙ ap (λ (a : ℕ). (a + wrapped (lower_of z)) % 2 ^ 64) (wrapped-multiple 4096 (upper_of z))
    ∙ parts-sum z
