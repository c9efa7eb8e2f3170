-- A number, as it is printed, is a spelling of itself, and has no control character.
use Rattle.std.proofs.Common.{◌≡◌, ℕ, suc, ◌<◌, ◌≤◌, ◌^◌, List, [], ◌∷◌, refl, ap, arith}
use Rattle.std.specs.Prelude.{ℤ, pos, negsuc, false, cond, drop, slice_index}
use Rattle.std.specs.Fmt.{decimal, signed_decimal}
use Rattle.std.specs.Int.Signed.{mag}
use Rattle.std.specs.Str.Parse.{IsNumeral, AllDigits, starts_with_minus, without_leading_plus}
use Rattle.std.proofs.lemmas.Bool.{ne_eqb, le-leb}
use Rattle.std.proofs.lemmas.Fmt.{decimal_is_IsNumeral}
use Rattle.std.proofs.lemmas.Str.Parse.{digit_at, digit_from_value}
use Rattle.std.proofs.lemmas.Int.{ints}
use Rattle.rv_line.specs.Fits.{IsImmediate, IsShift, Accepts}
use Rattle.rv_line.specs.Numbers.{IsNumber, IsSignedNumber}
use Rattle.rv_line.specs.declared.line.Imm.{Imm}
use Rattle.rv_line.specs.declared.line.Imm.TheVariants.{Slli, Srli, Srai, Slliw, Srliw, Sraiw}
use Rattle.rv_line.proofs.LinesLemmas.{IsPlain}

-- what is printed of a number is a number
pub IsNumber-decimal : (n : ℕ) → n < 2 ^ 64 → IsNumber (decimal n) n
IsNumber-decimal n small =
    let known = decimal_is_IsNumeral n small in
    record { digits = known.0; value = known.1 }

not_minus : (text : List ℕ) → IsNumeral 10 text → starts_with_minus text ≡ false
not_minus text numeral =
    let first = digit_at text 0 numeral.1 numeral.0 in
    ne_eqb (slice_index text 0) 45 (λ e. omega arith)

not_plus : (text : List ℕ) → IsNumeral 10 text → without_leading_plus text ≡ text
not_plus text numeral =
    let first = digit_at text 0 numeral.1 numeral.0 in
    ap (λ b. drop (cond b 1 0) text) (ne_eqb (slice_index text 0) 43 (λ e. omega arith))

pub IsSignedNumber-decimal : (n : ℕ) → n < 2 ^ 64 → IsSignedNumber (decimal n) (pos n)
IsSignedNumber-decimal n small =
    let known = decimal_is_IsNumeral n small in
    let plain = not_minus (decimal n) known.0 in
    record { digits = rw plain known.0; value = rw (plain, not_plus (decimal n) known.0) (ap pos known.1) }

pub IsSignedNumber-signed_decimal : (z : ℤ) → mag z < 2 ^ 63 → IsSignedNumber (signed_decimal z) z
IsSignedNumber-signed_decimal (pos n) small = IsSignedNumber-decimal n (omega arith)
IsSignedNumber-signed_decimal (negsuc n) small =
    let known = decimal_is_IsNumeral (suc n) (omega arith) in
    record { digits = known.0; value = rw known.1 refl }

digits_plain : (text : List ℕ) → AllDigits 10 text → IsPlain text
digits_plain [] all = record { plain = refl }
digits_plain (byte ∷ bytes) all =
    let range = digit_from_value byte all.0 in
    record { plain = rw (le-leb 32 byte (omega arith)) (digits_plain bytes all.1).plain }

pub IsPlain-decimal : (n : ℕ) → n < 2 ^ 64 → IsPlain (decimal n)
IsPlain-decimal n small = digits_plain (decimal n) (decimal_is_IsNumeral n small).0.1

pub IsPlain-signed_decimal : (z : ℤ) → mag z < 2 ^ 63 → IsPlain (signed_decimal z)
IsPlain-signed_decimal (pos n) small = IsPlain-decimal n (omega arith)
IsPlain-signed_decimal (negsuc n) small = record { plain = (IsPlain-decimal (suc n) (omega arith)).plain }

-- immediates are small numbers
pub mag_small : (z : ℤ) → IsImmediate z → mag z < 2 ^ 63
mag_small (pos n) small = let high = small.high in omega (arith, ints)
mag_small (negsuc n) small = let low = small.low in omega (arith, ints)

mag_shift : (most : ℕ) (z : ℤ) → most ≤ 63 → IsShift (pos most) z → mag z < 2 ^ 63
mag_shift most (pos n) bound shift = let high = shift.high in omega (arith, ints)
mag_shift most (negsuc n) bound shift = let low = shift.low in omega (arith, ints)

pub mag_imm : (code : Imm) (z : ℤ) → Accepts code z → mag z < 2 ^ 63
mag_imm Slli z known = mag_shift 63 z (omega arith) known
mag_imm Srli z known = mag_shift 63 z (omega arith) known
mag_imm Srai z known = mag_shift 63 z (omega arith) known
mag_imm Slliw z known = mag_shift 31 z (omega arith) known
mag_imm Srliw z known = mag_shift 31 z (omega arith) known
mag_imm Sraiw z known = mag_shift 31 z (omega arith) known
mag_imm other z known = mag_small z known
