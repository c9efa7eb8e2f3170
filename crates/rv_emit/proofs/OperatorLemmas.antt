-- What the mnemonics give of the words of two numbers is the word of what the operator gives of them.
use Rattle.std.proofs.Common.{◌≡◌, ◌≢◌, ℕ, zero, suc, ◌+◌, ◌-◌, ◌*◌, ◌/◌, ◌%◌, ◌^◌, ◌<◌, ◌≤◌, Bool, true, false, not, ℤ, pos, negsuc, refl, sym, ap, ◌∙◌, arith}
use Rattle.std.proofs.Math.Nat.{mod-lt, mod-le, div-le_self}
use Rattle.std.proofs.lemmas.Bool.{both_ways, true≢false}
use Rattle.std.proofs.lemmas.Bool.Decides.{Decides-int_eq, nat_tests}
use Rattle.std.proofs.lemmas.Int.{ints, of_z-to_z, to_z-of_z}
use Rattle.std.proofs.Math.Facts.{sfits_to_z}
use Rattle.std.proofs.lemmas.Nat.{and_mask, or_lt, xor_lt}
use Rattle.std.specs.Int.{w64, cast_signed, cast_unsigned, from_bool, int_shr}
use Rattle.std.specs.Int.Bits.{and_lt, xor_add_and, xor_zero_r}
use Rattle.std.specs.Ordering.{int_eq}
use Rattle.std.specs.Prelude.{if◌then◌else◌, ◌==◌, nat_lt, int_lt, int_le, int_div, int_rem, unsigned_abs, neg_ℤ, bit_and, bit_or, bit_xor}
use Rattle.moa_tree.specs.Operators.{apply, apply_unary, truth}
use Rattle.moa_tree.specs.declared.operator.Op.TheVariants as op
use Rattle.moa_tree.specs.declared.operator.Unary.TheVariants as unary
use Rattle.loop_ir.specs.Fitting.{Fits64}
use Rattle.rv_line.specs.declared.line.Imm.{Imm}
use Rattle.rv_line.specs.declared.line.Three.{Three}
use Rattle.rv_steps.specs.Effects.{immediate_value, signed_value, three_value, word_of}
use Rattle.rv_steps.specs.Wrapped.{wrapped}

-- ---- words and signed numbers

pub word_is : (z : ℤ) → Fits64 z → wrapped z ≡ word_of z
word_is (pos n) fits = let h : n < 2 ^ 63 = fits.sfits in omega arith
word_is (negsuc n) fits = let h : n < 2 ^ 63 = fits.sfits in omega arith

pub word_below : (z : ℤ) → wrapped z < 2 ^ 64
word_below (pos n) = omega arith
word_below (negsuc n) = omega arith

pub value_is : (z : ℤ) → Fits64 z → signed_value (wrapped z) ≡ z
value_is z fits = rw (word_is z fits) (to_z-of_z w64 z fits)

signed_fits : (n : ℕ) → n < 2 ^ 64 → Fits64 (cast_signed w64 n)
signed_fits n below = sfits_to_z {w = w64} (record { fits = below })

-- the word of a signed number that was made of a word
pub signed_word : (n : ℕ) → n < 2 ^ 64 → wrapped (cast_signed w64 n) ≡ n
signed_word n below = word_is (cast_signed w64 n) (signed_fits n below) ∙ of_z-to_z w64 n below

-- ---- sums, differences and products

pub add_is : (x y : ℤ) → Fits64 x → Fits64 y → three_value Three.Add (wrapped x) (wrapped y) ≡ wrapped (apply op.Add x y)
add_is x y f g = rw (word_is x f, word_is y g) (sym (signed_word ((word_of x + word_of y) % 2 ^ 64)
    (mod-lt (word_of x + word_of y) (omega arith))))

pub sub_is : (x y : ℤ) → Fits64 x → Fits64 y → three_value Three.Sub (wrapped x) (wrapped y) ≡ wrapped (apply op.Sub x y)
sub_is x y f g =
    rw (word_is x f, word_is y g) (sym (signed_word ((word_of x + (2 ^ 64 - word_of y)) % 2 ^ 64)
    (mod-lt (word_of x + (2 ^ 64 - word_of y)) (omega arith))))

pub mul_is : (x y : ℤ) → Fits64 x → Fits64 y → three_value Three.Mul (wrapped x) (wrapped y) ≡ wrapped (apply op.Mul x y)
mul_is x y f g = rw (word_is x f, word_is y g) (sym (signed_word ((word_of x * word_of y) % 2 ^ 64)
    (mod-lt (word_of x * word_of y) (omega arith))))

-- ---- bits

pub and_is : (x y : ℤ) → Fits64 x → Fits64 y → three_value Three.And (wrapped x) (wrapped y) ≡ wrapped (apply op.And x y)
and_is x y f g =
    let p = word_below x in
    let q = word_below y in
    sym (rw (← word_is x f, ← word_is y g) (signed_word (bit_and (wrapped x) (wrapped y)) (and_lt 64 (wrapped x) (wrapped y) p q)))

pub or_is : (x y : ℤ) → Fits64 x → Fits64 y → three_value Three.Or (wrapped x) (wrapped y) ≡ wrapped (apply op.Or x y)
or_is x y f g =
    let p = word_below x in
    let q = word_below y in
    sym (rw (← word_is x f, ← word_is y g) (signed_word (bit_or (wrapped x) (wrapped y)) (or_lt 64 (wrapped x) (wrapped y) p q)))

pub xor_is : (x y : ℤ) → Fits64 x → Fits64 y → three_value Three.Xor (wrapped x) (wrapped y) ≡ wrapped (apply op.Xor x y)
xor_is x y f g =
    let p = word_below x in
    let q = word_below y in
    sym (rw (← word_is x f, ← word_is y g) (signed_word (bit_xor (wrapped x) (wrapped y)) (xor_lt 64 (wrapped x) (wrapped y) p q)))

-- ---- comparisons

truth_is : (b : Bool) → from_bool b ≡ wrapped (truth b)
truth_is true = refl
truth_is false = refl

turned : (b : Bool) → from_bool (nat_lt (from_bool b) 1) ≡ wrapped (truth (not b))
turned true = refl
turned false = refl

pub lt_is : (x y : ℤ) → Fits64 x → Fits64 y → three_value Three.Slt (wrapped x) (wrapped y) ≡ wrapped (apply op.Lt x y)
lt_is x y f g = rw (value_is x f, value_is y g) (truth_is (int_lt x y))

le_turned : (x y : ℤ) → int_le x y ≡ not (int_lt y x)
le_turned (pos a) (pos b) = grind (arith, nat_tests)
le_turned (pos a) (negsuc b) = refl
le_turned (negsuc a) (pos b) = refl
le_turned (negsuc a) (negsuc b) = grind (arith, nat_tests)

pub le_is : (x y : ℤ) → Fits64 x → Fits64 y → immediate_value Imm.Sltiu (three_value Three.Slt (wrapped y) (wrapped x)) (pos 1) ≡ wrapped
    (apply op.Le x y)
le_is x y f g = rw (value_is x f, value_is y g, le_turned x y) (turned (int_lt y x))

-- a difference is 0 where the words are equal, and so the numbers
difference_zero : (a b : ℕ) → a < 2 ^ 64 → b < 2 ^ 64 → a ≡ b → (a + (2 ^ 64 - b)) % 2 ^ 64 ≡ 0
difference_zero a b p q same = omega arith

difference_some : (a b : ℕ) → a < 2 ^ 64 → b < 2 ^ 64 → (a ≢ b) → 0 < (a + (2 ^ 64 - b)) % 2 ^ 64
difference_some a b p q other = omega arith

same_words : (x y : ℤ) → Fits64 x → Fits64 y → wrapped x ≡ wrapped y → x ≡ y
same_words x y f g same = sym (value_is x f) ∙ ap (λ (n : ℕ). signed_value n) same ∙ value_is y g

none_is : (d : ℕ) (b : Bool) → (b ≡ true → d ≡ 0) → (b ≡ false → 0 < d)
    → (from_bool (nat_lt d 1) ≡ wrapped (truth b)) × (from_bool (nat_lt 0 d) ≡ wrapped (truth (not b)))
none_is d true none some = rw (none refl) (refl, refl)
none_is d false none some = some_is d (some refl)
  where
    some_is : (d : ℕ) → 0 < d → (from_bool (nat_lt d 1) ≡ 0) × (from_bool (nat_lt 0 d) ≡ 1)
    some_is d h = (grind (arith, nat_tests), grind (arith, nat_tests))

equal_is : (x y : ℤ) → Fits64 x → Fits64 y → (from_bool (nat_lt (three_value Three.Sub (wrapped x) (wrapped y)) 1) ≡ wrapped
    (truth (int_eq x y))) × (from_bool (nat_lt 0 (three_value Three.Sub (wrapped x) (wrapped y))) ≡ wrapped (truth (not (int_eq x y))))
equal_is x y f g =
    let d = Decides-int_eq x y in
    none_is (three_value Three.Sub (wrapped x) (wrapped y)) (int_eq x y)
    (λ same. difference_zero (wrapped x) (wrapped y) (word_below x) (word_below y) (ap (λ (z : ℤ). wrapped z) (d.0 same)))
    (λ other. difference_some (wrapped x) (wrapped y) (word_below x) (word_below y)
    (λ same. both_ways (int_eq x y) other (d.1 (same_words x y f g same))))

pub eq_is : (x y : ℤ) → Fits64 x → Fits64 y → immediate_value Imm.Sltiu (three_value Three.Sub (wrapped x) (wrapped y)) (pos 1) ≡ wrapped
    (apply op.Eq x y)
eq_is x y f g = (equal_is x y f g).0

pub ne_is : (x y : ℤ) → Fits64 x → Fits64 y → three_value Three.Sltu 0 (three_value Three.Sub (wrapped x) (wrapped y)) ≡ wrapped
    (apply op.Ne x y)
ne_is x y f g = (equal_is x y f g).1

-- ---- quotients and remainders

neg_below : (n : ℕ) → word_of (neg_ℤ (pos n)) < 2 ^ 64
neg_below zero = omega arith
neg_below (suc n) = omega arith

quotient_below : (x y : ℤ) → Fits64 x → word_of (int_div x y) < 2 ^ 64
quotient_below (pos a) (pos b) fits = let h : a < 2 ^ 63 = fits.sfits in let q = div-le_self a b in omega arith
quotient_below (pos a) (negsuc b) fits = neg_below (a / suc b)
quotient_below (negsuc a) (pos b) fits = neg_below (suc a / b)
quotient_below (negsuc a) (negsuc b) fits = let h : a < 2 ^ 63 = fits.sfits in let q = div-le_self (suc a) (suc b) in omega arith

neg_fits : (n : ℕ) → n ≤ 2 ^ 63 → Fits64 (neg_ℤ (pos n))
neg_fits zero small = record { sfits = omega arith }
neg_fits (suc n) small = record { sfits = omega arith }

remainder_fits : (x y : ℤ) → Fits64 x → Fits64 (int_rem x y)
remainder_fits (pos a) y fits = let h : a < 2 ^ 63 = fits.sfits in let q = mod-le a (unsigned_abs y) in record { sfits = omega arith }
remainder_fits (negsuc a) y fits = let h : a < 2 ^ 63 = fits.sfits in let q = mod-le (suc a) (unsigned_abs y) in neg_fits
    (suc a % unsigned_abs y) (omega arith)

word_zero : (y : ℤ) → Fits64 y → (word_of y == 0) ≡ int_eq y (pos 0)
word_zero (pos n) fits = grind (arith, nat_tests)
word_zero (negsuc n) fits = let h : n < 2 ^ 63 = fits.sfits in grind (arith, nat_tests)

quotient_at : (b : Bool) (x y : ℤ) → Fits64 x → (if b then 2 ^ 64 - 1 else word_of (int_div x y)) ≡ wrapped
    (if b then negsuc 0 else cast_signed w64 (cast_unsigned w64 (int_div x y)))
quotient_at true x y f = refl
quotient_at false x y f = sym (signed_word (word_of (int_div x y)) (quotient_below x y f))

pub quotient_is : (x y : ℤ) → Fits64 x → Fits64 y → three_value Three.Div (wrapped x) (wrapped y) ≡ wrapped (apply op.Quot x y)
quotient_is x y f g = rw (value_is x f, value_is y g, word_is y g, word_zero y g) (quotient_at (int_eq y (pos 0)) x y f)

remainder_at : (b : Bool) (x y : ℤ) → Fits64 x → (if b then wrapped x else word_of (int_rem x y)) ≡ wrapped (if b then x else int_rem x y)
remainder_at true x y f = refl
remainder_at false x y f = sym (word_is (int_rem x y) (remainder_fits x y f))

pub remainder_is : (x y : ℤ) → Fits64 x → Fits64 y → three_value Three.Rem (wrapped x) (wrapped y) ≡ wrapped (apply op.Rem x y)
remainder_is x y f g = rw (value_is x f, value_is y g, word_is y g, word_zero y g) (remainder_at (int_eq y (pos 0)) x y f)

-- ---- the greater and the lesser of two, where those that are equal may stand for one another

neither : (x y : ℤ) → int_lt x y ≡ false → int_lt y x ≡ false → x ≡ y
neither x y h k = grind (arith, ints)

not_both : (x y : ℤ) → int_lt x y ≡ true → int_lt y x ≡ false
not_both x y h = grind (arith, ints)

turned_at : (b d : Bool) (x y : ℤ) → (b ≡ false → d ≡ false → x ≡ y) → (b ≡ true → d ≡ false) → (if b then y else x) ≡ (if d then x else y)
turned_at true true x y same less = absurd (true≢false (less refl))
turned_at true false x y same less = refl
turned_at false true x y same less = refl
turned_at false false x y same less = same refl refl

pub max_turned : (x y : ℤ) → (if int_lt x y then y else x) ≡ (if int_lt y x then x else y)
max_turned x y = turned_at (int_lt x y) (int_lt y x) x y (neither x y) (not_both x y)

pub min_turned : (x y : ℤ) → (if int_lt x y then x else y) ≡ (if int_lt y x then y else x)
min_turned x y = sym (turned_at (int_lt y x) (int_lt x y) x y (λ one other. neither x y other one) (not_both y x))

-- ---- one operand

pub neg_is : (x : ℤ) → Fits64 x → three_value Three.Sub 0 (wrapped x) ≡ wrapped (apply_unary unary.Neg x)
neg_is x f =
    let e : 0 + (2 ^ 64 - word_of x) ≡ 2 ^ 64 - word_of x = omega arith in
    rw (word_is x f, e) (sym (signed_word ((2 ^ 64 - word_of x) % 2 ^ 64) (mod-lt (2 ^ 64 - word_of x) (omega arith))))

inverted : (a : ℕ) → a < 2 ^ 64 → bit_xor a (2 ^ 64 - 1) ≡ 2 ^ 64 - 1 - a
inverted a below =
    let both = xor_add_and a (2 ^ 64 - 1) in
    let masked = and_mask a 64 in
    omega arith

pub not_is : (x : ℤ) → Fits64 x → immediate_value Imm.Xori (wrapped x) (negsuc 0) ≡ wrapped (apply_unary unary.Not x)
not_is x f =
    inverted (wrapped x) (word_below x)
    ∙ rw (word_is x f) (sym (signed_word (2 ^ 64 - 1 - word_of x) (omega arith)))

-- a magnitude is the number xor its sign, less its sign
abbrev pub sign_of : ℤ → ℕ
sign_of (pos n) = 0
sign_of (negsuc n) = 2 ^ 64 - 1

shifted_sign : (x : ℤ) → Fits64 x → word_of (int_shr x 63) ≡ sign_of x
shifted_sign (pos n) fits = let h : n < 2 ^ 63 = fits.sfits in omega arith
shifted_sign (negsuc n) fits = let h : n < 2 ^ 63 = fits.sfits in omega arith

pub sign_is : (x : ℤ) → Fits64 x → immediate_value Imm.Srai (wrapped x) (pos 63) ≡ sign_of x
sign_is x f = rw (value_is x f) (shifted_sign x f)

pub abs_is : (x : ℤ) → Fits64 x → three_value Three.Sub (three_value Three.Xor (wrapped x) (sign_of x)) (sign_of x) ≡ wrapped
    (apply_unary unary.Abs x)
abs_is (pos n) f =
    let h : n < 2 ^ 63 = f.sfits in
    let e : (n % 2 ^ 64 + (2 ^ 64 - 0)) % 2 ^ 64 ≡ n = omega arith in
    rw (xor_zero_r (n % 2 ^ 64), e) (sym (signed_word n (omega arith)))
abs_is (negsuc n) f =
    let h : n < 2 ^ 63 = f.sfits in
    let e : (2 ^ 64 - 1 - (2 ^ 64 - suc (n % 2 ^ 64)) + (2 ^ 64 - (2 ^ 64 - 1))) % 2 ^ 64 ≡ suc n = omega arith in
    rw (inverted (2 ^ 64 - suc (n % 2 ^ 64)) (omega arith)) (e ∙ sym (signed_word (suc n) (omega arith)))
