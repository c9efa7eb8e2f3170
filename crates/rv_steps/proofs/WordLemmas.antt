-- Every mnemonic gives a word, from words.
use Rattle.std.proofs.Common.{ℕ, zero, suc, ◌+◌, ◌-◌, ◌*◌, ◌/◌, ◌%◌, ◌^◌, ◌<◌, ◌≤◌, Bool, true, false, ℤ, pos, negsuc, neg_ℤ, ◌*ℤ◌, arith}
use Rattle.std.proofs.Math.Nat.{mod-lt, mod-le, div-le_self, mul-le-mul}
use Rattle.std.proofs.lemmas.Int.{unsigned_abs-mul, ints}
use Rattle.std.specs.Int.Bits.{and_lt, or_lt, xor_lt}
use Rattle.std.specs.Prelude.{if◌then◌else◌, ◌==◌, nat_lt, unsigned_abs, int_lt, int_div, int_rem, FitsSigned}
use Rattle.std.specs.Int.{Width, w8, w16, w32, cast_signed, int_shr, from_bool}
use mir.Val.{bits}
use Rattle.rv_line.specs.declared.line.Three.{Three}
use Rattle.rv_line.specs.declared.line.Imm.{Imm}
use Rattle.rv_line.specs.declared.line.Load.{Load}
use Rattle.rv_steps.specs.Effects.{signed_value, word_of, sign_extension, sum_of, difference_of, product_of, left_shift, right_shift, signed_right_shift, quotient_of, quotient_unsigned, remainder_of, remainder_unsigned, upper_half, upper_value, low_half_value, three_value, immediate_value, load_width, load_value}

word_of-below : (z : ℤ) → unsigned_abs z < 2 ^ 64 → word_of z < 2 ^ 64
word_of-below (pos n) h = h
word_of-below (negsuc n) h = omega arith

word_of-neg : (n : ℕ) → word_of (neg_ℤ (pos n)) < 2 ^ 64
word_of-neg zero = omega arith
word_of-neg (suc n) = omega arith

signed_value-size : (a : ℕ) → a < 2 ^ 64 → unsigned_abs (signed_value a) ≤ 2 ^ 63
signed_value-size a h = grind (arith, ints)

chosen : (b : Bool) (x y : ℕ) → x < 2 ^ 64 → y < 2 ^ 64 → (if b then x else y) < 2 ^ 64
chosen true x y p q = p
chosen false x y p q = q

flag-below : (b : Bool) → from_bool b < 2 ^ 64
flag-below true = omega arith
flag-below false = omega arith

shr-below : (z : ℤ) (m : ℕ) → unsigned_abs z < 2 ^ 64 → word_of (int_shr z m) < 2 ^ 64
shr-below (pos n) m h = let q = div-le_self n (2 ^ m) in omega arith
shr-below (negsuc n) m h = omega arith

upper_half-below : (z : ℤ) → unsigned_abs z < 2 ^ 64 * 2 ^ 64 → upper_half z < 2 ^ 64
upper_half-below (pos n) h = omega arith
upper_half-below (negsuc n) h = omega arith

product-size : (x y : ℤ) (m n : ℕ) → unsigned_abs x ≤ m → unsigned_abs y ≤ n → m * n < 2 ^ 64 * 2 ^ 64 → unsigned_abs (x *ℤ y) < 2 ^ 64 * 2 ^ 64
product-size x y m n p q r = rw unsigned_abs-mul (let s = mul-le-mul p q in omega arith)

div-below : (x y : ℤ) → unsigned_abs x < 2 ^ 64 → word_of (int_div x y) < 2 ^ 64
div-below (pos a) (pos b) h = let q = div-le_self a b in omega arith
div-below (pos a) (negsuc b) h = word_of-neg (a / suc b)
div-below (negsuc a) (pos b) h = word_of-neg (suc a / b)
div-below (negsuc a) (negsuc b) h = let q = div-le_self (suc a) (suc b) in omega arith

rem-below : (x y : ℤ) → unsigned_abs x < 2 ^ 64 → word_of (int_rem x y) < 2 ^ 64
rem-below (pos a) y h = let q = mod-le a (unsigned_abs y) in omega arith
rem-below (negsuc a) y h = word_of-neg (suc a % unsigned_abs y)

pub extension-below : (n : ℕ) → (sign_extension w8 n < 2 ^ 64) × (sign_extension w16 n < 2 ^ 64) × (sign_extension w32 n < 2 ^ 64)
extension-below n =
    let a : n % 2 ^ 8 < 2 ^ 8 = mod-lt n (omega arith) in
    let b : n % 2 ^ 16 < 2 ^ 16 = mod-lt n (omega arith) in
    let c : n % 2 ^ 32 < 2 ^ 32 = mod-lt n (omega arith) in
    (small8 (n % 2 ^ 8) a, small16 (n % 2 ^ 16) b, small32 (n % 2 ^ 32) c)
  where
    small8 : (k : ℕ) → k < 2 ^ 8 → word_of (cast_signed w8 k) < 2 ^ 64
    small8 k h = word_of-below (cast_signed w8 k) (grind (arith, ints))

    small16 : (k : ℕ) → k < 2 ^ 16 → word_of (cast_signed w16 k) < 2 ^ 64
    small16 k h = word_of-below (cast_signed w16 k) (grind (arith, ints))

    small32 : (k : ℕ) → k < 2 ^ 32 → word_of (cast_signed w32 k) < 2 ^ 64
    small32 k h = word_of-below (cast_signed w32 k) (grind (arith, ints))

low_half-below : (f : Width → ℕ → ℕ → ℕ) (a b : ℕ) → low_half_value f a b < 2 ^ 64
low_half-below f a b = (extension-below (f w32 (a % 2 ^ 32) (b % 2 ^ 32))).2

pub three_value-below : (code : Three) (a b : ℕ) → a < 2 ^ 64 → b < 2 ^ 64 → three_value code a b < 2 ^ 64
three_value-below Three.Add a b p q = mod-lt (a + b) (omega arith)
three_value-below Three.Sub a b p q = mod-lt (a + (2 ^ 64 - b)) (omega arith)
three_value-below Three.Sll a b p q = mod-lt (a * 2 ^ (b % 64)) (omega arith)
three_value-below Three.Slt a b p q = flag-below (int_lt (signed_value a) (signed_value b))
three_value-below Three.Sltu a b p q = flag-below (nat_lt a b)
three_value-below Three.Xor a b p q = xor_lt 64 a b p q
three_value-below Three.Srl a b p q = let h = div-le_self a (2 ^ (b % 64)) in omega arith
three_value-below Three.Sra a b p q = let s = signed_value-size a p in shr-below (signed_value a) (b % 64) (omega arith)
three_value-below Three.Or a b p q = or_lt 64 a b p q
three_value-below Three.And a b p q = and_lt 64 a b p q
three_value-below Three.Mul a b p q = mod-lt (a * b) (omega arith)
three_value-below Three.Mulh a b p q = upper_half-below (signed_value a *ℤ signed_value b) (product-size (signed_value a) (signed_value b) (2 ^ 63) (2 ^ 63) (signed_value-size a p) (signed_value-size b q) (omega arith))
three_value-below Three.Mulhsu a b p q = upper_half-below (signed_value a *ℤ pos b) (product-size (signed_value a) (pos b) (2 ^ 63) (2 ^ 64) (signed_value-size a p) (omega arith) (omega arith))
three_value-below Three.Mulhu a b p q = upper_half-below (pos a *ℤ pos b) (product-size (pos a) (pos b) (2 ^ 64 - 1) (2 ^ 64 - 1) (omega arith) (omega arith) (omega arith))
three_value-below Three.Div a b p q =
    let s = signed_value-size a p in chosen (b == 0) (2 ^ 64 - 1) (word_of (int_div (signed_value a) (signed_value b))) (omega arith) (div-below (signed_value a) (signed_value b) (omega arith))
three_value-below Three.Divu a b p q = let h = div-le_self a b in chosen (b == 0) (2 ^ 64 - 1) (a / b) (omega arith) (omega arith)
three_value-below Three.Rem a b p q =
    let s = signed_value-size a p in chosen (b == 0) a (word_of (int_rem (signed_value a) (signed_value b))) p (rem-below (signed_value a) (signed_value b) (omega arith))
three_value-below Three.Remu a b p q = let h = mod-le a b in chosen (b == 0) a (a % b) p (omega arith)
three_value-below Three.Addw a b p q = low_half-below sum_of a b
three_value-below Three.Subw a b p q = low_half-below difference_of a b
three_value-below Three.Sllw a b p q = low_half-below left_shift a b
three_value-below Three.Srlw a b p q = low_half-below right_shift a b
three_value-below Three.Sraw a b p q = low_half-below signed_right_shift a b
three_value-below Three.Mulw a b p q = low_half-below product_of a b
three_value-below Three.Divw a b p q = low_half-below quotient_of a b
three_value-below Three.Divuw a b p q = low_half-below quotient_unsigned a b
three_value-below Three.Remw a b p q = low_half-below remainder_of a b
three_value-below Three.Remuw a b p q = low_half-below remainder_unsigned a b

imm-below : (imm : ℤ) → FitsSigned w32 imm → word_of imm < 2 ^ 64
imm-below imm f = word_of-below imm (grind (arith, ints))

pub immediate_value-below : (code : Imm) (a : ℕ) (imm : ℤ) → a < 2 ^ 64 → FitsSigned w32 imm → immediate_value code a imm < 2 ^ 64
immediate_value-below Imm.Addi a imm p f = three_value-below Three.Add a (word_of imm) p (imm-below imm f)
immediate_value-below Imm.Slti a imm p f = three_value-below Three.Slt a (word_of imm) p (imm-below imm f)
immediate_value-below Imm.Sltiu a imm p f = three_value-below Three.Sltu a (word_of imm) p (imm-below imm f)
immediate_value-below Imm.Xori a imm p f = three_value-below Three.Xor a (word_of imm) p (imm-below imm f)
immediate_value-below Imm.Ori a imm p f = three_value-below Three.Or a (word_of imm) p (imm-below imm f)
immediate_value-below Imm.Andi a imm p f = three_value-below Three.And a (word_of imm) p (imm-below imm f)
immediate_value-below Imm.Slli a imm p f = three_value-below Three.Sll a (word_of imm) p (imm-below imm f)
immediate_value-below Imm.Srli a imm p f = three_value-below Three.Srl a (word_of imm) p (imm-below imm f)
immediate_value-below Imm.Srai a imm p f = three_value-below Three.Sra a (word_of imm) p (imm-below imm f)
immediate_value-below Imm.Addiw a imm p f = three_value-below Three.Addw a (word_of imm) p (imm-below imm f)
immediate_value-below Imm.Slliw a imm p f = three_value-below Three.Sllw a (word_of imm) p (imm-below imm f)
immediate_value-below Imm.Srliw a imm p f = three_value-below Three.Srlw a (word_of imm) p (imm-below imm f)
immediate_value-below Imm.Sraiw a imm p f = three_value-below Three.Sraw a (word_of imm) p (imm-below imm f)

pub upper_value-below : (imm : ℕ) → upper_value imm < 2 ^ 64
upper_value-below imm = (extension-below (imm * 4096)).2

pub load_value-below : (code : Load) (a : ℕ) → a < 2 ^ bits (load_width code) → load_value code a < 2 ^ 64
load_value-below Load.Lb a h = (extension-below a).0
load_value-below Load.Lh a h = (extension-below a).1
load_value-below Load.Lw a h = (extension-below a).2
load_value-below Load.Ld a h = h
load_value-below Load.Lbu a h = omega arith
load_value-below Load.Lhu a h = omega arith
load_value-below Load.Lwu a h = omega arith
