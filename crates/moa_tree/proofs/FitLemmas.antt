-- The operators stay within 64 bits.
use Rattle.std.specs.Prelude.{◌≡◌, ℕ, zero, suc, ◌+◌, ◌-◌, ◌*◌, ◌/◌, ◌%◌, ◌^◌, ◌<◌, ◌≤◌, Bool, true, false, cond, not, ℤ, pos, negsuc, neg_ℤ, List, [], ◌∷◌, unsigned_abs, int_div, int_rem, int_lt, int_le, FitsSigned, bit_and, bit_or, bit_xor}
use Rattle.std.specs.Int.{w64, cast_signed, cast_unsigned, bit_not, int_wrapping_div}
use Rattle.std.specs.Ordering.{int_eq}
use Rattle.std.specs.List.{All, fold}
use Rattle.std.specs.Int.Bits.{and_lt}
use Rattle.std.specs.Int.Signed.{mag, mag_rem}
use Rattle.std.proofs.Common.{refl, arith}
use Rattle.std.proofs.Math.Facts.{Fits-of_lt, sfits_to_z}
use Rattle.std.proofs.Math.Nat.{mod-lt, div-le_self}
use Rattle.std.proofs.lemmas.Nat.{or_lt, xor_lt}
use Rattle.moa_tree.specs.declared.operator.Op.{Op}
use Rattle.moa_tree.specs.declared.operator.Op.TheVariants.{Add, Sub, Mul, Quot, Rem, Min, Max, Eq, Ne, Lt, Le, And, Or, Xor}
use Rattle.moa_tree.specs.declared.operator.Unary.{Unary}
use Rattle.moa_tree.specs.declared.operator.Unary.TheVariants.{Neg, Not, Abs}
use Rattle.moa_tree.specs.Operators.{apply, apply_unary, identity, truth}
use Rattle.moa_tree.specs.Folds.{fold_of, none_folded}

-- 64 bits read as a signed number
word-fits : (n : ℕ) → n < 2 ^ 64 → FitsSigned w64 (cast_signed w64 n)
word-fits n h = sfits_to_z {w = w64} {n = n} (Fits-of_lt {w = w64} {n = n} h)

wrapped-fits : (n : ℕ) → FitsSigned w64 (cast_signed w64 (n % 2 ^ 64))
wrapped-fits n = word-fits (n % 2 ^ 64) (mod-lt n (omega arith))

-- the bits of a number that is not too far out
bits-below : (z : ℤ) → unsigned_abs z < 2 ^ 64 → cast_unsigned w64 z < 2 ^ 64
bits-below (pos n) h = h
bits-below (negsuc n) h = omega (arith, h)

abs-of-fit : (z : ℤ) → FitsSigned w64 z → unsigned_abs z ≤ 2 ^ 63
abs-of-fit (pos n) h = let below : n < 2 ^ 63 = h.sfits in omega (arith, below)
abs-of-fit (negsuc n) h = let below : n < 2 ^ 63 = h.sfits in omega (arith, below)

bits-of-fit : (z : ℤ) → FitsSigned w64 z → cast_unsigned w64 z < 2 ^ 64
bits-of-fit z h = bits-below z (omega (arith, abs-of-fit z h))

truth-fits : (b : Bool) → FitsSigned w64 (truth b)
truth-fits false = record { sfits = omega arith }
truth-fits true = record { sfits = omega arith }

cond-fits : (b : Bool) (x y : ℤ) → FitsSigned w64 x → FitsSigned w64 y → FitsSigned w64 (cond b x y)
cond-fits false x y f g = g
cond-fits true x y f g = f

abs-neg : (n : ℕ) → unsigned_abs (neg_ℤ (pos n)) ≡ n
abs-neg zero = refl
abs-neg (suc n) = refl

-- a quotient is no further from 0 than the dividend
quotient-size : (x y : ℤ) → unsigned_abs (int_div x y) ≤ unsigned_abs x
quotient-size (pos a) (pos b) = div-le_self a b
quotient-size (pos a) (negsuc b) = omega (arith, abs-neg (a / suc b), div-le_self a (suc b))
quotient-size (negsuc a) (pos b) = omega (arith, abs-neg (suc a / b), div-le_self (suc a) b)
quotient-size (negsuc a) (negsuc b) = div-le_self (suc a) (suc b)

pub apply-fits : (op : Op) (x y : ℤ) → FitsSigned w64 x → FitsSigned w64 y → FitsSigned w64 (apply op x y)
apply-fits Add x y f g = wrapped-fits (cast_unsigned w64 x + cast_unsigned w64 y)
apply-fits Sub x y f g = wrapped-fits (cast_unsigned w64 x + (2 ^ 64 - cast_unsigned w64 y))
apply-fits Mul x y f g = wrapped-fits (cast_unsigned w64 x * cast_unsigned w64 y)
apply-fits Quot x y f g =
    cond-fits (int_eq y (pos 0)) (negsuc 0) (int_wrapping_div w64 x y) (record { sfits = omega arith })
    (word-fits (cast_unsigned w64 (int_div x y)) (bits-below (int_div x y) (omega (arith, quotient-size x y, abs-of-fit x f))))
apply-fits Rem x y f g =
    let inner : mag x < 2 ^ 63 = f.sfits in
    cond-fits (int_eq y (pos 0)) x (int_rem x y) f (record { sfits = omega (arith, mag_rem x y, inner) })
apply-fits Min x y f g = cond-fits (int_lt y x) y x g f
apply-fits Max x y f g = cond-fits (int_lt y x) x y f g
apply-fits Eq x y f g = truth-fits (int_eq x y)
apply-fits Ne x y f g = truth-fits (not (int_eq x y))
apply-fits Lt x y f g = truth-fits (int_lt x y)
apply-fits Le x y f g = truth-fits (int_le x y)
apply-fits And x y f g = word-fits (bit_and (cast_unsigned w64 x) (cast_unsigned w64 y)) (and_lt 64 (cast_unsigned w64 x) (cast_unsigned w64 y) (bits-of-fit x f) (bits-of-fit y g))
apply-fits Or x y f g = word-fits (bit_or (cast_unsigned w64 x) (cast_unsigned w64 y)) (or_lt 64 (cast_unsigned w64 x) (cast_unsigned w64 y) (bits-of-fit x f) (bits-of-fit y g))
apply-fits Xor x y f g = word-fits (bit_xor (cast_unsigned w64 x) (cast_unsigned w64 y)) (xor_lt 64 (cast_unsigned w64 x) (cast_unsigned w64 y) (bits-of-fit x f) (bits-of-fit y g))

pub apply_unary-fits : (op : Unary) (x : ℤ) → FitsSigned w64 x → FitsSigned w64 (apply_unary op x)
apply_unary-fits Neg x f = wrapped-fits (2 ^ 64 - cast_unsigned w64 x)
apply_unary-fits Not x f = word-fits (bit_not w64 (cast_unsigned w64 x)) (omega arith)
apply_unary-fits Abs x f = word-fits (unsigned_abs x) (omega (arith, abs-of-fit x f))

identity-fits : (op : Op) → FitsSigned w64 (none_folded (identity op))
identity-fits Min = record { sfits = omega arith }
identity-fits Max = record { sfits = omega arith }
identity-fits Mul = record { sfits = omega arith }
identity-fits _ = record { sfits = omega arith }

folded-fits : (op : Op) (start : ℤ) (numbers : List ℤ) → FitsSigned w64 start → All (λ x. FitsSigned w64 x) numbers → FitsSigned w64 (fold (apply op) start numbers)
folded-fits op start [] f h = f
folded-fits op start (x ∷ numbers) f h =
    folded-fits op (apply op start x) numbers (apply-fits op start x f (h 0 x (omega arith))) (λ k d below. h (suc k) d (omega (arith, below)))

pub fold-fits : (op : Op) (numbers : List ℤ) → All (λ x. FitsSigned w64 x) numbers → FitsSigned w64 (fold_of op numbers)
fold-fits op numbers h = folded-fits op (none_folded (identity op)) numbers (identity-fits op) h
