-- The operators of the language on 64-bit two's complement integers, and the identities of their folds. This project's own, after the
-- integer instructions of the RISC-V unprivileged ISA (RV64I and M).
use Rattle.std.specs.Prelude.{ℤ, pos, negsuc, ◌-◌, ◌^◌, Bool, true, false, int_lt, int_le, int_rem, unsigned_abs, not, if◌then◌else◌}
use Rattle.std.specs.Int.{w64, cast_signed, int_wrapping_add, int_wrapping_sub, int_wrapping_mul, int_wrapping_div, int_wrapping_neg, int_min, int_max, int_bit_and, int_bit_or, int_bit_xor, int_bit_not}
use Rattle.std.specs.Ordering.{int_eq}
use Rattle.std.specs.declared.option.Option.{Option}
use Rattle.std.specs.declared.option.Option.TheVariants.{None, Some}
use Rattle.moa_tree.specs.declared.operator.Op.{Op}
use Rattle.moa_tree.specs.declared.operator.Op.TheVariants.{Add, Sub, Mul, Quot, Rem, Min, Max, Eq, Ne, Lt, Le, And, Or, Xor}
use Rattle.moa_tree.specs.declared.operator.Unary.{Unary}
use Rattle.moa_tree.specs.declared.operator.Unary.TheVariants.{Neg, Not, Abs}

-- rounded toward zero; by 0 it is -1, and -2^63 by -1 wraps to -2^63
abbrev pub quotient : ℤ → ℤ → ℤ
quotient x y = if int_eq y (pos 0) then negsuc 0 else int_wrapping_div w64 x y

-- what the quotient leaves, with the sign of the dividend; by 0 it is the dividend
abbrev pub remainder : ℤ → ℤ → ℤ
remainder x y = if int_eq y (pos 0) then x else int_rem x y

-- 1 for yes and 0 for no
abbrev pub truth : Bool → ℤ
truth false = pos 0
truth true = pos 1

-- the binary operators: sums, differences and products wrap, comparisons are signed, and the last three work on each bit
abbrev pub apply : Op → ℤ → ℤ → ℤ
apply Add x y = int_wrapping_add w64 x y
apply Sub x y = int_wrapping_sub w64 x y
apply Mul x y = int_wrapping_mul w64 x y
apply Quot x y = quotient x y
apply Rem x y = remainder x y
apply Min x y = int_min x y
apply Max x y = int_max x y
apply Eq x y = truth (int_eq x y)
apply Ne x y = truth (not (int_eq x y))
apply Lt x y = truth (int_lt x y)
apply Le x y = truth (int_le x y)
apply And x y = int_bit_and w64 x y
apply Or x y = int_bit_or w64 x y
apply Xor x y = int_bit_xor w64 x y

-- the unary operators: the negative and the magnitude of -2^63 are -2^63, and `not` inverts each bit
abbrev pub apply_unary : Unary → ℤ → ℤ
apply_unary Neg x = int_wrapping_neg w64 x
apply_unary Not x = int_bit_not w64 x
apply_unary Abs x = cast_signed w64 (unsigned_abs x)

-- what a fold by the operator gives over no element; `None` for an operator that does not fold
abbrev pub identity : Op → Option ℤ
identity Add = Some (pos 0)
identity Mul = Some (pos 1)
identity Min = Some (pos (2 ^ 63 - 1))
identity Max = Some (negsuc (2 ^ 63 - 1))
identity And = Some (negsuc 0)
identity Or = Some (pos 0)
identity Xor = Some (pos 0)
identity _ = None
