-- Numbers of entries, computed from a constant and a counter: small numbers do not wrap.
use Rattle.std.specs.Prelude.{◌≡◌, ◌+◌, ◌^◌, ◌<◌, ◌≤◌, ℤ, ◌+ℤ◌, ◌-ℤ◌, unsigned_abs}
use Rattle.std.specs.Int.{w64}
use Rattle.std.specs.Int.RustNames.{FitsSigned}
use Rattle.std.proofs.Common.{arith, ◌∙◌}
use Rattle.std.proofs.lemmas.Int.{ints, fits_signed_from_abs, int_wrap_fits, wrapping_add_is, wrapping_sub_is}
use Rattle.moa_tree.specs.declared.operator.Op.TheVariants.{Add, Sub}
use Rattle.moa_tree.specs.Operators.{apply}

small-fits : (z : ℤ) → unsigned_abs z < 2 ^ 63 → FitsSigned w64 z
small-fits z h = fits_signed_from_abs w64 z h

sum-small : (a b : ℤ) → unsigned_abs (a +ℤ b) ≤ unsigned_abs a + unsigned_abs b
sum-small a b = omega (arith, ints)

difference-small : (a b : ℤ) → unsigned_abs (a -ℤ b) ≤ unsigned_abs a + unsigned_abs b
difference-small a b = omega (arith, ints)

pub small-sum : (a b : ℤ) → unsigned_abs a ≤ 2 ^ 40 → unsigned_abs b ≤ 2 ^ 40 → apply Add a b ≡ a +ℤ b
small-sum a b h k =
    wrapping_add_is w64 a b (small-fits a (omega (arith, h))) (small-fits b (omega (arith, k)))
    ∙ int_wrap_fits w64 (a +ℤ b) (small-fits (a +ℤ b) (omega (arith, h, k, sum-small a b)))

pub small-difference : (a b : ℤ) → unsigned_abs a ≤ 2 ^ 40 → unsigned_abs b ≤ 2 ^ 40 → apply Sub a b ≡ a -ℤ b
small-difference a b h k =
    wrapping_sub_is w64 a b (small-fits a (omega (arith, h))) (small-fits b (omega (arith, k)))
    ∙ int_wrap_fits w64 (a -ℤ b) (small-fits (a -ℤ b) (omega (arith, h, k, difference-small a b)))
