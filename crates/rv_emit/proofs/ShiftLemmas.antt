-- The lines of a constant by the levels that are left.
use Rattle.std.proofs.Common.{◌≡◌, ℕ, ◌-◌, ◌^◌, ◌<◌, zero, suc, true, false, ◌++◌, ℤ, refl, arith}
use Rattle.rv_steps.specs.Constants.{is_signed_below, shift_lines, shifted_lines, short_lines, upper_of}

-- with no level left
pub last_level : (levels to : ℕ) (value : ℤ) → levels ≡ 0 → shifted_lines levels to value ≡ short_lines to value
unfolding shifted_lines
last_level levels to value h = rw h refl

-- where 32 bits are enough
pub no_level : (levels to : ℕ) (value : ℤ) → is_signed_below (2 ^ 31) value ≡ true → shifted_lines levels to value ≡ short_lines to value
unfolding shifted_lines
no_level zero to value fits = refl
no_level (suc levels) to value fits = rw fits refl

-- where they are not
pub one_level : (levels to : ℕ) (value : ℤ) → 0 < levels → is_signed_below (2 ^ 31) value ≡ false → shifted_lines levels to value ≡ shifted_lines (levels - 1) to (upper_of value) ++ shift_lines to value
unfolding shifted_lines
one_level zero to value h wide = elim h [ ]
one_level (suc levels) to value h wide = let e : suc levels - 1 ≡ levels = omega arith in rw (wide, e) refl
