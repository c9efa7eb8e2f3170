-- Worked examples of homes that fit.
use Rattle.std.specs.Prelude.{◌≡◌, ℕ, ◌==◌, Bool, true, false, Option, None, Some}
use Rattle.std.proofs.Common.{cond, refl, ap, subst, rules}
use Rattle.std.proofs.lemmas.Bool.{false≢true, true≢false}
use Rattle.loop_ir.specs.Running.{Key, Register, is_key}
use Rattle.register_map.specs.declared.home.Home.{Home}
use Rattle.register_map.specs.declared.home.Home.TheVariants as home
use Rattle.register_map.specs.FitExamples.{one_in, one_set, two_copied, two_in}
use Rattle.register_map.specs.Fits.{IsFit}
use Rattle.register_map.specs.Homes.{code, home_of, is_given}

abbrev number-in : Option Home → ℕ
number-in None = 0
number-in (Some (home.Register number)) = number
number-in (Some (home.Spill word)) = 0

five-only : (key : Key) (number : ℕ) → home_of (one_in 5) key ≡ Some (home.Register number) → is_given number ≡ true
five-only key number e = by (code key == 0) e
  where
    by : (b : Bool) → cond b (Some (home.Register 5)) None ≡ Some (home.Register number) → is_given number ≡ true
    by true e = subst (λ n. is_given n ≡ true) (ap number-in e) refl
    by false e = absurd (cc)

pub five-fits : IsFit one_set (one_in 5)
five-fits = record {
  there = ((search rules, tt), tt);
  registers = five-only;
  fits = (
    λ key other h. absurd (false≢true h),
    (λ key other own h. absurd (false≢true h), λ key other h. absurd (false≢true h)),
  );
}

pub eight-is-kept : IsFit one_set (one_in 8) → ⊥
eight-is-kept fit = false≢true (fit.registers (Register 0) 8 refl)

pub scratch-is-free : IsFit one_set (one_in 28) → ⊥
scratch-is-free fit = false≢true (fit.registers (Register 0) 28 refl)

pub shared-is-lost : IsFit two_copied (two_in 5 5) → ⊥
shared-is-lost fit = true≢false (ap (is_key (Register 0)) (fit.fits.1.1.1.1.0 (Register 0) (Register 1) refl refl refl))
