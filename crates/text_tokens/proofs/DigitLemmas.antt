-- The value of decimal digits, one digit after the other.
use Rattle.std.proofs.Common.{rules, refl, ◌≡◌, ℕ, ◌+◌, ◌-◌, ◌*◌, ◌^◌, ◌<◌, ◌≤◌, true, false, List, [], ◌∷◌, length, take, get_or, ◌∙◌, ap}
use Rattle.std.proofs.Common.{arith}
use Rattle.std.proofs.Math.Nat.{pow-le-pow_right, pow-suc}
use Rattle.std.specs.Prelude.{IsTrue, min}
use Rattle.std.specs.List.{list_all, prefix_len}
use Rattle.std.specs.Char.{digit_value}
use Rattle.std.specs.Str.Parse.{digits_value}
use Rattle.std.proofs.lemmas.Bool.Decides.{nat_tests}
use Rattle.std.proofs.lemmas.Int.Digits.{digits_value_more}
use Rattle.std.proofs.lemmas.List.Folds.{list_all_more}
use Rattle.std.proofs.lemmas.List.Recursion.{and_at}
use Rattle.std.proofs.lemmas.Str.Parse.{digits_value-take-le}
use Rattle.shapes_core.specs.Name.{is_digit}

-- a digit is a byte from 48 to 57, and its value is what it is above 48
pub digit_bounds : (byte : ℕ) → is_digit byte ≡ true → (48 ≤ byte) × (byte ≤ 57) × (digit_value byte ≡ byte - 48)
digit_bounds byte digit = grind (arith, nat_tests)

module _ (digits : List ℕ) (all : IsTrue (list_all is_digit digits)) (i : ℕ) (within : i < length digits) where
  pub digit_at : is_digit (get_or digits i 0) ≡ true
  digit_at = and_at (list_all is_digit) is_digit refl (λ _ _. refl) digits i 0 within (search rules)

  -- one more digit
  pub digits_step : digits_value 10 (take (i + 1) digits) ≡ digits_value 10 (take i digits) * 10 + (get_or digits i 0 - 48)
  digits_step =
      digits_value_more 10 digits i within
      ∙ ap (λ d. digits_value 10 (take i digits) * 10 + d) (digit_bounds (get_or digits i 0) digit_at).2

  -- what the first digits write is no more than what all of them do
  pub digits_so_far : digits_value 10 (take i digits) * 10 + (get_or digits i 0 - 48) ≤ digits_value 10 digits
  digits_so_far = omega (arith, digits_step, digits_value-take-le 10 digits (i + 1) (omega arith))

-- one more digit behind so many
pub digit_more : (digits : List ℕ) (i : ℕ) → i < length digits → is_digit (get_or digits i 0) ≡ true
    → digits_value 10 (take (i + 1) digits) ≡ digits_value 10 (take i digits) * 10 + (get_or digits i 0 - 48)
digit_more digits i within digit =
    digits_value_more 10 digits i within ∙ ap (λ d. digits_value 10 (take i digits) * 10 + d) (digit_bounds (get_or digits i 0) digit).2

-- digits, and one more
pub all_more : (digits : List ℕ) (i : ℕ) → i < length digits → list_all is_digit (take i digits) ≡ true
    → is_digit (get_or digits i 0) ≡ true
    → list_all is_digit (take (i + 1) digits) ≡ true
all_more digits i within all digit = list_all_more is_digit digits i 0 within ∙ rw (all, digit) refl

-- what so many digits write has no more digits
pub digit_fits : (value count digit : ℕ) → value < 10 ^ count → digit ≤ 9 → value * 10 + digit < 10 ^ (count + 1)
digit_fits value count digit fits small =
    let one_more : 10 ^ (count + 1) ≡ 10 ^ count * 10 = ap (λ n. 10 ^ n) (omega arith) ∙ pow-suc 10 count in omega (arith, one_more)

-- 19 digits write less than 2^64
pub short_fits : (value count : ℕ) → value < 10 ^ count → count < 19 → value * 10 + 9 < 2 ^ 64
short_fits value count fits short =
    let most : 10 ^ count ≤ 10 ^ 18 = pow-le-pow_right {n = 10} (omega arith) {i = count} {j = 18} (omega arith) in omega (arith, most)

-- where no digit stands first, none do
pub none_first : (bytes : List ℕ) (i : ℕ) → is_digit (get_or bytes i 0) ≡ false → i ≡ 0 → prefix_len is_digit bytes ≡ 0
none_first [] i other e = refl
none_first (first ∷ others) i other e = let none : is_digit first ≡ false = rw e at other in rw none refl

pub none_there : (bytes : List ℕ) (most i : ℕ) → most ≡ min (length bytes) 19 → most ≡ 0 → prefix_len is_digit bytes ≡ 0
none_there [] most i e none = refl
none_there (first ∷ others) most i e none = absurd (omega (arith, e, none))
