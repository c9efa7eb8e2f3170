-- The spellings of a number in a text: decimal digits, and a `-` in front where it may be negative. This project's own.
use Rattle.std.specs.Prelude.{ℕ, ◌≡◌, ℤ, if◌then◌else◌, List, [], ◌∷◌, drop}
use Rattle.std.specs.Str.Parse.{IsNumeral, digits_value, signed_digits_value, starts_with_minus}

-- decimal digits, one or more, of this value: leading zeros are allowed
pub record IsNumber (text : List ℕ) (number : ℕ) : Type 0 where
  pub digits : IsNumeral 10 text
  pub value : digits_value 10 text ≡ number

-- each text is a number
abbrev pub AreNumbers : List (List ℕ) → List ℕ → Type 0
AreNumbers [] [] = Unit {0}
AreNumbers [] (number ∷ numbers) = ⊥
AreNumbers (text ∷ texts) [] = ⊥
AreNumbers (text ∷ texts) (number ∷ numbers) = IsNumber text number × AreNumbers texts numbers

-- what follows a `-`, where one stands first
abbrev pub without_minus : List ℕ → List ℕ
without_minus text = if starts_with_minus text then drop 1 text else text

-- the same of decimal digits that may have a `-` in front
pub record IsSignedNumber (text : List ℕ) (number : ℤ) : Type 0 where
  pub digits : IsNumeral 10 (without_minus text)
  pub value : signed_digits_value 10 text ≡ number
