-- Numbers as 64 bits hold them, digit by digit, and immediates by their sign and their magnitude.
use Rattle.std.proofs.Common.{rules, refl, ◌≡◌, ℕ, zero, suc, ◌+◌, ◌-◌, ◌*◌, ◌^◌, ◌<◌, ◌≤◌, true, List, [], ◌∷◌, length, take, drop, get_or, ◌∙◌, ap, sym, arith}
use Rattle.std.specs.Prelude.{IsTrue, min, Bool, false, ◌==◌, cond, ℤ, pos, negsuc, neg_ℤ}
use Rattle.std.specs.List.{list_all}
use Rattle.std.specs.Char.{digit_value}
use Rattle.std.specs.Option.{option_map}
use Rattle.std.specs.Str.Parse.{digits_value, signed_digits_value, starts_with_minus}
use Rattle.std.specs.declared.option.Option.{Option}
use Rattle.std.specs.declared.option.Option.TheVariants.{None, Some}
use Rattle.std.proofs.lemmas.Bool.{and_parts, ne_eqb}
use Rattle.std.proofs.lemmas.Bool.Decides.{nat_tests}
use Rattle.std.proofs.lemmas.Int.Digits.{digits_value_more}
use Rattle.std.proofs.lemmas.List.Recursion.{and_at}
use Rattle.shapes_core.specs.Name.{is_digit}
use Rattle.rv_line.specs.Numbers.{without_minus}
use Rattle.rv_reader.specs.Marks.{capped, clamped, farthest, joined, signed}
use Rattle.rv_reader.specs.Operands.{address_from, immediate_of, is_number, number_of}
use Rattle.rv_reader.proofs.CutLemmas.{true_not_false}

-- a digit is a byte from 48 to 57, and its value is what it is above 48
pub digit_bounds : (byte : ℕ) → is_digit byte ≡ true → (48 ≤ byte) × (byte ≤ 57) × (digit_value byte ≡ byte - 48)
digit_bounds byte digit = grind (arith, nat_tests)

module _ (digits : List ℕ) (all : IsTrue (list_all is_digit digits)) (i : ℕ) (within : i < length digits) where
  pub digit_at : is_digit (get_or digits i 0) ≡ true
  digit_at = and_at (list_all is_digit) is_digit refl (λ _ _. refl) digits i 0 within (search rules)

  step : digits_value 10 (take (i + 1) digits) ≡ digits_value 10 (take i digits) * 10 + (get_or digits i 0 - 48)
  step =
      digits_value_more 10 digits i within
      ∙ ap (λ d. digits_value 10 (take i digits) * 10 + d) (digit_bounds (get_or digits i 0) digit_at).2

  -- one more digit
  pub capped_step : capped (digits_value 10 (take (i + 1) digits)) ≡ min (min (capped (digits_value 10 (take i digits)) * 10) (2 ^ 64 - 1) + (get_or digits i 0 - 48)) (2 ^ 64 - 1)
  capped_step = ap capped step ∙ saturated (digits_value 10 (take i digits)) (get_or digits i 0 - 48)
    where
      saturated : (n d : ℕ) → min (n * 10 + d) (2 ^ 64 - 1) ≡ min (min (min n (2 ^ 64 - 1) * 10) (2 ^ 64 - 1) + d) (2 ^ 64 - 1)
      saturated n d = omega arith

number_digits : (text : List ℕ) → is_number text ≡ true → list_all is_digit text ≡ true
number_digits [] is = absurd (true_not_false (sym is))
number_digits (byte ∷ bytes) is = is

plain_sign : (text : List ℕ) → is_number text ≡ true → starts_with_minus text ≡ false → signed_digits_value 10 text ≡ pos (digits_value 10 text)
plain_sign [] is plain = absurd (true_not_false (sym is))
plain_sign (byte ∷ bytes) is plain =
    let digit = (and_parts (is_digit byte) (list_all is_digit bytes) is).0 in
    let low = (digit_bounds byte digit).0 in
    let no_plus : (byte == 43) ≡ false = ne_eqb byte 43 (λ e. omega arith) in
    rw (plain, no_plus) refl

value_by_sign : (text : List ℕ) → is_number (without_minus text) ≡ true → signed_digits_value 10 text ≡ signed (starts_with_minus text) (digits_value 10 (without_minus text))
value_by_sign text is = by_sign (starts_with_minus text) refl is
  where
    by_sign : (minus : Bool) → starts_with_minus text ≡ minus → is_number (cond minus (drop 1 text) text) ≡ true → signed_digits_value 10 text ≡ signed minus (digits_value 10 (cond minus (drop 1 text) text))
    by_sign true is_minus number = rw is_minus refl
    by_sign false plain number = plain_sign text number plain

far_same : (minus : Bool) (n : ℕ) → clamped (signed minus n) ≡ clamped (signed minus (capped n))
far_same false n = ap pos (same n)
  where
    same : (k : ℕ) → min k farthest ≡ min (min k (2 ^ 64 - 1)) farthest
    same k = omega arith
far_same true zero = refl
far_same true (suc n) = ap negsuc (same n) ∙ ap (λ k. clamped (neg_ℤ (pos k))) (sym (before n))
  where
    same : (k : ℕ) → min k farthest ≡ min (min k (2 ^ 64 - 2)) farthest
    same k = omega arith

    before : (k : ℕ) → min (suc k) (2 ^ 64 - 1) ≡ suc (min k (2 ^ 64 - 2))
    before k = omega arith

-- an immediate by its sign and its magnitude
pub immediate_by : (text : List ℕ) → option_map clamped (immediate_of text) ≡ option_map (λ n. clamped (signed (starts_with_minus text) n)) (option_map capped (number_of (without_minus text)))
immediate_by text = by_number (is_number (without_minus text)) refl
  where
    by_number : (b : Bool) → is_number (without_minus text) ≡ b → option_map clamped (cond b (Some (signed_digits_value 10 text)) None) ≡ option_map (λ n. clamped (signed (starts_with_minus text) n)) (option_map capped (cond b (Some (digits_value 10 (without_minus text))) None))
    by_number true is = ap (λ z. Some (clamped z)) (value_by_sign text is) ∙ ap (λ z. Some z) (far_same (starts_with_minus text) (digits_value 10 (without_minus text)))
    by_number false is = refl

-- an address by its parts
pub address_by : (closed : Bool) (imm : Option ℤ) (base : Option ℕ) → option_map (λ a. (clamped a.imm, a.base)) (address_from closed imm base) ≡ joined closed (option_map clamped imm) base
address_by closed None base = refl
address_by closed (Some imm) None = refl
address_by true (Some imm) (Some base) = refl
address_by false (Some imm) (Some base) = refl
