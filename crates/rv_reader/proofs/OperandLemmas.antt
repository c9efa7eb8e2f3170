-- Operands are read as they are spelled, and what is read as an operand is spelled so.
use Rattle.std.proofs.Common.{◌≡◌, ℕ, suc, zero, inl, inr, ◌<◌, ◌^◌, List, [], ◌∷◌, ◌++◌, length, get_or, drop, refl, sym, ap, ◌∙◌, arith}
use Rattle.std.specs.Prelude.{ℤ, ◌⊎◌, Bool, true, false, not, ◌&&◌, ◌||◌, ◌==◌, nat_le, nat_lt, cond, codes, slice_index}
use Rattle.std.specs.Char.{digit_value}
use Rattle.std.specs.Fmt.{decimal}
use Rattle.std.specs.List.{list_all}
use Rattle.std.specs.Str.Parse.{IsNumeral, AllDigits, digits_value, signed_digits_value}
use Rattle.std.specs.declared.option.Option.{Option}
use Rattle.std.specs.declared.option.Option.TheVariants.{None, Some}
use Rattle.std.proofs.lemmas.Bool.{and_parts, or_cases, or_left, or_right, eq-eqb, eqb-true, ne_eqb, leb-true, le-leb, ltb-true, lt-ltb, not-true}
use Rattle.std.proofs.lemmas.List.{length-append}
use Rattle.std.proofs.lemmas.Fmt.{decimal-digits_value, decimal_is_IsNumeral, decimal_digit, first_decimal}
use Rattle.std.proofs.lemmas.Str.{digit_value_digit}
use Rattle.std.proofs.lemmas.Str.Parse.{digit_from_value, IsNumeralModel, numerals_by_value, tells_digits}
use Rattle.shapes_core.specs.Name.{is_digit, is_letter}
use Rattle.rv_line.specs.Emitted.{register_text}
use Rattle.rv_line.specs.Instructions.{is_space_or_tab, is_label, is_label_byte, IsLabel}
use Rattle.rv_line.specs.Numbers.{IsNumber, IsSignedNumber, without_minus}
use Rattle.rv_reader.specs.Cuts.{same, until, since}
use Rattle.rv_reader.specs.Operands.{is_number, number_of, immediate_of, is_shortest, is_register, register_of, Address, address, offset_part, base_part, end_part, address_from, address_of, label_of}
use Rattle.rv_reader.proofs.CutLemmas.{same_true, begins, until-append, since-append, cut, all_weaker, all_of_both, none_is, not_at, true_not_false}

-- what an option is, is one thing
pub some_same : {A : Type 0} {x y : A} → ◌≡◌ {A = Option A} (Some x) (Some y) → x ≡ y
some_same {A} {x} {y} e = ap (λ o. from o) e
  where
    from : Option A → A
    from None = x
    from (Some z) = z

pub none_not_some : {A : Type 0} {x : A} → ◌≡◌ {A = Option A} None (Some x) → ⊥
none_not_some {A} {x} e = absurd (cc)

-- what is found where a test passes
pub some_from : {A : Type 0} (b : Bool) (x y : A) → cond b (Some x) None ≡ Some y → (b ≡ true) × (x ≡ y)
some_from true x y found = (refl, some_same found)
some_from false x y found = absurd (none_not_some found)

pub all_digits : (text : List ℕ) → AllDigits 10 text → list_all is_digit text ≡ true
all_digits [] all = refl
all_digits (byte ∷ bytes) all =
    let range = digit_from_value byte all.0 in
    rw (le-leb 48 byte range.0, le-leb byte 57 range.1) (all_digits bytes all.1)

digit_small : (byte : ℕ) → is_digit byte ≡ true → digit_value byte < 10
digit_small byte is =
    let parts = and_parts (nat_le 48 byte) (nat_le byte 57) is in
    let low = leb-true 48 byte parts.0 in
    let high = leb-true byte 57 parts.1 in
    let value = digit_value_digit byte (low, high) in
    omega arith

digits_all : (text : List ℕ) → list_all is_digit text ≡ true → AllDigits 10 text
digits_all [] all = tt
digits_all (byte ∷ bytes) all =
    let parts = and_parts (is_digit byte) (list_all is_digit bytes) all in
    (digit_small byte parts.0, digits_all bytes parts.1)

pub number_from : (text : List ℕ) → IsNumeral 10 text → is_number text ≡ true
number_from [] numeral = absurd (omega (arith, numeral.0))
number_from (byte ∷ bytes) numeral = all_digits (byte ∷ bytes) numeral.1

pub numeral_from : (text : List ℕ) → is_number text ≡ true → IsNumeral 10 text
numeral_from [] is = absurd (true_not_false (sym is))
numeral_from (byte ∷ bytes) is = (omega arith, digits_all (byte ∷ bytes) is)

pub number_is : (text : List ℕ) (number : ℕ) → IsNumber text number → number_of text ≡ Some number
number_is text number is = rw (number_from text is.digits) (ap (λ n. Some n) is.value)

pub is_number_of : (text : List ℕ) (number : ℕ) → number_of text ≡ Some number → IsNumber text number
is_number_of text number is =
    let found = some_from (is_number text) (digits_value 10 text) number is in
    record { digits = numeral_from text found.0; value = found.1 }

pub immediate_is : (text : List ℕ) (z : ℤ) → IsSignedNumber text z → immediate_of text ≡ Some z
immediate_is text z is = rw (number_from (without_minus text) is.digits) (ap (λ n. Some n) is.value)

pub is_immediate_of : (text : List ℕ) (z : ℤ) → immediate_of text ≡ Some z → IsSignedNumber text z
is_immediate_of text z is =
    let found = some_from (is_number (without_minus text)) (signed_digits_value 10 text) z is in
    record { digits = numeral_from (without_minus text) found.0; value = found.1 }

own : IsNumeralModel (AllDigits 10) (digits_value 10)
own = numerals_by_value (AllDigits 10) tells_digits

-- what is read of a register
pub record IsRegisterText (text : List ℕ) (register : ℕ) : Type 0 where
  pub spelled : text ≡ register_text register
  pub small : register < 32

shortest_again : (digits : List ℕ) → is_shortest digits ≡ true → digits_value 10 digits < 2 ^ 64 → decimal (digits_value 10 digits) ≡ digits
shortest_again digits is small =
    let parts = and_parts (is_number digits) (length digits == 1 || not (slice_index digits 0 == 48)) is in
    let numeral = numeral_from digits parts.0 in
    decimal-digits_value own digits numeral.1 numeral.0 (λ leads_0. one_digit leads_0 (or_cases (length digits == 1) (not (slice_index digits 0 == 48)) parts.1)) small
  where
    one_digit : get_or digits 0 0 ≡ 48 → ((length digits == 1) ≡ true) ⊎ (not (slice_index digits 0 == 48) ≡ true) → length digits ≡ 1
    one_digit leads_0 (inl one) = eqb-true (length digits) 1 one
    one_digit leads_0 (inr other) = absurd (true_not_false (sym (eq-eqb (slice_index digits 0) 48 leads_0) ∙ not-true (slice_index digits 0 == 48) other))

pub is_register_of : (text : List ℕ) (register : ℕ) → register_of text ≡ Some register → IsRegisterText text register
is_register_of [] register is = absurd (none_not_some is)
is_register_of (byte ∷ digits) register is =
    let found = some_from (is_register (byte ∷ digits)) (digits_value 10 digits) register is in
    let parts = and_parts (byte == 120 && is_shortest digits) (nat_lt (digits_value 10 digits) 32) found.0 in
    let marks = and_parts (byte == 120) (is_shortest digits) parts.0 in
    let small = ltb-true (digits_value 10 digits) 32 parts.1 in
    let value : digits_value 10 digits ≡ register = found.1 in
    let again : decimal (digits_value 10 digits) ≡ digits = shortest_again digits marks.1 (omega arith) in
    record {
      spelled = rw (eqb-true byte 120 marks.0) (ap (λ rest. 120 ∷ rest) (sym again ∙ ap decimal value));
      small = omega (arith, small, value);
    }

shortest_decimal : (register : ℕ) → register < 32 → (length (decimal register) == 1 || not (slice_index (decimal register) 0 == 48)) ≡ true
shortest_decimal zero small = or_left (length (decimal 0) == 1) (not (slice_index (decimal 0) 0 == 48)) (rw (decimal_digit 0 (omega arith)) refl)
shortest_decimal (suc n) small =
    let first = first_decimal (suc n) (omega arith) (omega arith) in
    or_right (length (decimal (suc n)) == 1) (not (slice_index (decimal (suc n)) 0 == 48)) (rw (ne_eqb (slice_index (decimal (suc n)) 0) 48 (λ e. omega arith)) refl)

pub register_is : (register : ℕ) → register < 32 → register_of (register_text register) ≡ Some register
register_is register small =
    let numeral = decimal_is_IsNumeral register (omega arith) in
    let shortest : is_shortest (decimal register) ≡ true = rw (number_from (decimal register) numeral.0) (shortest_decimal register small) in
    let below : nat_lt (digits_value 10 (decimal register)) 32 ≡ true = rw numeral.1 (lt-ltb register 32 small) in
    let is : is_register (register_text register) ≡ true = rw shortest below in
    rw is (ap (λ n. Some n) numeral.1)

-- what an operand has no byte of: a blank, a comma, `#` and `:`
abbrev pub is_operand_byte : ℕ → Bool
is_operand_byte byte = not (is_space_or_tab byte) && not (byte == 44) && not (byte == 35) && not (byte == 58)

pub record IsOperand (text : List ℕ) : Type 0 where
  pub solid : list_all is_operand_byte text ≡ true
  pub some : 0 < length text

operand_from : (p : ℕ → Bool) → p 32 ≡ false → p 9 ≡ false → p 44 ≡ false → p 35 ≡ false → p 58 ≡ false → (text : List ℕ) → list_all p text ≡ true → list_all is_operand_byte text ≡ true
operand_from p a b c d e = all_weaker p is_operand_byte (λ byte passes.
    rw (not_at p 32 a byte passes, not_at p 9 b byte passes, not_at p 44 c byte passes, not_at p 35 d byte passes, not_at p 58 e byte passes) refl)

-- digits, and what may stand with them in a number
abbrev is_signed_byte : ℕ → Bool
is_signed_byte byte = byte == 45 || is_digit byte

signed_bytes : (text : List ℕ) → IsNumeral 10 (without_minus text) → (list_all is_signed_byte text ≡ true) × (0 < length text)
signed_bytes [] numeral = absurd (omega (arith, numeral.0))
signed_bytes (byte ∷ bytes) numeral = by_sign (byte == 45) refl numeral
  where
    behind : (digits : List ℕ) → list_all is_digit digits ≡ true → list_all is_signed_byte digits ≡ true
    behind = all_weaker is_digit is_signed_byte (λ other digit. or_right (other == 45) (is_digit other) digit)

    by_sign : (b : Bool) → (byte == 45) ≡ b → IsNumeral 10 (cond b bytes (byte ∷ bytes)) → (list_all is_signed_byte (byte ∷ bytes) ≡ true) × (0 < length (byte ∷ bytes))
    by_sign true is numeral = (rw is (behind bytes (all_digits bytes numeral.1)), omega arith)
    by_sign false is numeral = (behind (byte ∷ bytes) (all_digits (byte ∷ bytes) numeral.1), omega arith)

pub signed_operand : (text : List ℕ) (z : ℤ) → IsSignedNumber text z → IsOperand text
signed_operand text z number =
    let bytes = signed_bytes text number.digits in
    record { solid = operand_from is_signed_byte refl refl refl refl refl text bytes.0; some = bytes.1 }

digits_of_decimal : (n : ℕ) → n < 2 ^ 64 → list_all is_digit (decimal n) ≡ true
digits_of_decimal n small = all_digits (decimal n) (decimal_is_IsNumeral n small).0.1

pub register_operand : (register : ℕ) → register < 32 → IsOperand (register_text register)
register_operand register small = record {
  solid = operand_from is_digit refl refl refl refl refl (decimal register) (digits_of_decimal register (omega arith));
  some = omega arith;
}

-- an address as it is spelled
abbrev pub spelled_address : List ℕ → ℕ → List ℕ
spelled_address offset base = offset ++ (codes "(" ++ (register_text base ++ codes ")"))

pub address_operand : (offset : List ℕ) (imm : ℤ) (base : ℕ) → IsSignedNumber offset imm → base < 32 → IsOperand (spelled_address offset base)
address_operand offset imm base number small =
    let first = signed_operand offset imm number in
    let second = register_operand base small in
    let some = first.some in
    record {
      solid = all_of_both is_operand_byte offset (codes "(" ++ (register_text base ++ codes ")")) first.solid (
          all_of_both is_operand_byte (register_text base) (codes ")") second.solid refl
          );
      some = omega (arith, length-append offset (codes "(" ++ (register_text base ++ codes ")")));
    }

pub label_bytes : (name : List ℕ) → IsLabel name → (list_all is_label_byte name ≡ true) × (0 < length name)
label_bytes [] is = absurd (cc)
label_bytes (first ∷ others) is =
    let parts = and_parts (is_letter first || first == 95 || first == 46) (list_all is_label_byte others) is in
    (rw (begins_label first parts.0) parts.1, omega arith)
  where
    begins_label : (byte : ℕ) → (is_letter byte || byte == 95 || byte == 46) ≡ true → is_label_byte byte ≡ true
    begins_label byte h = by_cases (is_letter byte) (is_digit byte) (byte == 95) (byte == 46) h
      where
        by_cases : (letter digit line dot : Bool) → (letter || line || dot) ≡ true → (letter || digit || line || dot) ≡ true
        by_cases true digit line dot h = refl
        by_cases false true line dot h = refl
        by_cases false false line dot h = h

pub label_operand : (name : List ℕ) → IsLabel name → IsOperand name
label_operand name is =
    let bytes = label_bytes name is in
    record { solid = operand_from is_label_byte refl refl refl refl refl name bytes.0; some = bytes.1 }

pub label_is : (name : List ℕ) → IsLabel name → label_of name ≡ Some name
label_is name is = rw is refl

pub is_label_of : (text name : List ℕ) → label_of text ≡ Some name → (text ≡ name) × IsLabel name
is_label_of text name is =
    let found = some_from (is_label text) text name is in
    let same_name : text ≡ name = found.1 in
    (same_name, rw same_name at found.0)

-- an address is read as it is spelled
pub address_is : (offset : List ℕ) (imm : ℤ) (base : ℕ) → IsSignedNumber offset imm → base < 32 → address_of (spelled_address offset base) ≡ Some (address imm base)
address_is offset imm base number small =
    let text = spelled_address offset base in
    let behind = codes "(" ++ (register_text base ++ codes ")") in
    let plain = none_is is_signed_byte 40 refl offset (signed_bytes offset number.digits).0 in
    let digits = none_is is_digit 41 refl (decimal base) (digits_of_decimal base (omega arith)) in
    let first : offset_part text ≡ offset = until-append (λ byte. byte == 40) offset behind plain refl in
    let rest : since (λ byte. byte == 40) text ≡ behind = since-append (λ byte. byte == 40) offset behind plain refl in
    let second : base_part text ≡ register_text base =
    ap (λ t. until (λ byte. byte == 41) (drop 1 t)) rest ∙ until-append (λ byte. byte == 41) (register_text base) (codes ")") digits refl in
    let last : end_part text ≡ codes ")" =
    ap (λ t. since (λ byte. byte == 41) (drop 1 t)) rest ∙ since-append (λ byte. byte == 41) (register_text base) (codes ")") digits refl in
    let closed : same (end_part text) (codes ")") ≡ true = rw last refl in
    let imm_is : immediate_of (offset_part text) ≡ Some imm = ap immediate_of first ∙ immediate_is offset imm number in
    let base_is : register_of (base_part text) ≡ Some base = ap register_of second ∙ register_is base small in
    built closed imm_is base_is
  where
    built : {shut : Bool} {one : Option ℤ} {two : Option ℕ} → shut ≡ true → one ≡ Some imm → two ≡ Some base → address_from shut one two ≡ Some (address imm base)
    built a b c = rw (a, b, c) refl

-- what is read of an address
pub record IsAddressText (text : List ℕ) (at : Address) : Type 0 where
  pub offset : List ℕ
  pub number : IsSignedNumber offset at.imm
  pub small : at.base < 32
  pub spelled : text ≡ spelled_address offset at.base

pub is_address_of : (text : List ℕ) (at : Address) → address_of text ≡ Some at → IsAddressText text at
is_address_of text at is = by_parts (same (end_part text) (codes ")")) (immediate_of (offset_part text)) (register_of (base_part text)) refl refl refl is
  where
    opened : (rest : List ℕ) → begins (λ byte. byte == 40) rest ≡ true → since (λ byte. byte == 41) (drop 1 rest) ≡ codes ")" → rest ≡ codes "(" ++ (until (λ byte. byte == 41) (drop 1 rest) ++ codes ")")
    opened [] first last = absurd (nothing last)
      where
        nothing : ◌≡◌ {A = List ℕ} [] (codes ")") → ⊥
        nothing e = absurd (cc)
    opened (byte ∷ rest) first last =
        rw (eqb-true byte 40 first) (ap (λ t. 40 ∷ t) ((cut (λ other. other == 41) rest).whole ∙ ap (λ t. until (λ other. other == 41) rest ++ t) last))

    by_parts : (shut : Bool) (one : Option ℤ) (two : Option ℕ) → same (end_part text) (codes ")") ≡ shut → immediate_of (offset_part text) ≡ one → register_of (base_part text) ≡ two → address_from shut one two ≡ Some at → IsAddressText text at
    by_parts shut None two a b c found = absurd (none_not_some found)
    by_parts shut (Some imm) None a b c found = absurd (none_not_some found)
    by_parts false (Some imm) (Some base) a b c found = absurd (none_not_some found)
    by_parts true (Some imm) (Some base) a b c found =
        let whole : address imm base ≡ at = some_same found in
        let at_cut = cut (λ byte. byte == 40) text in
        let number = is_immediate_of (offset_part text) imm b in
        let register = is_register_of (base_part text) base c in
        let rest = opened (since (λ byte. byte == 40) text) at_cut.behind (same_true (end_part text) (codes ")") a) in
        rw (sym whole) (record {
          offset = offset_part text;
          number = number;
          small = register.small;
          spelled =
              at_cut.whole
              ∙ ap (λ t. offset_part text ++ t) rest
              ∙ ap (λ t. offset_part text ++ (codes "(" ++ (t ++ codes ")"))) register.spelled;
        })
