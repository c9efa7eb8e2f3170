-- Operands are found again between the commas, and registers, offsets and bases in the operands.
use Rattle.std.proofs.Common.{◌≡◌, ℕ, ◌<◌, ◌^◌, List, [], ◌∷◌, ◌++◌, length, drop, refl, ap, ◌∙◌, arith}
use Rattle.std.specs.Prelude.{ℤ, Bool, true, false, ◌&&◌, ◌||◌, ◌==◌, not, cond, codes}
use Rattle.std.specs.Fmt.{decimal}
use Rattle.std.specs.List.{list_all, filter, slice_split, AllByRecursion}
use Rattle.std.specs.Str.Parse.{IsNumeral, digits_value}
use Rattle.std.proofs.lemmas.Bool.{ne_eqb, or_right}
use Rattle.std.proofs.lemmas.Fmt.{decimal_is_IsNumeral}
use Rattle.std.proofs.lemmas.List.{length-append}
use Rattle.std.proofs.lemmas.List.Elements.{filter-append}
use Rattle.std.proofs.lemmas.List.Splits.{slice_split_none, slice_split_at}
use Rattle.shapes_core.specs.Name.{is_letter, is_digit}
use Rattle.rv_line.specs.Emitted.{register_text}
use Rattle.rv_line.specs.Instructions.{is_space_or_tab, AreBlanks, AreOperands, IsLabel, is_label_byte}
use Rattle.rv_line.specs.Numbers.{IsSignedNumber, without_minus}
use Rattle.rv_line.proofs.CutLemmas.{until, until-append, since, since-append, none_is, all_apart, all_of_both, blanks_bare}
use Rattle.rv_line.proofs.LinesLemmas.{both, all_weaker}
use Rattle.rv_line.proofs.RefusalLemmas.{last_of, last_of-append}
use Rattle.rv_line.proofs.RowReadingLemmas.{all_digits}

-- what an operand has no byte of: a blank, a comma, `#` and `:`
abbrev pub is_operand_byte : ℕ → Bool
is_operand_byte byte = not (is_space_or_tab byte) && not (byte == 44) && not (byte == 35) && not (byte == 58)

pub record IsOperand (text : List ℕ) : Type 0 where
  pub solid : list_all is_operand_byte text ≡ true
  pub some : 0 < length text

operand_byte : (byte : ℕ) → (byte ≡ 32 → ⊥) → (byte ≡ 9 → ⊥) → (byte ≡ 44 → ⊥) → (byte ≡ 35 → ⊥) → (byte ≡ 58 → ⊥) → is_operand_byte byte ≡ true
operand_byte byte a b c d e = rw (ne_eqb byte 32 a, ne_eqb byte 9 b, ne_eqb byte 44 c, ne_eqb byte 35 d, ne_eqb byte 58 e) refl

-- a byte that passes a test is none that does not
differs : (p : ℕ → Bool) (c : ℕ) → p c ≡ false → (byte : ℕ) → p byte ≡ true → byte ≡ c → ⊥
differs p c fails byte passes e = wrong (rw e at passes)
  where
    wrong : p c ≡ true → ⊥
    wrong h = absurd (cc)

operand_from : (p : ℕ → Bool) → p 32 ≡ false → p 9 ≡ false → p 44 ≡ false → p 35 ≡ false → p 58 ≡ false → (text : List ℕ) → list_all p text ≡ true → list_all is_operand_byte text ≡ true
operand_from p a b c d e = all_weaker p is_operand_byte (λ byte passes. operand_byte byte (differs p 32 a byte passes) (differs p 9 b byte passes) (differs p 44 c byte passes) (differs p 35 d byte passes) (differs p 58 e byte passes))

-- digits, and what may stand with them in a number
abbrev is_signed_byte : ℕ → Bool
is_signed_byte byte = byte == 45 || is_digit byte

signed_bytes : (text : List ℕ) → IsNumeral 10 (without_minus text) → (list_all is_signed_byte text ≡ true) × (0 < length text)
signed_bytes [] numeral = absurd (omega (arith, numeral.0))
signed_bytes (byte ∷ bytes) numeral = by_sign (byte == 45) refl numeral
  where
    behind : (digits : List ℕ) → list_all is_digit digits ≡ true → list_all is_signed_byte digits ≡ true
    behind = all_weaker is_digit is_signed_byte (λ other digit. or_right (other == 45) (is_digit other) digit)

    by_sign : (b : Bool) → (byte == 45) ≡ b → IsNumeral 10 (cond b bytes (byte ∷ bytes)) → (list_all is_signed_byte (byte ∷ bytes) ≡ true) × (0 < length (byte ∷ bytes))
    by_sign true is numeral = (rw is (behind bytes (all_digits bytes numeral.1)), omega arith)
    by_sign false is numeral = (behind (byte ∷ bytes) (all_digits (byte ∷ bytes) numeral.1), omega arith)

pub signed_operand : (text : List ℕ) (z : ℤ) → IsSignedNumber text z → IsOperand text
signed_operand text z number =
    let bytes = signed_bytes text number.digits in
    record { solid = operand_from is_signed_byte refl refl refl refl refl text bytes.0; some = bytes.1 }

digits_of_decimal : (n : ℕ) → n < 2 ^ 64 → list_all is_digit (decimal n) ≡ true
digits_of_decimal n small = all_digits (decimal n) (decimal_is_IsNumeral n small).0.1

digits_operand : (text : List ℕ) → list_all is_digit text ≡ true → list_all is_operand_byte text ≡ true
digits_operand = operand_from is_digit refl refl refl refl refl

pub register_operand : (register : ℕ) → register < 32 → IsOperand (register_text register)
register_operand register small = record { solid = digits_operand (decimal register) (digits_of_decimal register (omega arith)); some = omega arith }

pub address_operand : (offset : List ℕ) (imm : ℤ) (base : ℕ) → IsSignedNumber offset imm → base < 32 → IsOperand (offset ++ (codes "(" ++ (register_text base ++ codes ")")))
address_operand offset imm base number small =
    let first = signed_operand offset imm number in
    let second = register_operand base small in
    let some = first.some in
    record {
      solid = all_of_both is_operand_byte offset (codes "(" ++ (register_text base ++ codes ")")) first.solid (
          all_of_both is_operand_byte (register_text base) (codes ")") second.solid refl
          );
      some = omega (arith, length-append offset (codes "(" ++ (register_text base ++ codes ")")));
    }

pub label_bytes : (name : List ℕ) → IsLabel name → (list_all is_label_byte name ≡ true) × (0 < length name)
label_bytes [] is = absurd (cc)
label_bytes (first ∷ others) is =
    let parts = both (is_letter first || first == 95 || first == 46) (list_all is_label_byte others) is in
    (rw (begins_label first parts.0) parts.1, omega arith)
  where
    begins_label : (byte : ℕ) → (is_letter byte || byte == 95 || byte == 46) ≡ true → is_label_byte byte ≡ true
    begins_label byte h = by_cases (is_letter byte) (is_digit byte) (byte == 95) (byte == 46) h
      where
        by_cases : (letter digit line dot : Bool) → (letter || line || dot) ≡ true → (letter || digit || line || dot) ≡ true
        by_cases true digit line dot h = refl
        by_cases false true line dot h = refl
        by_cases false false line dot h = h

pub label_operand : (name : List ℕ) → IsLabel name → IsOperand name
label_operand name is =
    let bytes = label_bytes name is in
    record { solid = operand_from is_label_byte refl refl refl refl refl name bytes.0; some = bytes.1 }

-- the operands, at the commas, without blanks
abbrev pub operands_of : List ℕ → List (List ℕ)
operands_of rest = slice_split (λ byte. byte == 44) (filter (λ byte. not (is_space_or_tab byte)) rest)

filter_blanks : (text : List ℕ) → AreBlanks text → filter (λ byte. not (is_space_or_tab byte)) text ≡ []
filter_blanks [] blanks = refl
filter_blanks (byte ∷ text) blanks =
    let parts = both (is_space_or_tab byte) (list_all is_space_or_tab text) blanks in
    rw parts.0 (filter_blanks text parts.1)

filter_solid : (text : List ℕ) → list_all is_operand_byte text ≡ true → filter (λ byte. not (is_space_or_tab byte)) text ≡ text
filter_solid [] solid = refl
filter_solid (byte ∷ text) solid =
    let parts = both (is_operand_byte byte) (list_all is_operand_byte text) solid in
    let a = both (not (is_space_or_tab byte) && not (byte == 44) && not (byte == 35)) (not (byte == 58)) parts.0 in
    let b = both (not (is_space_or_tab byte) && not (byte == 44)) (not (byte == 35)) a.0 in
    let c = both (not (is_space_or_tab byte)) (not (byte == 44)) b.0 in
    rw c.0 (ap (λ rest. byte ∷ rest) (filter_solid text parts.1))

pub operands_read : (one : List ℕ) (more : List (List ℕ)) (rest : List ℕ) → AreOperands rest (one ∷ more) → AllByRecursion IsOperand (one ∷ more) → operands_of rest ≡ one ∷ more
operands_read one [] rest separated are =
    ap operands_of separated
    ∙ ap (slice_split (λ byte. byte == 44)) (filter_solid one are.0.solid)
    ∙ slice_split_none (λ byte. byte == 44) one (all_apart is_operand_byte 44 refl one are.0.solid)
operands_read one (two ∷ more) rest separated are =
    let before = separated.0 in
    let after = separated.1 in
    let behind = separated.2 in
    let solid = λ (byte : ℕ). not (is_space_or_tab byte) in
    let front : filter solid (one ++ (before ++ (44 ∷ (after ++ behind)))) ≡ one ++ (44 ∷ filter solid behind) =
    rw (filter-append solid one (before ++ (44 ∷ (after ++ behind))), filter_solid one are.0.solid, filter-append solid before (44 ∷ (after ++ behind)), filter_blanks before separated.4, filter-append solid after behind, filter_blanks after separated.5) refl in
    ap operands_of separated.3
    ∙ ap (slice_split (λ byte. byte == 44)) front
    ∙ slice_split_at (λ byte. byte == 44) one 44 (filter solid behind) (all_apart is_operand_byte 44 refl one are.0.solid) refl
    ∙ ap (λ operands. one ∷ operands) (operands_read two more behind separated.6 are.1)

-- what is at the end of an instruction
pub record EndsInOperand (text : List ℕ) : Type 0 where
  pub bare : list_all (λ byte. not (byte == 35)) text ≡ true
  pub some : 0 < length text
  pub last : is_operand_byte (last_of 0 text) ≡ true

last_behind : (front text : List ℕ) → 0 < length text → last_of 0 (front ++ text) ≡ last_of 0 text
last_behind front [] some = absurd (omega arith)
last_behind front (byte ∷ text) some = last_of-append 0 front byte text

last_solid : (byte : ℕ) (text : List ℕ) → list_all is_operand_byte (byte ∷ text) ≡ true → is_operand_byte (last_of byte text) ≡ true
last_solid byte [] solid = (both (is_operand_byte byte) true solid).0
last_solid byte (other ∷ text) solid = last_solid other text (both (is_operand_byte byte) (list_all is_operand_byte (other ∷ text)) solid).1

pub operand_ends : (text : List ℕ) → IsOperand text → EndsInOperand text
operand_ends [] is = absurd (omega (arith, is.some))
operand_ends (byte ∷ text) is = record {
  bare = none_is is_operand_byte 35 refl (byte ∷ text) is.solid;
  some = omega arith;
  last = last_solid byte text is.solid;
}

pub ends_behind : (front text : List ℕ) → list_all (λ byte. not (byte == 35)) front ≡ true → EndsInOperand text → EndsInOperand (front ++ text)
ends_behind front text bare ends =
    let some = ends.some in
    record {
      bare = all_of_both (λ byte. not (byte == 35)) front text bare ends.bare;
      some = omega (arith, length-append front text);
      last = rw (last_behind front text ends.some) ends.last;
    }

pub operands_end : (one : List ℕ) (more : List (List ℕ)) (rest : List ℕ) → AreOperands rest (one ∷ more) → AllByRecursion IsOperand (one ∷ more) → EndsInOperand rest
operands_end one [] rest separated are = rw separated (operand_ends one are.0)
operands_end one (two ∷ more) rest separated are =
    let before = separated.0 in
    let after = separated.1 in
    let behind = separated.2 in
    let bare = λ (byte : ℕ). not (byte == 35) in
    rw separated.3 (
    ends_behind one (before ++ (44 ∷ (after ++ behind))) (none_is is_operand_byte 35 refl one are.0.solid) (
    ends_behind before (44 ∷ (after ++ behind)) (blanks_bare before separated.4) (
    ends_behind (44 ∷ []) (after ++ behind) refl (
    ends_behind after behind (blanks_bare after separated.5) (operands_end two more behind separated.6 are.1)
    ))))

-- the register of an operand
pub register_at : List ℕ → ℕ
register_at text = digits_value 10 (drop 1 text)

pub register_again : (register : ℕ) → register < 32 → register_at (register_text register) ≡ register
unfolding register_at
register_again register small = (decimal_is_IsNumeral register (omega arith)).1

-- the offset of an address, and its register
pub offset_at : List ℕ → List ℕ
offset_at text = until (λ byte. byte == 40) text

pub base_at : List ℕ → ℕ
base_at text = register_at (until (λ byte. byte == 41) (drop 1 (since (λ byte. byte == 40) text)))

no_parenthesis : (offset : List ℕ) (imm : ℤ) → IsSignedNumber offset imm → list_all (λ byte. not (byte == 40)) offset ≡ true
no_parenthesis offset imm number = none_is is_signed_byte 40 refl offset (signed_bytes offset number.digits).0

pub offset_again : (offset : List ℕ) (imm : ℤ) (base : ℕ) → IsSignedNumber offset imm → offset_at (offset ++ (codes "(" ++ (register_text base ++ codes ")"))) ≡ offset
unfolding offset_at
offset_again offset imm base number = until-append (λ byte. byte == 40) offset (codes "(" ++ (register_text base ++ codes ")")) (no_parenthesis offset imm number) refl

pub base_again : (offset : List ℕ) (imm : ℤ) (base : ℕ) → IsSignedNumber offset imm → base < 32 → base_at (offset ++ (codes "(" ++ (register_text base ++ codes ")"))) ≡ base
unfolding base_at
base_again offset imm base number small =
    let digits = digits_of_decimal base (omega arith) in
    ap (λ text. register_at (until (λ byte. byte == 41) (drop 1 text))) (since-append (λ byte. byte == 40) offset (codes "(" ++ (register_text base ++ codes ")")) (no_parenthesis offset imm number) refl)
    ∙ ap register_at (until-append (λ byte. byte == 41) (register_text base) (codes ")") (none_is is_digit 41 refl (decimal base) digits) refl)
    ∙ register_again base small
