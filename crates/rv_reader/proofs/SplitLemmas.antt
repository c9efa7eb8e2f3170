-- Operands that are separated are cut as they are, and what is cut is separated.
use Rattle.std.proofs.Common.{◌≡◌, ℕ, ◌<◌, List, [], ◌∷◌, ◌++◌, length, refl, sym, ap, ◌∙◌, arith, append_assoc}
use Rattle.std.specs.Prelude.{Bool, true, false, not, ◌&&◌, ◌==◌, All, map}
use Rattle.std.specs.List.{list_all, slice_split, join_with_byte, AllByRecursion}
use Rattle.std.proofs.lemmas.Bool.{and_parts}
use Rattle.std.proofs.lemmas.List.{append-nil}
use Rattle.std.proofs.lemmas.List.Elements.{All-nil, All-cons}
use Rattle.std.proofs.lemmas.List.Splits.{slice_split_none, slice_split_at, join_with_byte-slice_split}
use Rattle.rv_line.specs.Emitted.{register_text}
use Rattle.rv_line.specs.Instructions.{is_space_or_tab, AreBlanks, AreOperands, Takes}
use Rattle.rv_reader.specs.Cuts.{cut_operands, trimmed, first_word, behind_word, operands_in}
use Rattle.rv_reader.proofs.CutLemmas.{begins, cut, trails, trails-append, no_trail, solid_leads, solid_trails, trimmed_is, trims, all_of_both, all_weaker, none_is, not_at, true_not_false}
use Rattle.rv_reader.proofs.OperandLemmas.{is_operand_byte, IsOperand}

pub all_apart : (p : ℕ → Bool) (c : ℕ) → p c ≡ false → (text : List ℕ) → list_all p text ≡ true → All (λ b. (b == c) ≡ false) text
all_apart p c fails [] all = All-nil (λ b. (b == c) ≡ false)
all_apart p c fails (b ∷ text) all =
    let parts = and_parts (p b) (list_all p text) all in
    All-cons (λ other. (other == c) ≡ false) b text (not_at p c fails b parts.0) (all_apart p c fails text parts.1)

no_comma : (text : List ℕ) → list_all (λ byte. not (byte == 44)) text ≡ true → All (λ b. (b == 44) ≡ false) text
no_comma text all = all_apart (λ byte. not (byte == 44)) 44 refl text all

pub solid_bytes : (text : List ℕ) → list_all is_operand_byte text ≡ true → list_all (λ byte. not (is_space_or_tab byte)) text ≡ true
solid_bytes = all_weaker is_operand_byte (λ byte. not (is_space_or_tab byte)) (λ byte solid.
    (and_parts (not (is_space_or_tab byte)) (not (byte == 44)) (and_parts (not (is_space_or_tab byte) && not (byte == 44)) (not (byte == 35)) (and_parts (not (is_space_or_tab byte) && not (byte == 44) && not (byte == 35)) (not (byte == 58)) solid).0).0).0)

-- an operand between blanks is cut out
operand_trimmed : (lead one trail : List ℕ) → AreBlanks lead → AreBlanks trail → IsOperand one → trimmed (lead ++ (one ++ trail)) ≡ one
operand_trimmed lead one trail before behind is =
    let solid = solid_bytes one is.solid in
    trimmed_is lead one trail before behind (solid_leads one solid) (solid_trails one solid)

blanks_apart : (text : List ℕ) → AreBlanks text → list_all (λ byte. not (byte == 44)) text ≡ true
blanks_apart = none_is is_space_or_tab 44 refl

operand_apart : (text : List ℕ) → list_all is_operand_byte text ≡ true → list_all (λ byte. not (byte == 44)) text ≡ true
operand_apart = none_is is_operand_byte 44 refl

-- operands that are separated are cut as they are
pub operands_cut : (one : List ℕ) (more : List (List ℕ)) (gap rest : List ℕ) → AreBlanks gap → AreOperands rest (one ∷ more) → AllByRecursion IsOperand (one ∷ more) → cut_operands (gap ++ rest) ≡ one ∷ more
operands_cut one [] gap rest blanks separated are =
    let apart = all_of_both (λ byte. not (byte == 44)) gap one (blanks_apart gap blanks) (operand_apart one are.0.solid) in
    let alone : trimmed (gap ++ one) ≡ one = ap (λ t. trimmed (gap ++ t)) (sym (append-nil one)) ∙ operand_trimmed gap one [] blanks refl are.0 in
    ap (λ t. cut_operands (gap ++ t)) separated
    ∙ ap (map trimmed) (slice_split_none (λ byte. byte == 44) (gap ++ one) (no_comma (gap ++ one) apart))
    ∙ ap (λ t. t ∷ []) alone
operands_cut one (two ∷ more) gap rest blanks separated are =
    let before = separated.0 in
    let after = separated.1 in
    let behind = separated.2 in
    let front = gap ++ (one ++ before) in
    let grouped : gap ++ (one ++ (before ++ (44 ∷ (after ++ behind)))) ≡ front ++ 44 ∷ (after ++ behind) = simp append_assoc refl in
    let apart : list_all (λ byte. not (byte == 44)) front ≡ true =
    all_of_both (λ byte. not (byte == 44)) gap (one ++ before) (blanks_apart gap blanks) (
    all_of_both (λ byte. not (byte == 44)) one before (operand_apart one are.0.solid) (blanks_apart before separated.4)
    ) in
    ap (λ t. cut_operands (gap ++ t)) separated.3
    ∙ ap cut_operands grouped
    ∙ ap (map trimmed) (slice_split_at (λ byte. byte == 44) front 44 (after ++ behind) (no_comma front apart) refl)
    ∙ ap (λ t. t ∷ cut_operands (after ++ behind)) (operand_trimmed gap one before blanks separated.4 are.0)
    ∙ ap (λ others. one ∷ others) (operands_cut two more after behind separated.5 separated.6 are.1)

-- operands between blanks
record AreBetween (text : List ℕ) (operands : List (List ℕ)) : Type 0 where
  lead : List ℕ
  rest : List ℕ
  trail : List ℕ
  whole : text ≡ lead ++ (rest ++ trail)
  before : AreBlanks lead
  behind : AreBlanks trail
  separated : AreOperands rest operands

between : (part : List ℕ) (parts : List (List ℕ)) → AreBetween (join_with_byte 44 (part ∷ parts)) (map trimmed (part ∷ parts))
between part [] =
    let one = trims part in
    record { lead = one.lead; rest = trimmed part; trail = one.trail; whole = one.whole; before = one.before; behind = one.behind; separated = refl }
between part (second ∷ parts) =
    let one = trims part in
    let others = between second parts in
    record {
      lead = one.lead;
      rest = trimmed part ++ (one.trail ++ (44 ∷ (others.lead ++ others.rest)));
      trail = others.trail;
      whole =
          ap (λ t. t ++ 44 ∷ join_with_byte 44 (second ∷ parts)) one.whole
          ∙ ap (λ t. (one.lead ++ (trimmed part ++ one.trail)) ++ 44 ∷ t) others.whole
          ∙ regrouped one.lead (trimmed part) one.trail others.lead others.rest others.trail;
      before = one.before;
      behind = others.behind;
      separated = (one.trail, others.lead, others.rest, refl, one.behind, others.before, others.separated);
    }
  where
    regrouped : (a b c d e f : List ℕ) → (a ++ (b ++ c)) ++ 44 ∷ (d ++ (e ++ f)) ≡ a ++ ((b ++ (c ++ (44 ∷ (d ++ e)))) ++ f)
    regrouped a b c d e f = simp append_assoc refl

-- at least one part
pub split_some : (text : List ℕ) → (first : List ℕ) × (more : List (List ℕ)) × (slice_split (λ b. b == 44) text ≡ first ∷ more)
split_some [] = ([], [], refl)
split_some (byte ∷ bytes) = by_test (split_some bytes) (byte == 44) refl
  where
    by_test : ((first : List ℕ) × (more : List (List ℕ)) × (slice_split (λ b. b == 44) bytes ≡ first ∷ more)) → (b : Bool) → (byte == 44) ≡ b → (first : List ℕ) × (more : List (List ℕ)) × (slice_split (λ c. c == 44) (byte ∷ bytes) ≡ first ∷ more)
    by_test parts true is = ([], slice_split (λ c. c == 44) bytes, rw is refl)
    by_test parts false is = (byte ∷ parts.0, parts.1, rw (is, parts.2) refl)

-- what is cut is separated
cut_between : (text : List ℕ) → AreBetween text (cut_operands text)
cut_between text =
    let parts = split_some text in
    let found = between parts.0 parts.1 in
    let joined : join_with_byte 44 (parts.0 ∷ parts.1) ≡ text = ap (join_with_byte 44) (sym parts.2) ∙ join_with_byte-slice_split 44 text in
    record {
      lead = found.lead;
      rest = found.rest;
      trail = found.trail;
      whole = sym joined ∙ found.whole;
      before = found.before;
      behind = found.behind;
      separated = rw parts.2 found.separated;
    }

-- the first operand is at the front of them
front_is : (one : List ℕ) (more : List (List ℕ)) (rest : List ℕ) → AreOperands rest (one ∷ more) → (behind : List ℕ) × (rest ≡ one ++ behind)
front_is one [] rest separated = ([], separated ∙ sym (append-nil one))
front_is one (two ∷ more) rest separated = (separated.0 ++ (44 ∷ (separated.1 ++ separated.2)), separated.3)

gap_some : (register : ℕ) (more : List (List ℕ)) (lead rest : List ℕ) → AreOperands rest (register_text register ∷ more) → begins is_space_or_tab (lead ++ rest) ≡ true → 0 < length lead
gap_some register more [] rest separated blank =
    let front = front_is (register_text register) more rest separated in
    absurd (true_not_false (sym (rw front.1 at blank)))
gap_some register more (byte ∷ lead) rest separated blank = omega arith

-- a core whose operands begin with a register
pub takes_from : (core : List ℕ) (register : ℕ) (more : List (List ℕ)) → trails core ≡ true → operands_in (behind_word core) ≡ register_text register ∷ more → Takes core (first_word core) (register_text register ∷ more)
takes_from core register more ends operands = by_behind (behind_word core) refl
  where
    whole : core ≡ first_word core ++ behind_word core
    whole = (cut is_space_or_tab core).whole

    at : (byte : ℕ) (bytes : List ℕ) → behind_word core ≡ byte ∷ bytes → cut_operands (byte ∷ bytes) ≡ register_text register ∷ more → AreBetween (byte ∷ bytes) (cut_operands (byte ∷ bytes)) → Takes core (first_word core) (register_text register ∷ more)
    at byte bytes is cut_is found =
        let separated : AreOperands found.rest (register_text register ∷ more) = rw cut_is at found.separated in
        let split : core ≡ first_word core ++ (byte ∷ bytes) = whole ∙ ap (λ t. first_word core ++ t) is in
        let ends_behind : trails (byte ∷ bytes) ≡ true = sym (trails-append (first_word core) byte bytes) ∙ ap trails (sym split) ∙ ends in
        let grouped : byte ∷ bytes ≡ (found.lead ++ found.rest) ++ found.trail = found.whole ∙ sym (append_assoc found.lead found.rest found.trail) in
        let none : found.trail ≡ [] = no_trail (found.lead ++ found.rest) found.trail (ap trails (sym grouped) ∙ ends_behind) found.behind in
        let bare : byte ∷ bytes ≡ found.lead ++ found.rest = grouped ∙ ap (λ t. (found.lead ++ found.rest) ++ t) none ∙ append-nil (found.lead ++ found.rest) in
        let blank : begins is_space_or_tab (byte ∷ bytes) ≡ true = ap (begins is_space_or_tab) (sym is) ∙ (cut is_space_or_tab core).behind in
        record {
          gap = found.lead;
          rest = found.rest;
          spelled = split ∙ ap (λ t. first_word core ++ t) bare;
          apart = found.before;
          some = gap_some register more found.lead found.rest separated (ap (begins is_space_or_tab) (sym bare) ∙ blank);
          separated = separated;
        }

    by_behind : (behind : List ℕ) → behind_word core ≡ behind → Takes core (first_word core) (register_text register ∷ more)
    by_behind [] is = absurd (nothing (ap operands_in (sym is) ∙ operands))
      where
        nothing : ◌≡◌ {A = List (List ℕ)} [] (register_text register ∷ more) → ⊥
        nothing e = absurd (cc)
    by_behind (byte ∷ bytes) is = at byte bytes is (ap operands_in (sym is) ∙ operands) (cut_between (byte ∷ bytes))
