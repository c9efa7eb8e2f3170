-- A line of the body is read as what it says, and says what is read of it.
use Rattle.std.proofs.Common.{◌≡◌, ℕ, ◌<◌, inl, inr, List, [], ◌∷◌, ◌++◌, length, refl, sym, ap, subst, ◌∙◌, arith}
use Rattle.std.specs.Prelude.{◌⊎◌, Bool, true, false, not, ◌||◌, ◌==◌, cond, codes}
use Rattle.std.specs.List.{list_all}
use Rattle.std.specs.declared.result.Result.{Result}
use Rattle.std.specs.declared.result.Result.TheVariants.{Ok, Err}
use Rattle.std.proofs.lemmas.Bool.{and_parts, and_from, and_left, and_right, or_cases, or_from, or_right, false_from_ne_true}
use Rattle.std.proofs.lemmas.List.{append-nil}
use Rattle.std.proofs.lemmas.List.Folds.{list_all-append}
use Rattle.rv_line.specs.Instructions.{is_space_or_tab, is_label, IsLabel, IsGlobal, Says}
use Rattle.rv_line.specs.Spells.{SaysNothing}
use Rattle.rv_line.specs.Spells.SaysNothing.{empty, section, global}
use Rattle.rv_reader.specs.BodyLines.{Draft, Reading, instruction_of, is_global, means_nothing, defines_label, codes_draft, reading_of_core, reading_of}
use Rattle.rv_reader.specs.BodyLines.Reading.{Nothing, Defines, Codes}
use Rattle.rv_reader.specs.Cuts.{same, until, since, without_lead, core_of, first_word, behind_word}
use Rattle.rv_reader.proofs.CutLemmas.{begins, until-append, since-append, cut, same_true, IsTight, leads, trails, solid_leads, solid_trails, lead_off, all_of_both, none_is, core_is, says_core, core_trails, true_not_false, twice}
use Rattle.rv_reader.proofs.DraftLemmas.{IsDraft, draft_back}
use Rattle.rv_reader.proofs.InstructionLemmas.{plain_byte, behind_plain, operand_plain, plain_bare, gap_begins}
use Rattle.rv_reader.proofs.OperandLemmas.{is_operand_byte, label_operand}
use Rattle.rv_reader.proofs.SplitLemmas.{solid_bytes}

lead_none : (text : List ℕ) → leads text ≡ true → without_lead text ≡ text
lead_none [] first = refl
lead_none (byte ∷ bytes) first = rw first refl

-- `.globl`, blanks and a name are passed over
global_core : (core : List ℕ) → IsGlobal core → IsTight core × (is_global core ≡ true)
global_core core is =
    let gap = is.gap in
    let name = is.name in
    let operand = label_operand name is.label in
    let solid = solid_bytes name operand.solid in
    let blank = gap_begins gap name is.apart is.some in
    let ends = behind_plain (codes ".globl") (gap ++ name) refl (behind_plain gap name (plain_byte is_space_or_tab refl refl gap is.apart) (operand_plain name operand)) in
    let word : first_word core ≡ codes ".globl" = ap first_word is.spelled ∙ until-append is_space_or_tab (codes ".globl") (gap ++ name) refl blank in
    let behind : behind_word core ≡ gap ++ name = ap behind_word is.spelled ∙ since-append is_space_or_tab (codes ".globl") (gap ++ name) refl blank in
    let named : without_lead (behind_word core) ≡ name = ap without_lead behind ∙ lead_off gap name is.apart ∙ lead_none name (solid_leads name solid) in (
      record {
        bare = ap (list_all (λ byte. not (byte == 35))) is.spelled ∙ plain_bare (codes ".globl" ++ (gap ++ name)) ends.plain;
        first = ap leads is.spelled;
        last = ap trails is.spelled ∙ ends.last;
      },
      and_from (same (first_word core) (codes ".globl")) (is_label (without_lead (behind_word core))) (ap (λ t. same t (codes ".globl")) word) (ap is_label named ∙ is.label),
    )

-- a text with a colon is none without
colon_differs : (one other : List ℕ) → list_all (λ byte. not (byte == 58)) one ≡ false → list_all (λ byte. not (byte == 58)) other ≡ true → same one other ≡ false
colon_differs one other has none =
    false_from_ne_true (same one other) (λ h. true_not_false (sym none ∙ ap (list_all (λ byte. not (byte == 58))) (sym (same_true one other h)) ∙ has))

defined_core : (core name : List ℕ) → means_nothing core ≡ false → defines_label core ≡ true → until (λ byte. byte == 58) core ≡ name → reading_of_core core ≡ Ok (Defines name)
defined_core core name something defines is = rw (something, defines) (ap (λ label. Ok (Defines label)) is)

colon_says : (core : List ℕ) → list_all (λ byte. not (is_space_or_tab byte)) core ≡ true → list_all (λ byte. not (byte == 58)) core ≡ false → means_nothing core ≡ false
colon_says core solid has =
    let word : first_word core ≡ core = ap first_word (sym (append-nil core)) ∙ until-append is_space_or_tab core [] solid refl in
    let global : same (first_word core) (codes ".globl") ≡ false = ap (λ t. same t (codes ".globl")) word ∙ colon_differs core (codes ".globl") has refl in
    or_from (same core [] || same core (codes ".text")) (is_global core)
    (or_from (same core []) (same core (codes ".text")) (colon_differs core [] has refl) (colon_differs core (codes ".text") has refl))
    (and_left (same (first_word core) (codes ".globl")) (is_label (without_lead (behind_word core))) global)

label_core : (name : List ℕ) → IsLabel name → IsTight (name ++ codes ":") × (reading_of_core (name ++ codes ":") ≡ Ok (Defines name))
label_core name is =
    let core = name ++ codes ":" in
    let operand = (label_operand name is).solid in
    let solid : list_all (λ byte. not (is_space_or_tab byte)) core ≡ true = all_of_both (λ byte. not (is_space_or_tab byte)) name (codes ":") (solid_bytes name operand) refl in
    let has : list_all (λ byte. not (byte == 58)) core ≡ false =
    list_all-append (λ byte. not (byte == 58)) name (codes ":") ∙ and_right (list_all (λ byte. not (byte == 58)) name) false refl in
    let plain = none_is is_operand_byte 58 refl name operand in
    let front : until (λ byte. byte == 58) core ≡ name = until-append (λ byte. byte == 58) name (codes ":") plain refl in
    let back : since (λ byte. byte == 58) core ≡ codes ":" = since-append (λ byte. byte == 58) name (codes ":") plain refl in
    let defines : defines_label core ≡ true =
    and_from (is_label (until (λ byte. byte == 58) core)) (same (since (λ byte. byte == 58) core) (codes ":")) (ap is_label front ∙ is) (ap (λ t. same t (codes ":")) back) in (
      record {
        bare = all_of_both (λ byte. not (byte == 35)) name (codes ":") (none_is is_operand_byte 35 refl name operand) refl;
        first = solid_leads core solid;
        last = solid_trails core solid;
      },
      defined_core core name (colon_says core solid has) defines front,
    )

pub nothing_read : (text : List ℕ) → SaysNothing text → reading_of text ≡ Ok Nothing
nothing_read text (empty says) = ap reading_of_core (core_is text [] (record { bare = refl; first = refl; last = refl }) says)
nothing_read text (section says) = ap reading_of_core (core_is text (codes ".text") (record { bare = refl; first = refl; last = refl }) says)
nothing_read text (global core says is) =
    let global = global_core core is in
    let passed : means_nothing core ≡ true = or_right (same core [] || same core (codes ".text")) (is_global core) global.1 in
    ap reading_of_core (core_is text core global.0 says) ∙ rw passed refl

pub label_read : (text name : List ℕ) → Says text (name ++ codes ":") → IsLabel name → reading_of text ≡ Ok (Defines name)
label_read text name says is =
    let label = label_core name is in
    ap reading_of_core (core_is text (name ++ codes ":") label.0 says) ∙ label.1

-- what is spelled where a line is read so
abbrev pub IsReading : List ℕ → Reading → Type 0
IsReading text Nothing = SaysNothing text
IsReading text (Defines label) = Says text (label ++ codes ":") × IsLabel label
IsReading text (Codes draft) = (core : List ℕ) × Says text core × IsDraft core draft

abbrev pub IsReadingOf : List ℕ → Result Reading ℕ → Type 0
IsReadingOf text (Ok reading) = IsReading text reading
IsReadingOf text (Err cause) = Unit {0}

global_back : (core : List ℕ) → is_global core ≡ true → IsGlobal core
global_back core is =
    let parts = and_parts (same (first_word core) (codes ".globl")) (is_label (without_lead (behind_word core))) is in
    let whole = cut is_space_or_tab core in
    let gap = cut (λ byte. not (is_space_or_tab byte)) (behind_word core) in
    record {
      gap = until (λ byte. not (is_space_or_tab byte)) (behind_word core);
      name = without_lead (behind_word core);
      spelled =
          whole.whole
          ∙ ap (λ t. t ++ behind_word core) (same_true (first_word core) (codes ".globl") parts.0)
          ∙ ap (λ t. codes ".globl" ++ t) gap.whole;
      apart = twice (until (λ byte. not (is_space_or_tab byte)) (behind_word core)) gap.before;
      some = some_gap (behind_word core) whole.behind parts.1;
      label = parts.1;
    }
  where
    some_gap : (behind : List ℕ) → begins is_space_or_tab behind ≡ true → is_label (without_lead behind) ≡ true → 0 < length (until (λ byte. not (is_space_or_tab byte)) behind)
    some_gap [] blank label = absurd (true_not_false (sym label))
    some_gap (byte ∷ bytes) blank label = rw blank (omega arith)

nothing_from : (text core : List ℕ) → Says text core → means_nothing core ≡ true → SaysNothing text
nothing_from text core says is = outer (or_cases (same core [] || same core (codes ".text")) (is_global core) is)
  where
    inner : (same core [] ≡ true) ⊎ (same core (codes ".text") ≡ true) → SaysNothing text
    inner (inl e) = empty (rw (same_true core [] e) at says)
    inner (inr e) = section (rw (same_true core (codes ".text") e) at says)

    outer : ((same core [] || same core (codes ".text")) ≡ true) ⊎ (is_global core ≡ true) → SaysNothing text
    outer (inl e) = inner (or_cases (same core []) (same core (codes ".text")) e)
    outer (inr e) = global core says (global_back core e)

label_from : (text core : List ℕ) → Says text core → defines_label core ≡ true → IsReading text (Defines (until (λ byte. byte == 58) core))
label_from text core says is =
    let parts = and_parts (is_label (until (λ byte. byte == 58) core)) (same (since (λ byte. byte == 58) core) (codes ":")) is in
    let whole : core ≡ until (λ byte. byte == 58) core ++ codes ":" =
    (cut (λ byte. byte == 58) core).whole ∙ ap (λ t. until (λ byte. byte == 58) core ++ t) (same_true (since (λ byte. byte == 58) core) (codes ":") parts.1) in
    (subst (λ t. Says text t) whole says, parts.0)

pub reads_back : (text : List ℕ) → IsReadingOf text (reading_of text)
reads_back text = by_tests (means_nothing (core_of text)) (defines_label (core_of text)) refl refl
  where
    instruction : (found : Result Draft ℕ) → instruction_of (core_of text) ≡ found → IsReadingOf text (codes_draft found)
    instruction (Ok draft) is = (core_of text, says_core text, draft_back (core_of text) draft (core_trails text) is)
    instruction (Err cause) is = tt

    by_tests : (nothing label : Bool) → means_nothing (core_of text) ≡ nothing → defines_label (core_of text) ≡ label → IsReadingOf text (cond nothing (Ok Nothing) (cond label (Ok (Defines (until (λ byte. byte == 58) (core_of text)))) (codes_draft (instruction_of (core_of text)))))
    by_tests true label a b = nothing_from text (core_of text) (says_core text) a
    by_tests false true a b = label_from text (core_of text) (says_core text) b
    by_tests false false a b = instruction (instruction_of (core_of text)) refl
