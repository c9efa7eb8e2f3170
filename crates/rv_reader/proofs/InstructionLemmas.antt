-- An instruction is read as it is spelled.
use Rattle.std.proofs.Common.{◌≡◌, ℕ, ◌<◌, List, [], ◌∷◌, ◌++◌, length, refl, sym, ap, ◌∙◌, arith}
use Rattle.std.specs.Prelude.{pos, Bool, true, false, not, ◌&&◌, ◌==◌, codes, Contains}
use Rattle.std.specs.List.{list_all, AllByRecursion}
use Rattle.std.specs.declared.option.Option.TheVariants.{Some}
use Rattle.std.specs.declared.result.Result.TheVariants.{Ok}
use Rattle.std.proofs.lemmas.Bool.{and_parts, and_right, leb-true, ne_eqb, not-true}
use Rattle.rv_line.specs.Fits.{FitsLine}
use Rattle.std.proofs.lemmas.List.{length-append, append-nil}
use Rattle.std.proofs.lemmas.List.Elements.{All-contains, All-from_recursion}
use Rattle.rv_line.specs.Instructions.{is_space_or_tab, AreBlanks, AreOperands, IsLabel, Takes, SpellsLine}
use Rattle.rv_line.specs.declared.line.Branch.{Branch}
use Rattle.rv_line.specs.declared.line.Line.{Line}
use Rattle.rv_line.specs.declared.line.Line.TheVariants.{Three as ThreeLine, Imm as ImmLine, Load as LoadLine, Store as StoreLine, Branch as BranchLine, Lui, Auipc, Jal, Jalr, Fence, Ecall, Ebreak}
use Rattle.rv_reader.specs.BodyLines.{Draft, draft_of, draft_with, instruction_of, means_nothing, defines_label, codes_draft, reading_of_core}
use Rattle.rv_reader.specs.BodyLines.Draft.{Whole, ToBranch, ToJump}
use Rattle.rv_reader.specs.BodyLines.Reading.{Codes}
use Rattle.rv_reader.specs.Cuts.{same, since, first_word, behind_word, operands_in}
use Rattle.rv_reader.specs.Forms.{mnemonic_of, form_of}
use Rattle.rv_reader.specs.declared.form.Form.{Form}
use Rattle.rv_reader.specs.declared.form.Form.TheVariants.{Three as ThreeForm, Imm as ImmForm, Load as LoadForm, Store as StoreForm, Branch as BranchForm, Lui as LuiForm, Auipc as AuipcForm, Jal as JalForm, Jalr as JalrForm, Fence as FenceForm, Ecall as EcallForm, Ebreak as EbreakForm}
use Rattle.rv_reader.proofs.CutLemmas.{begins, until-append, since-append, IsTight, trails, trails-append, solid_leads, solid_trails, all_of_both, all_weaker, not_at}
use Rattle.rv_reader.proofs.FormLemmas.{is_lower, is_form}
use Rattle.rv_reader.proofs.OperandLemmas.{is_operand_byte, IsOperand, register_is, immediate_is, address_is, label_is, register_operand, signed_operand, address_operand, label_operand}
use Rattle.rv_reader.proofs.RangeLemmas.{immediate_fits, upper_fits, accepts_fits}
use Rattle.rv_reader.proofs.SplitLemmas.{operands_cut, solid_bytes}

-- what an instruction has no byte of: `#` and `:`
abbrev pub is_plain : ℕ → Bool
is_plain byte = not (byte == 35) && not (byte == 58)

pub plain_byte : (p : ℕ → Bool) → p 35 ≡ false → p 58 ≡ false → (text : List ℕ) → list_all p text ≡ true → list_all is_plain text ≡ true
plain_byte p a b = all_weaker p is_plain (λ byte passes. rw (not_at p 35 a byte passes, not_at p 58 b byte passes) refl)

-- a text that is plain, and ends without a blank
pub record IsPlainEnd (text : List ℕ) : Type 0 where
  pub plain : list_all is_plain text ≡ true
  pub some : 0 < length text
  pub last : trails text ≡ true

pub behind_plain : (front text : List ℕ) → list_all is_plain front ≡ true → IsPlainEnd text → IsPlainEnd (front ++ text)
behind_plain front [] plain ends = absurd (omega (arith, ends.some))
behind_plain front (byte ∷ text) plain ends = record {
  plain = all_of_both is_plain front (byte ∷ text) plain ends.plain;
  some = omega (arith, length-append front (byte ∷ text));
  last = trails-append front byte text ∙ ends.last;
}

pub operand_plain : (text : List ℕ) → IsOperand text → IsPlainEnd text
operand_plain text is = record {
  plain = plain_byte is_operand_byte refl refl text is.solid;
  some = is.some;
  last = solid_trails text (solid_bytes text is.solid);
}

operands_plain : (one : List ℕ) (more : List (List ℕ)) (rest : List ℕ) → AreOperands rest (one ∷ more) → AllByRecursion IsOperand (one ∷ more) → IsPlainEnd rest
operands_plain one [] rest separated are = rw separated (operand_plain one are.0)
operands_plain one (two ∷ more) rest separated are =
    rw separated.3 (
    behind_plain one (separated.0 ++ (44 ∷ (separated.1 ++ separated.2))) (operand_plain one are.0).plain (
    behind_plain separated.0 (44 ∷ (separated.1 ++ separated.2)) (plain_byte is_space_or_tab refl refl separated.0 separated.4) (
    behind_plain (44 ∷ []) (separated.1 ++ separated.2) refl (
    behind_plain separated.1 separated.2 (plain_byte is_space_or_tab refl refl separated.1 separated.5) (operands_plain two more separated.2 separated.6 are.1)
    ))))

-- what is read of an instruction's core
record IsTaken (core mnemonic : List ℕ) (operands : List (List ℕ)) : Type 0 where
  tight : IsTight core
  something : means_nothing core ≡ false
  no_label : defines_label core ≡ false
  word : first_word core ≡ mnemonic
  operands_are : operands_in (behind_word core) ≡ operands

since_none : (test : ℕ → Bool) (text : List ℕ) → list_all (λ byte. not (test byte)) text ≡ true → since test text ≡ []
since_none test [] none = refl
since_none test (byte ∷ text) none =
    let parts = and_parts (not (test byte)) (list_all (λ other. not (test other)) text) none in
    rw (not-true (test byte) parts.0) (since_none test text parts.1)

plain_no_label : (core : List ℕ) → list_all is_plain core ≡ true → defines_label core ≡ false
plain_no_label core plain =
    let none : list_all (λ byte. not (byte == 58)) core ≡ true =
    all_weaker is_plain (λ byte. not (byte == 58)) (λ byte passes. (and_parts (not (byte == 35)) (not (byte == 58)) passes).1) core plain in
    and_right _ (same (since (λ byte. byte == 58) core) (codes ":")) (rw (since_none (λ byte. byte == 58) core none) refl)

pub plain_bare : (core : List ℕ) → list_all is_plain core ≡ true → list_all (λ byte. not (byte == 35)) core ≡ true
plain_bare = all_weaker is_plain (λ byte. not (byte == 35)) (λ byte passes. (and_parts (not (byte == 35)) (not (byte == 58)) passes).0)

lower_solid : (byte : ℕ) → is_lower byte ≡ true → is_space_or_tab byte ≡ false
lower_solid byte lower =
    let low = leb-true 97 byte lower in
    rw (ne_eqb byte 32 (λ e. omega arith), ne_eqb byte 9 (λ e. omega arith)) refl

-- what begins with a letter is none of the lines that mean nothing
letter_says : (byte : ℕ) (bytes : List ℕ) → is_lower byte ≡ true → means_nothing (byte ∷ bytes) ≡ false
letter_says byte bytes lower =
    let low = leb-true 97 byte lower in
    let no_dot : (byte == 46) ≡ false = ne_eqb byte 46 (λ e. omega arith) in
    rw (no_dot, lower_solid byte lower, no_dot) refl

first_letter : (mnemonic rest : List ℕ) → list_all is_lower mnemonic ≡ true → 0 < length mnemonic → (means_nothing (mnemonic ++ rest) ≡ false) × (begins (λ byte. not (is_space_or_tab byte)) (mnemonic ++ rest) ≡ true)
first_letter [] rest letters some = absurd (omega arith)
first_letter (byte ∷ mnemonic) rest letters some =
    let lower = (and_parts (is_lower byte) (list_all is_lower mnemonic) letters).0 in
    (letter_says byte (mnemonic ++ rest) lower, rw (lower_solid byte lower) refl)

pub gap_begins : (gap rest : List ℕ) → AreBlanks gap → 0 < length gap → begins is_space_or_tab (gap ++ rest) ≡ true
gap_begins [] rest blanks some = absurd (omega arith)
gap_begins (byte ∷ gap) rest blanks some = (and_parts (is_space_or_tab byte) (list_all is_space_or_tab gap) blanks).0

gap_cut : (one : List ℕ) (more : List (List ℕ)) (gap rest : List ℕ) → AreBlanks gap → 0 < length gap → AreOperands rest (one ∷ more) → AllByRecursion IsOperand (one ∷ more) → operands_in (gap ++ rest) ≡ one ∷ more
gap_cut one more [] rest blanks some separated are = absurd (omega arith)
gap_cut one more (byte ∷ gap) rest blanks some separated are = operands_cut one more (byte ∷ gap) rest blanks separated are

lower_word : (mnemonic : List ℕ) → list_all is_lower mnemonic ≡ true → list_all (λ byte. not (is_space_or_tab byte)) mnemonic ≡ true
lower_word = all_weaker is_lower (λ byte. not (is_space_or_tab byte)) (λ byte lower. rw (lower_solid byte lower) refl)

lower_plain : (mnemonic : List ℕ) → list_all is_lower mnemonic ≡ true → list_all is_plain mnemonic ≡ true
lower_plain = plain_byte is_lower refl refl

taken : (core mnemonic one : List ℕ) (more : List (List ℕ)) → list_all is_lower mnemonic ≡ true → 0 < length mnemonic → Takes core mnemonic (one ∷ more) → AllByRecursion IsOperand (one ∷ more) → IsTaken core mnemonic (one ∷ more)
taken core mnemonic one more letters some takes are =
    let gap = takes.gap in
    let rest = takes.rest in
    let solid = lower_word mnemonic letters in
    let blank = gap_begins gap rest takes.apart takes.some in
    let first = first_letter mnemonic (gap ++ rest) letters some in
    let ends = behind_plain mnemonic (gap ++ rest) (lower_plain mnemonic letters) (
    behind_plain gap rest (plain_byte is_space_or_tab refl refl gap takes.apart) (operands_plain one more rest takes.separated are)
    ) in
    let core_first : begins (λ byte. not (is_space_or_tab byte)) core ≡ true = ap (begins (λ byte. not (is_space_or_tab byte))) takes.spelled ∙ first.1 in
    let core_plain : list_all is_plain core ≡ true = ap (list_all is_plain) takes.spelled ∙ ends.plain in
    record {
      tight = record { bare = plain_bare core core_plain; first = core_first; last = ap trails takes.spelled ∙ ends.last };
      something = ap means_nothing takes.spelled ∙ first.0;
      no_label = plain_no_label core core_plain;
      word = ap first_word takes.spelled ∙ until-append is_space_or_tab mnemonic (gap ++ rest) solid blank;
      operands_are =
          ap (λ t. operands_in (behind_word t)) takes.spelled
          ∙ ap operands_in (since-append is_space_or_tab mnemonic (gap ++ rest) solid blank)
          ∙ gap_cut one more gap rest takes.apart takes.some takes.separated are;
    }

-- the instruction of a draft, with the target for which its label stands among these
pub data Aims (labels : List (List ℕ × ℕ)) : Draft → Line → Type 0 where
  whole : (line : Line) → Aims labels (Whole line) line
  branch : (code : Branch) (left right target : ℕ) (label : List ℕ) → Contains labels (label, target) → Aims labels (ToBranch code left right label) (BranchLine code left right target)
  jump : (to target : ℕ) (label : List ℕ) → Contains labels (label, target) → Aims labels (ToJump to label) (Jal to target)

-- what is read where an instruction is spelled
pub record IsRead (labels : List (List ℕ × ℕ)) (core : List ℕ) (line : Line) : Type 0 where
  pub draft : Draft
  pub tight : IsTight core
  pub read : reading_of_core core ≡ Ok (Codes draft)
  pub aims : Aims labels draft line

-- from a mnemonic and operands
read_taken : (labels : List (List ℕ × ℕ)) (core : List ℕ) (form : Form) (operands : List (List ℕ)) (draft : Draft) (line : Line) → IsTaken core (mnemonic_of form) operands → draft_of form operands ≡ Ok draft → Aims labels draft line → IsRead labels core line
read_taken labels core form operands draft line taken drafted aims =
    let known : form_of (first_word core) ≡ Some form = ap form_of taken.word ∙ (is_form form).found in
    let instruction : instruction_of core ≡ Ok draft =
    ap (λ found. draft_with found (operands_in (behind_word core))) known ∙ ap (draft_of form) taken.operands_are ∙ drafted in
    record {
      draft = draft;
      tight = taken.tight;
      read = rw (taken.something, taken.no_label) (ap codes_draft instruction);
      aims = aims;
    }

-- by a form whose first operand is a register
by_form : (labels : List (List ℕ × ℕ)) (core : List ℕ) (form : Form) (one : List ℕ) (more : List (List ℕ)) (draft : Draft) (line : Line) → Takes core (mnemonic_of form) (one ∷ more) → AllByRecursion IsOperand (one ∷ more) → draft_of form (one ∷ more) ≡ Ok draft → Aims labels draft line → IsRead labels core line
by_form labels core form one more draft line takes are drafted aims =
    let is = is_form form in
    read_taken labels core form (one ∷ more) draft line (taken core (mnemonic_of form) one more is.letters is.some takes are) drafted aims

taken_alone : (word : List ℕ) → list_all is_lower word ≡ true → 0 < length word → IsTaken word word []
taken_alone word letters some =
    let solid = lower_word word letters in
    let plain = lower_plain word letters in
    record {
      tight = record { bare = plain_bare word plain; first = solid_leads word solid; last = solid_trails word solid };
      something = ap means_nothing (sym (append-nil word)) ∙ (first_letter word [] letters some).0;
      no_label = plain_no_label word plain;
      word = ap first_word (sym (append-nil word)) ∙ until-append is_space_or_tab word [] solid refl;
      operands_are = ap (λ t. operands_in (behind_word t)) (sym (append-nil word)) ∙ ap operands_in (since-append is_space_or_tab word [] solid refl);
    }

word_alone : (labels : List (List ℕ × ℕ)) (core : List ℕ) (form : Form) (line : Line) → core ≡ mnemonic_of form → draft_of form [] ≡ Ok (Whole line) → IsRead labels core line
word_alone labels core form line spelled drafted =
    let is = is_form form in
    let alone : IsTaken core (mnemonic_of form) [] = rw spelled (taken_alone (mnemonic_of form) is.letters is.some) in
    read_taken labels core form [] (Whole line) line alone drafted (whole line)

-- an instruction is read as it is spelled
pub line_read : (labels : List (List ℕ × ℕ)) (named : AllByRecursion (λ label. IsLabel label.0) labels) (count at : ℕ) (core : List ℕ) (line : Line) → FitsLine count at line → SpellsLine labels core line → IsRead labels core line
line_read labels named count at core (ThreeLine code to left right) fits spelled =
    by_form labels core (ThreeForm code) _ _ (Whole (ThreeLine code to left right)) _ spelled
    (register_operand to fits.to, (register_operand left fits.left, (register_operand right fits.right, tt)))
    (rw (register_is to fits.to, register_is left fits.left, register_is right fits.right) refl) (whole _)
line_read labels named count at core (ImmLine code to from imm) fits spelled =
    by_form labels core (ImmForm code) _ _ (Whole (ImmLine code to from imm)) _ spelled.takes
    (register_operand to fits.to, (register_operand from fits.from, (signed_operand spelled.digits imm spelled.number, tt)))
    (rw (register_is to fits.to, register_is from fits.from, immediate_is spelled.digits imm spelled.number, accepts_fits code imm fits.imm) refl) (whole _)
line_read labels named count at core (LoadLine code to imm base) fits spelled =
    by_form labels core (LoadForm code) _ _ (Whole (LoadLine code to imm base)) _ spelled.takes
    (register_operand to fits.operand, (address_operand spelled.offset imm base spelled.number fits.base, tt))
    (rw (register_is to fits.operand, address_is spelled.offset imm base spelled.number fits.base, immediate_fits imm fits.imm) refl) (whole _)
line_read labels named count at core (StoreLine code from imm base) fits spelled =
    by_form labels core (StoreForm code) _ _ (Whole (StoreLine code from imm base)) _ spelled.takes
    (register_operand from fits.operand, (address_operand spelled.offset imm base spelled.number fits.base, tt))
    (rw (register_is from fits.operand, address_is spelled.offset imm base spelled.number fits.base, immediate_fits imm fits.imm) refl) (whole _)
line_read labels named count at core (BranchLine code left right target) fits spelled =
    let is = All-contains (λ label. IsLabel label.0) labels (spelled.name, target) (All-from_recursion (λ label. IsLabel label.0) labels named) spelled.defined in
    by_form labels core (BranchForm code) _ _ (ToBranch code left right spelled.name) _ spelled.takes
    (register_operand left fits.left, (register_operand right fits.right, (label_operand spelled.name is, tt)))
    (rw (register_is left fits.left, register_is right fits.right, label_is spelled.name is) refl) (branch code left right target spelled.name spelled.defined)
line_read labels named count at core (Lui to imm) fits spelled =
    by_form labels core LuiForm _ _ (Whole (Lui to imm)) _ spelled.takes
    (register_operand to fits.to, (signed_operand spelled.digits (pos imm) spelled.number, tt))
    (rw (register_is to fits.to, immediate_is spelled.digits (pos imm) spelled.number, upper_fits imm fits.imm) refl) (whole _)
line_read labels named count at core (Auipc to imm) fits spelled =
    by_form labels core AuipcForm _ _ (Whole (Auipc to imm)) _ spelled.takes
    (register_operand to fits.to, (signed_operand spelled.digits (pos imm) spelled.number, tt))
    (rw (register_is to fits.to, immediate_is spelled.digits (pos imm) spelled.number, upper_fits imm fits.imm) refl) (whole _)
line_read labels named count at core (Jal to target) fits spelled =
    let is = All-contains (λ label. IsLabel label.0) labels (spelled.name, target) (All-from_recursion (λ label. IsLabel label.0) labels named) spelled.defined in
    by_form labels core JalForm _ _ (ToJump to spelled.name) _ spelled.takes
    (register_operand to fits.to, (label_operand spelled.name is, tt))
    (rw (register_is to fits.to, label_is spelled.name is) refl) (jump to target spelled.name spelled.defined)
line_read labels named count at core (Jalr to imm base) fits spelled =
    by_form labels core JalrForm _ _ (Whole (Jalr to imm base)) _ spelled.takes
    (register_operand to fits.operand, (address_operand spelled.offset imm base spelled.number fits.base, tt))
    (rw (register_is to fits.operand, address_is spelled.offset imm base spelled.number fits.base, immediate_fits imm fits.imm) refl) (whole _)
line_read labels named count at core Fence fits spelled = word_alone labels core FenceForm Fence spelled refl
line_read labels named count at core Ecall fits spelled = word_alone labels core EcallForm Ecall spelled refl
line_read labels named count at core Ebreak fits spelled = word_alone labels core EbreakForm Ebreak spelled refl
