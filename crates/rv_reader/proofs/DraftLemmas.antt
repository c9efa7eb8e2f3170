-- What is read as an instruction is spelled so.
use Rattle.std.proofs.Common.{◌≡◌, ℕ, List, [], ◌∷◌, ◌++◌, refl, sym, ap, ◌∙◌}
use Rattle.std.specs.Prelude.{ℤ, pos, Bool, true, false, nat_abs, codes, map}
use Rattle.std.specs.declared.option.Option.{Option}
use Rattle.std.specs.declared.option.Option.TheVariants.{None, Some}
use Rattle.std.specs.declared.result.Result.{Result}
use Rattle.std.specs.declared.result.Result.TheVariants.{Ok, Err}
use Rattle.std.proofs.lemmas.List.{append-nil}
use Rattle.rv_line.specs.Emitted.{register_text}
use Rattle.rv_line.specs.Fits.{FitsLine, IsRegister, IsImmediate, IsUpper}
use Rattle.rv_line.specs.Instructions.{is_space_or_tab, IsLabel, Takes, TakesAddress, TakesImm, SpellsLine}
use Rattle.rv_line.specs.Mnemonics.{three_mnemonic, imm_mnemonic, branch_mnemonic}
use Rattle.rv_line.specs.declared.line.Branch.{Branch}
use Rattle.rv_line.specs.declared.line.Imm.{Imm}
use Rattle.rv_line.specs.declared.line.Line.{Line}
use Rattle.rv_line.specs.declared.line.Line.TheVariants.{Three as ThreeLine, Imm as ImmLine, Load as LoadLine, Store as StoreLine, Lui, Auipc, Jalr, Fence, Ecall, Ebreak}
use Rattle.rv_line.specs.declared.line.Three.{Three}
use Rattle.rv_reader.specs.BodyLines.{Draft, with_operand, in_range, three_draft, imm_draft, address_draft, upper_draft, branch_draft, jump_draft, lone_draft, draft_of, draft_with, instruction_of}
use Rattle.rv_reader.specs.BodyLines.Draft.{Whole, ToBranch, ToJump}
use Rattle.rv_reader.specs.Cuts.{trimmed, first_word, behind_word, operands_in}
use Rattle.rv_reader.specs.Forms.{mnemonic_of, form_of, accepts, is_immediate, is_upper}
use Rattle.rv_reader.specs.declared.form.Form.{Form}
use Rattle.rv_reader.specs.declared.form.Form.TheVariants.{Three as ThreeForm, Imm as ImmForm, Load as LoadForm, Store as StoreForm, Branch as BranchForm, Lui as LuiForm, Auipc as AuipcForm, Jal as JalForm, Jalr as JalrForm, Fence as FenceForm, Ecall as EcallForm, Ebreak as EbreakForm}
use Rattle.rv_reader.specs.Operands.{Address, register_of, immediate_of, address_of, label_of}
use Rattle.rv_reader.proofs.CutLemmas.{cut, trails}
use Rattle.rv_reader.proofs.FormLemmas.{form_found}
use Rattle.rv_reader.proofs.OperandLemmas.{is_register_of, is_immediate_of, is_address_of, is_label_of}
use Rattle.rv_reader.proofs.RangeLemmas.{fits_immediate, fits_upper, fits_accepts}
use Rattle.rv_reader.proofs.SplitLemmas.{split_some, takes_from}

-- an instruction that is spelled, whatever the labels, and fits
pub record IsWhole (core : List ℕ) (line : Line) : Type 0 where
  pub spells : (labels : List (List ℕ × ℕ)) → SpellsLine labels core line
  pub fits : (count at : ℕ) → FitsLine count at line

pub record IsBranchTo (core : List ℕ) (code : Branch) (left right : ℕ) (label : List ℕ) : Type 0 where
  pub takes : Takes core (branch_mnemonic code) (register_text left ∷ register_text right ∷ label ∷ [])
  pub left_small : IsRegister left
  pub right_small : IsRegister right
  pub named : IsLabel label

pub record IsJumpTo (core : List ℕ) (to : ℕ) (label : List ℕ) : Type 0 where
  pub takes : Takes core (codes "jal") (register_text to ∷ label ∷ [])
  pub to_small : IsRegister to
  pub named : IsLabel label

-- what is spelled where a draft is read
abbrev pub IsDraft : List ℕ → Draft → Type 0
IsDraft core (Whole line) = IsWhole core line
IsDraft core (ToBranch code left right label) = IsBranchTo core code left right label
IsDraft core (ToJump to label) = IsJumpTo core to label

pub ok_same : {A : Type 0} {x y : A} → ◌≡◌ {A = Result A ℕ} (Ok x) (Ok y) → x ≡ y
ok_same {A} {x} {y} e = ap (λ r. from r) e
  where
    from : Result A ℕ → A
    from (Err cause) = x
    from (Ok z) = z

pub err_not_ok : {A : Type 0} {cause : ℕ} {x : A} → ◌≡◌ {A = Result A ℕ} (Err cause) (Ok x) → ⊥
err_not_ok {A} {cause} {x} e = absurd (cc)

with_back : {A B : Type 0} (operand : Option A) (next : A → Result B ℕ) (found : B) → with_operand operand next ≡ Ok found → (x : A) × (operand ≡ Some x) × (next x ≡ Ok found)
with_back None next found h = absurd (err_not_ok h)
with_back (Some x) next found h = (x, refl, h)

range_back : (within : Bool) (line : Line) (draft : Draft) → in_range within line ≡ Ok draft → (within ≡ true) × (Whole line ≡ draft)
range_back true line draft h = (refl, ok_same h)
range_back false line draft h = absurd (err_not_ok h)

-- a core with this mnemonic and these operands
record IsCore (core word : List ℕ) (operands : List (List ℕ)) : Type 0 where
  ends : trails core ≡ true
  word_is : first_word core ≡ word
  operands_are : operands_in (behind_word core) ≡ operands

takes_core : (core word : List ℕ) (register : ℕ) (more : List (List ℕ)) → IsCore core word (register_text register ∷ more) → Takes core word (register_text register ∷ more)
takes_core core word register more is = rw is.word_is at (takes_from core register more is.ends is.operands_are)

core_same : (core word : List ℕ) (operands others : List (List ℕ)) → operands ≡ others → IsCore core word operands → IsCore core word others
core_same core word operands others e is = record { ends = is.ends; word_is = is.word_is; operands_are = is.operands_are ∙ e }

two_same : {a b x y : List ℕ} → a ≡ x → b ≡ y → a ∷ b ∷ [] ≡ x ∷ y ∷ []
two_same e f = rw (e, f) refl

three_same : {a b c x y z : List ℕ} → a ≡ x → b ≡ y → c ≡ z → a ∷ b ∷ c ∷ [] ≡ x ∷ y ∷ z ∷ []
three_same e f g = rw (e, f, g) refl

three_back : (core : List ℕ) (code : Three) (operands : List (List ℕ)) (draft : Draft) → IsCore core (three_mnemonic code) operands → three_draft code operands ≡ Ok draft → IsDraft core draft
three_back core code [] draft is found = absurd (err_not_ok found)
three_back core code (one ∷ []) draft is found = absurd (err_not_ok found)
three_back core code (one ∷ two ∷ []) draft is found = absurd (err_not_ok found)
three_back core code (one ∷ two ∷ three ∷ four ∷ more) draft is found = absurd (err_not_ok found)
three_back core code (one ∷ two ∷ three ∷ []) draft is found =
    let a = with_back (register_of one) (λ to. with_operand (register_of two) (λ left. with_operand (register_of three) (λ right. Ok (Whole (ThreeLine code to left right))))) draft found in
    let b = with_back (register_of two) (λ left. with_operand (register_of three) (λ right. Ok (Whole (ThreeLine code a.0 left right)))) draft a.2 in
    let c = with_back (register_of three) (λ right. Ok (Whole (ThreeLine code a.0 b.0 right))) draft b.2 in
    let to = is_register_of one a.0 a.1 in
    let left = is_register_of two b.0 b.1 in
    let right = is_register_of three c.0 c.1 in
    let takes = takes_core core (three_mnemonic code) a.0 (register_text b.0 ∷ register_text c.0 ∷ []) (core_same core (three_mnemonic code) _ _ (three_same to.spelled left.spelled right.spelled) is) in
    rw (sym (ok_same c.2)) (record { spells = λ labels. takes; fits = λ count at. record { to = to.small; left = left.small; right = right.small } })

imm_back : (core : List ℕ) (code : Imm) (operands : List (List ℕ)) (draft : Draft) → IsCore core (imm_mnemonic code) operands → imm_draft code operands ≡ Ok draft → IsDraft core draft
imm_back core code [] draft is found = absurd (err_not_ok found)
imm_back core code (one ∷ []) draft is found = absurd (err_not_ok found)
imm_back core code (one ∷ two ∷ []) draft is found = absurd (err_not_ok found)
imm_back core code (one ∷ two ∷ three ∷ four ∷ more) draft is found = absurd (err_not_ok found)
imm_back core code (one ∷ two ∷ three ∷ []) draft is found =
    let a = with_back (register_of one) (λ to. with_operand (register_of two) (λ from. with_operand (immediate_of three) (λ imm. in_range (accepts code imm) (ImmLine code to from imm)))) draft found in
    let b = with_back (register_of two) (λ from. with_operand (immediate_of three) (λ imm. in_range (accepts code imm) (ImmLine code a.0 from imm))) draft a.2 in
    let c = with_back (immediate_of three) (λ imm. in_range (accepts code imm) (ImmLine code a.0 b.0 imm)) draft b.2 in
    let d = range_back (accepts code c.0) (ImmLine code a.0 b.0 c.0) draft c.2 in
    let to = is_register_of one a.0 a.1 in
    let from = is_register_of two b.0 b.1 in
    let takes = takes_core core (imm_mnemonic code) a.0 (register_text b.0 ∷ three ∷ []) (core_same core (imm_mnemonic code) _ _ (three_same to.spelled from.spelled refl) is) in
    rw (sym d.1) (record {
      spells = λ labels. record { digits = three; number = is_immediate_of three c.0 c.1; takes = takes };
      fits = λ count at. record { to = to.small; from = from.small; imm = fits_accepts code c.0 d.0 };
    })

-- a register and an address
record IsAddressed (core word : List ℕ) (line : ℕ → ℤ → ℕ → Line) (draft : Draft) : Type 0 where
  register : ℕ
  at : Address
  is : Whole (line register at.imm at.base) ≡ draft
  takes : TakesAddress core word register at.imm at.base
  operand : IsRegister register
  base : IsRegister at.base
  imm : IsImmediate at.imm

address_back : (core word : List ℕ) (line : ℕ → ℤ → ℕ → Line) (operands : List (List ℕ)) (draft : Draft) → IsCore core word operands → address_draft line operands ≡ Ok draft → IsAddressed core word line draft
address_back core word line [] draft is found = absurd (err_not_ok found)
address_back core word line (one ∷ []) draft is found = absurd (err_not_ok found)
address_back core word line (one ∷ two ∷ three ∷ more) draft is found = absurd (err_not_ok found)
address_back core word line (one ∷ two ∷ []) draft is found =
    let a = with_back (register_of one) (λ register. with_operand (address_of two) (λ at. in_range (is_immediate at.imm) (line register at.imm at.base))) draft found in
    let b = with_back (address_of two) (λ at. in_range (is_immediate at.imm) (line a.0 at.imm at.base)) draft a.2 in
    let at : Address = b.0 in
    let d = range_back (is_immediate at.imm) (line a.0 at.imm at.base) draft b.2 in
    let register = is_register_of one a.0 a.1 in
    let second = is_address_of two at b.1 in
    let takes = takes_core core word a.0 ((second.offset ++ (codes "(" ++ (register_text at.base ++ codes ")"))) ∷ []) (core_same core word _ _ (two_same register.spelled second.spelled) is) in
    record {
      register = a.0;
      at = at;
      is = d.1;
      takes = record { offset = second.offset; number = second.number; takes = takes };
      operand = register.small;
      base = second.small;
      imm = fits_immediate at.imm d.0;
    }

-- a register and upper bits
record IsUpperAt (core word : List ℕ) (line : ℕ → ℕ → Line) (draft : Draft) : Type 0 where
  register : ℕ
  bits : ℕ
  is : Whole (line register bits) ≡ draft
  takes : TakesImm core word (register_text register ∷ []) (pos bits)
  operand : IsRegister register
  imm : IsUpper bits

upper_back : (core word : List ℕ) (line : ℕ → ℕ → Line) (operands : List (List ℕ)) (draft : Draft) → IsCore core word operands → upper_draft line operands ≡ Ok draft → IsUpperAt core word line draft
upper_back core word line [] draft is found = absurd (err_not_ok found)
upper_back core word line (one ∷ []) draft is found = absurd (err_not_ok found)
upper_back core word line (one ∷ two ∷ three ∷ more) draft is found = absurd (err_not_ok found)
upper_back core word line (one ∷ two ∷ []) draft is found =
    let a = with_back (register_of one) (λ to. with_operand (immediate_of two) (λ imm. in_range (is_upper imm) (line to (nat_abs imm)))) draft found in
    let b = with_back (immediate_of two) (λ imm. in_range (is_upper imm) (line a.0 (nat_abs imm))) draft a.2 in
    let d = range_back (is_upper b.0) (line a.0 (nat_abs b.0)) draft b.2 in
    let register = is_register_of one a.0 a.1 in
    let upper = fits_upper b.0 d.0 in
    let takes = takes_core core word a.0 (two ∷ []) (core_same core word _ _ (two_same register.spelled refl) is) in
    record {
      register = a.0;
      bits = nat_abs b.0;
      is = d.1;
      takes = record { digits = two; number = is_immediate_of two (pos (nat_abs b.0)) (b.1 ∙ ap (λ z. Some z) upper.whole); takes = takes };
      operand = register.small;
      imm = upper.small;
    }

branch_back : (core : List ℕ) (code : Branch) (operands : List (List ℕ)) (draft : Draft) → IsCore core (branch_mnemonic code) operands → branch_draft code operands ≡ Ok draft → IsDraft core draft
branch_back core code [] draft is found = absurd (err_not_ok found)
branch_back core code (one ∷ []) draft is found = absurd (err_not_ok found)
branch_back core code (one ∷ two ∷ []) draft is found = absurd (err_not_ok found)
branch_back core code (one ∷ two ∷ three ∷ four ∷ more) draft is found = absurd (err_not_ok found)
branch_back core code (one ∷ two ∷ three ∷ []) draft is found =
    let a = with_back (register_of one) (λ left. with_operand (register_of two) (λ right. with_operand (label_of three) (λ label. Ok (ToBranch code left right label)))) draft found in
    let b = with_back (register_of two) (λ right. with_operand (label_of three) (λ label. Ok (ToBranch code a.0 right label))) draft a.2 in
    let c = with_back (label_of three) (λ label. Ok (ToBranch code a.0 b.0 label)) draft b.2 in
    let left = is_register_of one a.0 a.1 in
    let right = is_register_of two b.0 b.1 in
    let label = is_label_of three c.0 c.1 in
    let takes = takes_core core (branch_mnemonic code) a.0 (register_text b.0 ∷ c.0 ∷ []) (core_same core (branch_mnemonic code) _ _ (three_same left.spelled right.spelled label.0) is) in
    rw (sym (ok_same c.2)) (record { takes = takes; left_small = left.small; right_small = right.small; named = label.1 })

jump_back : (core : List ℕ) (operands : List (List ℕ)) (draft : Draft) → IsCore core (codes "jal") operands → jump_draft operands ≡ Ok draft → IsDraft core draft
jump_back core [] draft is found = absurd (err_not_ok found)
jump_back core (one ∷ []) draft is found = absurd (err_not_ok found)
jump_back core (one ∷ two ∷ three ∷ more) draft is found = absurd (err_not_ok found)
jump_back core (one ∷ two ∷ []) draft is found =
    let a = with_back (register_of one) (λ to. with_operand (label_of two) (λ label. Ok (ToJump to label))) draft found in
    let b = with_back (label_of two) (λ label. Ok (ToJump a.0 label)) draft a.2 in
    let to = is_register_of one a.0 a.1 in
    let label = is_label_of two b.0 b.1 in
    let takes = takes_core core (codes "jal") a.0 (b.0 ∷ []) (core_same core (codes "jal") _ _ (two_same to.spelled label.0) is) in
    rw (sym (ok_same b.2)) (record { takes = takes; to_small = to.small; named = label.1 })

-- a word that stands alone
alone : (core word : List ℕ) → IsCore core word [] → core ≡ word
alone core word is = (cut is_space_or_tab core).whole ∙ ap (λ t. first_word core ++ t) (none (behind_word core) is.operands_are) ∙ append-nil (first_word core) ∙ is.word_is
  where
    none : (behind : List ℕ) → operands_in behind ≡ [] → behind ≡ []
    none [] e = refl
    none (byte ∷ bytes) e =
        let parts = split_some (byte ∷ bytes) in
        absurd (nothing parts.0 parts.1 (sym e ∙ ap (map trimmed) parts.2))
      where
        nothing : (first : List ℕ) (more : List (List ℕ)) → [] ≡ map trimmed (first ∷ more) → ⊥
        nothing first more h = absurd (cc)

lone_back : (core word : List ℕ) (line : Line) (operands : List (List ℕ)) (draft : Draft) → IsCore core word operands → lone_draft line operands ≡ Ok draft → (core ≡ word) × (Whole line ≡ draft)
lone_back core word line [] draft is found = (alone core word is, ok_same found)
lone_back core word line (one ∷ more) draft is found = absurd (err_not_ok found)

by_form : (core : List ℕ) (form : Form) (draft : Draft) → IsCore core (mnemonic_of form) (operands_in (behind_word core)) → draft_of form (operands_in (behind_word core)) ≡ Ok draft → IsDraft core draft
by_form core (ThreeForm code) draft is found = three_back core code (operands_in (behind_word core)) draft is found
by_form core (ImmForm code) draft is found = imm_back core code (operands_in (behind_word core)) draft is found
by_form core (BranchForm code) draft is found = branch_back core code (operands_in (behind_word core)) draft is found
by_form core JalForm draft is found = jump_back core (operands_in (behind_word core)) draft is found
by_form core (LoadForm code) draft is found =
    let a = address_back core (mnemonic_of (LoadForm code)) (λ to imm base. LoadLine code to imm base) (operands_in (behind_word core)) draft is found in
    rw (sym a.is) (record { spells = λ labels. a.takes; fits = λ count at. record { operand = a.operand; base = a.base; imm = a.imm } })
by_form core (StoreForm code) draft is found =
    let a = address_back core (mnemonic_of (StoreForm code)) (λ from imm base. StoreLine code from imm base) (operands_in (behind_word core)) draft is found in
    rw (sym a.is) (record { spells = λ labels. a.takes; fits = λ count at. record { operand = a.operand; base = a.base; imm = a.imm } })
by_form core JalrForm draft is found =
    let a = address_back core (mnemonic_of JalrForm) (λ to imm base. Jalr to imm base) (operands_in (behind_word core)) draft is found in
    rw (sym a.is) (record { spells = λ labels. a.takes; fits = λ count at. record { operand = a.operand; base = a.base; imm = a.imm } })
by_form core LuiForm draft is found =
    let a = upper_back core (mnemonic_of LuiForm) (λ to imm. Lui to imm) (operands_in (behind_word core)) draft is found in
    rw (sym a.is) (record { spells = λ labels. a.takes; fits = λ count at. record { to = a.operand; imm = a.imm } })
by_form core AuipcForm draft is found =
    let a = upper_back core (mnemonic_of AuipcForm) (λ to imm. Auipc to imm) (operands_in (behind_word core)) draft is found in
    rw (sym a.is) (record { spells = λ labels. a.takes; fits = λ count at. record { to = a.operand; imm = a.imm } })
by_form core FenceForm draft is found =
    let a = lone_back core (mnemonic_of FenceForm) Fence (operands_in (behind_word core)) draft is found in
    rw (sym a.1) (record { spells = λ labels. a.0; fits = λ count at. tt })
by_form core EcallForm draft is found =
    let a = lone_back core (mnemonic_of EcallForm) Ecall (operands_in (behind_word core)) draft is found in
    rw (sym a.1) (record { spells = λ labels. a.0; fits = λ count at. tt })
by_form core EbreakForm draft is found =
    let a = lone_back core (mnemonic_of EbreakForm) Ebreak (operands_in (behind_word core)) draft is found in
    rw (sym a.1) (record { spells = λ labels. a.0; fits = λ count at. tt })

-- what is read as an instruction is spelled so
pub draft_back : (core : List ℕ) (draft : Draft) → trails core ≡ true → instruction_of core ≡ Ok draft → IsDraft core draft
draft_back core draft ends found = at (form_of (first_word core)) refl found
  where
    at : (form : Option Form) → form_of (first_word core) ≡ form → draft_with form (operands_in (behind_word core)) ≡ Ok draft → IsDraft core draft
    at None is h = absurd (err_not_ok h)
    at (Some form) is h = by_form core form draft (record { ends = ends; word_is = form_found (first_word core) form is; operands_are = refl }) h
