-- What one line of the body is, or the cause with which it is refused: 6 where it is none of the kinds of lines, or its mnemonic is
-- unknown, 7 where its operands are malformed, 8 where its immediate is out of range. This project's own.
use Rattle.std.specs.Prelude.{ℕ, ◌==◌, ℤ, Bool, ◌&&◌, ◌||◌, List, [], ◌∷◌, codes, nat_abs, if◌then◌else◌}
use Rattle.std.specs.declared.option.Option.{Option}
use Rattle.std.specs.declared.option.Option.TheVariants.{None, Some}
use Rattle.std.specs.declared.result.Result.{Result}
use Rattle.std.specs.declared.result.Result.TheVariants.{Ok, Err}
use Rattle.rv_line.specs.Instructions.{is_label}
use Rattle.rv_line.specs.declared.line.Branch.{Branch}
use Rattle.rv_line.specs.declared.line.Imm.{Imm}
use Rattle.rv_line.specs.declared.line.Line.{Line}
use Rattle.rv_line.specs.declared.line.Line.TheVariants.{Three as ThreeLine, Imm as ImmLine, Load as LoadLine, Store as StoreLine, Lui, Auipc, Jalr, Fence, Ecall, Ebreak}
use Rattle.rv_line.specs.declared.line.Three.{Three}
use Rattle.rv_reader.specs.Cuts.{same, until, since, without_lead, core_of, first_word, behind_word, operands_in}
use Rattle.rv_reader.specs.Forms.{form_of, accepts, is_immediate, is_upper}
use Rattle.rv_reader.specs.declared.form.Form.{Form}
use Rattle.rv_reader.specs.declared.form.Form.TheVariants.{Three as ThreeForm, Imm as ImmForm, Load as LoadForm, Store as StoreForm, Branch as BranchForm, Lui as LuiForm, Auipc as AuipcForm, Jal as JalForm, Jalr as JalrForm, Fence as FenceForm, Ecall as EcallForm, Ebreak as EbreakForm}
use Rattle.rv_reader.specs.Operands.{register_of, immediate_of, address_of, label_of}

-- an instruction, whose target is still the name of a label
pub data Draft : Type 0 where
  Whole : (line : Line) → Draft
  ToBranch : (code : Branch) (left right : ℕ) (label : List ℕ) → Draft
  ToJump : (to : ℕ) (label : List ℕ) → Draft

-- what a line is
pub data Reading : Type 0 where
  Nothing : Reading
  Defines : (label : List ℕ) → Reading
  Codes : (draft : Draft) → Reading

-- an operand that is wanted, and what is read with it
abbrev pub with_operand : {A B : Type 0} → Option A → (A → Result B ℕ) → Result B ℕ
with_operand None next = Err 7
with_operand (Some operand) next = next operand

-- an instruction, if its immediate is in range
abbrev pub in_range : Bool → Line → Result Draft ℕ
in_range within line = if within then Ok (Whole line) else Err 8

-- the operands of each form, in their order
abbrev pub three_draft : Three → List (List ℕ) → Result Draft ℕ
three_draft code (one ∷ two ∷ three ∷ []) =
    with_operand (register_of one) (λ to. with_operand (register_of two) (λ left. with_operand (register_of three) (λ right. Ok (Whole (ThreeLine code to left right)))))
three_draft code _ = Err 7

abbrev pub imm_draft : Imm → List (List ℕ) → Result Draft ℕ
imm_draft code (one ∷ two ∷ three ∷ []) =
    with_operand (register_of one) (λ to. with_operand (register_of two) (λ from. with_operand (immediate_of three) (λ imm. in_range (accepts code imm) (ImmLine code to from imm))))
imm_draft code _ = Err 7

-- a register and an address
abbrev pub address_draft : (ℕ → ℤ → ℕ → Line) → List (List ℕ) → Result Draft ℕ
address_draft line (one ∷ two ∷ []) =
    with_operand (register_of one) (λ register. with_operand (address_of two) (λ at. in_range (is_immediate at.imm) (line register at.imm at.base)))
address_draft line _ = Err 7

-- a register and the upper bits of a word
abbrev pub upper_draft : (ℕ → ℕ → Line) → List (List ℕ) → Result Draft ℕ
upper_draft line (one ∷ two ∷ []) =
    with_operand (register_of one) (λ to. with_operand (immediate_of two) (λ imm. in_range (is_upper imm) (line to (nat_abs imm))))
upper_draft line _ = Err 7

abbrev pub branch_draft : Branch → List (List ℕ) → Result Draft ℕ
branch_draft code (one ∷ two ∷ three ∷ []) =
    with_operand (register_of one) (λ left. with_operand (register_of two) (λ right. with_operand (label_of three) (λ label. Ok (ToBranch code left right label))))
branch_draft code _ = Err 7

abbrev pub jump_draft : List (List ℕ) → Result Draft ℕ
jump_draft (one ∷ two ∷ []) = with_operand (register_of one) (λ to. with_operand (label_of two) (λ label. Ok (ToJump to label)))
jump_draft _ = Err 7

abbrev pub lone_draft : Line → List (List ℕ) → Result Draft ℕ
lone_draft line [] = Ok (Whole line)
lone_draft line (one ∷ more) = Err 7

-- an instruction of this form with these operands
abbrev pub draft_of : Form → List (List ℕ) → Result Draft ℕ
draft_of (ThreeForm code) operands = three_draft code operands
draft_of (ImmForm code) operands = imm_draft code operands
draft_of (LoadForm code) operands = address_draft (λ to imm base. LoadLine code to imm base) operands
draft_of (StoreForm code) operands = address_draft (λ from imm base. StoreLine code from imm base) operands
draft_of (BranchForm code) operands = branch_draft code operands
draft_of LuiForm operands = upper_draft (λ to imm. Lui to imm) operands
draft_of AuipcForm operands = upper_draft (λ to imm. Auipc to imm) operands
draft_of JalForm operands = jump_draft operands
draft_of JalrForm operands = address_draft (λ to imm base. Jalr to imm base) operands
draft_of FenceForm operands = lone_draft Fence operands
draft_of EcallForm operands = lone_draft Ecall operands
draft_of EbreakForm operands = lone_draft Ebreak operands

-- with this mnemonic, if it is known
abbrev pub draft_with : Option Form → List (List ℕ) → Result Draft ℕ
draft_with None operands = Err 6
draft_with (Some form) operands = draft_of form operands

-- a mnemonic, up to the first blank, and its operands
abbrev pub instruction_of : List ℕ → Result Draft ℕ
instruction_of core = draft_with (form_of (first_word core)) (operands_in (behind_word core))

-- `.globl` and a label's name behind blanks
abbrev pub is_global : List ℕ → Bool
is_global core = same (first_word core) (codes ".globl") && is_label (without_lead (behind_word core))

-- nothing, `.text` or `.globl`
abbrev pub means_nothing : List ℕ → Bool
means_nothing core = same core [] || same core (codes ".text") || is_global core

-- a label's name and `:` at once behind it, and nothing more
abbrev pub defines_label : List ℕ → Bool
defines_label core = is_label (until (λ byte. byte == 58) core) && same (since (λ byte. byte == 58) core) (codes ":")

abbrev pub codes_draft : Result Draft ℕ → Result Reading ℕ
codes_draft (Ok draft) = Ok (Codes draft)
codes_draft (Err cause) = Err cause

-- what these bytes of a line say
abbrev pub reading_of_core : List ℕ → Result Reading ℕ
reading_of_core core =
    if means_nothing core then Ok Nothing
    else (if defines_label core then Ok (Defines (until (λ byte. byte == 58) core))
    else codes_draft (instruction_of core))

-- what a line is, or the cause with which it is refused
abbrev pub reading_of : List ℕ → Result Reading ℕ
reading_of text = reading_of_core (core_of text)
