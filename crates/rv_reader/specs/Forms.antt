-- The forms of instructions by their mnemonics, and what each takes. RISC-V unprivileged ISA, RV64IM.
use Rattle.std.specs.Prelude.{ℕ, ℤ, pos, negsuc, Bool, ◌&&◌, int_le, List, [], ◌∷◌, ◌++◌, map, codes}
use Rattle.std.specs.List.{find}
use Rattle.std.specs.declared.option.Option.{Option}
use Rattle.rv_line.specs.Mnemonics.{three_mnemonic, imm_mnemonic, load_mnemonic, store_mnemonic, branch_mnemonic}
use Rattle.rv_line.specs.declared.line.Three.TheVariants.{Add, Sub, Sll, Slt, Sltu, Xor, Srl, Sra, Or, And, Mul, Mulh, Mulhsu, Mulhu, Div, Divu, Rem, Remu, Addw, Subw, Sllw, Srlw, Sraw, Mulw, Divw, Divuw, Remw, Remuw}
use Rattle.rv_line.specs.declared.line.Imm.{Imm}
use Rattle.rv_line.specs.declared.line.Imm.TheVariants.{Addi, Slti, Sltiu, Xori, Ori, Andi, Slli, Srli, Srai, Addiw, Slliw, Srliw, Sraiw}
use Rattle.rv_line.specs.declared.line.Load.TheVariants.{Lb, Lh, Lw, Ld, Lbu, Lhu, Lwu}
use Rattle.rv_line.specs.declared.line.Store.TheVariants.{Sb, Sh, Sw, Sd}
use Rattle.rv_line.specs.declared.line.Branch.TheVariants.{Beq, Bne, Blt, Bge, Bltu, Bgeu}
use Rattle.rv_reader.specs.Cuts.{same}
use Rattle.rv_reader.specs.declared.form.Form.{Form}
use Rattle.rv_reader.specs.declared.form.Form.TheVariants.{Three as ThreeForm, Imm as ImmForm, Load as LoadForm, Store as StoreForm, Branch as BranchForm, Lui as LuiForm, Auipc as AuipcForm, Jal as JalForm, Jalr as JalrForm, Fence as FenceForm, Ecall as EcallForm, Ebreak as EbreakForm}

-- the spelling of a mnemonic
abbrev pub mnemonic_of : Form → List ℕ
mnemonic_of (ThreeForm code) = three_mnemonic code
mnemonic_of (ImmForm code) = imm_mnemonic code
mnemonic_of (LoadForm code) = load_mnemonic code
mnemonic_of (StoreForm code) = store_mnemonic code
mnemonic_of (BranchForm code) = branch_mnemonic code
mnemonic_of LuiForm = codes "lui"
mnemonic_of AuipcForm = codes "auipc"
mnemonic_of JalForm = codes "jal"
mnemonic_of JalrForm = codes "jalr"
mnemonic_of FenceForm = codes "fence"
mnemonic_of EcallForm = codes "ecall"
mnemonic_of EbreakForm = codes "ebreak"

-- all of them
unfoldable pub forms : List Form
forms =
    map ThreeForm (
    Add ∷ Sub ∷ Sll ∷ Slt ∷ Sltu ∷ Xor ∷ Srl ∷ Sra ∷ Or ∷ And ∷ Mul ∷ Mulh ∷ Mulhsu ∷ Mulhu ∷ Div ∷ Divu ∷ Rem ∷ Remu
    ∷ Addw ∷ Subw ∷ Sllw ∷ Srlw ∷ Sraw ∷ Mulw ∷ Divw ∷ Divuw ∷ Remw ∷ Remuw ∷ []
    )
    ++ map ImmForm (Addi ∷ Slti ∷ Sltiu ∷ Xori ∷ Ori ∷ Andi ∷ Slli ∷ Srli ∷ Srai ∷ Addiw ∷ Slliw ∷ Srliw ∷ Sraiw ∷ [])
    ++ map LoadForm (Lb ∷ Lh ∷ Lw ∷ Ld ∷ Lbu ∷ Lhu ∷ Lwu ∷ [])
    ++ map StoreForm (Sb ∷ Sh ∷ Sw ∷ Sd ∷ [])
    ++ map BranchForm (Beq ∷ Bne ∷ Blt ∷ Bge ∷ Bltu ∷ Bgeu ∷ [])
    ++ LuiForm ∷ AuipcForm ∷ JalForm ∷ JalrForm ∷ FenceForm ∷ EcallForm ∷ EbreakForm ∷ []

-- the form with this mnemonic, if there is one among these
abbrev pub form_among : List Form → List ℕ → Option Form
form_among among word = find (λ form. same (mnemonic_of form) word) among

abbrev pub form_of : List ℕ → Option Form
form_of word = form_among forms word

-- from one number to another
abbrev pub is_between : ℤ → ℤ → ℤ → Bool
is_between low high number = int_le low number && int_le number high

-- a signed immediate of 12 bits
abbrev pub is_immediate : ℤ → Bool
is_immediate imm = is_between (negsuc 2047) (pos 2047) imm

-- the upper 20 bits of a word of 32
abbrev pub is_upper : ℤ → Bool
is_upper imm = is_between (pos 0) (pos 1048575) imm

-- whether a mnemonic with an immediate accepts this one: a shift is by less than its word has bits
abbrev pub accepts : Imm → ℤ → Bool
accepts Slli imm = is_between (pos 0) (pos 63) imm
accepts Srli imm = is_between (pos 0) (pos 63) imm
accepts Srai imm = is_between (pos 0) (pos 63) imm
accepts Slliw imm = is_between (pos 0) (pos 31) imm
accepts Srliw imm = is_between (pos 0) (pos 31) imm
accepts Sraiw imm = is_between (pos 0) (pos 31) imm
accepts _ imm = is_immediate imm
