-- Each mnemonic is found by its spelling, and what is found has that spelling.
use Rattle.std.proofs.Common.{◌≡◌, ℕ, ◌<◌, List, [], ◌∷◌, length, refl, sym, ap, ◌∙◌, arith}
use Rattle.std.specs.Prelude.{Bool, true, false, nat_le, cond}
use Rattle.std.specs.List.{list_all}
use Rattle.std.specs.declared.option.Option.TheVariants.{Some}
use Rattle.rv_line.specs.declared.line.Three.{Three}
use Rattle.rv_line.specs.declared.line.Three.TheVariants.{Add, Sub, Sll, Slt, Sltu, Xor, Srl, Sra, Or, And, Mul, Mulh, Mulhsu, Mulhu, Div, Divu, Rem, Remu, Addw, Subw, Sllw, Srlw, Sraw, Mulw, Divw, Divuw, Remw, Remuw}
use Rattle.rv_line.specs.declared.line.Imm.{Imm}
use Rattle.rv_line.specs.declared.line.Imm.TheVariants.{Addi, Slti, Sltiu, Xori, Ori, Andi, Slli, Srli, Srai, Addiw, Slliw, Srliw, Sraiw}
use Rattle.rv_line.specs.declared.line.Load.{Load}
use Rattle.rv_line.specs.declared.line.Load.TheVariants.{Lb, Lh, Lw, Ld, Lbu, Lhu, Lwu}
use Rattle.rv_line.specs.declared.line.Store.{Store}
use Rattle.rv_line.specs.declared.line.Store.TheVariants.{Sb, Sh, Sw, Sd}
use Rattle.rv_line.specs.declared.line.Branch.{Branch}
use Rattle.rv_line.specs.declared.line.Branch.TheVariants.{Beq, Bne, Blt, Bge, Bltu, Bgeu}
use Rattle.rv_reader.specs.Cuts.{same}
use Rattle.rv_reader.specs.Forms.{mnemonic_of, forms, form_among, form_of}
use Rattle.rv_reader.specs.declared.form.Form.{Form}
use Rattle.rv_reader.specs.declared.form.Form.TheVariants.{Three as ThreeForm, Imm as ImmForm, Load as LoadForm, Store as StoreForm, Branch as BranchForm, Lui as LuiForm, Auipc as AuipcForm, Jal as JalForm, Jalr as JalrForm, Fence as FenceForm, Ecall as EcallForm, Ebreak as EbreakForm}
use Rattle.rv_reader.proofs.CutLemmas.{same_true}
use Rattle.rv_reader.proofs.OperandLemmas.{some_same, none_not_some}

-- the form that is found has the mnemonic
found_among : (among : List Form) (word : List ℕ) (form : Form) → form_among among word ≡ Some form → word ≡ mnemonic_of form
found_among [] word form found = absurd (none_not_some found)
found_among (one ∷ among) word form found = by_test (found_among among word form) (same (mnemonic_of one) word) refl found
  where
    by_test : (form_among among word ≡ Some form → word ≡ mnemonic_of form) → (b : Bool) → same (mnemonic_of one) word ≡ b → cond b (Some one) (form_among among word) ≡ Some form → word ≡ mnemonic_of form
    by_test others true is here = sym (same_true (mnemonic_of one) word is) ∙ ap mnemonic_of (some_same here)
    by_test others false is later = others later

pub form_found : (word : List ℕ) (form : Form) → form_of word ≡ Some form → word ≡ mnemonic_of form
form_found word form found = found_among forms word form found

-- lower case letters
abbrev pub is_lower : ℕ → Bool
is_lower byte = nat_le 97 byte

-- each mnemonic is found, and has letters alone
pub record IsForm (form : Form) : Type 0 where
  pub found : form_of (mnemonic_of form) ≡ Some form
  pub letters : list_all is_lower (mnemonic_of form) ≡ true
  pub some : 0 < length (mnemonic_of form)

three_form : (code : Three) → IsForm (ThreeForm code)
unfolding forms
three_form Add = record { found = refl; letters = refl; some = omega arith }
three_form Sub = record { found = refl; letters = refl; some = omega arith }
three_form Sll = record { found = refl; letters = refl; some = omega arith }
three_form Slt = record { found = refl; letters = refl; some = omega arith }
three_form Sltu = record { found = refl; letters = refl; some = omega arith }
three_form Xor = record { found = refl; letters = refl; some = omega arith }
three_form Srl = record { found = refl; letters = refl; some = omega arith }
three_form Sra = record { found = refl; letters = refl; some = omega arith }
three_form Or = record { found = refl; letters = refl; some = omega arith }
three_form And = record { found = refl; letters = refl; some = omega arith }
three_form Mul = record { found = refl; letters = refl; some = omega arith }
three_form Mulh = record { found = refl; letters = refl; some = omega arith }
three_form Mulhsu = record { found = refl; letters = refl; some = omega arith }
three_form Mulhu = record { found = refl; letters = refl; some = omega arith }
three_form Div = record { found = refl; letters = refl; some = omega arith }
three_form Divu = record { found = refl; letters = refl; some = omega arith }
three_form Rem = record { found = refl; letters = refl; some = omega arith }
three_form Remu = record { found = refl; letters = refl; some = omega arith }
three_form Addw = record { found = refl; letters = refl; some = omega arith }
three_form Subw = record { found = refl; letters = refl; some = omega arith }
three_form Sllw = record { found = refl; letters = refl; some = omega arith }
three_form Srlw = record { found = refl; letters = refl; some = omega arith }
three_form Sraw = record { found = refl; letters = refl; some = omega arith }
three_form Mulw = record { found = refl; letters = refl; some = omega arith }
three_form Divw = record { found = refl; letters = refl; some = omega arith }
three_form Divuw = record { found = refl; letters = refl; some = omega arith }
three_form Remw = record { found = refl; letters = refl; some = omega arith }
three_form Remuw = record { found = refl; letters = refl; some = omega arith }

imm_form : (code : Imm) → IsForm (ImmForm code)
unfolding forms
imm_form Addi = record { found = refl; letters = refl; some = omega arith }
imm_form Slti = record { found = refl; letters = refl; some = omega arith }
imm_form Sltiu = record { found = refl; letters = refl; some = omega arith }
imm_form Xori = record { found = refl; letters = refl; some = omega arith }
imm_form Ori = record { found = refl; letters = refl; some = omega arith }
imm_form Andi = record { found = refl; letters = refl; some = omega arith }
imm_form Slli = record { found = refl; letters = refl; some = omega arith }
imm_form Srli = record { found = refl; letters = refl; some = omega arith }
imm_form Srai = record { found = refl; letters = refl; some = omega arith }
imm_form Addiw = record { found = refl; letters = refl; some = omega arith }
imm_form Slliw = record { found = refl; letters = refl; some = omega arith }
imm_form Srliw = record { found = refl; letters = refl; some = omega arith }
imm_form Sraiw = record { found = refl; letters = refl; some = omega arith }

load_form : (code : Load) → IsForm (LoadForm code)
unfolding forms
load_form Lb = record { found = refl; letters = refl; some = omega arith }
load_form Lh = record { found = refl; letters = refl; some = omega arith }
load_form Lw = record { found = refl; letters = refl; some = omega arith }
load_form Ld = record { found = refl; letters = refl; some = omega arith }
load_form Lbu = record { found = refl; letters = refl; some = omega arith }
load_form Lhu = record { found = refl; letters = refl; some = omega arith }
load_form Lwu = record { found = refl; letters = refl; some = omega arith }

store_form : (code : Store) → IsForm (StoreForm code)
unfolding forms
store_form Sb = record { found = refl; letters = refl; some = omega arith }
store_form Sh = record { found = refl; letters = refl; some = omega arith }
store_form Sw = record { found = refl; letters = refl; some = omega arith }
store_form Sd = record { found = refl; letters = refl; some = omega arith }

branch_form : (code : Branch) → IsForm (BranchForm code)
unfolding forms
branch_form Beq = record { found = refl; letters = refl; some = omega arith }
branch_form Bne = record { found = refl; letters = refl; some = omega arith }
branch_form Blt = record { found = refl; letters = refl; some = omega arith }
branch_form Bge = record { found = refl; letters = refl; some = omega arith }
branch_form Bltu = record { found = refl; letters = refl; some = omega arith }
branch_form Bgeu = record { found = refl; letters = refl; some = omega arith }

pub is_form : (form : Form) → IsForm form
unfolding forms
is_form (ThreeForm code) = three_form code
is_form (ImmForm code) = imm_form code
is_form (LoadForm code) = load_form code
is_form (StoreForm code) = store_form code
is_form (BranchForm code) = branch_form code
is_form LuiForm = record { found = refl; letters = refl; some = omega arith }
is_form AuipcForm = record { found = refl; letters = refl; some = omega arith }
is_form JalForm = record { found = refl; letters = refl; some = omega arith }
is_form JalrForm = record { found = refl; letters = refl; some = omega arith }
is_form FenceForm = record { found = refl; letters = refl; some = omega arith }
is_form EcallForm = record { found = refl; letters = refl; some = omega arith }
is_form EbreakForm = record { found = refl; letters = refl; some = omega arith }
