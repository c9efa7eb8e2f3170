-- What one line of a text says, and which instruction of RV64IM that is: a mnemonic and the operands of its form, in the order of RISC-V
-- assembly (RISC-V unprivileged ISA). What blanks, comments, labels and `.globl` look like is this project's own.
use Rattle.std.specs.Prelude.{ℕ, ◌<◌, ◌≡◌, ℤ, pos, Bool, false, ◌&&◌, ◌||◌, ◌==◌, IsTrue, List, [], ◌∷◌, ◌++◌, length, codes, Contains}
use Rattle.std.specs.List.{list_all}
use Rattle.shapes_core.specs.Name.{is_letter, is_name_byte}
use Rattle.rv_line.specs.Emitted.{register_text}
use Rattle.rv_line.specs.Mnemonics.{three_mnemonic, imm_mnemonic, load_mnemonic, store_mnemonic, branch_mnemonic}
use Rattle.rv_line.specs.Numbers.{IsSignedNumber}
use Rattle.rv_line.specs.declared.line.Line.{Line}
use Rattle.rv_line.specs.declared.line.Line.TheVariants.{Three as ThreeLine, Imm as ImmLine, Load as LoadLine, Store as StoreLine, Branch as BranchLine, Lui, Auipc, Jal, Jalr, Fence, Ecall, Ebreak}

-- the space and the tab
abbrev pub is_space_or_tab : ℕ → Bool
is_space_or_tab byte = byte == 32 || byte == 9

abbrev pub AreBlanks : List ℕ → Type 0
AreBlanks text = IsTrue (list_all is_space_or_tab text)

-- nothing, or from `#` on
abbrev pub IsComment : List ℕ → Type 0
IsComment [] = Unit {0}
IsComment (byte ∷ bytes) = byte ≡ 35

-- what a line of the text says, between blanks, and before a comment
pub record Says (line core : List ℕ) : Type 0 where
  pub lead : List ℕ
  pub trail : List ℕ
  pub comment : List ℕ
  pub spelled : line ≡ lead ++ (core ++ (trail ++ comment))
  pub before : AreBlanks lead
  pub behind : AreBlanks trail
  pub ended : IsComment comment

-- what a label's name goes on with: a letter, a digit, `_` or `.`
abbrev pub is_label_byte : ℕ → Bool
is_label_byte byte = is_name_byte byte || byte == 46

-- a letter, `_` or `.`, and so on
abbrev pub is_label : List ℕ → Bool
is_label [] = false
is_label (first ∷ others) = (is_letter first || first == 95 || first == 46) && list_all is_label_byte others

abbrev pub IsLabel : List ℕ → Type 0
IsLabel name = IsTrue (is_label name)

-- `.globl`, blanks and a label's name, which mean nothing
pub record IsGlobal (core : List ℕ) : Type 0 where
  pub gap : List ℕ
  pub name : List ℕ
  pub spelled : core ≡ codes ".globl" ++ (gap ++ name)
  pub apart : AreBlanks gap
  pub some : 0 < length gap
  pub label : IsLabel name

-- operands, separated by a comma with any blanks around it
abbrev pub AreOperands : List ℕ → List (List ℕ) → Type 0
AreOperands text [] = text ≡ []
AreOperands text (one ∷ []) = text ≡ one
AreOperands text (one ∷ two ∷ more) =
    (before : List ℕ) × (after : List ℕ) × (rest : List ℕ) × (text ≡ one ++ (before ++ (codes "," ++ (after ++ rest)))) × AreBlanks before × AreBlanks after × AreOperands rest (two ∷ more)

-- a mnemonic, blanks and operands
pub record Takes (core mnemonic : List ℕ) (operands : List (List ℕ)) : Type 0 where
  pub gap : List ℕ
  pub rest : List ℕ
  pub spelled : core ≡ mnemonic ++ (gap ++ rest)
  pub apart : AreBlanks gap
  pub some : 0 < length gap
  pub separated : AreOperands rest operands

-- the same with an address as the second operand, an offset from a register
pub record TakesAddress (core mnemonic : List ℕ) (register : ℕ) (imm : ℤ) (base : ℕ) : Type 0 where
  pub offset : List ℕ
  pub number : IsSignedNumber offset imm
  pub takes : Takes core mnemonic (register_text register ∷ (offset ++ (codes "(" ++ (register_text base ++ codes ")"))) ∷ [])

-- the same with an immediate, behind some registers
pub record TakesImm (core mnemonic : List ℕ) (registers : List (List ℕ)) (imm : ℤ) : Type 0 where
  pub digits : List ℕ
  pub number : IsSignedNumber digits imm
  pub takes : Takes core mnemonic (registers ++ digits ∷ [])

-- the same with a label, which stands for an instruction or the end
pub record TakesLabel (labels : List (List ℕ × ℕ)) (core mnemonic : List ℕ) (registers : List (List ℕ)) (target : ℕ) : Type 0 where
  pub name : List ℕ
  pub defined : Contains labels (name, target)
  pub takes : Takes core mnemonic (registers ++ name ∷ [])

-- what a line of the text says is this instruction of RV64IM, where the labels of the text are these
abbrev pub SpellsLine : List (List ℕ × ℕ) → List ℕ → Line → Type 0
SpellsLine labels core (ThreeLine code to left right) = Takes core (three_mnemonic code) (register_text to ∷ register_text left ∷ register_text right ∷ [])
SpellsLine labels core (ImmLine code to from imm) = TakesImm core (imm_mnemonic code) (register_text to ∷ register_text from ∷ []) imm
SpellsLine labels core (LoadLine code to imm base) = TakesAddress core (load_mnemonic code) to imm base
SpellsLine labels core (StoreLine code from imm base) = TakesAddress core (store_mnemonic code) from imm base
SpellsLine labels core (BranchLine code left right target) = TakesLabel labels core (branch_mnemonic code) (register_text left ∷ register_text right ∷ []) target
SpellsLine labels core (Lui to imm) = TakesImm core (codes "lui") (register_text to ∷ []) (pos imm)
SpellsLine labels core (Auipc to imm) = TakesImm core (codes "auipc") (register_text to ∷ []) (pos imm)
SpellsLine labels core (Jal to target) = TakesLabel labels core (codes "jal") (register_text to ∷ []) target
SpellsLine labels core (Jalr to imm base) = TakesAddress core (codes "jalr") to imm base
SpellsLine labels core Fence = core ≡ codes "fence"
SpellsLine labels core Ecall = core ≡ codes "ecall"
SpellsLine labels core Ebreak = core ≡ codes "ebreak"
