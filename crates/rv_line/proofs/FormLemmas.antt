-- The form of an instruction is told by the first word of what spells it, its mnemonic.
use Rattle.std.proofs.Common.{◌≡◌, ℕ, ◌+◌, ◌<◌, List, [], ◌∷◌, ◌++◌, length, refl, sym, ap, ◌∙◌, arith}
use Rattle.std.specs.Prelude.{Bool, true, false, ◌&&◌, ◌==◌, nat_le, not, cond, codes, map, if◌then◌else◌}
use Rattle.std.specs.List.{list_all, list_any}
use Rattle.std.proofs.lemmas.Bool.{ne_eqb, leb-true, le-leb}
use Rattle.rv_line.specs.Instructions.{is_space_or_tab, AreBlanks, Takes, SpellsLine}
use Rattle.rv_line.specs.Mnemonics.{three_mnemonic, imm_mnemonic, load_mnemonic, store_mnemonic, branch_mnemonic}
use Rattle.rv_line.specs.declared.line.Line.{Line}
use Rattle.rv_line.specs.declared.line.Line.TheVariants.{Three as ThreeLine, Imm as ImmLine, Load as LoadLine, Store as StoreLine, Branch as BranchLine, Lui, Auipc, Jal, Jalr, Fence, Ecall, Ebreak}
use Rattle.rv_line.proofs.LinesLemmas.{IsPlain, both, all_weaker}
use Rattle.rv_line.specs.declared.line.Three.{Three}
use Rattle.rv_line.specs.declared.line.Three.TheVariants.{Add, Sub, Sll, Slt, Sltu, Xor, Srl, Sra, Or, And, Mul, Mulh, Mulhsu, Mulhu, Div, Divu, Rem, Remu, Addw, Subw, Sllw, Srlw, Sraw, Mulw, Divw, Divuw, Remw, Remuw}
use Rattle.rv_line.specs.declared.line.Imm.{Imm}
use Rattle.rv_line.specs.declared.line.Imm.TheVariants.{Addi, Slti, Sltiu, Xori, Ori, Andi, Slli, Srli, Srai, Addiw, Slliw, Srliw, Sraiw}
use Rattle.rv_line.specs.declared.line.Load.{Load}
use Rattle.rv_line.specs.declared.line.Load.TheVariants.{Lb, Lh, Lw, Ld, Lbu, Lhu, Lwu}
use Rattle.rv_line.specs.declared.line.Store.{Store}
use Rattle.rv_line.specs.declared.line.Store.TheVariants.{Sb, Sh, Sw, Sd}
use Rattle.rv_line.specs.declared.line.Branch.{Branch}
use Rattle.rv_line.specs.declared.line.Branch.TheVariants.{Beq, Bne, Blt, Bge, Bltu, Bgeu}

-- the bytes before the first blank
abbrev pub first_word : List ℕ → List ℕ
first_word [] = []
first_word (byte ∷ bytes) = cond (is_space_or_tab byte) [] (byte ∷ first_word bytes)

abbrev pub same : List ℕ → List ℕ → Bool
same [] [] = true
same [] (y ∷ ys) = false
same (x ∷ xs) [] = false
same (x ∷ xs) (y ∷ ys) = (x == y) && same xs ys

-- the small letters of a mnemonic
abbrev pub are_letters : List ℕ → Bool
are_letters word = list_all (λ byte. nat_le 97 byte) word

pub letter_solid : (byte : ℕ) → nat_le 97 byte ≡ true → not (is_space_or_tab byte) ≡ true
letter_solid byte letter =
    let low = leb-true 97 byte letter in
    rw (ne_eqb byte 32 (λ e. omega arith), ne_eqb byte 9 (λ e. omega arith)) refl

-- letters are no blanks, and no control characters
pub letters_solid : (word : List ℕ) → are_letters word ≡ true → list_all (λ byte. not (is_space_or_tab byte)) word ≡ true
letters_solid = all_weaker (nat_le 97) (λ byte. not (is_space_or_tab byte)) letter_solid

pub letters_plain : (word : List ℕ) → are_letters word ≡ true → IsPlain word
letters_plain word letters =
    record { plain = all_weaker (nat_le 97) (nat_le 32) (λ byte letter. let low = leb-true 97 byte letter in le-leb 32 byte (omega arith)) word letters }

-- the codes of each form that has more than one mnemonic
abbrev pub threes : List Three
threes = Add ∷ Sub ∷ Sll ∷ Slt ∷ Sltu ∷ Xor ∷ Srl ∷ Sra ∷ Or ∷ And ∷ Mul ∷ Mulh ∷ Mulhsu ∷ Mulhu ∷ Div ∷ Divu ∷ Rem ∷ Remu ∷ Addw ∷ Subw ∷ Sllw ∷ Srlw ∷ Sraw ∷ Mulw ∷ Divw ∷ Divuw ∷ Remw ∷ Remuw ∷ []

abbrev pub imms : List Imm
imms = Addi ∷ Slti ∷ Sltiu ∷ Xori ∷ Ori ∷ Andi ∷ Slli ∷ Srli ∷ Srai ∷ Addiw ∷ Slliw ∷ Srliw ∷ Sraiw ∷ []

abbrev pub loads : List Load
loads = Lb ∷ Lh ∷ Lw ∷ Ld ∷ Lbu ∷ Lhu ∷ Lwu ∷ []

abbrev pub stores : List Store
stores = Sb ∷ Sh ∷ Sw ∷ Sd ∷ []

abbrev pub branches : List Branch
branches = Beq ∷ Bne ∷ Blt ∷ Bge ∷ Bltu ∷ Bgeu ∷ []

-- the mnemonics of the forms, by the numbers of the forms
abbrev mnemonics : List (List (List ℕ))
mnemonics =
    map three_mnemonic threes ∷ map imm_mnemonic imms ∷ map load_mnemonic loads ∷ map store_mnemonic stores ∷ map branch_mnemonic branches
    ∷ (codes "lui" ∷ []) ∷ (codes "auipc" ∷ []) ∷ (codes "jal" ∷ []) ∷ (codes "jalr" ∷ []) ∷ (codes "fence" ∷ []) ∷ (codes "ecall" ∷ []) ∷ (codes "ebreak" ∷ []) ∷ []

-- the number of the first of these lists that has the word, counted from here, and the number behind the last where none has it
abbrev form_from : ℕ → List (List (List ℕ)) → List ℕ → ℕ
form_from number [] word = number
form_from number (some ∷ more) word = if list_any (same word) some then number else form_from (number + 1) more word

-- which form of instruction has the mnemonic, and 12 where none has
abbrev pub form_of : List ℕ → ℕ
form_of word = form_from 0 mnemonics word

-- a mnemonic of a form
pub record IsMnemonic (form : ℕ) (word : List ℕ) : Type 0 where
  pub letters : are_letters word ≡ true
  pub some : 0 < length word
  pub form_is : form_of word ≡ form

pub three_form : (code : Three) → IsMnemonic 0 (three_mnemonic code)
three_form Add = record { letters = refl; some = omega arith; form_is = refl }
three_form other = record { letters = refl; some = omega arith; form_is = refl }

pub imm_form : (code : Imm) → IsMnemonic 1 (imm_mnemonic code)
imm_form Addi = record { letters = refl; some = omega arith; form_is = refl }
imm_form other = record { letters = refl; some = omega arith; form_is = refl }

pub load_form : (code : Load) → IsMnemonic 2 (load_mnemonic code)
load_form Lb = record { letters = refl; some = omega arith; form_is = refl }
load_form other = record { letters = refl; some = omega arith; form_is = refl }

pub store_form : (code : Store) → IsMnemonic 3 (store_mnemonic code)
store_form Sb = record { letters = refl; some = omega arith; form_is = refl }
store_form other = record { letters = refl; some = omega arith; form_is = refl }

pub branch_form : (code : Branch) → IsMnemonic 4 (branch_mnemonic code)
branch_form Beq = record { letters = refl; some = omega arith; form_is = refl }
branch_form other = record { letters = refl; some = omega arith; form_is = refl }

pub lui_form : IsMnemonic 5 (codes "lui")
lui_form = record { letters = refl; some = omega arith; form_is = refl }

pub auipc_form : IsMnemonic 6 (codes "auipc")
auipc_form = record { letters = refl; some = omega arith; form_is = refl }

pub jal_form : IsMnemonic 7 (codes "jal")
jal_form = record { letters = refl; some = omega arith; form_is = refl }

pub jalr_form : IsMnemonic 8 (codes "jalr")
jalr_form = record { letters = refl; some = omega arith; form_is = refl }

-- the number of an instruction's form
abbrev pub form : Line → ℕ
form (ThreeLine code to left right) = 0
form (ImmLine code to from imm) = 1
form (LoadLine code to imm base) = 2
form (StoreLine code from imm base) = 3
form (BranchLine code left right target) = 4
form (Lui to imm) = 5
form (Auipc to imm) = 6
form (Jal to target) = 7
form (Jalr to imm base) = 8
form Fence = 9
form Ecall = 10
form Ebreak = 11

first_word-append : (word gap rest : List ℕ) → list_all (λ byte. not (is_space_or_tab byte)) word ≡ true → AreBlanks gap → 0 < length gap → first_word (word ++ (gap ++ rest)) ≡ word
first_word-append [] [] rest solid blanks some = absurd (omega arith)
first_word-append [] (byte ∷ gap) rest solid blanks some = rw (both (is_space_or_tab byte) (list_all is_space_or_tab gap) blanks).0 refl
first_word-append (byte ∷ word) gap rest solid blanks some =
    let parts = both (not (is_space_or_tab byte)) (list_all (λ other. not (is_space_or_tab other)) word) solid in
    rw (unblank (is_space_or_tab byte) parts.0) (ap (λ bytes. byte ∷ bytes) (first_word-append word gap rest parts.1 blanks some))
  where
    unblank : (b : Bool) → not b ≡ true → b ≡ false
    unblank true h = absurd (cc)
    unblank false h = refl

pub word_of : (number : ℕ) (core mnemonic : List ℕ) (operands : List (List ℕ)) → IsMnemonic number mnemonic → Takes core mnemonic operands → form_of (first_word core) ≡ number
word_of number core mnemonic operands is takes =
    rw (takes.spelled, first_word-append mnemonic takes.gap takes.rest (letters_solid mnemonic is.letters) takes.apart takes.some) is.form_is

-- the first word of an instruction tells its form
pub form_spelled : (labels : List (List ℕ × ℕ)) (core : List ℕ) (line : Line) → SpellsLine labels core line → form_of (first_word core) ≡ form line
form_spelled labels core (ThreeLine code to left right) spelled = word_of 0 core _ _ (three_form code) spelled
form_spelled labels core (ImmLine code to from imm) spelled = word_of 1 core _ _ (imm_form code) spelled.takes
form_spelled labels core (LoadLine code to imm base) spelled = word_of 2 core _ _ (load_form code) spelled.takes
form_spelled labels core (StoreLine code from imm base) spelled = word_of 3 core _ _ (store_form code) spelled.takes
form_spelled labels core (BranchLine code left right target) spelled = word_of 4 core _ _ (branch_form code) spelled.takes
form_spelled labels core (Lui to imm) spelled = word_of 5 core _ _ lui_form spelled.takes
form_spelled labels core (Auipc to imm) spelled = word_of 6 core _ _ auipc_form spelled.takes
form_spelled labels core (Jal to target) spelled = word_of 7 core _ _ jal_form spelled.takes
form_spelled labels core (Jalr to imm base) spelled = word_of 8 core _ _ jalr_form spelled.takes
form_spelled labels core Fence spelled = rw spelled refl
form_spelled labels core Ecall spelled = rw spelled refl
form_spelled labels core Ebreak spelled = rw spelled refl

-- no instruction is spelled where the first word is no mnemonic
pub no_line : (labels : List (List ℕ × ℕ)) (core : List ℕ) (line : Line) → form_of (first_word core) ≡ 12 → SpellsLine labels core line → ⊥
no_line labels core line none spelled = at_most line (sym none ∙ form_spelled labels core line spelled)
  where
    at_most : (line : Line) → 12 ≡ form line → ⊥
    at_most Fence e = omega arith
    at_most other e = omega arith
