-- The code of a mnemonic is found again by the mnemonic.
use Rattle.std.proofs.Common.{◌≡◌, ℕ, List, [], ◌∷◌, refl}
use Rattle.std.specs.Prelude.{cond, map}
use Rattle.rv_line.specs.Mnemonics.{three_mnemonic, imm_mnemonic, load_mnemonic, store_mnemonic, branch_mnemonic}
use Rattle.rv_line.specs.declared.line.Three.{Three}
use Rattle.rv_line.specs.declared.line.Three.TheVariants.{Add}
use Rattle.rv_line.specs.declared.line.Imm.{Imm}
use Rattle.rv_line.specs.declared.line.Imm.TheVariants.{Addi}
use Rattle.rv_line.specs.declared.line.Load.{Load}
use Rattle.rv_line.specs.declared.line.Load.TheVariants.{Lb}
use Rattle.rv_line.specs.declared.line.Store.{Store}
use Rattle.rv_line.specs.declared.line.Store.TheVariants.{Sb}
use Rattle.rv_line.specs.declared.line.Branch.{Branch}
use Rattle.rv_line.specs.declared.line.Branch.TheVariants.{Beq}
use Rattle.rv_line.proofs.FormLemmas.{same, threes, imms, loads, stores, branches}

-- what a table has for a word
abbrev pub value_at : {X : Type 0} → X → List (List ℕ × X) → List ℕ → X
value_at none [] word = none
value_at none (entry ∷ entries) word = cond (same entry.0 word) entry.1 (value_at none entries word)

-- each code with its mnemonic
abbrev table : {X : Type 0} → (X → List ℕ) → List X → List (List ℕ × X)
table mnemonic some = map (λ code. (mnemonic code, code)) some

pub three_at : List ℕ → Three
three_at word = value_at Add (table three_mnemonic threes) word

pub three_again : (code : Three) → three_at (three_mnemonic code) ≡ code
unfolding three_at
three_again Add = refl
three_again other = refl

pub imm_at : List ℕ → Imm
imm_at word = value_at Addi (table imm_mnemonic imms) word

pub imm_again : (code : Imm) → imm_at (imm_mnemonic code) ≡ code
unfolding imm_at
imm_again Addi = refl
imm_again other = refl

pub load_at : List ℕ → Load
load_at word = value_at Lb (table load_mnemonic loads) word

pub load_again : (code : Load) → load_at (load_mnemonic code) ≡ code
unfolding load_at
load_again Lb = refl
load_again other = refl

pub store_at : List ℕ → Store
store_at word = value_at Sb (table store_mnemonic stores) word

pub store_again : (code : Store) → store_at (store_mnemonic code) ≡ code
unfolding store_at
store_again Sb = refl
store_again other = refl

pub branch_at : List ℕ → Branch
branch_at word = value_at Beq (table branch_mnemonic branches) word

pub branch_again : (code : Branch) → branch_at (branch_mnemonic code) ≡ code
unfolding branch_at
branch_again Beq = refl
branch_again other = refl
