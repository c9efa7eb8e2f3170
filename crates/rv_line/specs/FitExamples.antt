-- What it means to be the last of a range, with the instructions and the areas on which the ranges of `Fits` are tried. This project's own.
use Rattle.std.specs.Prelude.{ℕ, ◌+◌, ℤ, pos, List, [], ◌∷◌, ◌++◌, map}
use Rattle.std.specs.List.{AllByRecursion}
use Rattle.shapes_core.specs.declared.area.Area.{Area}
use Rattle.shapes_core.specs.declared.area.AreaKind.{AreaKind}
use Rattle.rv_line.specs.Fits.{FitsLine}
use Rattle.rv_line.specs.declared.line.Branch.TheVariants.{Bne}
use Rattle.rv_line.specs.declared.line.Imm.TheVariants.{Addi, Slti, Sltiu, Xori, Ori, Andi, Slli, Srli, Srai, Addiw, Slliw, Srliw, Sraiw}
use Rattle.rv_line.specs.declared.line.Line.{Line}
use Rattle.rv_line.specs.declared.line.Line.TheVariants.{Three as ThreeLine, Imm as ImmLine, Load as LoadLine, Store as StoreLine, Branch as BranchLine, Lui, Auipc, Jal, Jalr}
use Rattle.rv_line.specs.declared.line.Load.TheVariants.{Ld}
use Rattle.rv_line.specs.declared.line.Store.TheVariants.{Sd}
use Rattle.rv_line.specs.declared.line.Three.TheVariants.{Add}

-- what holds of the last of a range, and not of the next behind it
pub record IsLast {A : Type 0} (Holds : A → Type 0) (last next : A) : Type 0 where
  pub within : Holds last
  pub beyond : Holds next → ⊥

-- each of these instructions fits with the last of a range, and not with the next behind it
abbrev pub AreLast : {A : Type 0} → List (A → Line) → A → A → Type 0
AreLast lines last next = AllByRecursion (λ line. IsLast (λ x. FitsLine 1 0 (line x)) last next) lines

-- the instructions with a signed immediate
abbrev pub signed_lines : List (ℤ → Line)
signed_lines =
    map (λ code imm. ImmLine code 5 6 imm) (Addi ∷ Slti ∷ Sltiu ∷ Xori ∷ Ori ∷ Andi ∷ Addiw ∷ [])
    ++ (λ imm. LoadLine Ld 5 imm 6) ∷ (λ imm. StoreLine Sd 5 imm 6) ∷ (λ imm. Jalr 5 imm 6) ∷ []

-- the shifts of words of 64 bits, and of 32 bits
abbrev pub shift_lines : List (ℤ → Line)
shift_lines = map (λ code imm. ImmLine code 5 6 imm) (Slli ∷ Srli ∷ Srai ∷ [])

abbrev pub half_shift_lines : List (ℤ → Line)
half_shift_lines = map (λ code imm. ImmLine code 5 6 imm) (Slliw ∷ Srliw ∷ Sraiw ∷ [])

-- the instructions with the upper bits of a word
abbrev pub upper_lines : List (ℕ → Line)
upper_lines = Lui 5 ∷ Auipc 5 ∷ []

-- a register at each place of each form
abbrev pub register_lines : List (ℕ → Line)
register_lines =
    (λ r. ThreeLine Add r 5 6) ∷ (λ r. ThreeLine Add 5 r 6) ∷ (λ r. ThreeLine Add 5 6 r)
    ∷ (λ r. ImmLine Addi r 5 (pos 0)) ∷ (λ r. ImmLine Addi 5 r (pos 0))
    ∷ (λ r. LoadLine Ld r (pos 0) 5) ∷ (λ r. LoadLine Ld 5 (pos 0) r)
    ∷ (λ r. StoreLine Sd r (pos 0) 5) ∷ (λ r. StoreLine Sd 5 (pos 0) r)
    ∷ (λ r. BranchLine Bne r 5 0) ∷ (λ r. BranchLine Bne 5 r 0)
    ∷ (λ r. Lui r 0) ∷ (λ r. Auipc r 0) ∷ (λ r. Jal r 0)
    ∷ (λ r. Jalr r (pos 0) 5) ∷ (λ r. Jalr 5 (pos 0) r) ∷ []

-- areas of two words, one behind the other from a word on
abbrev pub pairs_from : ℕ → List AreaKind → List Area
pairs_from start [] = []
pairs_from start (kind ∷ kinds) = record { kind = kind; shape = 2 ∷ []; start = start } ∷ pairs_from (start + 2) kinds

abbrev pub pairs : List AreaKind → List Area
pairs kinds = pairs_from 0 kinds
