-- Lines that compute the operators: from registers to a register. This project's own, but for the usual ways in which RISC-V compares.
use Rattle.std.specs.Prelude.{ℕ, ◌+◌, ◌==◌, pos, negsuc, List, [], ◌∷◌, ◌++◌, length, if◌then◌else◌}
use Rattle.moa_tree.specs.declared.operator.Op.{Op}
use Rattle.moa_tree.specs.declared.operator.Op.TheVariants as op
use Rattle.moa_tree.specs.declared.operator.Unary.{Unary}
use Rattle.moa_tree.specs.declared.operator.Unary.TheVariants as unary
use Rattle.rv_line.specs.declared.line.Line.{Line}
use Rattle.rv_line.specs.declared.line.Line.TheVariants.{Three as ThreeLine, Imm as ImmLine, Branch as BranchLine}
use Rattle.rv_line.specs.declared.line.Three.TheVariants as three
use Rattle.rv_line.specs.declared.line.Imm.TheVariants as imm
use Rattle.rv_line.specs.declared.line.Branch.TheVariants as branch

-- the magnitude is the number xor its sign, less its sign, where the sign is 0 or -1
abbrev pub one_lines : Unary → ℕ → ℕ → List Line
one_lines unary.Neg to from = ThreeLine three.Sub to 0 from ∷ []
one_lines unary.Not to from = ImmLine imm.Xori to from (negsuc 0) ∷ []
one_lines unary.Abs to from =
    ImmLine imm.Srai 31 from (pos 63) ∷ ThreeLine three.Xor 30 from 31 ∷ ThreeLine three.Sub to 30 31 ∷ []

abbrev pub copy_lines : ℕ → ℕ → List Line
copy_lines to from = if to == from then [] else ImmLine imm.Addi to from (pos 0) ∷ []

-- from this line on: a register is kept where it is at least another one, and takes that one's number else
abbrev pub greater_lines : ℕ → ℕ → ℕ → List Line
greater_lines at to other = BranchLine branch.Bge to other (at + 2) ∷ ImmLine imm.Addi to other (pos 0) ∷ []

-- it is kept where the other one is at least it
abbrev pub smaller_lines : ℕ → ℕ → ℕ → List Line
smaller_lines at to other = BranchLine branch.Bge other to (at + 2) ∷ ImmLine imm.Addi to other (pos 0) ∷ []

-- one of two, in a register that may be one of theirs
abbrev pub choice_of : (ℕ → ℕ → ℕ → List Line) → ℕ → ℕ → ℕ → ℕ → List Line
choice_of choose at to left right =
    if to == right then choose at to left
    else copy_lines to left ++ choose (at + length (copy_lines to left)) to right

-- from this line on
abbrev pub two_lines : ℕ → Op → ℕ → ℕ → ℕ → List Line
two_lines at op.Add to left right = ThreeLine three.Add to left right ∷ []
two_lines at op.Sub to left right = ThreeLine three.Sub to left right ∷ []
two_lines at op.Mul to left right = ThreeLine three.Mul to left right ∷ []
two_lines at op.Quot to left right = ThreeLine three.Div to left right ∷ []
two_lines at op.Rem to left right = ThreeLine three.Rem to left right ∷ []
two_lines at op.Min to left right = choice_of smaller_lines at to left right
two_lines at op.Max to left right = choice_of greater_lines at to left right
two_lines at op.Eq to left right = ThreeLine three.Sub 30 left right ∷ ImmLine imm.Sltiu to 30 (pos 1) ∷ []
two_lines at op.Ne to left right = ThreeLine three.Sub 30 left right ∷ ThreeLine three.Sltu to 0 30 ∷ []
two_lines at op.Lt to left right = ThreeLine three.Slt to left right ∷ []
two_lines at op.Le to left right = ThreeLine three.Slt 30 right left ∷ ImmLine imm.Sltiu to 30 (pos 1) ∷ []
two_lines at op.And to left right = ThreeLine three.And to left right ∷ []
two_lines at op.Or to left right = ThreeLine three.Or to left right ∷ []
two_lines at op.Xor to left right = ThreeLine three.Xor to left right ∷ []
