-- A program of two lines, which copies its input to its output, and near misses of it. This project's own.
use Rattle.std.specs.Prelude.{ℕ, List, [], ◌∷◌, ◌++◌, ℤ, pos, codes, replicate, slice_set}
use Rattle.shapes_core.specs.declared.area.Area.{Area}
use Rattle.shapes_core.specs.declared.area.AreaKind.TheVariants.{In, Out}
use Rattle.rv_line.specs.declared.assembly.Header.{Header}
use Rattle.rv_line.specs.declared.line.Line.{Line}
use Rattle.rv_line.specs.declared.line.Line.TheVariants.{Load as LoadLine, Store as StoreLine}
use Rattle.rv_line.specs.declared.line.Load.TheVariants.{Ld}
use Rattle.rv_line.specs.declared.line.Store.TheVariants.{Sd}
use Rattle.rv_line.specs.declared.line.Three.{Three}
use Rattle.rv_line.specs.declared.line.Three.TheVariants.{Add, Sub, Sll, Slt, Sltu, Xor, Srl, Sra, Or, And, Mul, Mulh, Mulhsu, Mulhu, Div, Divu, Rem, Remu, Addw, Subw, Sllw, Srlw, Sraw, Mulw, Divw, Divuw, Remw, Remuw}
use Rattle.rv_steps.specs.Machine.{Config, address_of}

-- so many steps are printed, and one word is spilled
abbrev pub header_of : ℕ → Header
header_of steps = record { steps = steps; spill = 1 }

-- an input and an output of one element
abbrev pub copy_areas : List Area
copy_areas =
    record { kind = In (codes "A"); shape = []; start = 0 } ∷ record { kind = Out (codes "C"); shape = []; start = 1 } ∷ []

-- the input's word to the output's, through a register
abbrev pub copy_lines : ℕ → List Line
copy_lines through = LoadLine Ld through (pos 8) 10 ∷ StoreLine Sd through (pos 16) 10 ∷ []

-- the output is the input
abbrev pub copied : List (List ℤ) → List (List ℤ)
copied inputs = inputs

-- a block at this address, of which the input holds 7
abbrev pub start_at : ℕ → Config
start_at base = record {
  registers = slice_set (slice_set (replicate 32 0) 1 (address_of 2)) 10 base;
  pc = address_of 0;
  block = replicate 8 0 ++ 7 ∷ replicate 15 0;
}

-- the mnemonics with three registers: those of the M extension, and the others
abbrev pub multiplications : List Three
multiplications = Mul ∷ Mulh ∷ Mulhsu ∷ Mulhu ∷ Div ∷ Divu ∷ Rem ∷ Remu ∷ Mulw ∷ Divw ∷ Divuw ∷ Remw ∷ Remuw ∷ []

abbrev pub others : List Three
others = Add ∷ Sub ∷ Sll ∷ Slt ∷ Sltu ∷ Xor ∷ Srl ∷ Sra ∷ Or ∷ And ∷ Addw ∷ Subw ∷ Sllw ∷ Srlw ∷ Sraw ∷ []
