-- What is asked of a program that has a text. The registers, immediates and targets of an instruction are those of its form in the RISC-V
-- unprivileged ISA, 'RV32I' and 'RV64I'; what is asked of the header and of the areas is this project's own. That there are at most
-- `most_items` areas and instructions is asked of what an `Assembly` holds, and not of a text.
use Rattle.std.specs.Prelude.{ℕ, ◌+◌, ◌*◌, ◌^◌, ◌≤◌, ◌<◌, ◌≡◌, ◌≢◌, ℤ, pos, negsuc, ◌≤ℤ◌, List, [], ◌∷◌, length, map, AllPairs}
use Rattle.std.specs.List.{AllByRecursion}
use Rattle.shapes_core.specs.Limits.{most_items, most_words}
use Rattle.shapes_core.specs.Name.{IsName}
use Rattle.shapes_core.specs.Shape.{IsShape, total}
use Rattle.shapes_core.specs.declared.area.Area.{Area}
use Rattle.shapes_core.specs.declared.area.AreaKind.{AreaKind}
use Rattle.shapes_core.specs.declared.area.AreaKind.TheVariants.{In, Out, Scan}
use Rattle.rv_line.specs.Parts.{Parts}
use Rattle.rv_line.specs.declared.assembly.Header.{Header}
use Rattle.rv_line.specs.declared.line.Imm.{Imm}
use Rattle.rv_line.specs.declared.line.Imm.TheVariants.{Addi, Slti, Sltiu, Xori, Ori, Andi, Slli, Srli, Srai, Addiw, Slliw, Srliw, Sraiw}
use Rattle.rv_line.specs.declared.line.Line.{Line}
use Rattle.rv_line.specs.declared.line.Line.TheVariants.{Three as ThreeLine, Imm as ImmLine, Load as LoadLine, Store as StoreLine, Branch as BranchLine, Lui, Auipc, Jal, Jalr, Fence, Ecall, Ebreak}

-- a signed immediate of 12 bits
pub record IsImmediate (imm : ℤ) : Type 0 where
  pub low : negsuc 2047 ≤ℤ imm
  pub high : imm ≤ℤ pos 2047

-- the amount of a shift, at most `most`
pub record IsShift (most imm : ℤ) : Type 0 where
  pub low : pos 0 ≤ℤ imm
  pub high : imm ≤ℤ most

-- the upper 20 bits of a word of 32
abbrev pub IsUpper : ℕ → Type 0
IsUpper imm = imm ≤ 1048575

-- the mnemonic accepts the immediate
abbrev pub Accepts : Imm → ℤ → Type 0
Accepts Addi imm = IsImmediate imm
Accepts Slti imm = IsImmediate imm
Accepts Sltiu imm = IsImmediate imm
Accepts Xori imm = IsImmediate imm
Accepts Ori imm = IsImmediate imm
Accepts Andi imm = IsImmediate imm
Accepts Slli imm = IsShift (pos 63) imm
Accepts Srli imm = IsShift (pos 63) imm
Accepts Srai imm = IsShift (pos 63) imm
Accepts Addiw imm = IsImmediate imm
Accepts Slliw imm = IsShift (pos 31) imm
Accepts Srliw imm = IsShift (pos 31) imm
Accepts Sraiw imm = IsShift (pos 31) imm

-- in a program of `count` instructions of 4 bytes, what instruction `at` may have as its target: an instruction or the end, at most `low`
-- bytes before instruction `at`, or `high` bytes behind it
pub record IsInReach (low high count at target : ℕ) : Type 0 where
  pub exists : target ≤ count
  pub back : 4 * at ≤ 4 * target + low
  pub ahead : 4 * target ≤ 4 * at + high

-- the reach of a branch, whose offset has 13 bits
abbrev pub IsBranchTarget : ℕ → ℕ → ℕ → Type 0
IsBranchTarget count at target = IsInReach 4096 4094 count at target

-- the reach of `jal`, whose offset has 21 bits
abbrev pub IsJumpTarget : ℕ → ℕ → ℕ → Type 0
IsJumpTarget count at target = IsInReach 1048576 1048574 count at target

-- registers are x0 to x31
abbrev pub IsRegister : ℕ → Type 0
IsRegister register = register < 32

-- three registers
pub record FitsThree (rd rs1 rs2 : ℕ) : Type 0 where
  pub to : IsRegister rd
  pub left : IsRegister rs1
  pub right : IsRegister rs2

-- two registers and an immediate of the mnemonic
pub record FitsImm (code : Imm) (rd rs1 : ℕ) (amount : ℤ) : Type 0 where
  pub to : IsRegister rd
  pub from : IsRegister rs1
  pub imm : Accepts code amount

-- a register, and an address as an offset from another
pub record FitsAddress (register rs1 : ℕ) (offset : ℤ) : Type 0 where
  pub operand : IsRegister register
  pub base : IsRegister rs1
  pub imm : IsImmediate offset

-- a register and the upper bits of a word
pub record FitsUpper (rd upper : ℕ) : Type 0 where
  pub to : IsRegister rd
  pub imm : IsUpper upper

-- two registers and a target
pub record FitsBranch (count at rs1 rs2 number : ℕ) : Type 0 where
  pub left : IsRegister rs1
  pub right : IsRegister rs2
  pub target : IsBranchTarget count at number

-- a register and a target
pub record FitsJump (count at rd number : ℕ) : Type 0 where
  pub to : IsRegister rd
  pub target : IsJumpTarget count at number

-- the instruction of number `at`, of `count`, is one of RV64IM, with its fields in the ranges of its form
abbrev pub FitsLine : ℕ → ℕ → Line → Type 0
FitsLine count at (ThreeLine code to left right) = FitsThree to left right
FitsLine count at (ImmLine code to from imm) = FitsImm code to from imm
FitsLine count at (LoadLine code to imm base) = FitsAddress to base imm
FitsLine count at (StoreLine code from imm base) = FitsAddress from base imm
FitsLine count at (BranchLine code left right target) = FitsBranch count at left right target
FitsLine count at (Lui to imm) = FitsUpper to imm
FitsLine count at (Auipc to imm) = FitsUpper to imm
FitsLine count at (Jal to target) = FitsJump count at to target
FitsLine count at (Jalr to imm base) = FitsAddress to base imm
FitsLine count at Fence = Unit {0}
FitsLine count at Ecall = Unit {0}
FitsLine count at Ebreak = Unit {0}

-- instructions that stand from number `at` on in a program of `count`
abbrev pub FitLines : ℕ → ℕ → List Line → Type 0
FitLines count at [] = Unit {0}
FitLines count at (line ∷ lines) = FitsLine count at line × FitLines count (at + 1) lines

-- scans, numbered from here on
abbrev pub AreScans : ℕ → List AreaKind → Type 0
AreScans number [] = Unit {0}
AreScans number (In name ∷ kinds) = ⊥
AreScans number (Out name ∷ kinds) = ⊥
AreScans number (Scan found ∷ kinds) = (found ≡ number) × AreScans (number + 1) kinds

-- outputs, and then scans from 0 on
abbrev pub AreOuts : List AreaKind → Type 0
AreOuts [] = Unit {0}
AreOuts (In name ∷ kinds) = ⊥
AreOuts (Out name ∷ kinds) = AreOuts kinds
AreOuts (Scan number ∷ kinds) = AreScans 0 (Scan number ∷ kinds)

-- inputs, then outputs, then scans from 0 on
abbrev pub AreInOrder : List AreaKind → Type 0
AreInOrder [] = Unit {0}
AreInOrder (In name ∷ kinds) = AreInOrder kinds
AreInOrder (Out name ∷ kinds) = AreOuts (Out name ∷ kinds)
AreInOrder (Scan number ∷ kinds) = AreScans 0 (Scan number ∷ kinds)

-- the names of inputs and outputs
abbrev pub area_names : List AreaKind → List (List ℕ)
area_names [] = []
area_names (In name ∷ kinds) = name ∷ area_names kinds
area_names (Out name ∷ kinds) = name ∷ area_names kinds
area_names (Scan number ∷ kinds) = area_names kinds

-- the first area starts at this word, and each next one where the one before ends
abbrev pub ArePacked : ℕ → List Area → Type 0
ArePacked start [] = Unit {0}
ArePacked start (area ∷ areas) = (area.start ≡ start) × ArePacked (start + total area.shape) areas

-- the name of an input or an output is one
abbrev pub IsNamed : AreaKind → Type 0
IsNamed (In name) = IsName name
IsNamed (Out name) = IsName name
IsNamed (Scan number) = Unit {0}

-- the area of an array: its name, where it has one, and its shape are such
pub record IsArea (area : Area) : Type 0 where
  pub named : IsNamed area.kind
  pub shaped : IsShape area.shape

-- the areas of a block, one behind the other
pub record AreAreas (areas : List Area) : Type 0 where
  pub each : AllByRecursion IsArea areas
  pub in_order : AreInOrder (map (λ area. area.kind) areas)
  pub differ : AllPairs (λ one other. one ≢ other) (area_names (map (λ area. area.kind) areas))
  pub packed : ArePacked 0 areas

-- what has a spelling, with at most `most_items` areas and instructions
pub record Fits (header : Header) (areas : List Area) (lines : List Line) : Type 0 where
  pub steps : header.steps < 2 ^ 63
  pub spill : header.spill ≤ most_words
  pub area_count : length areas ≤ most_items
  pub in_block : AreAreas areas
  pub line_count : length lines ≤ most_items
  pub in_form : FitLines (length lines) 0 lines

-- what an `Assembly` holds: parts that fit, with a place for each instruction
pub record IsAssembly (parts : Parts) : Type 0 where
  pub fits : Fits parts.header parts.areas parts.lines
  pub placed : length parts.places ≡ length parts.lines
