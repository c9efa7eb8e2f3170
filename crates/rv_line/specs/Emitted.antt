-- The text that is written: of the many that spell a program this one, byte for byte, as a function of the program, and on which line of it
-- each instruction stands. The instructions are those of RV64IM (RISC-V unprivileged ISA); the rest is this project's own.
use Rattle.std.specs.Prelude.{ℕ, ◌+◌, ℤ, Bool, false, ◌==◌, if◌then◌else◌, Option, Some, None, List, [], ◌∷◌, ◌++◌, length, codes}
use Rattle.std.specs.Fmt.{decimal, signed_decimal}
use Rattle.std.specs.List.{flat_map, list_any}
use Rattle.std.specs.Option.{option_map_or}
use Rattle.shapes_core.specs.declared.area.Area.{Area}
use Rattle.shapes_core.specs.declared.area.AreaKind.{AreaKind}
use Rattle.shapes_core.specs.declared.area.AreaKind.TheVariants.{In, Out, Scan}
use Rattle.rv_line.specs.Mnemonics.{three_mnemonic, imm_mnemonic, load_mnemonic, store_mnemonic, branch_mnemonic}
use Rattle.rv_line.specs.Parts.{Parts}
use Rattle.rv_line.specs.declared.assembly.Header.{Header}
use Rattle.rv_line.specs.declared.line.Line.{Line}
use Rattle.rv_line.specs.declared.line.Line.TheVariants.{Three as ThreeLine, Imm as ImmLine, Load as LoadLine, Store as StoreLine, Branch as BranchLine, Lui, Auipc, Jal, Jalr, Fence, Ecall, Ebreak}

-- a register by its number, as `x5`
abbrev pub register_text : ℕ → List ℕ
register_text register = codes "x" ++ decimal register

-- an address as an offset from a register, as `-8(x10)`
abbrev pub address_text : ℤ → ℕ → List ℕ
address_text imm base = signed_decimal imm ++ codes "(" ++ register_text base ++ codes ")"

-- the name of an instruction's label by the instruction's number, as `.L7`
abbrev pub label_name : ℕ → List ℕ
label_name number = codes ".L" ++ decimal number

-- a mnemonic and its operands
abbrev pub two_operands : List ℕ → List ℕ → List ℕ → List ℕ
two_operands mnemonic one two = mnemonic ++ codes " " ++ one ++ codes ", " ++ two

abbrev pub three_operands : List ℕ → List ℕ → List ℕ → List ℕ → List ℕ
three_operands mnemonic one two three = two_operands mnemonic one two ++ codes ", " ++ three

-- an instruction, without the blanks in front
abbrev pub instruction_text : Line → List ℕ
instruction_text (ThreeLine code to left right) = three_operands (three_mnemonic code) (register_text to) (register_text left) (register_text right)
instruction_text (ImmLine code to from imm) = three_operands (imm_mnemonic code) (register_text to) (register_text from) (signed_decimal imm)
instruction_text (LoadLine code to imm base) = two_operands (load_mnemonic code) (register_text to) (address_text imm base)
instruction_text (StoreLine code from imm base) = two_operands (store_mnemonic code) (register_text from) (address_text imm base)
instruction_text (BranchLine code left right target) = three_operands (branch_mnemonic code) (register_text left) (register_text right) (label_name target)
instruction_text (Lui to imm) = two_operands (codes "lui") (register_text to) (decimal imm)
instruction_text (Auipc to imm) = two_operands (codes "auipc") (register_text to) (decimal imm)
instruction_text (Jal to target) = two_operands (codes "jal") (register_text to) (label_name target)
instruction_text (Jalr to imm base) = two_operands (codes "jalr") (register_text to) (address_text imm base)
instruction_text Fence = codes "fence"
instruction_text Ecall = codes "ecall"
instruction_text Ebreak = codes "ebreak"

-- the number of the instruction to which an instruction may go, besides the one behind it
abbrev pub target_of : Line → Option ℕ
target_of (BranchLine code left right target) = Some target
target_of (Jal to target) = Some target
target_of _ = None

-- whether an instruction has this target
abbrev pub has_target : ℕ → Line → Bool
has_target number line = option_map_or (λ target. target == number) (target_of line) false

-- whether some instruction has this target, so that the target has a label
abbrev pub is_labelled : List Line → ℕ → Bool
is_labelled lines number = list_any (has_target number) lines

-- the line of a label, where there is one
abbrev pub label_text : Bool → ℕ → List ℕ
label_text labelled number = if labelled then label_name number ++ codes ":\n" else []

-- the instructions from number `at` on, each on a line of its own behind that of its label, and the label of the end
abbrev pub lines_text : (ℕ → Bool) → ℕ → List Line → List ℕ
lines_text labelled at [] = label_text (labelled at) at
lines_text labelled at (line ∷ lines) = label_text (labelled at) at ++ codes "    " ++ instruction_text line ++ codes "\n" ++ lines_text labelled (at + 1) lines

-- the parts of an area's row that say what it is
abbrev pub kind_text : AreaKind → List ℕ
kind_text (In name) = codes "# in " ++ name
kind_text (Out name) = codes "# out " ++ name
kind_text (Scan number) = codes "# scan " ++ decimal number

-- numbers, with a blank before each
abbrev pub extents_text : List ℕ → List ℕ
extents_text extents = flat_map (λ extent. codes " " ++ decimal extent) extents

-- the row of an area that begins at this word of the block
abbrev pub area_text : ℕ → Area → List ℕ
area_text offset area = kind_text area.kind ++ codes " " ++ decimal offset ++ extents_text area.shape ++ codes "\n"

-- the rows, of which each has its offset: areas are counted from behind the spill words
abbrev pub areas_text : ℕ → List Area → List ℕ
areas_text spill areas = flat_map (λ area. area_text (spill + area.start) area) areas

-- the first three lines of the text
abbrev pub header_text : Header → List ℕ
header_text header = codes "# psi 1\n# steps " ++ decimal header.steps ++ codes "\n# spill " ++ decimal header.spill ++ codes "\n"

-- the text that is written
abbrev pub emitted : Parts → List ℕ
emitted parts =
    header_text parts.header ++ areas_text parts.header.spill parts.areas ++ codes ".text\n.globl psi_main\npsi_main:\n" ++ lines_text (is_labelled parts.lines) 0 parts.lines

-- the lines of the text where the instructions from number `at` on stand, each behind its label, where `next` is the next line
abbrev pub places_from : (ℕ → Bool) → ℕ → ℕ → List Line → List ℕ
places_from labelled next at [] = []
places_from labelled next at (line ∷ lines) =
    let place = next + (if labelled at then 1 else 0) in
    place ∷ places_from labelled (place + 1) (at + 1) lines

-- the same of the whole text: three lines of the header, a row an area, and three lines stand before the first instruction
abbrev pub emitted_places : List Area → List Line → List ℕ
emitted_places areas lines = places_from (is_labelled lines) (length areas + 7) 0 lines

-- the same program, with its instructions where the emitted text has them
abbrev pub as_emitted : Parts → Parts
as_emitted parts = record {
  header = parts.header;
  areas = parts.areas;
  lines = parts.lines;
  places = emitted_places parts.areas parts.lines;
}
