-- Where a run on arrays starts: the inputs hold the arrays, every other word of the block is 0. This project's own.
use Rattle.std.specs.Prelude.{ℕ, ◌*◌, ℤ, List, [], ◌∷◌, ◌++◌, length, sum_by, replicate, slice_set, if◌then◌else◌}
use Rattle.std.specs.Int.{w64, to_le_bytes}
use Rattle.std.specs.List.{flat_map}
use Rattle.shapes_core.specs.Shape.{total}
use Rattle.shapes_core.specs.declared.area.Area.{Area}
use Rattle.shapes_core.specs.declared.area.AreaKind.{AreaKind}
use Rattle.shapes_core.specs.declared.area.AreaKind.TheVariants.{In, Out, Scan}
use Rattle.shapes_core.specs.declared.area.Declared.{Declared}
use Rattle.rv_line.specs.Parts.{Parts}
use Rattle.rv_steps.specs.Effects.{word_of}
use Rattle.rv_steps.specs.Good.{is_input}
use Rattle.rv_steps.specs.Machine.{Config, address_of}

-- the array that an area holds, where it is an input, or an output
abbrev pub input_in : AreaKind → List ℕ → List Declared
input_in (In name) shape = record { name = name; shape = shape } ∷ []
input_in (Out name) shape = []
input_in (Scan number) shape = []

abbrev pub output_in : AreaKind → List ℕ → List Declared
output_in (In name) shape = []
output_in (Out name) shape = record { name = name; shape = shape } ∷ []
output_in (Scan number) shape = []

-- the arrays that a program takes, and those that it gives, each in the order of the areas
abbrev pub inputs : List Area → List Declared
inputs areas = flat_map (λ area. input_in area.kind area.shape) areas

abbrev pub outputs : List Area → List Declared
outputs areas = flat_map (λ area. output_in area.kind area.shape) areas

-- the address of the block
abbrev pub base : ℕ
base = 4294967296

-- the words of values, little-endian
abbrev pub bytes_of : List ℤ → List ℕ
bytes_of values = flat_map (λ value. to_le_bytes w64 (word_of value)) values

abbrev pub zeros : ℕ → List ℕ
zeros words = replicate (8 * words) 0

-- the words of an area that is no input
abbrev pub words_left : Area → ℕ
words_left area = if is_input area.kind then 0 else total area.shape

-- the spill words, then the inputs, which stand before all other areas, and then those
abbrev pub start_block : ℕ → List Area → List (List ℤ) → List ℕ
start_block spill areas arrays = zeros spill ++ (flat_map bytes_of arrays ++ zeros (sum_by words_left areas))

-- x1 holds the address to return to, which is the end, x10 that of the block, and every other register 0
abbrev pub start_registers : ℕ → List ℕ
start_registers count = slice_set (slice_set (replicate 32 0) 1 (address_of count)) 10 base

-- before the first line, on this block
abbrev pub start_on : Parts → List ℕ → Config
start_on program block = record {
  registers = start_registers (length program.lines);
  pc = address_of 0;
  block = block;
}

abbrev pub start : Parts → List (List ℤ) → Config
start program arrays = start_on program (start_block program.header.spill program.areas arrays)
