-- Programs and blocks for the worked examples. This project's own.
use Rattle.std.specs.Prelude.{ℕ, List, [], ◌∷◌, pos, negsuc, codes}
use Rattle.shapes_core.specs.declared.area.Area.{Area}
use Rattle.shapes_core.specs.declared.area.AreaKind.TheVariants.{In, Out, Scan}
use Rattle.rv_line.specs.Parts.{Parts}
use Rattle.rv_line.specs.declared.line.Line.{Line}
use Rattle.rv_line.specs.declared.line.Load.{Load}
use Rattle.rv_line.specs.declared.line.Store.{Store}
use Rattle.rv_steps.specs.Machine.{is_allowed, line_at, next_step, number_at, register_at, value_at, with_register, with_value}
use Rattle.rv_steps.specs.Stops.{run}
use Rattle.array_run.specs.Ran.{Ran, ran}
use Rattle.array_run.specs.Starts.{bytes_of}

-- two inputs of different shapes, two outputs and a scan
abbrev pub five_areas : List Area
five_areas =
    record { kind = In (codes "A"); shape = 2 ∷ []; start = 0 } ∷ record { kind = In (codes "B"); shape = []; start = 2 }
    ∷ record { kind = Out (codes "R"); shape = []; start = 3 } ∷ record { kind = Out (codes "S"); shape = 1 ∷ 3 ∷ []; start = 4 }
    ∷ record { kind = Scan 0; shape = 5 ∷ []; start = 7 } ∷ []

-- with a spill word, of which three lines stand on lines 6, 8 and 9 of a text
abbrev pub five_area_program : Parts
five_area_program = record {
  header = record { steps = 4; spill = 1 };
  areas = five_areas;
  lines = Line.Fence ∷ Line.Fence ∷ Line.Ecall ∷ [];
  places = 6 ∷ 8 ∷ 9 ∷ [];
}

-- its block with a value of its own in each word
abbrev pub numbered_block : List ℕ
numbered_block =
    bytes_of (pos 100 ∷ pos 1 ∷ pos 2 ∷ pos 3 ∷ pos 5 ∷ pos 6 ∷ negsuc 6 ∷ pos 8 ∷ pos 9 ∷ pos 10 ∷ pos 11 ∷ pos 12 ∷ pos 13 ∷ [])

-- an input and an output of one element each, behind a spill word
abbrev pub copy_areas : List Area
copy_areas = record { kind = In (codes "A"); shape = []; start = 0 } ∷ record { kind = Out (codes "C"); shape = []; start = 1 } ∷ []

-- the input's word to the output's, and back to the caller in front of a trap
abbrev pub copy_lines : List Line
copy_lines = Line.Load Load.Ld 5 (pos 8) 10 ∷ Line.Store Store.Sd 5 (pos 16) 10 ∷ Line.Jalr 0 (pos 0) 1 ∷ Line.Ecall ∷ []

-- what becomes of lines over these areas on a file, where so many steps are printed and the lines stand on every second line of a text
unfoldable pub ran_lines : List Line → ℕ → List ℕ → Ran
unfolding register_at with_register value_at with_value number_at line_at is_allowed next_step run
ran_lines lines steps file = ran (record {
  header = record { steps = steps; spill = 1 };
  areas = copy_areas;
  lines = lines;
  places = 7 ∷ 9 ∷ 11 ∷ 13 ∷ [];
}) file
