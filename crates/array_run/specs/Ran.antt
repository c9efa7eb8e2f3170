-- What becomes of a program over an array file: it is run on the file's arrays with the printed steps as its budget. This project's own.
use Rattle.std.specs.Prelude.{◌≡◌, ℕ, ℤ, List, slice_index_or, ⊤}
use Rattle.std.specs.List.{flat_map, zip}
use Rattle.shapes_core.specs.declared.area.Area.{Area}
use Rattle.shapes_core.specs.declared.area.Declared.{Declared}
use Rattle.rv_line.specs.Parts.{Parts}
use Rattle.rv_steps.specs.Good.{area_values}
use Rattle.rv_steps.specs.Machine.{BadAccess, OffText as OffTextStop, Stop, Trap as TrapStop}
use Rattle.rv_steps.specs.Stops.{Budget as BudgetEnd, Done, End, Outcome as Run, Stopped, run}
use Rattle.array_text.specs.Outcome.{Outcome, outcome_of}
use Rattle.array_text.specs.Printed.{printed}
use Rattle.array_run.specs.Starts.{base, inputs, output_in, start_block, start_on}
use Rattle.array_run.specs.declared.error.RunError.{RunError}
use Rattle.array_run.specs.declared.error.RunError.TheVariants as error

-- the printed outputs; or the file is refused at a line with a cause; or the machine stopped before the instruction on a line of the text,
-- which loads or stores at an address where it may not, or is `ecall` or `ebreak`; or before an address that is that of no instruction; or
-- with the steps spent
pub data Ran : Type 0 where
  Prints : (text : List ℕ) → Ran
  Refused : (line cause : ℕ) → Ran
  Access : (line address : ℕ) → Ran
  OffText : (address : ℕ) → Ran
  Trap : (line : ℕ) → Ran
  Spent : (steps : ℕ) → Ran

-- the printed form of an area, where it is an output
abbrev pub printed_area : ℕ → List ℕ → Area → List ℕ
printed_area spill block area = flat_map (λ output. printed output (area_values spill block area)) (output_in area.kind area.shape)

abbrev pub printed_outputs : ℕ → List Area → List ℕ → List ℕ
printed_outputs spill areas block = flat_map (printed_area spill block) areas

-- the printed forms of arrays, one after the other
abbrev pub printed_all : List Declared → List (List ℤ) → List ℕ
printed_all declared arrays = flat_map (λ array. printed array.0 array.1) (zip declared arrays)

-- the line of the text where an instruction stands
abbrev pub text_line : List ℕ → ℕ → ℕ
text_line places line = slice_index_or places line 0

abbrev pub stopped : List ℕ → Stop → Ran
stopped places (OffTextStop address) = OffText address
stopped places (TrapStop line) = Trap (text_line places line)
stopped places (BadAccess line address) = Access (text_line places line) address

abbrev pub ended : Parts → End → List ℕ → Ran
ended program (Done steps) block = Prints (printed_outputs program.header.spill program.areas block)
ended program BudgetEnd block = Spent program.header.steps
ended program (Stopped stop) block = stopped program.places stop

abbrev pub run_ended : Parts → Run → Ran
run_ended program run = ended program run.end run.last.block

-- a run on this block: how it ends, and what becomes of it
abbrev pub run_from : Parts → List ℕ → Run
run_from program block = run program.lines base program.header.steps (start_on program block)

abbrev pub ran_from : Parts → List ℕ → Ran
ran_from program block = run_ended program (run_from program block)

-- a run on these arrays
abbrev pub ran_on : Parts → List (List ℤ) → Ran
ran_on program arrays = ran_from program (start_block program.header.spill program.areas arrays)

-- a whole file is accepted or refused
abbrev pub ran_after : Parts → Outcome → Ran
ran_after program (Outcome.Accepted arrays) = ran_on program arrays
ran_after program (Outcome.Refused line cause) = Refused line cause
ran_after program (Outcome.Goes came want) = Refused 0 0

abbrev pub ran : Parts → List ℕ → Ran
ran program file = ran_after program (outcome_of (inputs program.areas) file)

-- an error says what became of it; want of memory says nothing
abbrev pub Says : RunError → Ran → Type 0
Says (error.Data line cause) found = found ≡ Refused line cause
Says (error.Access line address) found = found ≡ Access line address
Says (error.OffText address) found = found ≡ OffText address
Says (error.Trap line) found = found ≡ Trap line
Says (error.Budget steps) found = found ≡ Spent steps
Says error.Memory found = ⊤
