-- What a line's answer says of the machine's next step: this project's own.
use Rattle.std.specs.Prelude.{◌≡◌, ◌≢◌, ℕ, ◌+◌, ◌≤◌, List, Some, slice_index}
use Rattle.rv_line.specs.declared.line.Line.{Line}
use Rattle.rv_steps.specs.Machine.{address_of, BadAccess, Goes, Halts, Next as NextStep, Trap as TrapStop, line_step}
use Rattle.rv_machine.specs.declared.flow.Flow.{Flow}
use Rattle.rv_machine.specs.declared.flow.Flow.TheVariants.{Next, Jump, Away, Access, Trap}

-- what comes of line `at`, where these are the registers and the block after it
abbrev pub next_of : ℕ → Flow → List ℕ → List ℕ → NextStep
next_of at Next registers block = Goes (record { registers = registers; pc = address_of (at + 1); block = block })
next_of at (Jump line) registers block = Goes (record { registers = registers; pc = address_of line; block = block })
next_of at (Away address) registers block = Goes (record { registers = registers; pc = address; block = block })
next_of at (Access address) registers block = Halts (BadAccess at address)
next_of at Trap registers block = Halts (TrapStop at)

-- an address is that of none of so many lines, and not that of their end
abbrev pub IsOff : ℕ → ℕ → Type 0
IsOff count address = (k : ℕ) → k ≤ count → address ≢ address_of k

-- a jump stays within the text, or it is said that it leaves it
abbrev pub IsWithin : ℕ → Flow → Type 0
IsWithin count (Jump line) = line ≤ count
IsWithin count (Away address) = IsOff count address
IsWithin count flow = Unit {0}

-- a line that stops the run changes nothing
abbrev pub IsUnchanged : Flow → List ℕ → List ℕ → Type 0
IsUnchanged (Access address) old new = new ≡ old
IsUnchanged Trap old new = new ≡ old
IsUnchanged flow old new = Unit {0}

-- line `at`, of `count`, over a block at `base`, does to registers and a block what the answer says
pub record Steps (base count at : ℕ) (line : Line) (before block : List ℕ) (flow : Flow) (after stored : List ℕ) : Type 0 where
  pub step : line_step base at (Some line) (record { registers = before; pc = address_of at; block = block }) ≡ next_of at flow after stored
  pub within : IsWithin count flow
  pub registers : IsUnchanged flow before after
  pub bytes : IsUnchanged flow block stored
  pub zero : slice_index after 0 ≡ 0
