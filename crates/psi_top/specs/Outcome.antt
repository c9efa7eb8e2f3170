-- What a call comes to. This project's own.
use Rattle.std.specs.Prelude.{ℕ, ◌+◌, ◌≡◌, ◌≢◌, ◌<◌, ◌≤◌, ◌⊎◌, nat_le, if◌then◌else◌, true, List, [], ◌∷◌, ◌++◌, All, length, Option, Some, None, Err}
use Rattle.std.specs.Option.{option_map}
use Rattle.std.specs.FinMap.{get}
use Rattle.array_text.specs.Limits.{longest_arrays}
use Rattle.moa_reader.specs.Limits.{longest_source}
use Rattle.rv_reader.specs.Limits.{longest_assembly}
use Rattle.text_tokens.specs.declared.token.Position.{Position}
use Rattle.moa_tree.specs.Expr.{Tree}
use Rattle.moa_tree.specs.Readings.{Reads}
use Rattle.moa_tree.specs.Refusals.{IsRefused}
use Rattle.shape_check.specs.Rules.{Failure}
use Rattle.shape_check.specs.Statements.{verdict_of}
use Rattle.psi_compile.specs.Errors.{position_of}
use Rattle.nest_jobs.specs.Plain.{ArePlain}
use Rattle.psi_compile.specs.Built.{IsNotBuilt}
use Rattle.psi_edges.specs.Causes.{Rose, raised}
use Rattle.psi_edges.specs.Files.{Files, OnFile}
use Rattle.rv_line.specs.Parts.{Parts, block_words}
use Rattle.rv_reader.specs.Refusals.{Refusal, parts_of, refusal}
use Rattle.array_run.specs.Ran.{Ran, ran}
use Rattle.psi_top.specs.Command.{Asks, IsCommand, IsMisuse, IsRun}
use Rattle.psi_top.specs.Line.{usage_line, cannot_read_line, longer_line, exceeded_line, no_memory_line, not_built_line, rule_line, text_line}
use Rattle.psi_top.specs.Line.{access_line, assembly_line, block_line, budget_line, data_line, greatest_block, off_text_line, trap_line}
use Rattle.psi_top.specs.Made.{CanMake, IsTextFor, makes_nests}
use Rattle.psi_top.specs.Views.{ShelfView}
use Rattle.psi_top.specs.declared.command.Task.{Task}

-- what a call comes to: a refusal by its status and its line, the text that a task makes of a program, or this text, of printed arrays
pub data Outcome : Type 0 where
  Refuses : (status : ℕ) → (line : List ℕ) → Outcome
  Makes : (task : Task) → (tree : Tree) → Outcome
  Prints : (text : List ℕ) → Outcome

-- its status where no put fails
abbrev pub status_of : Outcome → ℕ
status_of (Refuses status line) = status
status_of (Makes task tree) = 0
status_of (Prints text) = 0

-- the line that it puts to the sink of errors, which is none where a text is made
abbrev pub line_of : Outcome → List ℕ
line_of (Refuses status line) = line
line_of (Makes task tree) = []
line_of (Prints text) = []

-- what it may put to the sink of texts
abbrev pub IsTextOf : Outcome → List ℕ → Type 0
IsTextOf (Refuses status line) text = text ≡ []
IsTextOf (Makes task tree) text = IsTextFor task tree text
IsTextOf (Prints printed) text = text ≡ printed

-- the greatest number of bytes that a call reads
abbrev pub most_read : ℕ
most_read = (longest_assembly + 1) + (longest_arrays + 1)

-- the status of a failure, and its line, at its position in the source
abbrev pub failure_status : Failure → ℕ
failure_status (Failure.Rule place rule) = 5
failure_status (Failure.Limit place which value) = 6

abbrev pub failure_line : List ℕ → List ℕ → Failure → List ℕ
failure_line name source (Failure.Rule place rule) = rule_line name (position_of source place) rule
failure_line name source (Failure.Limit place which value) = exceeded_line name (option_map (position_of source) place) which value

-- what a task comes to over a source, which is the file of this name, and how many bytes of it are read
pub data IsSourceOutcome (task : Task) (name source : List ℕ) : Outcome → ℕ → Type 0 where
  too_long : longest_source < length source → IsSourceOutcome task name source (Refuses 6 (longer_line name 1 longest_source)) (longest_source + 1)
  refused : {at : Position} {cause : ℕ} → length source ≤ longest_source → IsRefused source at cause → IsSourceOutcome task name source (Refuses 4 (text_line name at cause)) (length source)
  not_built : {at : Position} → length source ≤ longest_source → makes_nests task ≡ true → IsNotBuilt source at → IsSourceOutcome task name source (Refuses 11 (not_built_line name at)) (length source)
  fails : {tree : Tree} {failure : Failure} → length source ≤ longest_source → Reads source tree → (makes_nests task ≡ true → ArePlain tree.statements) → verdict_of tree.statements ≡ Err failure → IsSourceOutcome task name source (Refuses (failure_status failure) (failure_line name source failure)) (length source)
  made : {tree : Tree} → length source ≤ longest_source → Reads source tree → CanMake task tree → IsSourceOutcome task name source (Makes task tree) (length source)

-- what a call comes to, and how many bytes are read for it
abbrev pub Reached : Type 0
Reached = Outcome × ℕ

abbrev pub after_reading : ℕ → Reached → Reached
after_reading read reached = (reached.0, read + reached.1)

-- over what a file of this name holds, if it is there: it has more bytes than this limit allows, or the rest goes on with its bytes
abbrev pub over_bytes : List ℕ → ℕ → ℕ → (List ℕ → Reached) → Option (List ℕ) → Reached
over_bytes name which most rest None = (Refuses 2 (cannot_read_line name), 0)
over_bytes name which most rest (Some bytes) =
    if nat_le (length bytes) most then after_reading (length bytes) (rest bytes) else (Refuses 6 (longer_line name which most), most + 1)

abbrev pub over_file : Files → List ℕ → ℕ → ℕ → (List ℕ → Reached) → Reached
over_file files name which most rest = over_bytes name which most rest (get files name)

-- the words of the block of a program
abbrev pub words_of_block : Parts → ℕ
words_of_block program = block_words program.header program.areas

-- over a program: its block would have too many words, or the rest goes on with it
abbrev pub over_program : List ℕ → (Parts → Reached) → Parts → Reached
over_program name rest program =
    if nat_le (words_of_block program) greatest_block then rest program else (Refuses 6 (block_line name (words_of_block program)), 0)

abbrev pub unless_refused : List ℕ → Reached → Refusal → Reached
unless_refused name reached None = reached
unless_refused name reached (Some at) = (Refuses 8 (assembly_line name at.0 at.1), 0)

-- over an assembly text: it is refused, or the rest goes on with the program that it spells
abbrev pub over_text : List ℕ → (Parts → Reached) → List ℕ → Reached
over_text name rest text = unless_refused name (over_program name rest (parts_of text)) (refusal text)

-- what the run of a program on an array file comes to
abbrev pub ran_outcome : List ℕ → List ℕ → Ran → Outcome
ran_outcome assembly arrays (Ran.Prints text) = Prints text
ran_outcome assembly arrays (Ran.Refused line cause) = Refuses 7 (data_line arrays line cause)
ran_outcome assembly arrays (Ran.Access line address) = Refuses 9 (access_line assembly line address)
ran_outcome assembly arrays (Ran.OffText address) = Refuses 9 (off_text_line assembly address)
ran_outcome assembly arrays (Ran.Trap line) = Refuses 9 (trap_line assembly line)
ran_outcome assembly arrays (Ran.Spent steps) = Refuses 9 (budget_line assembly steps)

abbrev pub over_arrays : Files → List ℕ → List ℕ → Parts → Reached
over_arrays files assembly arrays program =
    over_file files arrays 9 longest_arrays (λ bytes. (ran_outcome assembly arrays (ran program bytes), 0))

-- what a run comes to over the files as the assembly text is read, and as the arrays are read later
abbrev pub run_outcome : Files → Files → List ℕ → List ℕ → Reached
run_outcome files later assembly arrays =
    over_file files assembly 8 longest_assembly (over_text assembly (over_arrays later assembly arrays))

-- what these words come to over these files, and these where a second one is read, and how many bytes are read for it, where nothing fails and
-- there is memory
pub data IsOutcome (words : List (List ℕ)) (files later : Files) : Outcome → ℕ → Type 0 where
  usage : IsMisuse words → IsOutcome words files later (Refuses 1 usage_line) 0
  missing : {task : Task} {name : List ℕ} → IsCommand words task name → get files name ≡ None → IsOutcome words files later (Refuses 2 (cannot_read_line name)) 0
  found : {task : Task} {name source : List ℕ} {outcome : Outcome} {read : ℕ} → IsCommand words task name → get files name ≡ Some source → IsSourceOutcome task name source outcome read → IsOutcome words files later outcome read
  runs : {assembly arrays : List ℕ} → IsRun words assembly arrays → IsOutcome words files later (run_outcome files later assembly arrays).0 (run_outcome files later assembly arrays).1

-- these are the files of a shelf, where it tells them
abbrev pub AreFiles : Option Files → Files → Type 0
AreFiles None files = Unit {0}
AreFiles (Some told) files = told ≡ files

-- so many bytes were given: a count rose by them, or there were none and it stands as before
abbrev pub IsGiven : ℕ → ℕ → ℕ → Type 0
IsGiven before now read = (now ≡ raised before read) ⊎ ((read ≡ 0) × (now ≡ before))

-- an assembly text is read and spells a program of which the block may have the words
pub record IsRunnable (text : List ℕ) : Type 0 where
  pub short : length text ≤ longest_assembly
  pub spelled : refusal text ≡ None
  pub room : words_of_block (parts_of text) ≤ greatest_block

-- a file that the words ask for cannot be read: the count of failed reads rose, the last of them was of this file, and what the words ask for
-- before it was read and can be run
pub record IsUnreadable (words : List (List ℕ)) (old new : ShelfView) (name : List ℕ) : Type 0 where
  pub before : List (List ℕ)
  pub behind : List (List ℕ)
  pub asked : Asks words (before ++ name ∷ behind)
  pub runnable : All (λ file. OnFile old.files file IsRunnable) before
  pub rose : Rose old.faults new.faults
  pub named : new.failed_name ≡ name

-- what is due in a call that finds a shelf as `old` and leaves it as `new`: what the words come to over its files, where no read failed, so
-- that each file was there; that a file cannot be read; or want of memory
pub data IsDue (words : List (List ℕ)) (old new : ShelfView) : Outcome → Type 0 where
  over_files : {files later : Files} {read : ℕ} {outcome : Outcome} → AreFiles old.files files → AreFiles old.files later → IsOutcome words files later outcome read → IsGiven old.given new.given read → new.faults ≡ old.faults → status_of outcome ≢ 2 → IsDue words old new outcome
  cannot_read : {name : List ℕ} → IsUnreadable words old new name → IsDue words old new (Refuses 2 (cannot_read_line name))
  no_memory : {names : List (List ℕ)} → Asks words names → IsDue words old new (Refuses 10 no_memory_line)
