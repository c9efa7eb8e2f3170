-- What the code says of outcomes. This project's own.
use Rattle.std.specs.Prelude.{ℕ, ℤ, ◌+◌, ◌≡◌, ◌≢◌, ◌<◌, ◌≤◌, ◌⊎◌, List, [], length, None, MatchResult, Result, Vec}
use Rattle.psi_edges.specs.Causes.{Rose, raised}
use Rattle.psi_edges.specs.Files.{OnFile}
use Rattle.psi_top.specs.Command.{IsCommand, IsRun}
use Rattle.psi_top.specs.Line.{usage_line, cannot_read_line, longer_line, exceeded_line, no_memory_line, not_built_line, rule_line, text_line}
use Rattle.psi_top.specs.Line.{access_line, assembly_line, block_line, budget_line, data_line, greatest_block, off_text_line, trap_line}
use Rattle.psi_top.specs.Outcome.{IsDue, IsTextOf, Outcome, line_of, status_of, words_of_block}
use Rattle.psi_top.specs.Outcome.Outcome.{Refuses}
use Rattle.psi_top.specs.Put.{IsPut}
use Rattle.moa_tree.specs.Expr.{Tree}
use Rattle.shape_check.specs.Layout.{areas}
use Rattle.rv_reader.specs.Refusals.{parts_of, refusal}
use Rattle.array_text.specs.Outcome.{Accepted, outcome_of as file_outcome}
use Rattle.array_run.specs.Ran.{Prints, printed_all, ran}
use Rattle.array_run.specs.Starts.{inputs, outputs}
use Rattle.psi_compile.specs.Demands.{denoted}
use Rattle.psi_top.specs.Views.{ShelfView, SinkView}
use Rattle.psi_top.specs.declared.command.Command.{Command}
use Rattle.psi_top.specs.declared.command.Command.TheVariants as command
use Rattle.psi_top.specs.declared.refusal.Refusal.{Refusal}
use Rattle.psi_top.specs.declared.refusal.Refusal.TheVariants.{Usage, CannotRead, TooLong, Text, Rule, Limit, NotBuilt, Run, Memory}
use Rattle.psi_top.specs.declared.run_failure.RunFailure.{RunFailure}
use Rattle.psi_top.specs.declared.run_failure.RunFailure.TheVariants as runs

-- the words ask for this command
abbrev pub IsAsked : List (List ℕ) → Command → Type 0
IsAsked words (command.OnSource task name) = IsCommand words task name.now
IsAsked words (command.Run assembly arrays) = IsRun words assembly.now arrays.now

-- the status and the line of a run that there is not, or not to its end, for the file of this name
abbrev pub failed_run : List ℕ → RunFailure → Outcome
failed_run name (runs.Assembly line cause) = Refuses 8 (assembly_line name line cause)
failed_run name (runs.Block words) = Refuses 6 (block_line name words)
failed_run name (runs.Data line cause) = Refuses 7 (data_line name line cause)
failed_run name (runs.Access line address) = Refuses 9 (access_line name line address)
failed_run name (runs.OffText address) = Refuses 9 (off_text_line name address)
failed_run name (runs.Trap line) = Refuses 9 (trap_line name line)
failed_run name (runs.Budget steps) = Refuses 9 (budget_line name steps)

-- the status and the line of a refusal
abbrev pub outcome_of : Refusal → Outcome
outcome_of Usage = Refuses 1 usage_line
outcome_of (CannotRead name) = Refuses 2 (cannot_read_line name.now)
outcome_of (TooLong name which most) = Refuses 6 (longer_line name.now which most)
outcome_of (Text name at cause) = Refuses 4 (text_line name.now at cause)
outcome_of (Rule name at rule) = Refuses 5 (rule_line name.now at rule)
outcome_of (Limit name at which value) = Refuses 6 (exceeded_line name.now at which value)
outcome_of (NotBuilt name at) = Refuses 11 (not_built_line name.now at)
outcome_of (Run name failure) = failed_run name.now failure
outcome_of Memory = Refuses 10 no_memory_line

-- this text is due
pub record IsTextDue (words : List (List ℕ)) (old new : ShelfView) (text : List ℕ) : Type 0 where
  pub outcome : Outcome
  pub due : IsDue words old new outcome
  pub is_text : IsTextOf outcome text
  pub done : status_of outcome ≡ 0
  pub no_line : line_of outcome ≡ []

-- what is answered is due
abbrev pub IsAnswer : {Z : Type 0} → List (List ℕ) → ShelfView → ShelfView → Result (Vec ℕ Z) Refusal → Type 0
IsAnswer words old new answer = MatchResult answer
    (λ text. IsTextDue words old new text.items)
    (λ refusal. IsDue words old new (outcome_of refusal))

-- the whole file of this name, of at most so many bytes, was read
pub record IsRead (old new : ShelfView) (name : List ℕ) (most : ℕ) (bytes : List ℕ) : Type 0 where
  pub short : length bytes ≤ most
  pub whole : OnFile old.files name (λ file. bytes ≡ file)
  pub given : new.given ≡ raised old.given (length bytes)
  pub faults : new.faults ≡ old.faults
  pub files : new.files ≡ old.files

-- it was not: a read failed, the file is longer, or there was no memory
pub data IsUnread (old new : ShelfView) (name : List ℕ) (which most : ℕ) : Outcome → Type 0 where
  failed : Rose old.faults new.faults → new.failed_name ≡ name → IsUnread old new name which most (Refuses 2 (cannot_read_line name))
  longer : OnFile old.files name (λ file. most < length file) → new.given ≡ raised old.given (most + 1) → new.faults ≡ old.faults → IsUnread old new name which most (Refuses 6 (longer_line name which most))
  starved : IsUnread old new name which most (Refuses 10 no_memory_line)

-- a refusal is said as it is, or there is no memory for its line, which that of wrong words does not need
abbrev pub IsSaid : Outcome → Outcome → Type 0
IsSaid wanted said = (said ≡ wanted) ⊎ ((status_of wanted ≢ 1) × (said ≡ Refuses 10 no_memory_line))

-- what was answered was put
abbrev pub IsPublished : {Z : Type 0} → Result (Vec ℕ Z) Refusal → SinkView → SinkView → SinkView → SinkView → ℕ → Type 0
IsPublished answer out_old out_new err_old err_new status = MatchResult answer
    (λ text. (outcome : Outcome) → IsTextOf outcome text.items → status_of outcome ≡ 0 → line_of outcome ≡ [] → IsPut outcome out_old out_new err_old err_new status)
    (λ refusal. (said : Outcome) × IsSaid (outcome_of refusal) said × IsPut said out_old out_new err_old err_new status)

-- a text runs as this program denotes: it is not refused, its areas are those of the program, and where its block may have the words, what it
-- prints of the arrays of a file is what the program denotes of them
pub record IsFaithful (tree : Tree) (text : List ℕ) : Type 0 where
  pub unrefused : refusal text ≡ None
  pub layout : (parts_of text).areas ≡ areas tree.statements
  pub prints : (file : List ℕ) (lists : List (List ℤ)) → words_of_block (parts_of text) ≤ greatest_block → file_outcome (inputs (areas tree.statements)) file ≡ Accepted lists → ran (parts_of text) file ≡ Prints (printed_all (outputs (areas tree.statements)) (denoted tree lists))
