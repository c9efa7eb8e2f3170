-- Which text is made of a source. This project's own.
use Rattle.std.specs.Prelude.{ℕ, ◌≡◌, Bool, true, false, List, Option, IsOk, ⊤}
use Rattle.moa_tree.specs.Canonical.{canonical}
use Rattle.moa_tree.specs.Expr.{Tree}
use Rattle.moa_tree.specs.Readings.{Reads}
use Rattle.shape_check.specs.Statements.{verdict_of}
use Rattle.psi_compile.specs.Compiled.{IsCompiled}
use Rattle.psi_compile.specs.Errors.{IsBuiltFirst, IsCause}
use Rattle.psi_compile.specs.declared.error.CompileError.{CompileError}
use Rattle.psi_compile.specs.declared.error.CompileError.TheVariants as error
use Rattle.nest_jobs.specs.Plain.{ArePlain}
use Rattle.psi_edges.specs.Files.{Files, OnFile}
use Rattle.rv_line.specs.Parts.{Parts}
use Rattle.rv_line.specs.Spells.{Spells}
use Rattle.array_run.specs.Ran.{Prints, ran}
use Rattle.psi_top.specs.Command.{IsCommand, IsRun}
use Rattle.psi_top.specs.Report.{report}
use Rattle.psi_top.specs.Shown.{dnf, nest, onf}
use Rattle.psi_top.specs.declared.command.Task.{Task}
use Rattle.psi_top.specs.declared.command.Task.TheVariants.{Check, ShowSource, ShowDnf, ShowOnf, ShowNest, Compile}

-- a task makes nests: of a program whose expressions are built, which is asked before its shapes
abbrev pub makes_nests : Task → Bool
makes_nests ShowNest = true
makes_nests Compile = true
makes_nests _ = false

-- a task can be done for this program
pub record CanMake (task : Task) (tree : Tree) : Type 0 where
  pub built : makes_nests task ≡ true → ArePlain tree.statements
  pub accepted : IsOk (verdict_of tree.statements)

-- the text is what a task makes of this program: the report on it, its canonical text, its forms, its nests, or one that is good for it
abbrev pub IsTextFor : Task → Tree → List ℕ → Type 0
IsTextFor Check tree text = text ≡ report tree.statements
IsTextFor ShowSource tree text = text ≡ canonical tree
IsTextFor ShowDnf tree text = text ≡ dnf tree.statements
IsTextFor ShowOnf tree text = text ≡ onf tree.statements
IsTextFor ShowNest tree text = text ≡ nest tree.statements
IsTextFor Compile tree text = IsCompiled tree text

-- the text is what a task makes of a source
pub record IsMade (task : Task) (source text : List ℕ) : Type 0 where
  pub tree : Tree
  pub read : Reads source tree
  pub can : CanMake task tree
  pub made : IsTextFor task tree text

-- the text is what the run of an assembly text on an array file prints
pub record IsRunOf (assembly file text : List ℕ) : Type 0 where
  pub program : Parts
  pub spelled : Spells assembly program
  pub prints : ran program file ≡ Prints text

-- the text is what the words ask for of the files of a shelf, where it tells them
pub data IsDone (words : List (List ℕ)) (told : Option Files) (text : List ℕ) : Type 0 where
  of_source : {task : Task} {name : List ℕ} → IsCommand words task name → OnFile told name (λ source. IsMade task source text) → IsDone words told text
  of_run : {assembly arrays : List ℕ} → IsRun words assembly arrays → OnFile told assembly (λ program. OnFile told arrays (λ file. IsRunOf program file text)) → IsDone words told text

-- an expression is not built
abbrev pub IsUnbuilt : CompileError → Type 0
IsUnbuilt (error.NotBuilt at) = ⊤
IsUnbuilt _ = ⊥

-- why a task cannot be done for a source: an expression that is not built is a cause where nests are made, and there it is asked for before shapes
pub record IsCauseFor (task : Task) (source : List ℕ) (error : CompileError) : Type 0 where
  pub cause : IsCause source error
  pub unbuilt : IsUnbuilt error → makes_nests task ≡ true
  pub built : makes_nests task ≡ true → IsBuiltFirst source error
