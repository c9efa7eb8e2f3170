-- The job of a scan folds by an operator that folds, along an axis.
use Rattle.std.specs.Prelude.{◌≡◌, ℕ, zero, suc, ◌+◌, ◌<◌, List, [], ◌∷◌, length, map, reverse}
use Rattle.std.specs.List.{AllByRecursion, AllZip}
use Rattle.std.specs.declared.option.Option.TheVariants.{Some}
use Rattle.std.proofs.Common.{sym, subst, ap}
use Rattle.moa_tree.specs.Canonical.{IsBuilt, IsBuiltItem}
use Rattle.moa_tree.specs.declared.operator.Op.{Op}
use Rattle.moa_tree.specs.Denotation.{Store as Lists, env_after, scans_of}
use Rattle.moa_tree.specs.Expr.{Expr, Scan, Item, Input, Let, Output}
use Rattle.moa_tree.specs.Readings.{deepest}
use Rattle.moa_tree.specs.ShapeOf.{shape_of}
use Rattle.moa_tree.specs.Subexpressions.{subexpressions, subexpressions_of}
use Rattle.moa_tree.specs.Values.{Env, shapes_of as env_shapes}
use Rattle.shape_check.specs.Jobs.{TreeJob, jobs_from, jobs_of, output_jobs, scan_jobs}
use Rattle.normal_form.specs.Kept.{IsFoldJob}
use Rattle.psi_rules.specs.Areas.{Given, given_from, task_given}
use Rattle.psi_rules.specs.Jobs.{Next, Task, named, next_after, scanned, tasks_of}
use Rattle.psi_rules.specs.Operands.{IsAccepted, OperandsMove}
use Rattle.psi_rules.specs.Rules.{Names, shape_in, shapes_of}
use Rattle.psi_rules.proofs.JobLemmas.{AreAccepted, IsAcceptedItem}
use Rattle.psi_rules.proofs.KeepFormLemmas.{fold-has}
use Rattle.psi_rules.proofs.KeepJobLemmas.{outputs-many}
use Rattle.psi_rules.proofs.KeepTaskLemmas.{AreGood, all-good}
use Rattle.psi_rules.proofs.ListLemmas.{zip-append, zip-map, zip-reverse}
use Rattle.psi_rules.proofs.ScopeLemmas.{shapes-alike}

-- a job that folds does so over an array of this shape
abbrev pub FoldsOver : TreeJob → Given → Type 0
FoldsOver tree_job array = IsFoldJob tree_job.job.fold array.shape

-- an accepted scan is along an axis
abbrev pub ScansAlong : Type 0
ScansAlong = (names : Names) (fold : Op) (of : Expr) → IsAccepted (shapes_of names) (Scan fold of) → 0 < length (shape_in names of)

module _ (along : ScansAlong) (operand : (names : Names) → OperandsMove (shapes_of names)) where
  -- a task of a job
  abbrev pub Folds : Names → TreeJob → Task → Type 0
  Folds names tree_job task = IsFoldJob tree_job.job.fold (shape_in names task.0)

  folds-built : (levels : ℕ) (fold : Op) (names : Names) (of : Expr) → IsBuilt levels (Scan fold of) → IsAccepted (shapes_of names) (Scan fold of)
      → IsFoldJob (Some fold) (shape_in names of)
  folds-built zero fold names of built h = absurd built
  folds-built (suc levels) fold names of built h = (fold-has fold built.0, along names fold of h)

  scans-fold : (names : Names) (scan node : ℕ) (exprs : List Expr) → AreGood names (operand names) exprs
      → AllZip (Folds names) (scan_jobs scan node exprs) (scanned scan exprs)
  scans-fold names scan node [] good = tt
  scans-fold names scan node (Scan fold of ∷ others) good = (
    folds-built good.0.1 fold names of good.0.2 good.0.0,
    scans-fold names (suc scan) (suc node) others good.1,
  )
  scans-fold names scan node (other ∷ others) good = scans-fold names scan (suc node) others good.1

  tasks-fold : (names : Names) (next : Next) (node : ℕ) (item : Item) → IsAcceptedItem (shapes_of names) item → IsBuiltItem item
      → AllZip (Folds names) (jobs_of next.output next.scan node item) (tasks_of next item)
  tasks-fold names next node (Input name extents) accepted built = tt
  tasks-fold names next node (Let name of) accepted built =
      zip-append (Folds names) (reverse (scan_jobs next.scan node (subexpressions of))) [] (reverse (scanned next.scan (subexpressions of))) []
      (zip-reverse (Folds names) (scan_jobs next.scan node (subexpressions of)) (scanned next.scan (subexpressions of))
      (scans-fold names next.scan node (subexpressions of) (all-good names (operand names) deepest of built accepted))) tt
  tasks-fold names next node (Output name of) accepted built =
      zip-append (Folds names) (reverse (scan_jobs next.scan node (subexpressions of))) (output_jobs next.output node (Output name of))
      (reverse (scanned next.scan (subexpressions of))) ((of, next.scan) ∷ [])
      (zip-reverse (Folds names) (scan_jobs next.scan node (subexpressions of)) (scanned next.scan (subexpressions of))
      (scans-fold names next.scan node (subexpressions of) (all-good names (operand names) deepest of built accepted))) (tt, tt)

  given-fold : (names : Names) (env : Env) → env_shapes env ≡ shapes_of names → (jobs : List TreeJob) (tasks : List Task)
      → AllZip (Folds names) jobs tasks → AllZip FoldsOver jobs (map (task_given env) tasks)
  given-fold names env same jobs tasks h =
      zip-map FoldsOver (task_given env) jobs tasks
      (subst (λ shapes. AllZip (λ job task. IsFoldJob job.job.fold (shape_of shapes task.0)) jobs tasks) (sym same) h)

  -- the jobs of these statements, whose areas and nodes are numbered from anywhere on
  pub program-folds : (inputs : Lists) (items : List Item) (names : Names) (env : Env) (next : Next) (node : ℕ)
      → env_shapes env ≡ shapes_of names → AreAccepted inputs env items → AllByRecursion IsBuiltItem items
      → AllZip FoldsOver (jobs_from next.output next.scan node items) (given_from inputs env next items)
  program-folds inputs [] names env next node same accepted built = tt
  program-folds inputs (item ∷ items) names env next node same accepted built =
      let known = subst (λ shapes. IsAcceptedItem shapes item) same accepted.0 in
      let later = env_after inputs env item in
      let rest = program-folds inputs items (named names next item ∷ names) later (next_after next item)
      (node + length (subexpressions_of item))
      (shapes-alike inputs env names next item same) accepted.1 built.1 in
      zip-append FoldsOver (jobs_of next.output next.scan node item)
      (jobs_from (next.output + length (output_jobs next.output node item)) (next.scan + length (scans_of item))
      (node + length (subexpressions_of item)) items)
      (map (task_given env) (tasks_of next item)) (given_from inputs later (next_after next item) items)
      (given-fold names env same (jobs_of next.output next.scan node item) (tasks_of next item) (tasks-fold names next node item known built.0))
      (subst (λ output. AllZip FoldsOver (jobs_from output (next.scan + length (scans_of item)) (node + length (subexpressions_of item)) items)
      (given_from inputs later (next_after next item) items)) (ap (λ n. next.output + n) (sym (outputs-many next.output node item))) rest)
