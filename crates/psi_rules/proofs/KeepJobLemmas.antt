-- The forms of an accepted program's jobs keep it: from one statement to the next.
use Rattle.std.specs.Prelude.{◌≡◌, ◌≢◌, ℕ, zero, suc, ◌+◌, ◌<◌, ◌≤◌, List, [], ◌∷◌, ◌++◌, length, map, reverse, slice_get}
use Rattle.std.specs.List.{AllByRecursion, AllZip, fold, sum_by}
use Rattle.std.specs.declared.option.Option.{Option}
use Rattle.std.specs.declared.option.Option.TheVariants.{Some}
use Rattle.std.proofs.Common.{refl, ap, sym, subst, arith, le_refl}
use Rattle.std.proofs.lemmas.List.{reverse-reverse}
use Rattle.std.proofs.lemmas.List.Sums.{sum_by-cons}
use Rattle.std.proofs.lemmas.Option.{none-some}
use Rattle.shapes_core.specs.Limits.{greatest_size}
use Rattle.shapes_core.specs.Shape.{IsShape}
use Rattle.moa_tree.specs.Axes.{naturals}
use Rattle.moa_tree.specs.Canonical.{IsBuiltItem, IsWritable}
use Rattle.moa_tree.specs.declared.tree.Version.{Version}
use Rattle.moa_tree.specs.Denotation.{Store as Lists, env_after, scans_of}
use Rattle.moa_tree.specs.Expr.{Expr, Item, Input, Let, Output}
use Rattle.moa_tree.specs.Readings.{deepest}
use Rattle.moa_tree.specs.ShapeOf.{Shapes, shape_of}
use Rattle.moa_tree.specs.Subexpressions.{subexpressions, subexpressions_of}
use Rattle.moa_tree.specs.Values.{Env, shapes_of as env_shapes}
use Rattle.shape_check.specs.Costs.{Prices, job_size, nodes, prices_after, sum_over}
use Rattle.shape_check.specs.Jobs.{TreeJob, input_count, jobs_from, jobs_of, output_count, output_jobs, scan_jobs}
use Rattle.shape_check.specs.Layout.{shapes_after}
use Rattle.normal_form.specs.Forms.{Normal}
use Rattle.normal_form.specs.Keeps.{Keeps}
use Rattle.normal_form.specs.Constants.{greatest_constant}
use Rattle.normal_form.specs.Kept.{IsKept, job_variables}
use Rattle.psi_rules.specs.Areas.{Given, given_from, task_given}
use Rattle.psi_rules.specs.Jobs.{Next, Task, forms_from, named, next_after, scanned, task_form, tasks_of}
use Rattle.psi_rules.specs.Keeping.{AreKeptForms, AreKeptNamed, IsKeptForm, IsKeptOn, KeepExpressions}
use Rattle.psi_rules.specs.Operands.{OperandsMove}
use Rattle.psi_rules.specs.Rules.{Names, form, loading, shape_in, shapes_of}
use Rattle.psi_rules.proofs.JobLemmas.{AreAccepted, IsAcceptedItem}
use Rattle.psi_rules.proofs.KeepFormLemmas.{room-fits}
use Rattle.psi_rules.proofs.KeepTaskLemmas.{AreFree, IsCheap, IsTaskOf, NoneEmpty, all-good, cheap-room, job-is-kept, jobs-cheap, scans-kept}
use Rattle.psi_rules.proofs.ListLemmas.{each-cut, each-follows, each-reverse, zip-append, zip-reverse}
use Rattle.psi_rules.proofs.ScopeLemmas.{names-shapes, shapes-alike}

-- ---- areas

-- an area is none of those from the first ones to the next
pub record IsFree (start next : Next) (own : ℕ) : Type 0 where
  pub input : (area : ℕ) → area < next.input → area ≢ own
  pub output : (area : ℕ) → start.output ≤ area → area < next.output → area ≢ own
  pub scan : (area : ℕ) → start.scan ≤ area → area < next.scan → area ≢ own

-- the next areas come behind those that were first, with those of these statements still to come
pub record IsReached (start next : Next) (items : List Item) : Type 0 where
  pub inputs : next.input + sum_by input_count items ≡ start.output
  pub outputs : next.output + sum_by output_count items ≡ start.scan
  pub output_begun : start.output ≤ next.output
  pub scan_begun : start.scan ≤ next.scan

free-before : (start next : Next) (item : Item) (own : ℕ) → IsFree start (next_after next item) own → IsFree start next own
free-before start next item own h = record {
  input = λ area below. h.input area (omega (arith, below));
  output = λ area begun below. h.output area begun (omega (arith, below));
  scan = λ area begun below. h.scan area begun (omega (arith, below));
}

reached-after : (start next : Next) (item : Item) (items : List Item) → IsReached start next (item ∷ items)
    → IsReached start (next_after next item) items
reached-after start next item items h = record {
  inputs = omega (arith, h.inputs, sum_by-cons input_count item items);
  outputs = omega (arith, h.outputs, sum_by-cons output_count item items);
  output_begun = omega (arith, h.output_begun);
  scan_begun = omega (arith, h.scan_begun);
}

free-scan : (start next : Next) (items : List Item) (k : ℕ) → IsReached start next items → IsFree start next (next.scan + k)
free-scan start next items k h = record {
  input = λ area below e. omega (arith, below, e, h.inputs, h.outputs, h.output_begun, h.scan_begun);
  output = λ area begun below e. omega (arith, below, e, h.outputs, h.scan_begun);
  scan = λ area begun below e. omega (arith, below, e);
}

free-output : (start next : Next) (name : List ℕ) (of : Expr) (items : List Item) → IsReached start next (Output name of ∷ items)
    → IsFree start next next.output
free-output start next name of items h = record {
  input = λ area below e. omega (arith, below, e, h.inputs, h.output_begun);
  output = λ area begun below e. omega (arith, below, e);
  scan = λ area begun below e. omega (arith, begun, e, h.outputs, sum_by-cons output_count (Output name of) items);
}

-- ---- shapes

abbrev pub AreShapes : Shapes → Type 0
AreShapes shapes = AllByRecursion (λ entry. IsShape entry.1) shapes

shapes-before : (items : List Item) (shapes : Shapes) → AreShapes (fold shapes_after shapes items) → AreShapes shapes
shapes-before [] shapes h = h
shapes-before (item ∷ items) shapes h = (shapes-before items (shapes_after shapes item) h).1

-- ---- lists of jobs

kept-append : (jobs more : List TreeJob) (arrays others : List Given) (forms rest : List (Option Normal))
    → AreKeptForms jobs arrays forms → AreKeptForms more others rest → AreKeptForms (jobs ++ more) (arrays ++ others) (forms ++ rest)
kept-append [] more [] others [] rest h k = k
kept-append [] more [] others (f ∷ forms) rest h k = absurd h
kept-append [] more (g ∷ arrays) others [] rest h k = absurd h
kept-append [] more (g ∷ arrays) others (f ∷ forms) rest h k = absurd h
kept-append (j ∷ jobs) more [] others [] rest h k = absurd h
kept-append (j ∷ jobs) more [] others (f ∷ forms) rest h k = absurd h
kept-append (j ∷ jobs) more (g ∷ arrays) others [] rest h k = absurd h
kept-append (j ∷ jobs) more (g ∷ arrays) others (f ∷ forms) rest h k = (h.0, kept-append jobs more arrays others forms rest h.1 k)

pub outputs-many : (area node : ℕ) (item : Item) → length (output_jobs area node item) ≡ output_count item
outputs-many area node (Input name extents) = refl
outputs-many area node (Let name of) = refl
outputs-many area node (Output name of) = refl

-- ---- one statement

-- an array that another job stores
abbrev pub Stores : Type 0
Stores = (own room area : ℕ) (shape : List ℕ) → room ≤ greatest_constant → area ≢ own → IsShape shape
    → Keeps own room (loading area shape) shape

module _ (stores : Stores) (keep : (names : Names) (prices : Prices) → KeepExpressions names prices)
    (operand : (shapes : Shapes) → OperandsMove shapes) (full : NoneEmpty) (start : Next) where
  -- the names keep it for each area that is none of those before the next
  abbrev pub KeepAll : Next → Names → Prices → Type 0
  KeepAll next names prices = (own : ℕ) → IsFree start next own → AreKeptNamed own names prices

  names-kept : (names : Names) (prices : Prices) (next : Next) (item : Item) (items : List Item) → IsReached start next (item ∷ items)
      → KeepAll next names prices → IsAcceptedItem (shapes_of names) item → IsBuiltItem item
      → AreShapes (shapes_after (shapes_of names) item)
      → KeepAll (next_after next item) (named names next item ∷ names) (prices_after prices item)
  names-kept names prices next (Input name extents) items reached agree accepted built well own free = (
    (refl, λ room cost. stores own room next.input (naturals extents) (room-fits room 1 cost) (free.input next.input (omega arith)) well.0),
    agree own (free-before start next (Input name extents) own free),
  )
  names-kept names prices next (Let name of) items reached agree accepted built well own free =
      let before = agree own (free-before start next (Let name of) own free) in (
        (
          refl,
          λ room cost. keep names prices own room next.scan deepest of before built
              (λ k below. free.scan (next.scan + k) (omega (arith, reached.scan_begun)) (omega (arith, below))) accepted cost,
        ),
        before,
      )
  names-kept names prices next (Output name of) items reached agree accepted built well own free = (
    (
      refl,
      λ room cost. stores own room next.output (shape_in names of) (room-fits room 1 cost)
          (free.output next.output reached.output_begun (omega arith)) well.0,
    ),
    agree own (free-before start next (Output name of) own free),
  )

  scans-done : (names : Names) (prices : Prices) (next : Next) (node : ℕ) (of : Expr) → OperandsMove (shapes_of names)
      → IsAcceptedItem (shapes_of names) (Let [] of) → IsBuiltItem (Let [] of)
      → AreFree names prices next.scan (length (scans_of (Let [] of)))
      → AllByRecursion (IsCheap prices) (reverse (scan_jobs 0 0 (subexpressions of)))
      → AllZip (IsTaskOf names) (reverse (scan_jobs next.scan node (subexpressions of))) (reverse (scanned next.scan (subexpressions of)))
  scans-done names prices next node of moves accepted built free cheap =
      zip-reverse (IsTaskOf names) (scan_jobs next.scan node (subexpressions of)) (scanned next.scan (subexpressions of))
      (scans-kept names moves prices (keep names prices) next.scan node 0 0 (subexpressions of)
      (all-good names moves deepest of built accepted) free
      (subst (AllByRecursion (IsCheap prices)) (reverse-reverse (scan_jobs 0 0 (subexpressions of)))
      (each-reverse (IsCheap prices) (reverse (scan_jobs 0 0 (subexpressions of))) cheap)))

  tasks-done : (names : Names) (prices : Prices) (next : Next) (node : ℕ) (item : Item) (items : List Item)
      → IsReached start next (item ∷ items)
      → KeepAll next names prices → IsAcceptedItem (shapes_of names) item → IsBuiltItem item
      → AllByRecursion (IsCheap prices) (jobs_of 0 0 0 item)
      → AllZip (IsTaskOf names) (jobs_of next.output next.scan node item) (tasks_of next item)
  tasks-done names prices next node (Input name extents) items reached agree accepted built cheap = tt
  tasks-done names prices next node (Let name of) items reached agree accepted built cheap =
      let free = λ (k : ℕ) (below : k < length (scans_of (Let [] of))). agree (next.scan + k)
      (free-scan start next (Let name of ∷ items) k reached) in
      let parts = each-cut (IsCheap prices) (reverse (scan_jobs 0 0 (subexpressions of))) [] cheap in
      zip-append (IsTaskOf names) (reverse (scan_jobs next.scan node (subexpressions of))) []
      (reverse (scanned next.scan (subexpressions of))) []
      (scans-done names prices next node of (operand (shapes_of names)) accepted built free parts.0) tt
  tasks-done names prices next node (Output name of) items reached agree accepted built cheap =
      let free = λ (k : ℕ) (below : k < length (scans_of (Let [] of))). agree (next.scan + k)
      (free-scan start next (Output name of ∷ items) k reached) in
      let parts = each-cut (IsCheap prices) (reverse (scan_jobs 0 0 (subexpressions of))) (output_jobs 0 0 (Output name of)) cheap in
      let least : next.output < start.scan = omega (arith, reached.outputs, sum_by-cons output_count (Output name of) items) in
      zip-append (IsTaskOf names) (reverse (scan_jobs next.scan node (subexpressions of))) (output_jobs next.output node (Output name of))
      (reverse (scanned next.scan (subexpressions of))) ((of, next.scan) ∷ [])
      (scans-done names prices next node of (operand (shapes_of names)) accepted built free parts.0) (
        keep names prices next.output 0 next.scan deepest of (agree next.output (free-output start next name of items reached)) built
            (λ k below e. omega (arith, e, least, reached.scan_begun)) accepted (cheap-room (nodes prices of) parts.1.0),
        tt,
      )

  forms-done : (names : Names) (env : Env) → env_shapes env ≡ shapes_of names → (jobs : List TreeJob) (tasks : List Task)
      → AllZip (IsTaskOf names) jobs tasks → AreKeptForms jobs (map (task_given env) tasks) (map (task_form names) tasks)
  forms-done names env same [] [] h = tt
  forms-done names env same [] (task ∷ tasks) h = absurd h
  forms-done names env same (j ∷ jobs) [] h = absurd h
  forms-done names env same (j ∷ jobs) (task ∷ tasks) h = (
    job-is-kept full j (task_given env task) (form names task.1 task.0) (shape_in names task.0)
        (ap (λ shapes. shape_of shapes task.0) same) h.0,
    forms-done names env same jobs tasks h.1,
  )

  -- ---- all statements

  pub program-kept : (inputs : Lists) (items : List Item) (names : Names) (env : Env) (prices : Prices) (next : Next) (node : ℕ)
      → env_shapes env ≡ shapes_of names → IsReached start next items → KeepAll next names prices → AreAccepted inputs env items
      → AllByRecursion IsBuiltItem items → AreShapes (fold shapes_after (shapes_of names) items) → sum_over job_size prices items ≤ greatest_size
      → AreKeptForms (jobs_from next.output next.scan node items) (given_from inputs env next items) (forms_from names next items)
  program-kept inputs [] names env prices next node same reached agree accepted built well cost = tt
  program-kept inputs (item ∷ items) names env prices next node same reached agree accepted built well cost =
      let later = env_after inputs env item in
      let more = named names next item ∷ names in
      let known = subst (λ shapes. IsAcceptedItem shapes item) same accepted.0 in
      let cheap = jobs-cheap prices (jobs_of 0 0 0 item) (omega (arith, cost)) in
      let tasks = tasks_of next item in
      let rest = program-kept inputs items more later (prices_after prices item) (next_after next item)
      (node + length (subexpressions_of item))
      (shapes-alike inputs env names next item same)
      (reached-after start next item items reached)
      (names-kept names prices next item items reached agree known built.0 (shapes-before items (shapes_after (shapes_of names) item) well))
      accepted.1 built.1 (subst (λ shapes. AreShapes (fold shapes_after shapes items)) (sym (names-shapes names next item)) well)
      (omega (arith, cost)) in
      let many : next.output + output_count item ≡ next.output + length (output_jobs next.output node item) =
      ap (λ n. next.output + n) (sym (outputs-many next.output node item)) in
      kept-append (jobs_of next.output next.scan node item)
      (jobs_from (next.output + length (output_jobs next.output node item)) (next.scan + length (scans_of item))
      (node + length (subexpressions_of item)) items)
      (map (task_given env) tasks) (given_from inputs later (next_after next item) items)
      (map (task_form names) tasks) (forms_from more (next_after next item) items)
      (forms-done names env same (jobs_of next.output next.scan node item) tasks
      (tasks-done names prices next node item items reached agree known built.0 cheap))
      (subst (λ output. AreKeptForms (jobs_from output (next.scan + length (scans_of item)) (node + length (subexpressions_of item)) items)
      (given_from inputs later (next_after next item) items) (forms_from more (next_after next item) items)) many rest)

pub reached-first : (items : List Item) (start : Next) → start.input ≡ 0 → start.output ≡ sum_by input_count items
    → start.scan ≡ sum_by input_count items + sum_by output_count items → IsReached start start items
reached-first items start ins outs scans = record {
  inputs = omega (arith, ins, outs);
  outputs = omega (arith, outs, scans);
  output_begun = le_refl start.output;
  scan_begun = le_refl start.scan;
}

-- ---- the form of one job

pub kept-at : (jobs : List TreeJob) (arrays : List Given) (forms : List (Option Normal)) (number : ℕ) (tree_job : TreeJob) (array : Given)
    (form : Normal)
    → AreKeptForms jobs arrays forms → slice_get jobs number ≡ Some tree_job → slice_get arrays number ≡ Some array
    → slice_get forms number ≡ Some (Some form) → IsKeptOn tree_job.job.area array.shape form
kept-at [] arrays forms number tree_job array form h job at made = absurd (none-some tree_job job)
kept-at (j ∷ jobs) [] forms number tree_job array form h job at made = absurd (none-some array at)
kept-at (j ∷ jobs) (g ∷ arrays) [] number tree_job array form h job at made = absurd (none-some (Some form) made)
kept-at (j ∷ jobs) (g ∷ arrays) (f ∷ forms) zero tree_job array form h job at made =
    let same : f ≡ Some form = cc in
    let given : g ≡ array = cc in
    let first : j ≡ tree_job = cc in
    subst (λ x. IsKeptForm x array (Some form)) first
    (subst (λ x. IsKeptForm j x (Some form)) given (subst (λ x. IsKeptForm j g x) same h.0))
kept-at (j ∷ jobs) (g ∷ arrays) (f ∷ forms) (suc number) tree_job array form h job at made =
    kept-at jobs arrays forms number tree_job array form h.1 job at made

-- ---- programs

pub writable-built : (version : Version) (items : List Item) → AllByRecursion (IsWritable version) items → AllByRecursion IsBuiltItem items
writable-built version items h = each-follows (IsWritable version) IsBuiltItem (λ item writable. writable.built) items h
