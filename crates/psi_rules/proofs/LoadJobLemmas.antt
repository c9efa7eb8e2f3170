-- The forms of a program's jobs load from the areas of its block: from one statement to the next.
use Rattle.std.specs.Prelude.{◌≡◌, ◌==◌, ℕ, ◌+◌, Bool, true, false, List, [], ◌∷◌, length, map, reverse, slice_get, if◌then◌else◌}
use Rattle.std.specs.List.{AllByRecursion}
use Rattle.std.specs.declared.option.Option.{Option}
use Rattle.std.specs.declared.option.Option.TheVariants.{None, Some}
use Rattle.std.proofs.Common.{sym, subst}
use Rattle.shapes_core.specs.Shape.{total}
use Rattle.moa_tree.specs.Denotation.{scans_of}
use Rattle.moa_tree.specs.Expr.{Item, Input, Let, Output}
use Rattle.moa_tree.specs.Subexpressions.{subexpressions}
use Rattle.shape_check.specs.Jobs.{input_count, output_count}
use Rattle.shape_check.specs.Layout.{areas, gathered, scan_shapes, shapes_after}
use Rattle.normal_form.specs.Formers.{Former}
use Rattle.normal_form.specs.Forms.{Normal}
use Rattle.normal_form.specs.Moves.{variables}
use Rattle.psi_rules.specs.Blocks.{AreAt, input_shapes, output_shapes}
use Rattle.psi_rules.specs.Jobs.{Next, Task, first, forms, forms_from, named, next_after, scanned, task_form, tasks_of}
use Rattle.psi_rules.specs.Loads.{LoadsFrom}
use Rattle.psi_rules.specs.Rules.{Names, form, shape_in, shapes_of}
use Rattle.psi_rules.proofs.BlockLemmas.{Adds, AddsSoMany, inputs-many, outputs-many, scans-many, shapes-stand}
use Rattle.psi_rules.proofs.ListLemmas.{at-both, each-append, each-at, each-mapped, each-reverse}
use Rattle.psi_rules.proofs.LoadFormLemmas.{AllLoad, AreStored, Loads, TaskLoads, loads}
use Rattle.psi_rules.proofs.ScopeLemmas.{names-shapes}

-- ---- one statement

module _ (known : List (List ℕ)) where
  -- a job's form, where there is one, loads from areas of these shapes
  abbrev pub FormLoads : Option Normal → Type 0
  FormLoads None = Unit {0}
  FormLoads (Some form) = LoadsFrom known form

  chosen-loads : (test : Bool) (shape : List ℕ) (former : Former) → Loads known former
      → FormLoads (if test then None else Some (former (variables (length shape)) (length shape)).0)
  chosen-loads true shape former h = tt
  chosen-loads false shape former h = h (variables (length shape)) (length shape)

  task-loads : (names : Names) (task : Task) → TaskLoads known names task → FormLoads (task_form names task)
  task-loads names task h =
      let shape = shape_in names task.0 in
      chosen-loads (total shape == 0) shape (form names task.1 task.0) h

  names-load : (names : Names) (next : Next) (item : Item) → AllLoad known names
      → AreAt known next.input (input_shapes (shapes_of names) item) → AreAt known next.output (output_shapes (shapes_of names) item)
      → AreStored known names next.scan (scans_of item) → AllLoad known (named names next item ∷ names)
  names-load names next (Input name extents) agree ins outs scans = ((λ entries var. ins.0), agree)
  names-load names next (Let name of) agree ins outs scans = ((loads known names agree next.scan of scans).0, agree)
  names-load names next (Output name of) agree ins outs scans = ((λ entries var. outs.0), agree)

  tasks-load : (names : Names) (next : Next) (item : Item) → AllLoad known names → AreStored known names next.scan (scans_of item)
      → AllByRecursion (TaskLoads known names) (tasks_of next item)
  tasks-load names next (Input name extents) agree scans = tt
  tasks-load names next (Let name of) agree scans =
      let found = scanned next.scan (subexpressions of) in
      each-append (TaskLoads known names) (reverse found) []
      (each-reverse (TaskLoads known names) found (loads known names agree next.scan of scans).1) tt
  tasks-load names next (Output name of) agree scans =
      let found = scanned next.scan (subexpressions of) in
      let both = loads known names agree next.scan of scans in
      each-append (TaskLoads known names) (reverse found) ((of, next.scan) ∷ [])
      (each-reverse (TaskLoads known names) found both.1) (both.0, tt)

  -- ---- all statements

  gathered-both : (f : Adds) (count : Item → ℕ) → AddsSoMany f count → (start : ℕ) (names : Names) (next : Next) (item : Item) (items : List Item)
      → AreAt known start (gathered f (shapes_of names) (item ∷ items))
      → AreAt known start (f (shapes_of names) item)
      × AreAt known (start + count item) (gathered f (shapes_of (named names next item ∷ names)) items)
  gathered-both f count many start names next item items h =
      let shapes = shapes_of names in
      let parts = at-both known start (f shapes item) (gathered f (shapes_after shapes item) items) h in
      let rest = subst (λ n. AreAt known (start + n) (gathered f (shapes_after shapes item) items)) (many shapes item) parts.1 in
      (parts.0, subst (λ later. AreAt known (start + count item) (gathered f later items)) (sym (names-shapes names next item)) rest)

  all-load : (items : List Item) (names : Names) (next : Next) → AllLoad known names
      → AreAt known next.input (gathered input_shapes (shapes_of names) items)
      → AreAt known next.output (gathered output_shapes (shapes_of names) items)
      → AreAt known next.scan (gathered scan_shapes (shapes_of names) items)
      → AllByRecursion FormLoads (forms_from names next items)
  all-load [] names next agree ins outs scans = tt
  all-load (item ∷ items) names next agree ins outs scans =
      let more = named names next item ∷ names in
      let in-parts = gathered-both input_shapes input_count inputs-many next.input names next item items ins in
      let out-parts = gathered-both output_shapes output_count outputs-many next.output names next item items outs in
      let scan-parts = gathered-both scan_shapes (λ i. length (scans_of i)) scans-many next.scan names next item items scans in
      let tasks = tasks_of next item in
      each-append FormLoads (map (task_form names) tasks) (forms_from more (next_after next item) items)
      (each-mapped (TaskLoads known names) FormLoads (task_form names) (task-loads names) tasks (tasks-load names next item agree scan-parts.0))
      (all-load items more (next_after next item) (names-load names next item agree in-parts.0 out-parts.0 scan-parts.0)
      in-parts.1 out-parts.1 scan-parts.1)

-- ---- programs

pub program-loads : (items : List Item) (number : ℕ) (made : Normal) → slice_get (forms items) number ≡ Some (Some made)
    → LoadsFrom (map (λ area. area.shape) (areas items)) made
program-loads items number made e =
    let known = map (λ area. area.shape) (areas items) in
    let stand = shapes-stand items in
    each-at (FormLoads known) (forms items) (all-load known items [] (first items) tt stand.0 stand.1 stand.2) number (Some made) e
