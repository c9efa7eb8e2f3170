-- The jobs, the forms and the arrays of a plain program are those of its outputs.
use Rattle.std.specs.Prelude.{◌≡◌, ◌==◌, ℕ, suc, ◌+◌, Bool, true, false, List, [], ◌∷◌, ◌++◌, length, map, reverse, slice_get, if◌then◌else◌}
use Rattle.std.specs.List.{AllByRecursion, flat_map}
use Rattle.std.specs.declared.option.Option.{Option}
use Rattle.std.specs.declared.option.Option.TheVariants.{None, Some}
use Rattle.std.proofs.Common.{refl, ap, subst, ◌∙◌}
use Rattle.std.proofs.lemmas.Bool.{false≢true}
use Rattle.shapes_core.specs.Shape.{total}
use Rattle.moa_tree.specs.Denotation.{Store as Lists, env_after, scans_of}
use Rattle.moa_tree.specs.Expr.{Expr, Scan, Item, Input, Let, Output}
use Rattle.moa_tree.specs.Subexpressions.{if_scan, subexpressions_of}
use Rattle.shape_check.specs.Jobs.{TreeJob, jobs, jobs_from, jobs_of, output_count, output_jobs, scan_jobs}
use Rattle.normal_form.specs.Formers.{Former}
use Rattle.normal_form.specs.Forms.{Normal}
use Rattle.normal_form.specs.Moves.{variables}
use Rattle.psi_rules.specs.Areas.{given, given_from, task_given}
use Rattle.psi_rules.specs.Jobs.{Next, forms, forms_from, job_form, named, next_after, output_task, scanned, task_form, tasks_of}
use Rattle.nest_jobs.specs.Outputs.{Due, Scene, array_of, due_in, dues, dues_from, form_of, job_of, opening, scene_after, task_of}
use Rattle.nest_jobs.specs.Plain.{ArePlain, EachPlain, is_plain}
use Rattle.nest_jobs.proofs.ListLemmas.{each-cut, map-more, mapped-at}

-- ---- a plain program has no scan

no-tasks : (scan : ℕ) (exprs : List Expr) → EachPlain exprs → scanned scan exprs ≡ []
no-tasks scan [] h = refl
no-tasks scan (Scan fold of ∷ others) h = absurd (false≢true h.0)
no-tasks scan (other ∷ others) h = no-tasks scan others h.1

no-jobs : (area node : ℕ) (exprs : List Expr) → EachPlain exprs → scan_jobs area node exprs ≡ []
no-jobs area node [] h = refl
no-jobs area node (Scan fold of ∷ others) h = absurd (false≢true h.0)
no-jobs area node (other ∷ others) h = no-jobs area (suc node) others h.1

pub no-scans : (exprs : List Expr) → EachPlain exprs → flat_map if_scan exprs ≡ []
no-scans [] h = refl
no-scans (Scan fold of ∷ others) h = absurd (false≢true h.0)
no-scans (other ∷ others) h = no-scans others h.1

-- the expressions of a statement, and those behind it
pub plain-cut : (item : Item) (items : List Item) → ArePlain (item ∷ items) → EachPlain (subexpressions_of item) × ArePlain items
plain-cut item items h = each-cut (λ expr. is_plain expr ≡ true) (subexpressions_of item) (flat_map subexpressions_of items) h

pub plain-tasks : (next : Next) (item : Item) → EachPlain (subexpressions_of item) → tasks_of next item ≡ output_task next item
plain-tasks next item h = ap (λ l. reverse l ++ output_task next item) (no-tasks next.scan (subexpressions_of item) h)

pub plain-jobs : (output scan node : ℕ) (item : Item) → EachPlain (subexpressions_of item)
    → jobs_of output scan node item ≡ output_jobs output node item
plain-jobs output scan node item h = ap (λ l. reverse l ++ output_jobs output node item) (no-jobs scan node (subexpressions_of item) h)

-- ---- one statement

outputs-many : (area node : ℕ) (item : Item) → length (output_jobs area node item) ≡ output_count item
outputs-many area node (Input name extents) = refl
outputs-many area node (Let name of) = refl
outputs-many area node (Output name of) = refl

due-jobs : (scene : Scene) (item : Item) → output_jobs scene.next.output scene.node item ≡ map job_of (due_in scene item)
due-jobs scene (Input name extents) = refl
due-jobs scene (Let name of) = refl
due-jobs scene (Output name of) = refl

due-tasks : (scene : Scene) (item : Item) → output_task scene.next item ≡ map task_of (due_in scene item)
due-tasks scene (Input name extents) = refl
due-tasks scene (Let name of) = refl
due-tasks scene (Output name of) = refl

due-forms : (scene : Scene) (item : Item) → map (task_form scene.names) (output_task scene.next item) ≡ map form_of (due_in scene item)
due-forms scene (Input name extents) = refl
due-forms scene (Let name of) = refl
due-forms scene (Output name of) = refl

due-arrays : (scene : Scene) (item : Item) → map (task_given scene.env) (output_task scene.next item) ≡ map array_of (due_in scene item)
due-arrays scene (Input name extents) = refl
due-arrays scene (Let name of) = refl
due-arrays scene (Output name of) = refl

-- ---- all statements

module _ (inputs : Lists) where
  jobs-from : (items : List Item) (scene : Scene) → ArePlain items
      → jobs_from scene.next.output scene.next.scan scene.node items ≡ map job_of (dues_from inputs scene items)
  jobs-from [] scene h = refl
  jobs-from (item ∷ items) scene h =
      let parts = plain-cut item items h in
      let node = scene.node + length (subexpressions_of item) in
      let rest = λ (output : ℕ). jobs_from output (scene.next.scan + length (scans_of item)) node items in
      map-more job_of (due_in scene item) (dues_from inputs (scene_after inputs scene item) items)
      (jobs_of scene.next.output scene.next.scan scene.node item)
      (rest (scene.next.output + length (output_jobs scene.next.output scene.node item)))
      (plain-jobs scene.next.output scene.next.scan scene.node item parts.0 ∙ due-jobs scene item)
      (ap (λ n. rest (scene.next.output + n)) (outputs-many scene.next.output scene.node item)
      ∙ jobs-from items (scene_after inputs scene item) parts.1)

  forms-from : (items : List Item) (scene : Scene) → ArePlain items
      → forms_from scene.names scene.next items ≡ map form_of (dues_from inputs scene items)
  forms-from [] scene h = refl
  forms-from (item ∷ items) scene h =
      let parts = plain-cut item items h in
      map-more form_of (due_in scene item) (dues_from inputs (scene_after inputs scene item) items)
      (map (task_form scene.names) (tasks_of scene.next item))
      (forms_from (named scene.names scene.next item ∷ scene.names) (next_after scene.next item) items)
      (ap (λ l. map (task_form scene.names) l) (plain-tasks scene.next item parts.0) ∙ due-forms scene item)
      (forms-from items (scene_after inputs scene item) parts.1)

  arrays-from : (items : List Item) (scene : Scene) → ArePlain items
      → given_from inputs scene.env scene.next items ≡ map array_of (dues_from inputs scene items)
  arrays-from [] scene h = refl
  arrays-from (item ∷ items) scene h =
      let parts = plain-cut item items h in
      map-more array_of (due_in scene item) (dues_from inputs (scene_after inputs scene item) items)
      (map (task_given scene.env) (tasks_of scene.next item))
      (given_from inputs (env_after inputs scene.env item) (next_after scene.next item) items)
      (ap (λ l. map (task_given scene.env) l) (plain-tasks scene.next item parts.0) ∙ due-arrays scene item)
      (arrays-from items (scene_after inputs scene item) parts.1)

  pub jobs-due : (items : List Item) → ArePlain items → jobs items ≡ map job_of (dues inputs items)
  jobs-due items h = jobs-from items (opening items) h

  pub forms-due : (items : List Item) → ArePlain items → forms items ≡ map form_of (dues inputs items)
  forms-due items h = forms-from items (opening items) h

  pub arrays-due : (items : List Item) → ArePlain items → given inputs items ≡ map array_of (dues inputs items)
  arrays-due items h = arrays-from items (opening items) h

  -- the output whose job stands at a place
  pub job-due : (items : List Item) (number : ℕ) (tree_job : TreeJob) → ArePlain items → slice_get (jobs items) number ≡ Some tree_job
      → (due : Due) × (slice_get (dues inputs items) number ≡ Some due) × (job_of due ≡ tree_job)
  job-due items number tree_job h e =
      mapped-at job_of (dues inputs items) number tree_job (subst (λ l. slice_get l number ≡ Some tree_job) (jobs-due items h) e)

  -- and the one whose form does
  pub form-due : (items : List Item) (number : ℕ) (form : Option Normal) → ArePlain items → slice_get (forms items) number ≡ Some form
      → (due : Due) × (slice_get (dues inputs items) number ≡ Some due) × (form_of due ≡ form)
  form-due items number form h e =
      mapped-at form_of (dues inputs items) number form (subst (λ l. slice_get l number ≡ Some form) (forms-due items h) e)

  -- what holds of each output, where what is known before a statement goes on behind it
  pub each-due : (known : Scene → List Item → Type 0) (P : Due → Type 0)
      → ((scene : Scene) (item : Item) (items : List Item) → known scene (item ∷ items) → known (scene_after inputs scene item) items)
      → ((scene : Scene) (name : List ℕ) (of : Expr) (items : List Item) → known scene (Output name of ∷ items)
      → P (record { scene = scene; of = of }))
      → (items : List Item) (scene : Scene) → known scene items → AllByRecursion P (dues_from inputs scene items)
  each-due known P go gives [] scene h = tt
  each-due known P go gives (Input name extents ∷ items) scene h =
      each-due known P go gives items (scene_after inputs scene (Input name extents)) (go scene (Input name extents) items h)
  each-due known P go gives (Let name of ∷ items) scene h =
      each-due known P go gives items (scene_after inputs scene (Let name of)) (go scene (Let name of) items h)
  each-due known P go gives (Output name of ∷ items) scene h = (
    gives scene name of items h,
    each-due known P go gives items (scene_after inputs scene (Output name of)) (go scene (Output name of) items h),
  )

-- ---- the form of a job

-- what holds of a form, where there is one
abbrev pub FormHas : (Normal → Type 0) → Option Normal → Type 0
FormHas Q None = Unit {0}
FormHas Q (Some form) = Q form

chosen-has : (Q : Normal → Type 0) (test : Bool) (form : Normal) → Q form → FormHas Q (if test then None else Some form)
chosen-has Q true form h = tt
chosen-has Q false form h = h

pub job-has : (Q : Normal → Type 0) (shape : List ℕ) (former : Former) → Q (former (variables (length shape)) (length shape)).0
    → FormHas Q (job_form shape former)
job-has Q shape former h = chosen-has Q (total shape == 0) (former (variables (length shape)) (length shape)).0 h
