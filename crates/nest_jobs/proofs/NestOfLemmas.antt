-- The nests of a plain accepted program are those of its forms; and a program with an output has some size.
use Rattle.std.specs.Prelude.{◌≡◌, ℕ, ◌+◌, ◌*◌, ◌≤◌, true, List, [], ◌∷◌, map}
use Rattle.std.specs.List.{AllByRecursion, fold}
use Rattle.std.specs.declared.option.Option.{Option}
use Rattle.std.specs.declared.option.Option.TheVariants.{None, Some}
use Rattle.std.proofs.Common.{refl, ap, sym, subst, ◌∙◌, arith}
use Rattle.std.proofs.lemmas.Bool.{false≢true}
use Rattle.shapes_core.specs.declared.area.Area.{Area}
use Rattle.moa_tree.specs.Denotation.{Store as Lists}
use Rattle.moa_tree.specs.Expr.{Item, Input, Let, Output}
use Rattle.moa_tree.specs.Readings.{has_output}
use Rattle.moa_tree.specs.ShapeOf.{shape_of}
use Rattle.shape_check.specs.Costs.{Prices, job_size, job_work, prices_after, size, sum_over, work}
use Rattle.shape_check.specs.Jobs.{TreeJob}
use Rattle.shape_check.specs.Layout.{areas, shapes_after}
use Rattle.normal_form.specs.Forms.{Normal}
use Rattle.psi_rules.specs.Areas.{given}
use Rattle.psi_rules.specs.Jobs.{forms}
use Rattle.stride_form.specs.Operational.{operational}
use Rattle.nest_build.specs.Gives.{IsBuildable}
use Rattle.nest_build.specs.Nests.{nest_of}
use Rattle.nest_jobs.specs.BlockLaws.{BlockLaws}
use Rattle.nest_jobs.specs.Leads.{nest_at, nests}
use Rattle.nest_jobs.specs.Outputs.{Due, array_of, dues, form_of}
use Rattle.nest_jobs.specs.Plain.{ArePlain}
use Rattle.nest_jobs.specs.Sources.{AreNestsOf, IsNestOf}
use Rattle.nest_jobs.proofs.LeadLemmas.{AreBuildable, due-built, due_nest, nests-due}
use Rattle.nest_jobs.proofs.ListLemmas.{each-at, each-from}
use Rattle.nest_jobs.proofs.OutputLemmas.{arrays-due, forms-due, plain-cut}
use Rattle.nest_jobs.proofs.ShapeLemmas.{AreShapes, IsShaped, dues-shaped, shape_at}
use Rattle.nest_jobs.proofs.SizeLemmas.{one-cost}
use Rattle.nest_jobs.proofs.UnboundLemmas.{RuleLaw, straight-stays}

-- ---- nests

nest-of-form : RuleLaw → (areas : List Area) (own : ℕ) (here shape : List ℕ) (form : Option Normal) → here ≡ shape
    → ((made : Normal) → form ≡ Some made → IsBuildable areas own shape (map (λ n. (0, n)) shape) (operational made))
    → IsNestOf areas form shape (nest_at areas own here form)
nest-of-form rules areas own here shape None same built = refl
nest-of-form rules areas own here shape (Some form) same built =
    let region : List (ℕ × ℕ) = map (λ n. (0, n)) shape in
    let can = built form refl in (
      own,
      ap (λ s. nest_at areas own s (Some form)) same
          ∙ ap (nest_of areas own shape region) (straight-stays rules region form can.straight),
      can,
    )

abbrev IsDueNest : List Area → Due → Type 0
IsDueNest areas due = IsNestOf areas (form_of due) (array_of due).shape (due_nest areas due)

dues-nests : (areas : List Area) (list : List Due) → AllByRecursion (IsDueNest areas) list
    → AreNestsOf areas (map form_of list) (map array_of list) (map (due_nest areas) list)
dues-nests areas [] h = tt
dues-nests areas (due ∷ others) h = (h.0, dues-nests areas others h.1)

module _ (rules : RuleLaw) (block : BlockLaws) (inputs : Lists) (items : List Item) (plain : ArePlain items) where
  due-nests : AreShapes (fold shapes_after [] items) → AreBuildable inputs items
      → AllByRecursion (IsDueNest (areas items)) (dues inputs items)
  due-nests shapes built =
      let known = map (λ area. area.shape) (areas items) in
      each-from (IsDueNest (areas items)) (dues inputs items) (λ number due e.
      let shaped = each-at (IsShaped known) (dues inputs items) (dues-shaped block inputs items shapes) number due e in
      nest-of-form rules (areas items) due.scene.next.output (shape_at due) (array_of due).shape (form_of due)
      (sym (ap (λ s. shape_of s due.of) shaped.alike.0)) (due-built inputs items plain built number due e))

  pub nests-of-forms : AreShapes (fold shapes_after [] items) → AreBuildable inputs items
      → AreNestsOf (areas items) (forms items) (given inputs items) (nests items)
  nests-of-forms shapes built =
      let list = dues inputs items in
      subst (λ l. AreNestsOf (areas items) l (given inputs items) (nests items)) (sym (forms-due inputs items plain))
      (subst (λ l. AreNestsOf (areas items) (map form_of list) l (nests items)) (sym (arrays-due inputs items plain))
      (subst (AreNestsOf (areas items) (map form_of list) (map array_of list)) (sym (nests-due block inputs items plain))
      (dues-nests (areas items) list (due-nests shapes built))))

-- ---- sizes

one-product : (a b : ℕ) → 1 ≤ (1 + a) * (1 + b)
one-product a b = grind arith

-- where each job costs so much, a program with an output does
module _ (cost : Prices → TreeJob → ℕ) (least : ℕ) (each : (prices : Prices) (tree_job : TreeJob) → least ≤ cost prices tree_job) where
  cost-from : (items : List Item) (prices : Prices) → ArePlain items → has_output items ≡ true → least ≤ sum_over cost prices items
  cost-from [] prices plain e = absurd (false≢true e)
  cost-from (Input name extents ∷ items) prices plain e =
      let rest = cost-from items (prices_after prices (Input name extents)) (plain-cut (Input name extents) items plain).1 e in
      omega (arith, rest)
  cost-from (Let name of ∷ items) prices plain e =
      let parts = plain-cut (Let name of) items plain in
      let rest = cost-from items (prices_after prices (Let name of)) parts.1 e in
      omega (arith, rest)
  cost-from (Output name of ∷ items) prices plain e =
      let parts = plain-cut (Output name of) items plain in
      let here = one-cost cost prices name of parts.0 in
      let some = each prices (record { job = record { area = 0; node = 0; fold = None }; of = of }) in
      omega (arith, here, some)

pub some-size : (items : List Item) → ArePlain items → has_output items ≡ true → 2 ≤ size items
some-size items plain e = cost-from job_size 2 (λ prices tree_job. omega arith) items [] plain e

pub some-work : (items : List Item) → ArePlain items → has_output items ≡ true → 1 ≤ work items
some-work items plain e = cost-from job_work 1 (λ prices tree_job. one-product _ _) items [] plain e
