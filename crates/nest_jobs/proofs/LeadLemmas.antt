-- The nests of a plain program, one after another, leave in each area its list.
use Rattle.std.specs.Prelude.{◌≡◌, ℕ, suc, ◌+◌, ℤ, pos, List, [], ◌∷◌, length, map, slice_get, slice_index_or}
use Rattle.std.specs.List.{AllByRecursion, fold, sum_by}
use Rattle.std.specs.declared.option.Option.{Option}
use Rattle.std.specs.declared.option.Option.TheVariants.{None, Some}
use Rattle.std.proofs.Common.{refl, ap, sym, subst, ◌∙◌, arith}
use Rattle.std.proofs.lemmas.Option.{get_or_from_slice_get, slice_get_within}
use Rattle.shapes_core.specs.declared.area.Area.{Area}
use Rattle.shapes_core.specs.Gamma.{IsIndex, gamma}
use Rattle.shapes_core.specs.Shape.{total}
use Rattle.moa_tree.specs.Denotation.{Store as Lists, output_list, values}
use Rattle.moa_tree.specs.Expr.{Expr, Item}
use Rattle.moa_tree.specs.ShapeOf.{shape_of}
use Rattle.moa_tree.specs.Values.{Env, element, shape_in as env_shape, value}
use Rattle.shape_check.specs.Jobs.{TreeJob, input_count, jobs}
use Rattle.shape_check.specs.Layout.{areas, shapes_after, words}
use Rattle.normal_form.specs.Assignments.{Assignment, assigned}
use Rattle.normal_form.specs.Forms.{Normal}
use Rattle.normal_form.specs.Meaning.{Reached, Store, element_value, meaning}
use Rattle.normal_form.specs.Stands.{IsFine}
use Rattle.psi_rules.specs.Agrees.{AreFormsOf, IsFormOf}
use Rattle.psi_rules.specs.Areas.{Given, area_lists, given, store}
use Rattle.psi_rules.specs.Jobs.{forms}
use Rattle.psi_rules.specs.Scopes.{job_shapes}
use Rattle.stride_form.specs.Accesses.{access_value}
use Rattle.stride_form.specs.Operational.{operational}
use Rattle.loop_ir.specs.Running.{State, run, run_all}
use Rattle.loop_ir.specs.Steps.{Steps}
use Rattle.nest_build.specs.Gives.{AreLaidOut, IsBuildable}
use Rattle.nest_jobs.specs.BlockLaws.{BlockLaws}
use Rattle.nest_jobs.specs.Leads.{HoldInputs, Leads, nest_at, nests, nests_of}
use Rattle.nest_jobs.specs.Outputs.{Due, array_of, dues, form_of, job_of, opening}
use Rattle.nest_jobs.specs.Plain.{ArePlain}
use Rattle.nest_jobs.proofs.AreaLemmas.{AreInOrder, IsListed, dues-listed, dues-many, in-order, inputs-held}
use Rattle.nest_jobs.proofs.BeforeLemmas.{LoadsBefore, dues-before}
use Rattle.nest_jobs.proofs.ListLemmas.{each-at, each-from, mapped-at, mapped-here, zip-at}
use Rattle.nest_jobs.proofs.OutputLemmas.{FormHas, arrays-due, forms-due, jobs-due}
use Rattle.nest_jobs.proofs.ShapeLemmas.{AreShapes, IsShaped, areas-many, dues-shaped, shape_at, shapes-due}
use Rattle.nest_jobs.proofs.StepLemmas.{GivesList, HoldBefore, IsJob, IsLed, NestLaws, held, inside-both, inside-none, job-leads}

-- ---- the nests of outputs

abbrev pub due_nest : List Area → Due → Steps
due_nest areas due = nest_at areas due.scene.next.output (shape_at due) (form_of due)

due-nests : (areas : List Area) (list : List Due)
    → nests_of areas (map job_of list) (map shape_at list) (map form_of list) ≡ map (due_nest areas) list
due-nests areas [] = refl
due-nests areas (due ∷ others) = ap (λ l. due_nest areas due ∷ l) (due-nests areas others)

pub nests-due : BlockLaws → (inputs : Lists) (items : List Item) → ArePlain items → nests items ≡ map (due_nest (areas items)) (dues inputs items)
nests-due block inputs items plain =
    ap (λ l. nests_of (areas items) l (job_shapes items) (forms items)) (jobs-due inputs items plain)
    ∙ ap (λ l. nests_of (areas items) (map job_of (dues inputs items)) l (forms items)) (shapes-due block inputs items plain)
    ∙ ap (λ l. nests_of (areas items) (map job_of (dues inputs items)) (map shape_at (dues inputs items)) l) (forms-due inputs items plain)
    ∙ due-nests (areas items) (dues inputs items)

-- ---- one after another

abbrev IsDueJob : List Area → List (List ℤ) → Due → Type 0
IsDueJob areas lists due = IsJob areas lists due.scene.next.output (shape_at due) (form_of due)

all-lead : (laws : NestLaws) (areas : List Area) (lists : List (List ℤ)) (list : List Due) (own : ℕ) (state : State)
    → AreInOrder own list → AllByRecursion (IsDueJob areas lists) list → AreLaidOut areas (length state.words)
    → HoldBefore areas lists own state.words
    → IsLed areas lists (own + length list) state (run_all (map (due_nest areas) list) state)
all-lead laws areas lists [] own state order each laid holds =
    let same : own ≡ own + 0 = omega arith in
    record {
      sized = refl;
      holds = subst (λ n. HoldBefore areas lists n state.words) same holds;
      inside = inside-none areas state.trace;
    }
all-lead laws areas lists (due ∷ others) own state order each laid holds =
    let middle = run (due_nest areas due) state in
    let one : IsLed areas lists (suc own) state middle =
    subst (λ n. IsLed areas lists (suc n) state middle) order.0
    (job-leads areas lists laws due.scene.next.output (shape_at due) (form_of due) state laid
    (subst (λ n. HoldBefore areas lists n state.words) (sym order.0) holds) each.0) in
    let more = all-lead laws areas lists others (suc own) middle order.1 each.1 (subst (AreLaidOut areas) (sym one.sized) laid) one.holds in
    let count : suc own + length others ≡ own + suc (length others) = omega arith in
    record {
      sized = more.sized ∙ one.sized;
      holds = subst (λ n. HoldBefore areas lists n (run_all (map (due_nest areas) others) middle).words) count more.holds;
      inside = inside-both areas state.trace middle.trace (run_all (map (due_nest areas) others) middle).trace one.inside more.inside;
    }

-- ---- the jobs of a program

-- what is known of forms and values
pub record MeaningLaws : Type 0 where
  pub same : (store : Store) (m : Assignment) (form : Normal) → Reached IsFine m form
      → meaning (access_value store) m (operational form) ≡ meaning (element_value store) m form
  pub long : (env : Env) (expr : Expr) → length (values env expr) ≡ total (env_shape env expr)
  pub stored : (env : Env) (expr : Expr) (index : List ℕ) → IsIndex index (env_shape env expr)
      → element (output_list env expr) (env_shape env expr) index ≡ value env expr index

-- each job's form can be built
abbrev pub AreBuildable : Lists → List Item → Type 0
AreBuildable inputs items =
    (number : ℕ) (tree_job : TreeJob) (array : Given) (form : Normal) → slice_get (jobs items) number ≡ Some tree_job
    → slice_get (given inputs items) number ≡ Some array → slice_get (forms items) number ≡ Some (Some form)
    → IsBuildable (areas items) tree_job.job.area array.shape (map (λ n. (0, n)) array.shape) (operational form)

-- and so can that of each output
pub due-built : (inputs : Lists) (items : List Item) → ArePlain items → AreBuildable inputs items → (number : ℕ) (due : Due)
    → slice_get (dues inputs items) number ≡ Some due → (made : Normal) → form_of due ≡ Some made
    → IsBuildable (areas items) due.scene.next.output (array_of due).shape (map (λ n. (0, n)) (array_of due).shape) (operational made)
due-built inputs items plain built number due e made same =
    let list = dues inputs items in
    built number (job_of due) (array_of due) made
    (mapped-here job_of list (jobs items) number due (jobs-due inputs items plain) e)
    (mapped-here array_of list (given inputs items) number due (arrays-due inputs items plain) e)
    (mapped-here form_of list (forms items) number due (forms-due inputs items plain) e ∙ ap (λ f. Some f) same)

module _ (laws : MeaningLaws) (block : BlockLaws) (inputs : Lists) (items : List Item) where
  gives-list : (due : Due) (form : Option Normal) → env_shape due.scene.env due.of ≡ shape_at due
      → slice_index_or (area_lists inputs items) due.scene.next.output [] ≡ values due.scene.env due.of
      → IsFormOf (store inputs items) form (array_of due) → FormHas (LoadsBefore due.scene.next.output) form
      → ((made : Normal) → form ≡ Some made
      → IsBuildable (areas items) due.scene.next.output (shape_at due) (map (λ n. (0, n)) (shape_at due)) (operational made))
      → GivesList (areas items) (area_lists inputs items) due.scene.next.output (shape_at due) form
  gives-list due None alike list given before built = sym (ap total alike) ∙ given
  gives-list due (Some made) alike list given before built = record {
    built = built made refl;
    before = before;
    means = λ index inside.
        let there : IsIndex index (env_shape due.scene.env due.of) = subst (λ s. IsIndex index s) (sym alike) inside in
        let here = given.1 index there in
        laws.same (store inputs items) (assigned index) made here.fine ∙ here.means
        ∙ sym (laws.stored due.scene.env due.of index there)
        ∙ ap (λ s. slice_index_or (values due.scene.env due.of) (gamma index s) (pos 0)) alike
        ∙ ap (λ l. slice_index_or l (gamma index (shape_at due)) (pos 0)) (sym list);
  }

  due-job : (due : Due) → IsShaped (map (λ area. area.shape) (areas items)) due → IsListed (area_lists inputs items) due
      → IsFormOf (store inputs items) (form_of due) (array_of due) → FormHas (LoadsBefore due.scene.next.output) (form_of due)
      → ((made : Normal) → form_of due ≡ Some made
      → IsBuildable (areas items) due.scene.next.output (shape_at due) (map (λ n. (0, n)) (shape_at due)) (operational made))
      → IsDueJob (areas items) (area_lists inputs items) due
  due-job due shaped listed given before built =
      let own = due.scene.next.output in
      let found = mapped-at (λ area. area.shape) (areas items) own (shape_at due) shaped.there in
      let list = get_or_from_slice_get (area_lists inputs items) own (values due.scene.env due.of) [] listed in
      let alike : env_shape due.scene.env due.of ≡ shape_at due = ap (λ s. shape_of s due.of) shaped.alike.0 in
      record {
        area = found.0;
        there = found.1;
        shaped = found.2;
        long = ap length list ∙ laws.long due.scene.env due.of ∙ ap total alike;
        gives = gives-list due (form_of due) alike list given before built;
      }

  -- names have shapes
  abbrev pub HaveShapes : Type 0
  HaveShapes = AreShapes (fold shapes_after [] items)

  dues-jobs : ArePlain items → HaveShapes → AreFormsOf (store inputs items) (forms items) (given inputs items) → AreBuildable inputs items
      → AllByRecursion (IsDueJob (areas items) (area_lists inputs items)) (dues inputs items)
  dues-jobs plain shapes gives built =
      let list = dues inputs items in
      let known = map (λ area. area.shape) (areas items) in
      each-from (IsDueJob (areas items) (area_lists inputs items)) list (λ number due e.
      let form = mapped-here form_of list (forms items) number due (forms-due inputs items plain) e in
      let array = mapped-here array_of list (given inputs items) number due (arrays-due inputs items plain) e in
      let shaped = each-at (IsShaped known) list (dues-shaped block inputs items shapes) number due e in
      due-job due shaped
      (each-at (IsListed (area_lists inputs items)) list (dues-listed block inputs items) number due e)
      (zip-at (IsFormOf (store inputs items)) (forms items) (given inputs items) gives number (form_of due) (array_of due) form array)
      (each-at (λ d. FormHas (LoadsBefore d.scene.next.output) (form_of d)) list (dues-before inputs items plain) number due e)
      (λ made same.
      subst (λ s. IsBuildable (areas items) due.scene.next.output s (map (λ n. (0, n)) s) (operational made))
      (ap (λ s. shape_of s due.of) shaped.alike.0)
      (due-built inputs items plain built number due e made same)))

  pub program-leads : NestLaws → ArePlain items → HaveShapes → AreFormsOf (store inputs items) (forms items) (given inputs items)
      → AreBuildable inputs items → AreLaidOut (areas items) (words items)
      → (state : State) → length state.words ≡ words items → HoldInputs inputs items state.words
      → Leads inputs items state (run_all (nests items) state)
  program-leads nested plain shapes gives built laid state sized held =
      let list = dues inputs items in
      let lists = area_lists inputs items in
      let own = sum_by input_count items in
      let led = all-lead nested (areas items) lists list own state (in-order inputs items (opening items) own refl)
      (dues-jobs plain shapes gives built) (subst (AreLaidOut (areas items)) (sym sized) laid)
      (inputs-held block inputs items state.words held) in
      let same = sym (nests-due block inputs items plain) in
      subst (λ l. Leads inputs items state (run_all l state)) same
      (record {
        sized = led.sized;
        holds = λ number area e.
            let there = slice_get_within (areas items) number area e in
            led.holds number area (omega (arith, there, areas-many block items plain, dues-many inputs items (opening items))) e;
        inside = led.inside;
      })
