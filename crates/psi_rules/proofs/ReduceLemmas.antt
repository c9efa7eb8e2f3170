-- A job of a checked program among the program's statements, and what its form keeps.
use Rattle.std.specs.Prelude.{◌≡◌, ℕ, ◌<◌, ◌≤◌, List, [], ◌∷◌, length, map, slice_get, slice_index_or, Option, None, Some}
use Rattle.std.specs.List.{AllByRecursion}
use Rattle.std.proofs.Common.{refl, ap, sym, subst, ◌∙◌, arith, inl, inr, le_refl}
use Rattle.std.proofs.lemmas.List.{length-map}
use Rattle.std.proofs.lemmas.Option.{get_or_from_slice_get, none-some, same_Some}
use Rattle.moa_tree.specs.declared.tree.Job.{Job}
use Rattle.moa_tree.specs.Denotation.{Store as Lists}
use Rattle.moa_tree.specs.Expr.{Item}
use Rattle.moa_tree.specs.Pool.{item_of, trees}
use Rattle.moa_tree.specs.Pools.{IsProgram, walk}
use Rattle.shapes_core.specs.Gamma.{IsIndex}
use Rattle.shapes_core.specs.Shape.{IsShape, total}
use Rattle.shape_check.specs.Jobs.{TreeJob, jobs}
use Rattle.shape_check.specs.Judged.{items_in, node_tree}
use Rattle.shape_check.specs.Kept.{Checking, IsChecked, pooled}
use Rattle.normal_form.specs.Assignments.{assigned}
use Rattle.normal_form.specs.declared.term.Term.{Term}
use Rattle.normal_form.specs.Cutting.{IsRoomy, IsVarying, terms_in}
use Rattle.normal_form.specs.Forms.{Normal}
use Rattle.normal_form.specs.Kept.{IsBox, IsEmpty, IsFoldJob, IsForm, IsInBox, IsKept, IsNormal, Parts, form_in, job_variables, top_form}
use Rattle.normal_form.specs.Meaning.{Reached}
use Rattle.normal_form.specs.Stands.{IsFine}
use Rattle.psi_rules.specs.Agrees.{AreFormsOf, IsFormOf}
use Rattle.psi_rules.specs.Areas.{Given, given, store}
use Rattle.psi_rules.specs.Building.{IsPool}
use Rattle.psi_rules.specs.Jobs.{forms, job_form, task_form}
use Rattle.psi_rules.specs.Keeping.{IsKeptOn}
use Rattle.psi_rules.specs.Reduced.{JobFacts}
use Rattle.psi_rules.specs.Rules.{Names, form, shape_in}
use Rattle.psi_rules.specs.Scopes.{Owned, first_scan, job_shapes, names_at, next_at, owned}
use Rattle.psi_rules.specs.Tables.{AreKnown, AreMeant, AreTables, IsReady, HasShapes, Tables, owner_at, scan_at}
use Rattle.psi_rules.proofs.ListLemmas.{at-mapped, mapped-at, zip-at}

-- ---- a job

abbrev Tasks : Type 0
Tasks = (items : List Item) → map (λ tree_job. tree_job.of) (jobs items) ≡ map (λ o. o.task.0) (owned items)

abbrev Scans : Type 0
Scans = (items : List Item) (number : ℕ) (tree_job : TreeJob) (o : Owned) → slice_get (jobs items) number ≡ Some tree_job
    → slice_get (owned items) number ≡ Some o
    → o.task.1 ≡ first_scan (next_at items o.statement).scan tree_job.job.area tree_job.job.fold

abbrev There : Type 0
There = (items : List Item) (number : ℕ) (o : Owned) → slice_get (owned items) number ≡ Some o → o.statement < length items

abbrev NodesHaveShapes : Type 0
NodesHaveShapes = (checking : Checking) → IsProgram checking.pools → IsChecked checking
    → (number : ℕ) (job : Job) (o : Owned) → slice_get checking.jobs number ≡ Some job
    → slice_get (owned (items_in checking.pools)) number ≡ Some o
    → (node_tree checking.pools job.node ≡ o.task.0) × HasShapes checking (names_at (items_in checking.pools) o.statement) job.node

module _ (tasks : Tasks) (scans : Scans) (there : There) (nodes : NodesHaveShapes) (checking : Checking) (program : IsProgram checking.pools)
    (checked : IsChecked checking) (tables : Tables) (known : AreTables checking tables) where
  abbrev items : List Item
  items = items_in checking.pools

  pub job-facts : (number : ℕ) (job : Job) → slice_get checking.jobs number ≡ Some job → JobFacts checking tables number job
  job-facts number job e =
      let found = mapped-at (pooled (walk checking.pools)) (jobs items) number job
      (subst (λ l. slice_get l number ≡ Some job) checked.jobs_in_order e) in
      let tree_job = found.0 in
      let owned_found = mapped-at (λ (o : Owned). o.task.0) (owned items) number tree_job.of
      (subst (λ l. slice_get l number ≡ Some tree_job.of) (tasks items) (at-mapped (λ (j : TreeJob). j.of) (jobs items) number tree_job found.1)) in
      let o = owned_found.0 in
      let area : job.area ≡ tree_job.job.area = ap (λ (j : Job). j.area) (sym found.2) in
      let fold : job.fold ≡ tree_job.job.fold = ap (λ (j : Job). j.fold) (sym found.2) in
      let inside : o.statement < length checking.pools.statements =
      subst (λ n. o.statement < n)
      (length-map checking.pools.statements (item_of checking.pools.numbers (trees checking.pools.numbers checking.pools.nodes)))
      (there items number o owned_found.1) in
      let both = nodes checking program checked number job o e owned_found.1 in
      let statement = ap (λ l. slice_index_or l number 0) known.owners
      ∙ get_or_from_slice_get (map (λ (o : Owned). o.statement) (owned items)) number o.statement 0
      (at-mapped (λ (o : Owned). o.statement) (owned items) number o owned_found.1) in
      let scan = ap (λ scan. first_scan scan job.area job.fold) (ap (scan_at tables) statement ∙ known.scans o.statement inside)
      ∙ ap (λ area. first_scan (next_at items o.statement).scan area job.fold) area
      ∙ ap (λ fold. first_scan (next_at items o.statement).scan tree_job.job.area fold) fold
      ∙ sym (scans items number tree_job o found.1 owned_found.1) in
      record {
        tree_job = tree_job;
        listed = found.1;
        area = area;
        fold = fold;
        owner = o;
        owned_here = owned_found.1;
        statement = statement;
        scan = scan;
        tree = both.0;
        shaped = subst (λ n. HasShapes checking (names_at items n) job.node) (sym statement) both.1;
      }

-- ---- its form

boxed : (shape : List ℕ) → AllByRecursion (λ n. 0 < n) shape → IsBox (map (λ n. (0, n)) shape) shape
boxed [] some = tt
boxed (n ∷ shape) some = ((some.0, le_refl n), boxed shape some.1)

in-box : (index shape : List ℕ) → IsInBox index (map (λ n. (0, n)) shape) → IsIndex index shape
in-box [] [] h = tt
in-box [] (n ∷ shape) h = absurd h
in-box (k ∷ index) [] h = absurd h
in-box (k ∷ index) (n ∷ shape) h = (h.0.1, in-box index shape h.1)

-- terms of a form have a top
topped : (terms : List Term) (form : Normal) → form_in terms ≡ Some form → (0 < length terms) × (top_form terms ≡ form)
topped [] form e = absurd (none-some form e)
topped (first ∷ others) form e = (omega arith, same_Some (top_form (first ∷ others)) form e)

no-terms : (terms : List Term) → form_in terms ≡ None → terms ≡ []
no-terms [] e = refl
no-terms (first ∷ others) e = absurd (none-some (top_form (first ∷ others)) (sym e))

-- what the laws say of the form of a job and of its array
pub record FormLaws (items : List Item) : Type 0 where
  pub gives : AreFormsOf (store [] items) (forms items) (given [] items)
  pub keeps : (number : ℕ) (tree_job : TreeJob) (array : Given) (form : Normal) → slice_get (jobs items) number ≡ Some tree_job
      → slice_get (given [] items) number ≡ Some array → slice_get (forms items) number ≡ Some (Some form)
      → IsKeptOn tree_job.job.area array.shape form
  pub folds : (number : ℕ) (tree_job : TreeJob) (array : Given) → slice_get (jobs items) number ≡ Some tree_job
      → slice_get (given [] items) number ≡ Some array → IsFoldJob tree_job.job.fold array.shape
  pub some : (shape : List ℕ) → 0 < total shape → AllByRecursion (λ n. 0 < n) shape

-- a job with its array and its form
pub record HasForm (items : List Item) (number : ℕ) (job : Job) (shape : List ℕ) (terms : List Term) : Type 0 where
  pub tree_job : TreeJob
  pub listed : slice_get (jobs items) number ≡ Some tree_job
  pub area : job.area ≡ tree_job.job.area
  pub fold : job.fold ≡ tree_job.job.fold
  pub array : Given
  pub given_here : slice_get (given [] items) number ≡ Some array
  pub shaped : array.shape ≡ shape
  pub formed : slice_get (forms items) number ≡ Some (form_in terms)
  pub pool : IsPool terms
  pub counted : 0 < length terms → terms_in (top_form terms) ≤ length terms
  pub within : IsShape shape

abbrev Forms : Type 0
Forms = (items : List Item) → forms items ≡ map (λ o. task_form (names_at items o.statement) o.task) (owned items)

abbrev Shapes : Type 0
Shapes = (inputs : Lists) (items : List Item) → map (λ array. array.shape) (given inputs items) ≡ job_shapes items

module _ (made : Forms) (shapes : Shapes) (checking : Checking) (tables : Tables) (number : ℕ) (job : Job)
    (facts : JobFacts checking tables number job) (meant : AreMeant checking tables) (known_names : AreKnown checking tables) (terms : List Term) (scan : ℕ)
    (placed : scan ≡ first_scan (scan_at tables (owner_at tables number)) job.area job.fold)
    (built : (names : Names) → IsReady checking tables (owner_at tables number) names job.node
    → form_in terms ≡ job_form (shape_in names (node_tree checking.pools job.node)) (form names scan (node_tree checking.pools job.node))) where
  abbrev all : List Item
  all = items_in checking.pools

  abbrev owner : Owned
  owner = facts.owner

  abbrev known : Names
  known = names_at all (owner_at tables number)

  ready : IsReady checking tables (owner_at tables number) known job.node
  ready = record {
    nodes = facts.shaped;
    scope = record { names_before = refl; meant = meant; known = known_names };
  }

  by-task : form_in terms ≡ task_form (names_at all owner.statement) owner.task
  by-task =
      built known ready
      ∙ ap (λ tree. job_form (shape_in known tree) (form known scan tree)) facts.tree
      ∙ ap (λ n. job_form (shape_in known owner.task.0) (form known n owner.task.0)) (placed ∙ facts.scan)
      ∙ ap (λ statement. task_form (names_at all statement) owner.task) facts.statement

  pub form-here : slice_get (forms all) number ≡ Some (form_in terms)
  form-here =
      ap (λ l. slice_get l number) (made all)
      ∙ at-mapped (λ (o : Owned). task_form (names_at all o.statement) o.task) (owned all) number owner facts.owned_here
      ∙ ap (λ f. Some f) (sym by-task)

  pub shape-here : (shape : List ℕ) → shape ≡ slice_index_or checking.shapes job.node [] → slice_get (job_shapes all) number ≡ Some shape
  shape-here shape e =
      at-mapped (λ (o : Owned). shape_in (names_at all o.statement) o.task.0) (owned all) number owner facts.owned_here
      ∙ ap (λ s. Some s) (ap (λ statement. shape_in (names_at all statement) owner.task.0) (sym facts.statement)
      ∙ ap (shape_in known) (sym facts.tree) ∙ sym (e ∙ facts.shaped.shape))

  pub node-here : Tasks → slice_get (map (λ tree_job. tree_job.of) (jobs all)) number ≡ Some (node_tree checking.pools job.node)
  node-here tasks =
      ap (λ l. slice_get l number) (tasks all)
      ∙ at-mapped (λ (o : Owned). o.task.0) (owned all) number owner facts.owned_here ∙ ap (λ tree. Some tree) (sym facts.tree)

  pub has-form : (shape : List ℕ) → shape ≡ slice_index_or checking.shapes job.node [] → IsShape shape → IsPool terms
      → ((names : Names) → IsReady checking tables (owner_at tables number) names job.node
      → 0 < length terms → terms_in (top_form terms) ≤ length terms)
      → HasForm all number job shape terms
  has-form shape e within pool counted =
      let found = mapped-at (λ (array : Given). array.shape) (given [] all) number shape
      (ap (λ l. slice_get l number) (shapes [] all) ∙ shape-here shape e) in
      record {
        tree_job = facts.tree_job;
        listed = facts.listed;
        area = facts.area;
        fold = facts.fold;
        array = found.0;
        given_here = found.1;
        shaped = found.2;
        formed = form-here;
        pool = pool;
        counted = counted known ready;
        within = within;
      }

module _ (items : List Item) (laws : FormLaws items) (number : ℕ) (job : Job) (shape : List ℕ) (terms : List Term)
    (h : HasForm items number job shape terms) where
  abbrev parts : Parts
  parts = record { job = job; shape = shape; region = map (λ n. (0, n)) shape; terms = terms }

  fold-job : IsFoldJob job.fold shape
  fold-job =
      subst (λ fold. IsFoldJob fold shape) (sym h.fold)
      (subst (IsFoldJob h.tree_job.job.fold) h.shaped (laws.folds number h.tree_job h.array h.listed h.given_here))

  form-of : IsFormOf (store [] items) (form_in terms) h.array
  form-of = zip-at (IsFormOf (store [] items)) (forms items) (given [] items) laws.gives number (form_in terms) h.array h.formed h.given_here

  normal-form : (form : Normal) → form_in terms ≡ Some form → IsNormal parts
  normal-form form e =
      let gives = subst (λ f. IsFormOf (store [] items) f h.array) e form-of in
      let some : 0 < total shape = subst (λ s. 0 < total s) h.shaped gives.0 in
      let top = topped terms form e in
      let kept = laws.keeps number h.tree_job h.array form h.listed h.given_here (h.formed ∙ ap (λ f. Some f) e) in
      let all = laws.some shape some in
      record {
        some = some;
        shaped = h.within;
        box = boxed shape all;
        folds = fold-job;
        there = top.0;
        few = h.pool.few;
        ordered = h.pool.ordered;
        kept = subst (λ own. IsKept own (job_variables shape) (top_form terms)) (sym h.area)
            (subst (IsKept h.tree_job.job.area (job_variables shape)) (sym top.1)
            (subst (λ s. IsKept h.tree_job.job.area (job_variables s) form) h.shaped kept.kept));
        varying = subst IsVarying (sym top.1) kept.varying;
        roomy = subst (IsRoomy []) (sym top.1) kept.roomy;
        tree = h.counted top.0;
        fine = λ index inside. subst (Reached IsFine (assigned index)) (sym top.1)
            (gives.1 index (subst (IsIndex index) (sym h.shaped) (in-box index shape inside))).fine;
      }

  empty-form : form_in terms ≡ None → IsEmpty parts
  empty-form e = record {
    none = subst (λ s. total s ≡ 0) h.shaped (subst (λ f. IsFormOf (store [] items) f h.array) e form-of);
    shaped = h.within;
    whole = refl;
    folds = fold-job;
    terms = no-terms terms e;
  }

  by-form : (found : Option Normal) → form_in terms ≡ found → IsForm parts
  by-form None e = inl (empty-form e)
  by-form (Some form) e = inr (normal-form form e)

  pub is-form : IsForm parts
  is-form = by-form (form_in terms) refl
