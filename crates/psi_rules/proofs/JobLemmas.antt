-- The forms of an accepted program's jobs give the arrays of its jobs: from one statement to the next.
use Rattle.std.specs.Prelude.{◌≡◌, ℕ, ◌+◌, ℤ, pos, List, [], ◌∷◌, ◌++◌, map, reverse, slice_get, slice_index_or, Some, Result, Ok, Err, IsOk}
use Rattle.std.specs.List.{AllByRecursion, flat_map, fold}
use Rattle.std.proofs.Common.{refl, ap, sym, subst, ◌∙◌}
use Rattle.std.proofs.lemmas.Bool.{false≢true}
use Rattle.std.proofs.lemmas.List.{append_assoc, length-map, map-append}
use Rattle.std.proofs.lemmas.List.Sums.{fold-append}
use Rattle.std.proofs.lemmas.Option.{get_or_from_slice_get}
use Rattle.shapes_core.specs.Gamma.{gamma}
use Rattle.moa_tree.specs.Axes.{naturals}
use Rattle.moa_tree.specs.Denotation.{Store as Lists, env_after, env_after_all, denote_from, denote_scans_from, output_list, outputs_of, scans_of, values}
use Rattle.moa_tree.specs.Expr.{Expr, Item, Input, Let, Output}
use Rattle.moa_tree.specs.ShapeOf.{Shapes, beside, shape_of}
use Rattle.moa_tree.specs.Subexpressions.{subexpressions}
use Rattle.moa_tree.specs.Values.{Env, element, shape_in, shapes_of, value}
use Rattle.shape_check.specs.Layout.{shapes_after}
use Rattle.shape_check.specs.Statements.{verdict_of}
use Rattle.shape_check.specs.Verdict.{verdict}
use Rattle.normal_form.specs.Meaning.{Store}
use Rattle.normal_form.specs.Stands.{Represents}
use Rattle.psi_rules.specs.Agrees.{AreFormsOf, AreNamed, HoldEach, IsFormOf}
use Rattle.psi_rules.specs.Areas.{area_lists, given, given_from, input_list, store, task_given}
use Rattle.psi_rules.specs.Blocks.{AreAt}
use Rattle.psi_rules.specs.Jobs.{Next, Task, first, forms, forms_from, job_form, named, next_after, scanned, task_form, tasks_of}
use Rattle.psi_rules.specs.Operands.{IsAccepted, OperandsMove}
use Rattle.psi_rules.specs.Rules.{Names, form, loading, shape_in as named_shape}
use Rattle.psi_rules.proofs.AreaLemmas.{ReadBack, hold-each, input-counted, output-counted}
use Rattle.psi_rules.proofs.BlockLemmas.{lists-stand}
use Rattle.psi_rules.proofs.FormLemmas.{represents-same, same-shapes}
use Rattle.psi_rules.proofs.ListLemmas.{at-both, each-append, each-reverse, zip-append, zip-mapped}
use Rattle.psi_rules.proofs.TaskLemmas.{GivesAll, IsGiven, job-is-form, scans-given}

-- ---- what is accepted

-- the shapes of what is accepted
pub accepted-shapes : {X E : Type 0} (r : Result X E) → IsOk r → (x : X) × (r ≡ Ok x)
accepted-shapes (Ok x) h = (x, refl)
accepted-shapes (Err e) h = absurd (false≢true h)

abbrev pub IsAcceptedItem : Shapes → Item → Type 0
IsAcceptedItem shapes (Input name extents) = Unit {0}
IsAcceptedItem shapes (Let name of) = IsAccepted shapes of
IsAcceptedItem shapes (Output name of) = IsAccepted shapes of

-- each statement among the names before it
abbrev pub AreAccepted : Lists → Env → List Item → Type 0
AreAccepted inputs env [] = Unit {0}
AreAccepted inputs env (item ∷ items) = IsAcceptedItem (shapes_of env) item × AreAccepted inputs (env_after inputs env item) items

-- in an accepted program the expressions of statements of one kind are accepted
abbrev pub AcceptsEach : (List ℕ → Expr → Item) → Type 0
AcceptsEach statement =
    (before behind : List Item) (name : List ℕ) (of : Expr) (shapes : Shapes) → verdict_of (before ++ statement name of ∷ behind) ≡ Ok shapes
    → (at : ℕ) → verdict (fold shapes_after [] before) at of ≡ Ok (shape_of (fold shapes_after [] before) of)

-- the names after some statements have the shapes of the statements
abbrev pub ShapesAfter : Type 0
ShapesAfter = (inputs : Lists) (env : Env) (items : List Item) → shapes_of (env_after_all inputs env items) ≡ fold shapes_after (shapes_of env) items

pub item-accepted : AcceptsEach Let → AcceptsEach Output → (before behind : List Item) (item : Item) (shapes : Shapes)
    → verdict_of (before ++ item ∷ behind) ≡ Ok shapes
    → IsAcceptedItem (fold shapes_after [] before) item
item-accepted lets outputs before behind (Input name extents) shapes h = tt
item-accepted lets outputs before behind (Let name of) shapes h = lets before behind name of shapes h 0
item-accepted lets outputs before behind (Output name of) shapes h = outputs before behind name of shapes h 0

pub items-accepted : AcceptsEach Let → AcceptsEach Output → ShapesAfter → (inputs : Lists) (before items : List Item) (shapes : Shapes)
    → verdict_of (before ++ items) ≡ Ok shapes → AreAccepted inputs (env_after_all inputs [] before) items
items-accepted lets outputs known inputs before [] shapes h = tt
items-accepted lets outputs known inputs before (item ∷ items) shapes h =
    let more = before ++ item ∷ [] in
    let whole = ap verdict_of (append_assoc before (item ∷ []) items) ∙ h in (
      subst (λ t. IsAcceptedItem t item) (sym (known inputs [] before)) (item-accepted lets outputs before items item shapes h),
      subst (λ env. AreAccepted inputs env items) (fold-append (env_after inputs) [] before (item ∷ []))
          (items-accepted lets outputs known inputs more items shapes whole),
    )

-- ---- one statement

module _ (areas : List (List ℤ)) where
  abbrev pub held : Store
  held area place = slice_index_or (slice_index_or areas area []) place (pos 0)

  abbrev pub Loads : Type 0
  Loads = (area : ℕ) (shape : List ℕ) → Represents held (loading area shape) shape (λ index. held area (gamma index shape))

  -- an array whose list an area holds
  stored-represents : Loads → (area : ℕ) (shape : List ℕ) (list : List ℤ) → slice_get areas area ≡ Some list
      → Represents held (loading area shape) shape (element list shape)
  stored-represents loads area shape list e =
      represents-same held (loading area shape) shape (λ index. held area (gamma index shape)) (element list shape) (loads area shape)
      (λ index inside. ap (λ l. slice_index_or l (gamma index shape) (pos 0)) (get_or_from_slice_get areas area list [] e))

  module _ (back : ReadBack) (loads : Loads) (gives : (names : Names) (env : Env) → AreNamed held names env → GivesAll held names env) (operand : (shapes : Shapes) → OperandsMove shapes)
      (inputs : Lists) where
    same-in : (names : Names) (env : Env) → AreNamed held names env → (of : Expr) → shape_in env of ≡ named_shape names of
    same-in names env agree of = ap (λ shapes. shape_of shapes of) (same-shapes held names env agree)

    names-after : (names : Names) (env : Env) (next : Next) (item : Item) → AreNamed held names env → IsAcceptedItem (shapes_of env) item
        → AreAt areas next.input (input_list inputs item) → AreAt areas next.output (map (λ output. output.1) (outputs_of env item))
        → HoldEach held env next.scan (scans_of item) → AreNamed held (named names next item ∷ names) (env_after inputs env item)
    names-after names env next (Input name extents) agree accepted ins outs scans =
        ((refl, refl, stored-represents loads next.input (naturals extents) (beside [] inputs name) ins.0), agree)
    names-after names env next (Let name of) agree accepted ins outs scans =
        ((refl, sym (same-in names env agree of), gives names env agree next.scan of scans accepted), agree)
    names-after names env next (Output name of) agree accepted ins outs scans =
        let made = stored-represents loads next.output (shape_in env of) (output_list env of) outs.0 in (
          (
            refl,
            sym (same-in names env agree of),
            subst (λ known. Represents held (loading next.output known) (shape_in env of) (element (output_list env of) (shape_in env of)))
                (same-in names env agree of) made,
          ),
          agree,
        )

    tasks-given : (names : Names) (env : Env) (next : Next) (item : Item) → AreNamed held names env → IsAcceptedItem (shapes_of env) item
        → HoldEach held env next.scan (scans_of item) → AllByRecursion (IsGiven held names env) (tasks_of next item)
    tasks-given names env next (Input name extents) agree accepted scans = tt
    tasks-given names env next (Let name of) agree accepted scans =
        let found = scanned next.scan (subexpressions of) in
        each-append (IsGiven held names env) (reverse found) []
        (each-reverse (IsGiven held names env) found (scans-given held names env (gives names env agree) (operand (shapes_of env))
        next.scan of scans accepted)) tt
    tasks-given names env next (Output name of) agree accepted scans =
        let found = scanned next.scan (subexpressions of) in
        each-append (IsGiven held names env) (reverse found) ((of, next.scan) ∷ [])
        (each-reverse (IsGiven held names env) found (scans-given held names env (gives names env agree) (operand (shapes_of env))
        next.scan of scans accepted))
        (gives names env agree next.scan of scans accepted, tt)

    task-is-form : (names : Names) (env : Env) → AreNamed held names env → (task : Task) → IsGiven held names env task
        → IsFormOf held (task_form names task) (task_given env task)
    task-is-form names env agree task h =
        subst (λ known. IsFormOf held (job_form known (form names task.1 task.0)) (task_given env task)) (same-in names env agree task.0)
        (job-is-form held (form names task.1 task.0) (shape_in env task.0) (value env task.0) h)

    -- ---- all statements

    jobs-given : (items : List Item) (names : Names) (env : Env) (next : Next) → AreNamed held names env → AreAccepted inputs env items
        → AreAt areas next.input (flat_map (input_list inputs) items)
        → AreAt areas next.output (map (λ output. output.1) (denote_from inputs env items))
        → AreAt areas next.scan (denote_scans_from inputs env items)
        → AreFormsOf held (forms_from names next items) (given_from inputs env next items)
    jobs-given [] names env next agree accepted ins outs scans = tt
    jobs-given (item ∷ items) names env next agree accepted ins outs scans =
        let later = env_after inputs env item in
        let behind = denote_from inputs later items in
        let in-parts = at-both areas next.input (input_list inputs item) (flat_map (input_list inputs) items) ins in
        let out-parts = at-both areas next.output (map (λ output. output.1) (outputs_of env item)) (map (λ output. output.1) behind)
        (subst (AreAt areas next.output) (map-append (λ output. output.1) (outputs_of env item) behind) outs) in
        let scan-parts = at-both areas next.scan (map (values env) (scans_of item)) (denote_scans_from inputs later items) scans in
        let here = hold-each back areas env next.scan (scans_of item) scan-parts.0 in
        let tasks = tasks_of next item in
        let rest = jobs-given items (named names next item ∷ names) later (next_after next item)
        (names-after names env next item agree accepted.0 in-parts.0 out-parts.0 here) accepted.1
        (subst (λ n. AreAt areas (next.input + n) (flat_map (input_list inputs) items)) (input-counted inputs item) in-parts.1)
        (subst (λ n. AreAt areas (next.output + n) (map (λ output. output.1) behind))
        (length-map (outputs_of env item) (λ output. output.1) ∙ output-counted env item) out-parts.1)
        (subst (λ n. AreAt areas (next.scan + n) (denote_scans_from inputs later items)) (length-map (scans_of item) (values env)) scan-parts.1) in
        zip-append (IsFormOf held) (map (task_form names) tasks) (forms_from (named names next item ∷ names) (next_after next item) items)
        (map (task_given env) tasks) (given_from inputs later (next_after next item) items)
        (zip-mapped (IsGiven held names env) (IsFormOf held) (task_form names) (task_given env) (task-is-form names env agree) tasks
        (tasks-given names env next item agree accepted.0 here)) rest

-- where the areas are those of the whole program
pub program-given : ReadBack → (inputs : Lists) (items : List Item) → Loads (area_lists inputs items)
    → ((names : Names) (env : Env) → AreNamed (store inputs items) names env → GivesAll (store inputs items) names env)
    → ((shapes : Shapes) → OperandsMove shapes)
    → AreAccepted inputs [] items → AreFormsOf (store inputs items) (forms items) (given inputs items)
program-given back inputs items loads gives operand accepted =
    let stand = lists-stand inputs items in
    jobs-given (area_lists inputs items) back loads gives operand inputs items [] [] (first items) tt accepted stand.0 stand.1 stand.2
