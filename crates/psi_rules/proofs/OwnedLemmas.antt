-- The forms, the jobs and the arrays of a program are those of its tasks, each among the names and the areas before its statement.
use Rattle.std.specs.Prelude.{◌≡◌, ℕ, suc, ◌+◌, ◌<◌, List, [], ◌∷◌, ◌++◌, length, map, reverse, slice_get, Some}
use Rattle.std.specs.List.{AllByRecursion, AllZip}
use Rattle.std.proofs.Common.{refl, ap, sym, subst, ◌∙◌, arith}
use Rattle.std.proofs.lemmas.List.{map-append}
use Rattle.std.proofs.lemmas.Simd.{map-map}
use Rattle.indexmap.proofs.ReorderLemmas.{map-reverse}
use Rattle.moa_tree.specs.Denotation.{Store as Lists, env_after, scans_of}
use Rattle.moa_tree.specs.Expr.{Expr, Scan, Item, Input, Let, Output}
use Rattle.moa_tree.specs.ShapeOf.{shape_of}
use Rattle.moa_tree.specs.Subexpressions.{subexpressions_of}
use Rattle.moa_tree.specs.Values.{Env, shapes_of as env_shapes}
use Rattle.shape_check.specs.Jobs.{TreeJob, jobs, jobs_from, jobs_of, output_jobs, scan_jobs}
use Rattle.psi_rules.specs.Areas.{Given, given, given_from, task_given}
use Rattle.psi_rules.specs.Jobs.{Next, Task, first, forms, forms_from, next_after, output_task, scanned, task_form, tasks_of}
use Rattle.psi_rules.specs.Rules.{shape_in, shapes_of}
use Rattle.psi_rules.specs.Scopes.{Owned, Scope, first_scan, names_at, next_at, owned, owned_from, scope_after, scope_at}
use Rattle.psi_rules.proofs.ListLemmas.{each-append, each-at, each-follows, each-made, map-both, zip-append, zip-at, zip-map, zip-reverse}
use Rattle.psi_rules.proofs.ScopeLemmas.{scope-step, shapes-alike}

-- ---- scopes

-- scopes by numbers, from this one on, go on over these statements
abbrev pub AreScopes : (ℕ → Scope) → ℕ → List Item → Type 0
AreScopes at number [] = Unit {0}
AreScopes at number (item ∷ items) = (at (suc number) ≡ scope_after (at number) item) × AreScopes at (suc number) items

scopes-go-on : (at : ℕ → Scope) (number : ℕ) (items : List Item)
    → ((k : ℕ) (item : Item) → slice_get items k ≡ Some item → at (suc (number + k)) ≡ scope_after (at (number + k)) item)
    → AreScopes at number items
scopes-go-on at number [] step = tt
scopes-go-on at number (item ∷ items) step =
    let here : number + 0 ≡ number = omega arith in
    let later = λ (k : ℕ) (other : Item) (e : slice_get items k ≡ Some other).
    let behind : number + suc k ≡ suc number + k = omega arith in
    subst (λ n. at (suc n) ≡ scope_after (at n) other) behind (step (suc k) other e) in (
      subst (λ n. at (suc n) ≡ scope_after (at n) item) here (step 0 item refl),
      scopes-go-on at (suc number) items later,
    )

pub are-scopes : (items : List Item) → AreScopes (scope_at items) 0 items
are-scopes items = scopes-go-on (scope_at items) 0 items (λ k item e.
    let here : k ≡ 0 + k = omega arith in
    subst (λ n. scope_at items (suc n) ≡ scope_after (scope_at items n) item) here (scope-step items k item e))

-- the task of a statement of this number
abbrev owned_by : ℕ → Task → Owned
owned_by number task = record { statement = number; task = task }

-- what is said of the tasks of each statement among its names and areas is said of all tasks
mapped-owned : {Z : Type 0} (f : Scope → Task → Z) (all : Scope → List Item → List Z)
    → ((scope : Scope) → all scope [] ≡ [])
    → ((scope : Scope) (item : Item) (items : List Item)
    → all scope (item ∷ items) ≡ map (f scope) (tasks_of scope.next item) ++ all (scope_after scope item) items)
    → (at : ℕ → Scope) (number : ℕ) (items : List Item) → AreScopes at number items
    → all (at number) items ≡ map (λ o. f (at o.statement) o.task) (owned_from number (at number).next items)
mapped-owned f all none more at number [] h = none (at number)
mapped-owned f all none more at number (item ∷ items) h =
    let tasks = tasks_of (at number).next item in
    let said = λ (o : Owned). f (at o.statement) o.task in
    let rest = subst (λ scope. all scope items ≡ map said (owned_from (suc number) scope.next items)) h.0
    (mapped-owned f all none more at (suc number) items h.1) in
    more (at number) item items
    ∙ ap (λ l. map (f (at number)) tasks ++ l) rest
    ∙ ap (λ l. l ++ map said (owned_from (suc number) (next_after (at number).next item) items)) (sym (map-map said (owned_by number) tasks))
    ∙ sym (map-append said (map (owned_by number) tasks) (owned_from (suc number) (next_after (at number).next item) items))

-- ---- forms

pub forms-owned : (items : List Item) → forms items ≡ map (λ o. task_form (names_at items o.statement) o.task) (owned items)
forms-owned items =
    mapped-owned (λ scope task. task_form scope.names task) (λ scope others. forms_from scope.names scope.next others)
    (λ scope. refl) (λ scope item others. refl) (scope_at items) 0 items (are-scopes items)

-- ---- expressions

scans-of-tasks : (area node scan : ℕ) (exprs : List Expr)
    → map (λ tree_job. tree_job.of) (scan_jobs area node exprs) ≡ map (λ task. task.0) (scanned scan exprs)
scans-of-tasks area node scan [] = refl
scans-of-tasks area node scan (Scan fold of ∷ others) = ap (λ l. of ∷ l) (scans-of-tasks (suc area) (suc node) (suc scan) others)
scans-of-tasks area node scan (other ∷ others) = scans-of-tasks area (suc node) scan others

output-of-tasks : (area node : ℕ) (next : Next) (item : Item)
    → map (λ tree_job. tree_job.of) (output_jobs area node item) ≡ map (λ task. task.0) (output_task next item)
output-of-tasks area node next (Input name extents) = refl
output-of-tasks area node next (Let name of) = refl
output-of-tasks area node next (Output name of) = refl

jobs-of-tasks : (output scan node : ℕ) (next : Next) (item : Item)
    → map (λ tree_job. tree_job.of) (jobs_of output scan node item) ≡ map (λ task. task.0) (tasks_of next item)
jobs-of-tasks output scan node next item =
    let exprs = subexpressions_of item in
    let expr_of = λ (tree_job : TreeJob). tree_job.of in
    let task_of = λ (task : Task). task.0 in
    map-both expr_of task_of (reverse (scan_jobs scan node exprs)) (output_jobs output node item) (reverse (scanned next.scan exprs))
    (output_task next item)
    (map-reverse expr_of (scan_jobs scan node exprs) ∙ ap (λ l. reverse l) (scans-of-tasks scan node next.scan exprs)
    ∙ sym (map-reverse task_of (scanned next.scan exprs)))
    (output-of-tasks output node next item)

tasks-from : (output scan node number : ℕ) (next : Next) (items : List Item)
    → map (λ tree_job. tree_job.of) (jobs_from output scan node items) ≡ map (λ o. o.task.0) (owned_from number next items)
tasks-from output scan node number next [] = refl
tasks-from output scan node number next (item ∷ items) =
    let expr_of = λ (tree_job : TreeJob). tree_job.of in
    let owned_expr = λ (o : Owned). o.task.0 in
    let later = output + length (output_jobs output node item) in
    map-both expr_of owned_expr (jobs_of output scan node item)
    (jobs_from later (scan + length (scans_of item)) (node + length (subexpressions_of item)) items)
    (map (owned_by number) (tasks_of next item)) (owned_from (suc number) (next_after next item) items)
    (jobs-of-tasks output scan node next item ∙ sym (map-map owned_expr (owned_by number) (tasks_of next item)))
    (tasks-from later (scan + length (scans_of item)) (node + length (subexpressions_of item)) (suc number) (next_after next item) items)

pub tasks-owned : (items : List Item) → map (λ tree_job. tree_job.of) (jobs items) ≡ map (λ o. o.task.0) (owned items)
tasks-owned items = tasks-from (first items).output (first items).scan 0 0 (first items) items

-- ---- scans

-- the scans in what a job gives have areas from its task's on
abbrev IsScanned : Next → TreeJob → Task → Type 0
IsScanned next tree_job task = task.1 ≡ first_scan next.scan tree_job.job.area tree_job.job.fold

scans-scanned : (next : Next) (scan node : ℕ) (exprs : List Expr) → AllZip (IsScanned next) (scan_jobs scan node exprs) (scanned scan exprs)
scans-scanned next scan node [] = tt
scans-scanned next scan node (Scan fold of ∷ others) = (refl, scans-scanned next (suc scan) (suc node) others)
scans-scanned next scan node (other ∷ others) = scans-scanned next scan (suc node) others

output-scanned : (next : Next) (area node : ℕ) (item : Item) → AllZip (IsScanned next) (output_jobs area node item) (output_task next item)
output-scanned next area node (Input name extents) = tt
output-scanned next area node (Let name of) = tt
output-scanned next area node (Output name of) = (refl, tt)

jobs-scanned : (next : Next) (output node : ℕ) (item : Item) → AllZip (IsScanned next) (jobs_of output next.scan node item) (tasks_of next item)
jobs-scanned next output node item =
    let exprs = subexpressions_of item in
    zip-append (IsScanned next) (reverse (scan_jobs next.scan node exprs)) (output_jobs output node item)
    (reverse (scanned next.scan exprs)) (output_task next item)
    (zip-reverse (IsScanned next) (scan_jobs next.scan node exprs) (scanned next.scan exprs) (scans-scanned next next.scan node exprs))
    (output-scanned next output node item)

-- the same among the areas before the task's statement
abbrev IsScannedAt : (ℕ → Scope) → TreeJob → Owned → Type 0
IsScannedAt at tree_job o = IsScanned (at o.statement).next tree_job o.task

scanned-from : (at : ℕ → Scope) (number : ℕ) (items : List Item) → AreScopes at number items → (output node : ℕ)
    → AllZip (IsScannedAt at) (jobs_from output (at number).next.scan node items) (owned_from number (at number).next items)
scanned-from at number [] h output node = tt
scanned-from at number (item ∷ items) h output node =
    let next = (at number).next in
    let later = output + length (output_jobs output node item) in
    let behind = node + length (subexpressions_of item) in
    zip-append (IsScannedAt at) (jobs_of output next.scan node item) (jobs_from later (scope_after (at number) item).next.scan behind items)
    (map (owned_by number) (tasks_of next item)) (owned_from (suc number) (next_after next item) items)
    (zip-map (IsScannedAt at) (owned_by number) (jobs_of output next.scan node item) (tasks_of next item) (jobs-scanned next output node item))
    (subst (λ scope. AllZip (IsScannedAt at) (jobs_from later scope.next.scan behind items) (owned_from (suc number) scope.next items)) h.0
    (scanned-from at (suc number) items h.1 later behind))

pub scan-of-owned : (items : List Item) (number : ℕ) (tree_job : TreeJob) (o : Owned) → slice_get (jobs items) number ≡ Some tree_job
    → slice_get (owned items) number ≡ Some o → o.task.1 ≡ first_scan (next_at items o.statement).scan tree_job.job.area tree_job.job.fold
scan-of-owned items number tree_job o =
    zip-at (IsScannedAt (scope_at items)) (jobs items) (owned items)
    (scanned-from (scope_at items) 0 items (are-scopes items) (first items).output 0) number tree_job o

-- ---- shapes

-- the shape of a task's array
abbrev shape_at : (ℕ → Scope) → Owned → List ℕ
shape_at at o = shape_in (at o.statement).names o.task.0

tasks-shaped : (env : Env) (at : ℕ → Scope) (number : ℕ) → env_shapes env ≡ shapes_of (at number).names → (tasks : List Task)
    → map (λ array. array.shape) (map (task_given env) tasks) ≡ map (shape_at at) (map (owned_by number) tasks)
tasks-shaped env at number same [] = refl
tasks-shaped env at number same (task ∷ tasks) =
    ap (λ shapes. shape_of shapes task.0 ∷ map (λ array. array.shape) (map (task_given env) tasks)) same
    ∙ ap (λ l. shape_in (at number).names task.0 ∷ l) (tasks-shaped env at number same tasks)

shaped-from : (inputs : Lists) (env : Env) (at : ℕ → Scope) (number : ℕ) (items : List Item) → env_shapes env ≡ shapes_of (at number).names
    → AreScopes at number items
    → map (λ array. array.shape) (given_from inputs env (at number).next items) ≡ map (shape_at at) (owned_from number (at number).next items)
shaped-from inputs env at number [] same h = refl
shaped-from inputs env at number (item ∷ items) same h =
    let next = (at number).next in
    let later = env_after inputs env item in
    let shape = λ (array : Given). array.shape in
    let known = shapes-alike inputs env (at number).names next item same ∙ ap (λ scope. shapes_of scope.names) (sym h.0) in
    map-both shape (shape_at at) (map (task_given env) (tasks_of next item)) (given_from inputs later (next_after next item) items)
    (map (owned_by number) (tasks_of next item)) (owned_from (suc number) (next_after next item) items)
    (tasks-shaped env at number same (tasks_of next item))
    (subst (λ scope. map shape (given_from inputs later scope.next items) ≡ map (shape_at at) (owned_from (suc number) scope.next items)) h.0
    (shaped-from inputs later at (suc number) items known h.1))

pub shapes-owned : (inputs : Lists) (items : List Item)
    → map (λ array. array.shape) (given inputs items) ≡ map (λ o. shape_in (names_at items o.statement) o.task.0) (owned items)
shapes-owned inputs items = shaped-from inputs [] (scope_at items) 0 items refl (are-scopes items)

-- ---- statements

owned-below : (number : ℕ) (next : Next) (items : List Item)
    → AllByRecursion (λ o. o.statement < number + length items) (owned_from number next items)
owned-below number next [] = tt
owned-below number next (item ∷ items) =
    let below = λ (o : Owned). o.statement < number + suc (length items) in
    each-append below (map (owned_by number) (tasks_of next item)) (owned_from (suc number) (next_after next item) items)
    (each-made below (owned_by number) (λ task. omega arith) (tasks_of next item))
    (each-follows (λ o. o.statement < suc number + length items) below (λ o h. omega (arith, h))
    (owned_from (suc number) (next_after next item) items) (owned-below (suc number) (next_after next item) items))

pub owned-there : (items : List Item) (number : ℕ) (o : Owned) → slice_get (owned items) number ≡ Some o → o.statement < length items
owned-there items number o e =
    let below : o.statement < 0 + length items = each-at (λ o. o.statement < 0 + length items) (owned items) (owned-below 0 (first items) items)
    number o e in
    omega (arith, below)
