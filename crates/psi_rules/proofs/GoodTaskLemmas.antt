-- The expression of each job of an accepted program is accepted, with few nodes and with numbers for the areas of its scans.
use Rattle.std.specs.Prelude.{◌≡◌, ℕ, suc, ◌+◌, ◌≤◌, List, [], ◌∷◌, ◌++◌, length, map, reverse, slice_get, Ok, Some}
use Rattle.std.specs.List.{AllByRecursion, flat_map}
use Rattle.std.proofs.Common.{refl, ap, subst, ◌∙◌, arith, length-append, le_trans}
use Rattle.std.proofs.lemmas.Grind.{flat_map-append}
use Rattle.std.proofs.lemmas.List.{reverse-reverse}
use Rattle.shapes_core.specs.Limits.{greatest_size, most_items}
use Rattle.moa_tree.specs.Expr.{Expr, Number, Use, Iota, One, Two, Psi, Take, Drop, Reverse, Rotate, Transpose, Permute, Cat, Reshape, Ravel, Outer, Inner, Reduce, Scan, Item, Input, Let, Output}
use Rattle.moa_tree.specs.ShapeOf.{Shapes}
use Rattle.moa_tree.specs.Subexpressions.{if_scan, scans_in, subexpressions}
use Rattle.shape_check.specs.Costs.{Prices, job_size, sum_over}
use Rattle.shape_check.specs.Jobs.{jobs_of, output_jobs, scan_jobs}
use Rattle.shape_check.specs.Statements.{verdict_of}
use Rattle.psi_rules.specs.Jobs.{Next, Task, next_after, scanned, tasks_of}
use Rattle.psi_rules.specs.Numbered.{IsGoodTask, greatest_area, prices_at}
use Rattle.psi_rules.specs.Operands.{IsAccepted, OperandsMove}
use Rattle.psi_rules.specs.Rules.{Names, shapes_of}
use Rattle.psi_rules.specs.Scopes.{Owned, Scope, names_at, next_at, owned, owned_from, scope_at}
use Rattle.psi_rules.proofs.CountLemmas.{accepted-at, all_areas, areas-at, cost-at, scan_count, scans-at}
use Rattle.psi_rules.proofs.JobLemmas.{AcceptsEach, IsAcceptedItem}
use Rattle.psi_rules.proofs.KeepTaskLemmas.{IsCheap, jobs-cheap}
use Rattle.psi_rules.proofs.ListLemmas.{each-append, each-at, each-cut, each-mapped, each-reverse}
use Rattle.psi_rules.proofs.OwnedLemmas.{AreScopes, are-scopes}

-- ---- the scans of a statement

module _ (names : Names) (prices : Prices) (moves : OperandsMove (shapes_of names)) (count : ℕ) where
  -- an accepted expression with no more scans than so many
  abbrev Good : Expr → Type 0
  Good expr = IsAccepted (shapes_of names) expr × (length (scans_in expr) ≤ count)

  abbrev AreGood : List Expr → Type 0
  AreGood exprs = AllByRecursion Good exprs

  both-good : (left right : Expr) → AreGood (subexpressions left) → AreGood (subexpressions right)
      → AreGood (subexpressions left ++ subexpressions right)
  both-good left right h k = each-append Good (subexpressions left) (subexpressions right) h k

  scans-left : (left right : Expr) → length (flat_map if_scan (subexpressions left ++ subexpressions right)) ≤ count
      → (length (scans_in left) ≤ count) × (length (scans_in right) ≤ count)
  scans-left left right h =
      let both : length (flat_map if_scan (subexpressions left ++ subexpressions right)) ≡ length (scans_in left) + length (scans_in right) =
      ap length (flat_map-append if_scan (subexpressions left) (subexpressions right)) ∙ length-append (scans_in left) (scans_in right) in
      (omega (arith, h, both), omega (arith, h, both))

  all-good : (expr : Expr) → IsAccepted (shapes_of names) expr → length (scans_in expr) ≤ count → AreGood (subexpressions expr)
  all-good (Number value) h few = ((h, few), tt)
  all-good (Use name) h few = ((h, few), tt)
  all-good (Iota extent) h few = ((h, few), tt)
  all-good (One op of) h few = ((h, few), all-good of (moves.one op of h) few)
  all-good (Two op left right) h few =
      let k = moves.two op left right h in
      let less = scans-left left right few in ((h, few), both-good left right (all-good left k.0 less.0) (all-good right k.1 less.1))
  all-good (Psi list of) h few = ((h, few), all-good of (moves.psi list of h).0 few)
  all-good (Take list of) h few = ((h, few), all-good of (moves.takes list of h).0 few)
  all-good (Drop list of) h few = ((h, few), all-good of (moves.drops list of h).0 few)
  all-good (Reverse of) h few = ((h, few), all-good of (moves.reverses of h).0 few)
  all-good (Rotate by of) h few = ((h, few), all-good of (moves.rotates by of h).0 few)
  all-good (Transpose of) h few = ((h, few), all-good of (moves.transposes of h).0 few)
  all-good (Permute list of) h few = ((h, few), all-good of (moves.permutes list of h).0 few)
  all-good (Cat left right) h few =
      let k = moves.cat left right h in
      let less = scans-left left right few in ((h, few), both-good left right (all-good left k.0 less.0) (all-good right k.1 less.1))
  all-good (Reshape list of) h few = ((h, few), all-good of (moves.reshapes list of h).0 few)
  all-good (Ravel of) h few = ((h, few), all-good of (moves.ravels of h) few)
  all-good (Outer op left right) h few =
      let k = moves.outer op left right h in
      let less = scans-left left right few in ((h, few), both-good left right (all-good left k.0 less.0) (all-good right k.1 less.1))
  all-good (Inner fold op left right) h few =
      let k = moves.inner fold op left right h in
      let less = scans-left left right few in ((h, few), both-good left right (all-good left k.0 less.0) (all-good right k.1 less.1))
  all-good (Reduce fold of) h few = ((h, few), all-good of (moves.reduces fold of h).0 few)
  all-good (Scan fold of) h few = ((h, few), all-good of (moves.scans fold of h) (omega (arith, few)))

  scans-good : (scan area number : ℕ) (exprs : List Expr) → AreGood exprs → AllByRecursion (IsCheap prices) (scan_jobs area number exprs)
      → scan + length (flat_map if_scan exprs) + count ≤ greatest_area
      → AllByRecursion (IsGoodTask names prices) (scanned scan exprs)
  scans-good scan area number [] good cheap areas = tt
  scans-good scan area number (Scan fold of ∷ others) good cheap areas = (
    record {
      accepted = moves.scans fold of good.0.0;
      few = cheap.0;
      areas = let inner = good.0.1 in omega (arith, areas, inner);
    },
    scans-good (suc scan) (suc area) (suc number) others good.1 cheap.1 (omega (arith, areas)),
  )
  scans-good scan area number (other ∷ others) good cheap areas = scans-good scan area (suc number) others good.1 cheap areas

  turned-good : (scan : ℕ) (of : Expr) → IsAccepted (shapes_of names) of → length (scans_in of) ≤ count
      → AllByRecursion (IsCheap prices) (reverse (scan_jobs 0 0 (subexpressions of)))
      → scan + count + count ≤ greatest_area
      → AllByRecursion (IsGoodTask names prices) (reverse (scanned scan (subexpressions of)))
  turned-good scan of accepted few cheap areas =
      each-reverse (IsGoodTask names prices) (scanned scan (subexpressions of))
      (scans-good scan 0 0 (subexpressions of) (all-good of accepted few)
      (subst (AllByRecursion (IsCheap prices)) (reverse-reverse (scan_jobs 0 0 (subexpressions of)))
      (each-reverse (IsCheap prices) (reverse (scan_jobs 0 0 (subexpressions of))) cheap))
      (omega (arith, areas, few)))

-- the tasks of a statement
pub tasks-good : (names : Names) (prices : Prices) (next : Next) (item : Item) → OperandsMove (shapes_of names)
    → IsAcceptedItem (shapes_of names) item → AllByRecursion (IsCheap prices) (jobs_of 0 0 0 item)
    → next.scan + scan_count item ≤ all_areas → scan_count item ≤ greatest_size
    → AllByRecursion (IsGoodTask names prices) (tasks_of next item)
tasks-good names prices next (Input name extents) moves accepted cheap areas few = tt
tasks-good names prices next (Let name of) moves accepted cheap areas few =
    let count = length (scans_in of) in
    let parts = each-cut (IsCheap prices) (reverse (scan_jobs 0 0 (subexpressions of))) [] cheap in
    each-append (IsGoodTask names prices) (reverse (scanned next.scan (subexpressions of))) []
    (turned-good names prices moves count next.scan of accepted (omega arith) parts.0 (omega (arith, areas, few))) tt
tasks-good names prices next (Output name of) moves accepted cheap areas few =
    let count = length (scans_in of) in
    let parts = each-cut (IsCheap prices) (reverse (scan_jobs 0 0 (subexpressions of))) (output_jobs 0 0 (Output name of)) cheap in
    each-append (IsGoodTask names prices) (reverse (scanned next.scan (subexpressions of))) ((of, next.scan) ∷ [])
    (turned-good names prices moves count next.scan of accepted (omega arith) parts.0 (omega (arith, areas, few)))
    (record { accepted = accepted; few = parts.1.0; areas = omega (arith, areas, few) }, tt)

-- ---- all tasks

-- what is said of the tasks of each statement is said of all
pub each-owned : (P : ℕ → Task → Type 0) (at : ℕ → Scope) (number : ℕ) (items : List Item) → AreScopes at number items
    → ((k : ℕ) (item : Item) → slice_get items k ≡ Some item → AllByRecursion (P (number + k)) (tasks_of (at (number + k)).next item))
    → AllByRecursion (λ (o : Owned). P o.statement o.task) (owned_from number (at number).next items)
each-owned P at number [] scopes each = tt
each-owned P at number (item ∷ items) scopes each =
    let here : number + 0 ≡ number = omega arith in
    let said : Owned → Type 0 = λ o. P o.statement o.task in
    let tasks = tasks_of (at number).next item in
    let rest = each-owned P at (suc number) items scopes.1 (λ k other e.
    let behind : number + suc k ≡ suc number + k = omega arith in
    subst (λ n. AllByRecursion (P n) (tasks_of (at n).next other)) behind (each (suc k) other e)) in
    each-append said (map (λ task. record { statement = number; task = task }) tasks)
    (owned_from (suc number) (next_after (at number).next item) items)
    (each-mapped (P number) said (λ task. record { statement = number; task = task }) (λ task h. h) tasks
    (subst (λ n. AllByRecursion (P n) (tasks_of (at n).next item)) here (each 0 item refl)))
    (subst (λ next. AllByRecursion said (owned_from (suc number) next items)) (ap (λ scope. scope.next) scopes.0) rest)

-- the tasks of an accepted program are good
pub owned-good : ((shapes : Shapes) → OperandsMove shapes) → AcceptsEach Let → AcceptsEach Output → (items : List Item) (shapes : Shapes)
    → verdict_of items ≡ Ok shapes → length items ≤ most_items → sum_over job_size [] items ≤ greatest_size
    → (number : ℕ) (o : Owned) → slice_get (owned items) number ≡ Some o
    → IsGoodTask (names_at items o.statement) (prices_at items o.statement) o.task
owned-good moves lets outputs items shapes ok few small number o e =
    let P : ℕ → Task → Type 0 = λ n task. IsGoodTask (names_at items n) (prices_at items n) task in
    each-at (λ (o : Owned). P o.statement o.task) (owned items)
    (each-owned P (scope_at items) 0 items (are-scopes items) (λ k item there.
    let here : k ≡ 0 + k = omega arith in
    subst (λ n. AllByRecursion (P n) (tasks_of (scope_at items n).next item)) here
    (tasks-good (names_at items k) (prices_at items k) (next_at items k) item (moves (shapes_of (names_at items k)))
    (accepted-at lets outputs items shapes k item ok there)
    (jobs-cheap (prices_at items k) (jobs_of 0 0 0 item) (le_trans (cost-at job_size [] items k item there) small))
    (areas-at items k item few small there).scan (scans-at items k item small there)))) number o e
