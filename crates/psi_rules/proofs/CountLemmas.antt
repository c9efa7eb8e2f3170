-- How many jobs and areas a program has, and what is known of the statement of each number.
use Rattle.std.specs.Prelude.{◌≡◌, ℕ, zero, suc, ◌+◌, ◌≤◌, List, [], ◌∷◌, ◌++◌, drop, length, reverse, take, slice_get, Some, Ok}
use Rattle.std.specs.List.{flat_map, fold, sum_by}
use Rattle.std.proofs.Common.{refl, ap, sym, subst, ◌∙◌, arith, length-append}
use Rattle.std.proofs.lemmas.List.{length-reverse, take-append-drop}
use Rattle.std.proofs.lemmas.List.Sums.{sum_by-cons}
use Rattle.std.proofs.lemmas.Option.{none-some, same_Some}
use Rattle.shapes_core.specs.Limits.{greatest_size, most_items}
use Rattle.moa_tree.specs.Denotation.{scans_of}
use Rattle.moa_tree.specs.Expr.{Expr, Scan, Item, Input, Let, Output}
use Rattle.moa_tree.specs.ShapeOf.{Shapes}
use Rattle.moa_tree.specs.Subexpressions.{if_scan, subexpressions_of}
use Rattle.shape_check.specs.Costs.{Prices, job_size, prices_after, sum_over}
use Rattle.shape_check.specs.Jobs.{TreeJob, input_count, jobs_of, output_count, output_jobs, scan_jobs}
use Rattle.shape_check.specs.Statements.{verdict_of}
use Rattle.psi_rules.specs.Jobs.{Next, first}
use Rattle.psi_rules.specs.Rules.{shapes_of}
use Rattle.psi_rules.specs.Scopes.{Scope, names_at, next_at, scope_after}
use Rattle.psi_rules.proofs.JobLemmas.{AcceptsEach, IsAcceptedItem, item-accepted}
use Rattle.psi_rules.proofs.KeepJobLemmas.{outputs-many}
use Rattle.psi_rules.proofs.RowLemmas.{left-of}
use Rattle.psi_rules.proofs.ScopeLemmas.{shapes-at}

-- ---- jobs

-- each scan has a job
scan-jobs-counted : (area node : ℕ) (exprs : List Expr) → length (scan_jobs area node exprs) ≡ length (flat_map if_scan exprs)
scan-jobs-counted area node [] = refl
scan-jobs-counted area node (Scan fold of ∷ others) = ap suc (scan-jobs-counted (suc area) (suc node) others)
scan-jobs-counted area node (other ∷ others) = scan-jobs-counted area (suc node) others

jobs-counted : (item : Item) → length (jobs_of 0 0 0 item) ≡ length (scans_of item) + output_count item
jobs-counted item =
    let scans = scan_jobs 0 0 (subexpressions_of item) in
    let both = length-append (reverse scans) (output_jobs 0 0 item) in
    omega (arith, both, length-reverse scans, scan-jobs-counted 0 0 (subexpressions_of item), outputs-many 0 0 item, scans-so item)
  where
    scans-so : (item : Item) → length (flat_map if_scan (subexpressions_of item)) ≡ length (scans_of item)
    scans-so (Input name extents) = refl
    scans-so (Let name of) = refl
    scans-so (Output name of) = refl

-- each job has a size
jobs-sized : (prices : Prices) (jobs : List TreeJob) → length jobs ≤ sum_by (job_size prices) jobs
jobs-sized prices [] = omega arith
jobs-sized prices (job ∷ jobs) = omega (arith, jobs-sized prices jobs, sum_by-cons (job_size prices) job jobs)

-- the scans of a statement
abbrev pub scan_count : Item → ℕ
scan_count item = length (scans_of item)

pub scans-sized : (prices : Prices) (items : List Item) → sum_by scan_count items + sum_by output_count items ≤ sum_over job_size prices items
scans-sized prices [] = omega arith
scans-sized prices (item ∷ items) =
    omega (
      arith,
      jobs-counted item,
      jobs-sized prices (jobs_of 0 0 0 item),
      scans-sized (prices_after prices item) items,
      sum_by-cons scan_count item items,
      sum_by-cons output_count item items,
    )

-- the jobs of the statement of a number cost no more than all
pub cost-at : (cost : Prices → TreeJob → ℕ) (prices : Prices) (items : List Item) (number : ℕ) (item : Item) → slice_get items number ≡ Some item
    → sum_by (cost (fold prices_after prices (take number items))) (jobs_of 0 0 0 item) ≤ sum_over cost prices items
cost-at cost prices [] number item e = absurd (none-some item e)
cost-at cost prices (front ∷ items) zero item e =
    let same = same_Some front item e in
    let here = ap (λ i. sum_by (cost prices) (jobs_of 0 0 0 i)) same in
    omega (arith, here)
cost-at cost prices (front ∷ items) (suc number) item e = omega (arith, cost-at cost (prices_after prices front) items number item e)

-- ---- areas

stored-few : (items : List Item) → sum_by input_count items + sum_by output_count items ≤ length items
stored-few [] = omega arith
stored-few (Input name extents ∷ items) =
    omega (arith, stored-few items, sum_by-cons input_count (Input name extents) items, sum_by-cons output_count (Input name extents) items)
stored-few (Let name of ∷ items) =
    omega (arith, stored-few items, sum_by-cons input_count (Let name of) items, sum_by-cons output_count (Let name of) items)
stored-few (Output name of ∷ items) =
    omega (arith, stored-few items, sum_by-cons input_count (Output name of) items, sum_by-cons output_count (Output name of) items)

-- the areas that come next, and those of these statements, are no more than so many
record IsLeft (most : ℕ) (next : Next) (items : List Item) : Type 0 where
  pub input : next.input + sum_by input_count items ≤ most
  pub output : next.output + sum_by output_count items ≤ most
  pub scan : next.scan + sum_by scan_count items ≤ most

-- what the statement of a number adds to the areas before it
pub record IsCounted (most : ℕ) (next : Next) (item : Item) : Type 0 where
  pub input : next.input + input_count item ≤ most
  pub output : next.output + output_count item ≤ most
  pub scan : next.scan + scan_count item ≤ most

left-at : (most : ℕ) (scope : Scope) (items : List Item) (number : ℕ) (item : Item) → IsLeft most scope.next items
    → slice_get items number ≡ Some item → IsCounted most (fold scope_after scope (take number items)).next item
left-at most scope [] number item h e = absurd (none-some item e)
left-at most scope (front ∷ items) zero item h e =
    let same = same_Some front item e in
    subst (IsCounted most scope.next) same (record {
      input = omega (arith, h.input, sum_by-cons input_count front items);
      output = omega (arith, h.output, sum_by-cons output_count front items);
      scan = omega (arith, h.scan, sum_by-cons scan_count front items);
    })
left-at most scope (front ∷ items) (suc number) item h e =
    left-at most (scope_after scope front) items number item (record {
      input = omega (arith, h.input, sum_by-cons input_count front items);
      output = omega (arith, h.output, sum_by-cons output_count front items);
      scan = omega (arith, h.scan, sum_by-cons scan_count front items);
    }) e

-- the most areas of a program
abbrev pub all_areas : ℕ
all_areas = most_items + greatest_size

pub areas-at : (items : List Item) (number : ℕ) (item : Item) → length items ≤ most_items → sum_over job_size [] items ≤ greatest_size
    → slice_get items number ≡ Some item → IsCounted all_areas (next_at items number) item
areas-at items number item few small e =
    let stored = stored-few items in
    let scans = scans-sized [] items in
    left-at all_areas (record { names = []; next = first items }) items number item (record {
      input = omega (arith, few, stored);
      output = omega (arith, few, stored);
      scan = omega (arith, few, small, stored, scans);
    }) e

pub scans-at : (items : List Item) (number : ℕ) (item : Item) → sum_over job_size [] items ≤ greatest_size → slice_get items number ≡ Some item
    → scan_count item ≤ greatest_size
scans-at items number item small e =
    omega (
      arith,
      small,
      cost-at job_size [] items number item e,
      jobs-counted item,
      jobs-sized (fold prices_after [] (take number items)) (jobs_of 0 0 0 item),
    )

-- ---- the statement of a number is accepted among the names before it

pub accepted-at : AcceptsEach Let → AcceptsEach Output → (items : List Item) (shapes : Shapes) (number : ℕ) (item : Item)
    → verdict_of items ≡ Ok shapes → slice_get items number ≡ Some item → IsAcceptedItem (shapes_of (names_at items number)) item
accepted-at lets outputs items shapes number item ok e =
    let whole : take number items ++ item ∷ drop (suc number) items ≡ items =
    ap (λ rest. take number items ++ rest) (sym (left-of items number item e)) ∙ take-append-drop number items in
    subst (λ known. IsAcceptedItem known item) (sym (shapes-at items number))
    (item-accepted lets outputs (take number items) (drop (suc number) items) item shapes (ap verdict_of whole ∙ ok))
