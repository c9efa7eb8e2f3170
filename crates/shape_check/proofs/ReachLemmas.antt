-- From one statement to the next.
use Rattle.std.proofs.Common.{◌≡◌, ℕ, suc, ◌+◌, ◌<◌, ◌≤◌, true, false, cond, List, [], ◌∷◌, ◌++◌, refl, ap, sym, subst, ◌∙◌, arith, inl, inr, length, map, append_assoc, length-append, ◌||◌}
use Rattle.std.specs.Prelude.{◌==◌, IfErr, OnOk, Ok, Err, Some, Result, eqb, slice_get, ⊤}
use Rattle.std.specs.List.{AllByRecursion, IsDistinct, count_by, flat_map, list_any, sum_by}
use Rattle.std.proofs.lemmas.Bool.{cases_eq, eq-eqb, false≢true, ne_eqb}
use Rattle.std.proofs.lemmas.List.{length-map, map-append}
use Rattle.std.proofs.lemmas.List.Sums.{sum_by-cons}
use Rattle.std.proofs.lemmas.Map.Steps.{length-le_from_distinct_below}
use Rattle.std.proofs.lemmas.Result.{IfErr-weaker, on_ok_weaker}
use Rattle.shapes_core.specs.Limits.{most_items}
use Rattle.shapes_core.specs.declared.area.AreaKind.TheVariants as area
use Rattle.moa_tree.specs.declared.tree.Statement.{Statement}
use Rattle.moa_tree.specs.Denotation.{scans_of}
use Rattle.moa_tree.specs.Expr.{Expr, Input, Item, Let, Output}
use Rattle.moa_tree.specs.Pool.{item_of, trees, walk_of}
use Rattle.moa_tree.specs.Pools.{IsProgram, Pools, nodes_of, walk}
use Rattle.shape_check.specs.Judged.{items_in}
use Rattle.moa_tree.specs.ShapeOf.{Shapes, shape_of}
use Rattle.moa_tree.specs.Subexpressions.{if_scan, subexpressions, subexpressions_of}
use Rattle.shape_check.specs.declared.error.CheckError.{CheckError}
use Rattle.shape_check.specs.declared.error.CheckError.TheVariants as error
use Rattle.shape_check.specs.declared.inventory.Inventory.{Inventory}
use Rattle.shape_check.specs.declared.progress.Progress.{Progress}
use Rattle.shape_check.specs.Costs.{Prices, job_size, job_work, prices_after, shapes_of, sum_over}
use Rattle.shape_check.specs.Jobs.{jobs_from, jobs_of, output_jobs}
use Rattle.shape_check.specs.Judged.{capped}
use Rattle.shape_check.specs.Kept.{IsRefusedSo, pooled, shapes_at}
use Rattle.shape_check.specs.Layout.{gathered, input_of, name_of, numbered, output_of, scan_shapes, shapes_after}
use Rattle.shape_check.specs.Kept.{Explains}
use Rattle.shape_check.specs.Progress.{Adds, Fails, FailsAt, IsReached, Reached, left_of, next_output, next_scan, nodes_shapes, own_shape, walked}
use Rattle.shape_check.specs.Statements.{program_limits, verdict_from}
use Rattle.shape_check.specs.Verdict.{and_then, judged}
use Rattle.shape_check.proofs.ScanLemmas.{length-numbered}
use Rattle.shape_check.proofs.StatementLemmas.{WalksOnce, WalksWithin, left_next, walk_around, walked_later}

shapes-after : (prices : Prices) (item : Item) → shapes_of (prices_after prices item) ≡ shapes_after (shapes_of prices) item
shapes-after prices (Input name extents) = refl
shapes-after prices (Let name of) = refl
shapes-after prices (Output name of) = refl

few-outputs : (shapes : Shapes) (item : Item) → length (output_of shapes item) ≤ 1
few-outputs shapes (Input name extents) = omega arith
few-outputs shapes (Let name of) = omega arith
few-outputs shapes (Output name of) = omega arith

outputs-jobs : (shapes : Shapes) (o n : ℕ) (item : Item) → length (output_of shapes item) ≡ length (output_jobs o n item)
outputs-jobs shapes o n (Input name extents) = refl
outputs-jobs shapes o n (Let name of) = refl
outputs-jobs shapes o n (Output name of) = refl

if-few : (e : Expr) → length (if_scan e) ≤ 1
if-few (Rattle.moa_tree.specs.Expr.Scan fold of) = omega arith
if-few e = omega arith

few-in : (es : List Expr) → length (flat_map if_scan es) ≤ length es
few-in [] = omega arith
few-in (e ∷ es) = omega (arith, few-in es, if-few e, length-append (if_scan e) (flat_map if_scan es))

few-of : (item : Item) → length (scans_of item) ≤ length (subexpressions_of item)
few-of (Input name extents) = omega arith
few-of (Let name of) = few-in (subexpressions of)
few-of (Output name of) = few-in (subexpressions of)

numbered-append : (n : ℕ) (xs ys : List (List ℕ)) → numbered n (xs ++ ys) ≡ numbered n xs ++ numbered (n + length xs) ys
numbered-append n [] ys = ap (λ k. numbered k ys) (omega arith)
numbered-append n (x ∷ xs) ys =
    ap (λ l. (area.Scan n, x) ∷ l)
    (numbered-append (suc n) xs ys ∙ ap (λ k. numbered (suc n) xs ++ numbered k ys) (omega arith))

module _ (pools : Pools) (inventory : Inventory) (count : ℕ) (s : Statement) (there : slice_get pools.statements count ≡ Some s) (old new : Progress) (prices : Prices)
    (reached : IsReached pools inventory count old prices) (adds : Adds pools inventory prices count (item_of pools.numbers (trees pools.numbers pools.nodes) s) old new) where
  abbrev item : Item
  item = item_of pools.numbers (trees pools.numbers pools.nodes) s

  abbrev rest : List Item
  rest = left_of pools (suc count)

  abbrev w : List ℕ
  w = walked pools count

  left : left_of pools count ≡ item ∷ rest
  left = left_next pools count s there

  longer : length (walked pools (suc count)) ≡ length w + length (subexpressions_of item)
  longer =
      let a = ap length adds.nodes in
      let b = length-map (walked pools (suc count)) (λ number. Rattle.std.specs.Prelude.slice_index_or new.shapes.items number []) in
      let c = length-append (shapes_at old.shapes.items w) (nodes_shapes (shapes_of prices) item) in
      let d = length-map w (λ number. Rattle.std.specs.Prelude.slice_index_or old.shapes.items number []) in
      let e = length-map (subexpressions_of item) (shape_of (shapes_of prices)) in
      omega (arith, a, b, c, d, e)

  gather : {X : Type 0} (f : Shapes → Item → List X) (x y total : List X) → x ++ gathered f (shapes_of prices) (left_of pools count) ≡ total
      → y ≡ x ++ f (shapes_of prices) item → y ++ gathered f (shapes_of (prices_after prices item)) rest ≡ total
  gather f x y total before e =
      ap (λ sh. y ++ gathered f sh rest) (shapes-after prices item)
      ∙ ap (λ l. l ++ gathered f (shapes_after (shapes_of prices) item) rest) e
      ∙ append_assoc x (f (shapes_of prices) item) (gathered f (shapes_after (shapes_of prices) item) rest)
      ∙ ap (λ l. x ++ gathered f (shapes_of prices) l) (sym left) ∙ before

  scan-count : length (scan_shapes (shapes_of prices) item) ≡ length (scans_of item)
  scan-count = length-map (scans_of item) (shape_of (shapes_of prices))

  scans-longer : length new.scans.items ≡ length old.scans.items + length (scans_of item)
  scans-longer =
      let a = ap length adds.scans ∙ length-append old.scans.items (numbered (length old.scans.items) (scan_shapes (shapes_of prices) item)) in
      let b = length-numbered (length old.scans.items) (scan_shapes (shapes_of prices) item) in
      omega (arith, a, b, scan-count)

  outputs-longer : length new.outputs.items ≡ length old.outputs.items + length (output_of (shapes_of prices) item)
  outputs-longer = ap length adds.outputs ∙ length-append old.outputs.items (output_of (shapes_of prices) item)

  jobs-next : new.jobs.items ++ map (pooled (walk pools)) (jobs_from (next_output inventory new) (next_scan inventory new) (length (walked pools (suc count))) rest)
      ≡ map (pooled (walk pools)) (jobs_from inventory.inputs (inventory.inputs + inventory.outputs) 0 (items_in pools))
  jobs-next =
      let o = next_output inventory old in
      let sc = next_scan inventory old in
      let n = length w in
      let eo : next_output inventory new ≡ o + length (output_jobs o n item) = omega (arith, outputs-longer, outputs-jobs (shapes_of prices) o n item) in
      let es : next_scan inventory new ≡ sc + length (scans_of item) = omega (arith, scans-longer) in
      ap (λ k. new.jobs.items ++ map (pooled (walk pools)) (jobs_from k (next_scan inventory new) (length (walked pools (suc count))) rest)) eo
      ∙ ap (λ k. new.jobs.items ++ map (pooled (walk pools)) (jobs_from (o + length (output_jobs o n item)) k (length (walked pools (suc count))) rest)) es
      ∙ ap (λ k. new.jobs.items ++ map (pooled (walk pools)) (jobs_from (o + length (output_jobs o n item)) (sc + length (scans_of item)) k rest)) longer
      ∙ ap (λ l. l ++ map (pooled (walk pools)) (jobs_from (o + length (output_jobs o n item)) (sc + length (scans_of item)) (n + length (subexpressions_of item)) rest)) adds.jobs
      ∙ append_assoc old.jobs.items (map (pooled (walk pools)) (jobs_of o sc n item))
      (map (pooled (walk pools)) (jobs_from (o + length (output_jobs o n item)) (sc + length (scans_of item)) (n + length (subexpressions_of item)) rest))
      ∙ ap (λ l. old.jobs.items ++ l)
      (sym (map-append (pooled (walk pools)) (jobs_of o sc n item) (jobs_from (o + length (output_jobs o n item)) (sc + length (scans_of item)) (n + length (subexpressions_of item)) rest)))
      ∙ ap (λ l. old.jobs.items ++ map (pooled (walk pools)) (jobs_from o sc n l)) (sym left) ∙ reached.jobs

  scans-next : new.scans.items ++ numbered (length new.scans.items) (gathered scan_shapes (shapes_of (prices_after prices item)) rest)
      ≡ numbered 0 (gathered scan_shapes [] (items_in pools))
  scans-next =
      let k = length old.scans.items in
      let here = scan_shapes (shapes_of prices) item in
      let later = gathered scan_shapes (shapes_after (shapes_of prices) item) rest in
      let e : length new.scans.items ≡ k + length here = omega (arith, scans-longer, scan-count) in
      ap (λ sh. new.scans.items ++ numbered (length new.scans.items) (gathered scan_shapes sh rest)) (shapes-after prices item)
      ∙ ap (λ n. new.scans.items ++ numbered n later) e
      ∙ ap (λ l. l ++ numbered (k + length here) later) adds.scans
      ∙ append_assoc old.scans.items (numbered k here) (numbered (k + length here) later)
      ∙ ap (λ l. old.scans.items ++ l) (sym (numbered-append k here later))
      ∙ ap (λ l. old.scans.items ++ numbered k (gathered scan_shapes (shapes_of prices) l)) (sym left) ∙ reached.scans

  pub next_reached : IsReached pools inventory (suc count) new (prices_after prices item)
  next_reached = record {
    names = adds.names;
    sized = adds.sized ∙ reached.sized;
    few_outputs = omega (arith, outputs-longer, few-outputs (shapes_of prices) item, reached.few_outputs);
    few_scans = omega (arith, scans-longer, longer, few-of item, reached.few_scans);
    verdict =
        reached.verdict ∙ ap (verdict_from (shapes_of prices) count (length w)) left
        ∙ ap (λ r. and_then r (λ shape. verdict_from ((name_of item, shape) ∷ shapes_of prices) (suc count) (length w + length (subexpressions_of item)) rest)) adds.accepted
        ∙ ap (λ n. verdict_from (shapes_after (shapes_of prices) item) (suc count) n rest) (sym longer)
        ∙ ap (λ sh. verdict_from sh (suc count) (length (walked pools (suc count))) rest) (sym (shapes-after prices item));
    nodes = gather nodes_shapes (shapes_at old.shapes.items w) (shapes_at new.shapes.items (walked pools (suc count))) _ reached.nodes adds.nodes;
    statements = gather own_shape old.statement_shapes.items new.statement_shapes.items _ reached.statements adds.statement;
    jobs = jobs-next;
    inputs = gather input_of old.inputs.items new.inputs.items _ reached.inputs adds.inputs;
    outputs = gather output_of old.outputs.items new.outputs.items _ reached.outputs adds.outputs;
    scans = scans-next;
    size = adds.size (sum_over job_size (prices_after prices item) rest) ∙ ap (λ l. capped (old.totals.size + sum_over job_size prices l)) (sym left) ∙ reached.size;
    work = adds.work (sum_over job_work (prices_after prices item) rest) ∙ ap (λ l. capped (old.totals.work + sum_over job_work prices l)) (sym left) ∙ reached.work;
  }

-- where a statement fails, the program does
module _ (pools : Pools) (inventory : Inventory) (count : ℕ) (s : Statement) (there : slice_get pools.statements count ≡ Some s) (old : Progress) (prices : Prices)
    (reached : IsReached pools inventory count old prices) where
  refuses : (found : CheckError) → FailsAt pools prices count (item_of pools.numbers (trees pools.numbers pools.nodes) s) found → IsRefusedSo pools found
  refuses found h =
      let item = item_of pools.numbers (trees pools.numbers pools.nodes) s in
      record {
        failure = h.0;
        refused =
            ap (λ r. and_then r (λ shapes. judged (program_limits (items_in pools)) shapes))
            (reached.verdict ∙ ap (verdict_from (shapes_of prices) count (length (walked pools count))) (left_next pools count s there)
            ∙ ap (λ r. and_then r (λ shape. verdict_from ((name_of item, shape) ∷ shapes_of prices) (suc count) (length (walked pools count) + length (subexpressions_of item)) (left_of pools (suc count)))) h.1);
        answered = h.2;
      }

  pub explains : (found : CheckError) → Fails pools prices count (item_of pools.numbers (trees pools.numbers pools.nodes) s) found → Explains pools found
  explains (error.Rule at rule) h = refuses (error.Rule at rule) h
  explains (error.Limit at which value) h = refuses (error.Limit at which value) h
  explains error.Memory h = tt

-- a call that adds a statement or fails at it goes on by one statement, or explains how the program fails
module _ {A : Type 0} (pools : Pools) (inventory : Inventory) (count : ℕ) (s : Statement) (there : slice_get pools.statements count ≡ Some s) (old : Progress)
    (reached : Reached pools inventory count old) (result : Result A CheckError) where
  pub goes_on : (new : Progress) → OnOk result (Adds pools inventory reached.0 count (item_of pools.numbers (trees pools.numbers pools.nodes) s) old new)
      → OnOk result (Reached pools inventory (count + 1) new)
  goes_on new added =
      let next : suc count ≡ count + 1 = omega arith in
      on_ok_weaker result
      (λ adds.
      subst (λ k. Reached pools inventory k new) next
      (prices_after reached.0 (item_of pools.numbers (trees pools.numbers pools.nodes) s), next_reached pools inventory count s there old new reached.0 reached.1 adds))
      added

  pub fails_so : IfErr result (Fails pools reached.0 count (item_of pools.numbers (trees pools.numbers pools.nodes) s)) → IfErr result (Explains pools)
  fails_so failed =
      IfErr-weaker result (Fails pools reached.0 count (item_of pools.numbers (trees pools.numbers pools.nodes) s)) (Explains pools)
      (λ found fails. explains pools inventory count s there old reached.0 reached.1 found fails) failed

-- ---- a walk is no longer than its nodes

abbrev occurs : ℕ → List ℕ → ℕ
occurs n numbers = count_by (λ other. other == n) numbers

occurs-cons : (n x : ℕ) (xs : List ℕ) → occurs n (x ∷ xs) ≡ cond (x == n) 1 0 + occurs n xs
occurs-cons n x xs = sum_by-cons (λ other. cond (other == n) 1 0) x xs

all-differ : (n : ℕ) (xs : List ℕ) → occurs n xs ≡ 0 → AllByRecursion (λ y. eqb n y ≡ false) xs
all-differ n [] h = tt
all-differ n (x ∷ xs) h = elim (cases_eq x n) [
  | inl e ↦ absurd (let a = occurs-cons n x xs ∙ ap (λ b. cond b 1 0 + occurs n xs) (eq-eqb x n e) in omega (arith, a, h))
  | inr ne ↦
      let a = occurs-cons n x xs ∙ ap (λ b. cond b 1 0 + occurs n xs) (ne_eqb x n ne) in
      let b : occurs n xs ≡ 0 = omega (arith, a, h) in
      (ne_eqb n x (λ e. ne (sym e)), all-differ n xs b)
]

distinct : (bound : ℕ) (w : List ℕ) → AllByRecursion (λ n. n < bound) w → ((n : ℕ) → n < bound → occurs n w ≤ 1) → IsDistinct eqb w
unfolding IsDistinct
distinct bound [] below h = tt
distinct bound (x ∷ xs) below h =
    let a = occurs-cons x x xs ∙ ap (λ b. cond b 1 0 + occurs x xs) (eq-eqb x x refl) in
    let b : occurs x xs ≡ 0 = omega (arith, a, h x below.0) in
    (all-differ x xs b, distinct bound xs below.1 (λ n k. let c = occurs-cons n x xs in omega (arith, c, h n k)))

any-below : (bound q : ℕ) (w : List ℕ) → AllByRecursion (λ n. n < bound) w → list_any (eqb q) w ≡ true → q < bound
any-below bound q [] below h = absurd (false≢true h)
any-below bound q (x ∷ xs) below h = elim (cases_eq q x) [
  | inl e ↦ omega (arith, e, below.0)
  | inr ne ↦ any-below bound q xs below.1 (sym (ap (λ t. t || list_any (eqb q) xs) (ne_eqb q x ne)) ∙ h)
]

-- a program's walk has each node once, so with its statements it is no longer than a program may be
pub walk_is_short : WalksOnce → WalksWithin → (pools : Pools) → IsProgram pools → length (walk pools) + length pools.statements ≤ most_items
walk_is_short once inside pools program =
    let below = inside pools program in
    let short = length-le_from_distinct_below (walk pools) (length pools.nodes)
    (distinct (length pools.nodes) (walk pools) below (λ n k. let e = once pools program n k in omega (arith, e))) (λ q h. any-below (length pools.nodes) q (walk pools) below h) in
    omega (arith, short, program.few)

-- what is walked up to a node's end is no more than there are nodes
pub room_left : WalksOnce → WalksWithin → (pools : Pools) → IsProgram pools → (count : ℕ) (s : Statement) (number : ℕ)
    → slice_get pools.statements count ≡ Some s → nodes_of s ≡ number ∷ [] → length (walked pools count) + length (walk_of pools.nodes number) ≤ length pools.nodes
room_left once inside pools program count s number there one =
    let below = inside pools program in
    let short = length-le_from_distinct_below (walk pools) (length pools.nodes)
    (distinct (length pools.nodes) (walk pools) below (λ n k. let e = once pools program n k in omega (arith, e))) (λ q h. any-below (length pools.nodes) q (walk pools) below h) in
    let later = walked_later pools count s number there one in
    let a = ap length (walk_around pools count s number there one) ∙ length-append (walked pools count) (walk_of pools.nodes number ++ later) in
    let b = length-append (walk_of pools.nodes number) later in
    omega (arith, short, a, b)
