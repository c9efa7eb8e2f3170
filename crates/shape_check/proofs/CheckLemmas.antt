-- From the first statement to the limits of the whole program.
use Rattle.std.proofs.Common.{◌≡◌, ℕ, ◌+◌, ◌-◌, ◌^◌, ◌<◌, ◌≤◌, Bool, true, false, cond, List, [], ◌∷◌, ◌++◌, refl, ap, sym, subst, ◌∙◌, arith, length, length-append, map, min}
use Rattle.std.specs.Prelude.{None, Err, IsOk, nat_lt}
use Rattle.std.specs.List.{AllByRecursion, list_any, range_with_len, sum_by}
use Rattle.std.specs.Str.{bytes_eq}
use Rattle.std.proofs.lemmas.Bool.{lt-ltb, ltb-true}
use Rattle.std.proofs.lemmas.List.{append-nil, drop_all, length-map, take_all}
use Rattle.shapes_core.specs.Limits.{greatest_size, greatest_work, most_items, most_words}
use Rattle.shapes_core.specs.declared.area.Area.{Area}
use Rattle.moa_tree.specs.Expr.{Input, Item, Let, Output}
use Rattle.moa_tree.specs.Pool.{item_of, trees, walk_of}
use Rattle.moa_tree.specs.Pools.{Pools, nodes_of, walk}
use Rattle.moa_tree.specs.ShapeOf.{Shapes}
use Rattle.shape_check.specs.Judged.{items_in}
use Rattle.shape_check.specs.declared.error.CheckError.TheVariants as error
use Rattle.shape_check.specs.declared.inventory.Inventory.{Inventory}
use Rattle.shape_check.specs.declared.progress.Progress.{Progress}
use Rattle.shape_check.specs.Blocks.{array_words}
use Rattle.shape_check.specs.Costs.{Prices, job_size, job_work, shapes_of, size, sum_over, work}
use Rattle.shape_check.specs.Jobs.{input_count, jobs_from, output_count}
use Rattle.shape_check.specs.Judged.{AreNames, capped}
use Rattle.shape_check.specs.Kept.{IsChecked, IsRefusedSo, pooled, shapes_at}
use Rattle.shape_check.specs.Layout.{Array, arrays, gathered, input_of, numbered, output_of, placed, scan_shapes, shapes_after, words}
use Rattle.shape_check.specs.Progress.{IsReached, Surveyed, left_of, next_output, next_scan, nodes_shapes, own_shape, walked}
use Rattle.shape_check.specs.Rules.{Failure, limit}
use Rattle.shape_check.specs.Statements.{program_limits, verdict_from, verdict_of}
use Rattle.shape_check.specs.Verdict.{and_then, judged}
use Rattle.shape_check.proofs.BlockLemmas.{words-placed}
use Rattle.shape_check.proofs.NameLemmas.{no_names}

-- ---- before the first statement

pub start_reached : (pools : Pools) (inventory : Inventory) (p : Progress) → p.names ≡ [] → length p.shapes.items ≡ length pools.nodes → p.statement_shapes.items ≡ []
    → p.jobs.items ≡ [] → p.inputs.items ≡ [] → p.outputs.items ≡ [] → p.scans.items ≡ [] → p.totals ≡ record { size = 0; work = 0 } → IsReached pools inventory 0 p []
start_reached pools inventory p n s ss j i o c t = record {
  names = subst (λ l. AreNames l []) (sym n) no_names;
  sized = s;
  few_outputs = let e = ap length o in let none : length {A = Array} [] ≡ 0 = refl in omega (arith, e, none);
  few_scans = let e = ap length c in let none : length {A = Array} [] ≡ 0 = refl in omega (arith, e, none);
  verdict = refl;
  nodes = refl;
  statements = ap (λ l. l ++ gathered own_shape [] (items_in pools)) ss;
  jobs =
      let eo : next_output inventory p ≡ inventory.inputs = let e = ap length o in let none : length {A = Array} [] ≡ 0 = refl in omega (arith, e, none) in
      let es : next_scan inventory p ≡ inventory.inputs + inventory.outputs = let e = ap length c in let none : length {A = Array} [] ≡ 0 = refl in omega (arith, e, none) in
      ap (λ l. l ++ map (pooled (walk pools)) (jobs_from (next_output inventory p) (next_scan inventory p) 0 (items_in pools))) j
      ∙ ap (λ k. map (pooled (walk pools)) (jobs_from k (next_scan inventory p) 0 (items_in pools))) eo
      ∙ ap (λ k. map (pooled (walk pools)) (jobs_from inventory.inputs k 0 (items_in pools))) es;
  inputs = ap (λ l. l ++ gathered input_of [] (items_in pools)) i;
  outputs = ap (λ l. l ++ gathered output_of [] (items_in pools)) o;
  scans = ap (λ l. l ++ numbered (length l) (gathered scan_shapes [] (items_in pools))) c;
  size = ap (λ x. capped (x.size + sum_over job_size [] (items_in pools))) t ∙ ap capped (let e : 0 + sum_over job_size [] (items_in pools) ≡ size (items_in pools) = omega arith in e);
  work = ap (λ x. capped (x.work + sum_over job_work [] (items_in pools))) t ∙ ap capped (let e : 0 + sum_over job_work [] (items_in pools) ≡ work (items_in pools) = omega arith in e);
}

-- ---- behind the last statement

-- each statement adds at most one input or one output
inputs_and_outputs : (shapes : Shapes) (items : List Item) → length (gathered input_of shapes items) + length (gathered output_of shapes items) ≤ length items
inputs_and_outputs shapes [] = omega arith
inputs_and_outputs shapes (Input name extents ∷ items) = let rest = inputs_and_outputs (shapes_after shapes (Input name extents)) items in omega (arith, rest)
inputs_and_outputs shapes (Let name of ∷ items) = let rest = inputs_and_outputs (shapes_after shapes (Let name of)) items in omega (arith, rest)
inputs_and_outputs shapes (Output name of ∷ items) = let rest = inputs_and_outputs (shapes_after shapes (Output name of)) items in omega (arith, rest)

pub all_surveyed : (pools : Pools) (inventory : Inventory) (p : Progress) (prices : Prices) → inventory.inputs ≡ sum_by input_count (items_in pools)
    → inventory.outputs ≡ sum_by output_count (items_in pools) → length (walk pools) + length pools.statements ≤ most_items → IsReached pools inventory (length pools.statements) p prices → Surveyed pools p
all_surveyed pools inventory p prices ins outs small r =
    let n = length pools.statements in
    let none : left_of pools n ≡ [] = ap (map (item_of pools.numbers (trees pools.numbers pools.nodes))) (drop_all n pools.statements (omega arith)) in
    let all : walked pools n ≡ walk pools = ap (λ l. Rattle.std.specs.List.flat_map (walk_of pools.nodes) (Rattle.std.specs.List.flat_map nodes_of l)) (take_all n pools.statements (omega arith)) in
    record {
      shapes = shapes_of prices;
      verdict = r.verdict ∙ ap (verdict_from (shapes_of prices) n (length (walked pools n))) none;
      sized = r.sized;
      nodes =
          ap (shapes_at p.shapes.items) (sym all) ∙ sym (append-nil (shapes_at p.shapes.items (walked pools n)))
          ∙ ap (λ l. shapes_at p.shapes.items (walked pools n) ++ gathered nodes_shapes (shapes_of prices) l) (sym none) ∙ r.nodes;
      statements = sym (append-nil p.statement_shapes.items) ∙ ap (λ l. p.statement_shapes.items ++ gathered own_shape (shapes_of prices) l) (sym none) ∙ r.statements;
      jobs_in_order =
          sym (append-nil p.jobs.items)
          ∙ ap (λ l. p.jobs.items ++ map (pooled (walk pools)) (jobs_from (next_output inventory p) (next_scan inventory p) (length (walked pools n)) l)) (sym none)
          ∙ r.jobs
          ∙ ap (λ k. map (pooled (walk pools)) (jobs_from k (k + inventory.outputs) 0 (items_in pools))) ins
          ∙ ap (λ k. map (pooled (walk pools)) (jobs_from (sum_by input_count (items_in pools)) (sum_by input_count (items_in pools) + k) 0 (items_in pools))) outs;
      arrays =
          let a : p.inputs.items ≡ gathered input_of [] (items_in pools) =
          sym (append-nil p.inputs.items) ∙ ap (λ l. p.inputs.items ++ gathered input_of (shapes_of prices) l) (sym none) ∙ r.inputs in
          let b : p.outputs.items ≡ gathered output_of [] (items_in pools) =
          sym (append-nil p.outputs.items) ∙ ap (λ l. p.outputs.items ++ gathered output_of (shapes_of prices) l) (sym none) ∙ r.outputs in
          let c : p.scans.items ≡ numbered 0 (gathered scan_shapes [] (items_in pools)) =
          sym (append-nil p.scans.items) ∙ ap (λ l. p.scans.items ++ numbered (length p.scans.items) (gathered scan_shapes (shapes_of prices) l)) (sym none) ∙ r.scans in
          ap (λ l. l ++ p.outputs.items ++ p.scans.items) a
          ∙ ap (λ l. gathered input_of [] (items_in pools) ++ l ++ p.scans.items) b
          ∙ ap (λ l. gathered input_of [] (items_in pools) ++ gathered output_of [] (items_in pools) ++ l) c;
      few =
          let items = items_in pools in
          let scans = numbered 0 (gathered scan_shapes [] items) in
          let same : p.scans.items ≡ scans =
          sym (append-nil p.scans.items) ∙ ap (λ l. p.scans.items ++ numbered (length p.scans.items) (gathered scan_shapes (shapes_of prices) l)) (sym none) ∙ r.scans in
          let long = ap length same in
          let walked_all = ap length all in
          let inputs = gathered input_of [] items in
          let outputs = gathered output_of [] items in
          let front : length (arrays (items_in pools)) ≡ length (inputs ++ outputs) + length scans = length-append (inputs ++ outputs) scans in
          let back = length-append inputs outputs in
          let each = inputs_and_outputs [] items in
          let statements = length-map pools.statements (item_of pools.numbers (trees pools.numbers pools.nodes)) in
          omega (arith, r.few_scans, long, walked_all, front, back, each, statements, small);
      size =
          ap capped (let e : p.totals.size ≡ p.totals.size + 0 = omega arith in e)
          ∙ ap (λ l. capped (p.totals.size + sum_over job_size prices l)) (sym none) ∙ r.size;
      work =
          ap capped (let e : p.totals.work ≡ p.totals.work + 0 = omega arith in e)
          ∙ ap (λ l. capped (p.totals.work + sum_over job_work prices l)) (sym none) ∙ r.work;
    }

-- ---- the limits of the whole program

abbrev most : ℕ
most = 2 ^ 64 - 1

limit-kept : (which greatest value exact : ℕ) → value ≤ greatest → greatest < most → capped value ≡ capped exact → limit None which greatest exact ≡ []
limit-kept which greatest value exact h small e = by (nat_lt greatest exact) refl
  where
    by : (b : Bool) → nat_lt greatest exact ≡ b → limit None which greatest exact ≡ []
    by true more = absurd (omega (arith, h, small, e, ltb-true greatest exact more))
    by false less = ap (λ b. cond b (Failure.Limit None which (min exact most) ∷ []) []) less

limit-beyond : (which greatest value exact : ℕ) → greatest < value → value < 2 ^ 64 → capped value ≡ capped exact
    → limit None which greatest exact ≡ Failure.Limit None which value ∷ []
limit-beyond which greatest value exact h fits e =
    let same : min exact most ≡ value = omega (arith, fits, e) in
    ap (λ b. cond b (Failure.Limit None which (min exact most) ∷ []) []) (lt-ltb greatest exact (omega (arith, h, fits, e)))
    ∙ ap (λ v. Failure.Limit None which v ∷ []) same

module _ (pools : Pools) (p : Progress) (s : Surveyed pools p) where
  abbrev items : List Item
  items = items_in pools

  abbrev sized_limit : List Failure
  sized_limit = limit None 5 greatest_size (size items)

  abbrev worked_limit : List Failure
  worked_limit = limit None 6 greatest_work (work items)

  abbrev worded_limit : List Failure
  worded_limit = limit None 7 most_words (words items)

  verdict-is : verdict_of items ≡ judged (program_limits items) s.shapes
  verdict-is = ap (λ r. and_then r (λ shapes. judged (program_limits items) shapes)) s.verdict

  refused-by : (which value : ℕ) → judged (program_limits items) s.shapes ≡ Err (Failure.Limit None which value) → IsRefusedSo pools (error.Limit None which value)
  refused-by which value e = record { failure = Failure.Limit None which value; refused = verdict-is ∙ e; answered = refl }

  pub size_refused : greatest_size < p.totals.size → p.totals.size < 2 ^ 64 → IsRefusedSo pools (error.Limit None 5 p.totals.size)
  size_refused h fits =
      refused-by 5 p.totals.size
      (ap (λ l. judged (l ++ worked_limit ++ worded_limit) s.shapes) (limit-beyond 5 greatest_size p.totals.size (size items) h fits s.size))

  module _ (small : p.totals.size ≤ greatest_size) where
    sized-kept : sized_limit ≡ []
    sized-kept = limit-kept 5 greatest_size p.totals.size (size items) small (omega arith) s.size

    pub work_refused : greatest_work < p.totals.work → p.totals.work < 2 ^ 64 → IsRefusedSo pools (error.Limit None 6 p.totals.work)
    work_refused h fits =
        refused-by 6 p.totals.work
        (ap (λ l. judged (l ++ worked_limit ++ worded_limit) s.shapes) sized-kept
        ∙ ap (λ l. judged (l ++ worded_limit) s.shapes) (limit-beyond 6 greatest_work p.totals.work (work items) h fits s.work))

    module _ (quick : p.totals.work ≤ greatest_work) (all : List Array) (they : all ≡ arrays items) where
      worked-kept : worked_limit ≡ []
      worked-kept = limit-kept 6 greatest_work p.totals.work (work items) quick (omega arith) s.work

      words-are : array_words all ≡ words items
      words-are = ap array_words they ∙ sym (words-placed 0 (arrays items))

      pub words_refused : (value : ℕ) → value ≡ capped (array_words all) → most_words < value → value < 2 ^ 64 → IsRefusedSo pools (error.Limit None 7 value)
      words_refused value e h fits =
          refused-by 7 value
          (ap (λ l. judged (l ++ worked_limit ++ worded_limit) s.shapes) sized-kept
          ∙ ap (λ l. judged (l ++ worded_limit) s.shapes) worked-kept
          ∙ ap (λ l. judged l s.shapes) (limit-beyond 7 most_words value (words items) h fits (omega (arith, e, words-are))))

      pub words_small : (value : ℕ) → value ≡ capped (array_words all) → value ≤ most_words → array_words all ≤ most_words
      words_small value e h = omega (arith, e, h)

      pub is_checked : array_words all ≤ most_words → (layout : List Area) → layout ≡ placed 0 all
          → IsChecked (record { pools = pools; shapes = p.shapes.items; statement_shapes = p.statement_shapes.items; jobs = p.jobs.items; areas = layout; size = p.totals.size; work = p.totals.work })
      is_checked few layout laid = record {
        accepted = subst IsOk (sym (verdict-is
            ∙ ap (λ l. judged (l ++ worked_limit ++ worded_limit) s.shapes) sized-kept
            ∙ ap (λ l. judged (l ++ worded_limit) s.shapes) worked-kept
            ∙ ap (λ l. judged l s.shapes) (limit-kept 7 most_words (array_words all) (words items) few (omega arith) (ap capped words-are)))) refl;
        each = s.sized;
        shapes_of_nodes = s.nodes;
        shapes_of_statements = s.statements;
        jobs_in_order = s.jobs_in_order;
        laid_out = laid ∙ ap (placed 0) they;
        sized = let e = s.size in omega (arith, e, small);
        worked = let e = s.work in omega (arith, e, quick);
      }
