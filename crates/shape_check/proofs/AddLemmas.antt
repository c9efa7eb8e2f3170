-- What each kind of statement adds, and where it fails.
use Rattle.std.proofs.Common.{◌≡◌, ℕ, suc, ◌+◌, ◌*◌, ◌<◌, Bool, true, false, not, List, [], ◌∷◌, ◌++◌, refl, ap, sym, subst, ◌∙◌, arith, inl, inr, ◌⊎◌, length, map, reverse, append_assoc}
use Rattle.std.specs.Prelude.{◌==◌, None, Some, Ok, Err, Result, slice_get, slice_index_or}
use Rattle.std.specs.List.{AllByRecursion, count_by, flat_map, list_all, sum_by}
use Rattle.std.proofs.lemmas.List.{append-nil, get_or_at, map-append, reverse-append}
use Rattle.std.proofs.lemmas.List.Sums.{sum_by-append, sum_by-cons}
use Rattle.shapes_core.specs.Shape.{total}
use Rattle.shapes_core.specs.declared.area.AreaKind.TheVariants as area
use Rattle.text_tokens.specs.declared.token.Position.{Position}
use Rattle.moa_tree.specs.declared.tree.Numbers.{Numbers}
use Rattle.moa_tree.specs.declared.tree.Statement.{Statement}
use Rattle.moa_tree.specs.declared.tree.Statement.TheVariants as statement
use Rattle.moa_tree.specs.Axes.{naturals}
use Rattle.moa_tree.specs.Expr.{Input, Item, Let, Output}
use Rattle.moa_tree.specs.Pool.{IsOrdered, list_at, walk_of}
use Rattle.moa_tree.specs.Pools.{IsProgram, Pools, nodes_of, walk}
use Rattle.moa_tree.specs.ShapeOf.{shape_of}
use Rattle.moa_tree.specs.Subexpressions.{subexpressions}
use Rattle.shape_check.specs.declared.broken.Broken.{Broken}
use Rattle.shape_check.specs.declared.broken.Broken.TheVariants as broken
use Rattle.shape_check.specs.declared.error.CheckError.{CheckError}
use Rattle.shape_check.specs.declared.error.CheckError.TheVariants as error
use Rattle.shape_check.specs.declared.inventory.Inventory.{Inventory}
use Rattle.shape_check.specs.declared.known.Known.{Known}
use Rattle.shape_check.specs.declared.progress.Progress.{Progress}
use Rattle.shape_check.specs.Costs.{Prices, Priced, element_work, job_size, job_work, nodes, shape_in, shapes_of, stored}
use Rattle.shape_check.specs.Jobs.{TreeJob, scan_jobs}
use Rattle.shape_check.specs.Judged.{AreNames, FailsSo, IsAccepted, StandsFor, capped, error_in, found, node_tree}
use Rattle.shape_check.specs.Kept.{pooled, shapes_at}
use Rattle.shape_check.specs.Progress.{Adds, AddsOutput, FailsAt, answered, failure_of, named_verdict, next_output, next_scan, walked}
use Rattle.shape_check.specs.Rules.{Failure, Place, is_declared, is_natural, rule, shape_limits}
use Rattle.shape_check.specs.Scans.{AddsScans, IsWith, numbered_jobs, scan_size, scan_work, scans_at}
use Rattle.shape_check.specs.Verdict.{and_then, judged, verdict}
use Rattle.shape_check.proofs.JobLemmas.{follows, jobs-along, shapes-along, sum-along}
use Rattle.shape_check.proofs.NameLemmas.{names_more}
use Rattle.shape_check.proofs.NodeLemmas.{NodeTrees, WalksStep, walk-first}
use Rattle.shape_check.proofs.StatementLemmas.{WalksEach, WalksOnce, WalksWithin, position_here, shapes_more, walk_around, walked_later, walked_next}
use Rattle.shape_check.proofs.TotalLemmas.{with_both}
use Rattle.shape_check.proofs.VerdictLemmas.{judged-ok, verdict-shape}
use Rattle.shape_check.proofs.NodeLemmas.{all-cut}

-- ---- an input

module _ (pools : Pools) (prices : Prices) (count : ℕ) (name : List ℕ) (extents : Numbers) (at : Position)
    (there : slice_get pools.statements count ≡ Some (statement.Input name extents at)) where
  abbrev list : List Rattle.std.specs.Prelude.ℤ
  list = list_at pools.numbers extents

  abbrev own_failures : List Failure
  own_failures = rule (Place.Name count) 3 (list_all is_natural list) ++ shape_limits (Place.Name count) (naturals list)

  abbrev after_name : Bool → Result (List ℕ) Failure
  after_name declared =
      judged (rule (Place.Name count) 1 (not declared) ++ rule (Place.Name count) 3 (list_all is_natural list) ++ shape_limits (Place.Name count) (naturals list)) (naturals list)

  pub input_name_fails : is_declared (shapes_of prices) name ≡ true → FailsAt pools prices count (Input name list) (error.Rule at 1)
  input_name_fails e = (Failure.Rule (Place.Name count) 1, ap after_name e, ap (λ p. error.Rule p 1) (sym (position_here pools count (statement.Input name extents at) there)))

  placed : (found : Broken) → answered at found ≡ error_in pools (walk pools) (failure_of count found)
  placed (broken.Rule number) = ap (λ p. error.Rule p number) (sym (position_here pools count (statement.Input name extents at) there))
  placed (broken.Limit which value) = ap (λ p. error.Limit (Some p) which value) (sym (position_here pools count (statement.Input name extents at) there))

  pub input_fails : is_declared (shapes_of prices) name ≡ false → (found : Broken) → named_verdict {A = List ℕ} count (Err found) ≡ judged own_failures (naturals list)
      → FailsAt pools prices count (Input name list) (answered at found)
  input_fails e found h = (failure_of count found, ap after_name e ∙ sym h, placed found)

  pub adds_input : (inventory : Inventory) (old new : Progress) (shape : List ℕ) (kept : Known) → AreNames old.names prices → found old.names name ≡ None
      → is_declared (shapes_of prices) name ≡ false → named_verdict count (Ok shape) ≡ judged own_failures (naturals list) → StandsFor kept (stored shape)
      → new.names ≡ old.names ++ (name, kept) ∷ [] → new.shapes.items ≡ old.shapes.items → new.statement_shapes.items ≡ old.statement_shapes.items ++ shape ∷ []
      → new.jobs.items ≡ old.jobs.items → new.inputs.items ≡ old.inputs.items ++ (area.In name, shape) ∷ [] → new.outputs.items ≡ old.outputs.items
      → new.scans.items ≡ old.scans.items → new.totals ≡ old.totals → Adds pools inventory prices count (Input name list) old new
  adds_input inventory old new shape kept are free e h stands n s ss j i o c t =
      let is : shape ≡ naturals list = judged-ok own_failures (naturals list) shape (sym h) in
      record {
        accepted = ap after_name e ∙ sym h ∙ ap Ok is;
        names = subst (λ l. AreNames l ((name, stored (naturals list)) ∷ prices)) (sym n)
            (names_more old.names prices name kept (stored (naturals list)) free (subst (λ sh. StandsFor kept (stored sh)) is stands) are);
        sized = ap length s;
        nodes =
            ap (shapes_at new.shapes.items) (walked_next pools count (statement.Input name extents at) there ∙ append-nil (walked pools count))
            ∙ ap (λ l. shapes_at l (walked pools count)) s
            ∙ sym (append-nil (shapes_at old.shapes.items (walked pools count)));
        statement = ss ∙ ap (λ sh. old.statement_shapes.items ++ sh ∷ []) is;
        jobs = j ∙ sym (append-nil old.jobs.items);
        inputs = i ∙ ap (λ sh. old.inputs.items ++ (area.In name, sh) ∷ []) is;
        outputs = o ∙ sym (append-nil old.outputs.items);
        scans = c ∙ sym (append-nil old.scans.items);
        size = λ more. ap (λ x. capped (x.size + more)) t ∙ ap (λ k. capped (old.totals.size + k)) (omega arith);
        work = λ more. ap (λ x. capped (x.work + more)) t ∙ ap (λ k. capped (old.totals.work + k)) (omega arith);
      }

-- ---- a name for an expression, and an output

reverse-more : {A : Type 0} (x : A) (xs : List A) → reverse (x ∷ xs) ≡ reverse xs ++ x ∷ []
reverse-more x xs = reverse-append (x ∷ []) xs

map-reverse : {A B : Type 0} (f : A → B) (xs : List A) → map f (reverse xs) ≡ reverse (map f xs)
map-reverse f [] = refl
map-reverse f (x ∷ xs) =
    ap (map f) (reverse-more x xs) ∙ map-append f (reverse xs) (x ∷ [])
    ∙ ap (λ l. l ++ f x ∷ []) (map-reverse f xs) ∙ sym (reverse-more (f x) (map f xs))

sum-reverse : {A : Type 0} (f : A → ℕ) (xs : List A) → sum_by f (reverse xs) ≡ sum_by f xs
sum-reverse f [] = refl
sum-reverse f (x ∷ xs) =
    let a = ap (sum_by f) (reverse-more x xs) ∙ sum_by-append f (reverse xs) (x ∷ []) in
    let b = sum_by-cons f x xs in
    let c = sum_by-cons f x [] in
    let none : sum_by f [] ≡ 0 = refl in
    omega (arith, a, b, c, none, sum-reverse f xs)

module _ (walks : WalksStep) (over : NodeTrees) (once : WalksOnce) (inside : WalksWithin) (each : WalksEach) (pools : Pools)
    (program : IsProgram pools) (prices : Prices) (count : ℕ) (s : Statement) (number : ℕ) (within : number < length pools.nodes)
    (there : slice_get pools.statements count ≡ Some s) (one : nodes_of s ≡ number ∷ []) where
  abbrev w : List ℕ
  w = walk_of pools.nodes number

  abbrev expr : Rattle.moa_tree.specs.Expr.Expr
  expr = node_tree pools number

  abbrev later : List ℕ
  later = walked_later pools count s number there one

  around : walk pools ≡ walked pools count ++ (w ++ later)
  around = walk_around pools count s number there one

  below : AllByRecursion (λ n. n < length pools.nodes) w
  below =
      let whole = subst (AllByRecursion (λ n. n < length pools.nodes)) around (inside pools program) in
      (all-cut (λ n. n < length pools.nodes) w later (all-cut (λ n. n < length pools.nodes) (walked pools count) (w ++ later) whole).1).0

  goes : map (node_tree pools) w ≡ subexpressions expr
  goes = each pools program number within

  -- the jobs of its scans
  scan-jobs-here : (first : ℕ) → map (pooled (walk pools)) (reverse (scan_jobs first (length (walked pools count)) (subexpressions expr)))
      ≡ reverse (numbered_jobs first (scans_at pools.nodes w))
  scan-jobs-here first =
      map-reverse (pooled (walk pools)) (scan_jobs first (length (walked pools count)) (subexpressions expr))
      ∙ ap (λ l. reverse (map (pooled l) (scan_jobs first (length (walked pools count)) (subexpressions expr)))) around
      ∙ ap (λ es. reverse (map (pooled (walked pools count ++ (w ++ later))) (scan_jobs first (length (walked pools count)) es))) (sym goes)
      ∙ ap reverse (jobs-along walks over pools program.ordered w (follows walks pools.nodes program.ordered number within) below (walked pools count) later first)

  sizes-here : sum_by (job_size prices) (reverse (scan_jobs 0 0 (subexpressions expr))) ≡ sum_by (scan_size pools prices) (scans_at pools.nodes w)
  sizes-here =
      sum-reverse (job_size prices) (scan_jobs 0 0 (subexpressions expr))
      ∙ ap (λ es. sum_by (job_size prices) (scan_jobs 0 0 es)) (sym goes)
      ∙ sum-along walks over pools program.ordered (job_size prices) (scan_size pools prices) (λ a k fold of. refl) w below 0 0

  works-here : sum_by (job_work prices) (reverse (scan_jobs 0 0 (subexpressions expr))) ≡ sum_by (scan_work pools prices) (scans_at pools.nodes w)
  works-here =
      sum-reverse (job_work prices) (scan_jobs 0 0 (subexpressions expr))
      ∙ ap (λ es. sum_by (job_work prices) (scan_jobs 0 0 es)) (sym goes)
      ∙ sum-along walks over pools program.ordered (job_work prices) (scan_work pools prices) (λ a k fold of. refl) w below 0 0

  shapes-here : map (λ scan. shape_in prices (node_tree pools scan.node)) (scans_at pools.nodes w)
      ≡ map (shape_of (shapes_of prices)) (Rattle.moa_tree.specs.Subexpressions.scans_in expr)
  shapes-here =
      sym (shapes-along walks over pools program.ordered (shapes_of prices) w below)
      ∙ ap (λ es. map (shape_of (shapes_of prices)) (flat_map Rattle.moa_tree.specs.Subexpressions.if_scan es)) goes

  -- where its name or its expression fails
  pub expression_fails : (name : List ℕ) (at : Position) (wrong : CheckError) → Rattle.moa_tree.specs.Positions.position_of s ≡ at
      → (((is_declared (shapes_of prices) name ≡ true) × (wrong ≡ error.Rule at 1)) ⊎ ((is_declared (shapes_of prices) name ≡ false) × FailsSo pools prices number wrong))
      → (failure : Failure)
      × (and_then (judged (rule (Place.Name count) 1 (not (is_declared (shapes_of prices) name))) name) (λ n. verdict (shapes_of prices) (length (walked pools count)) expr) ≡ Err failure)
      × (wrong ≡ error_in pools (walk pools) failure)
  expression_fails name at wrong stands (inl (e, is)) = (
    Failure.Rule (Place.Name count) 1,
    ap (λ b. and_then (judged (rule (Place.Name count) 1 (not b)) name) (λ n. verdict (shapes_of prices) (length (walked pools count)) expr)) e,
    is ∙ ap (λ p. error.Rule p 1) (sym (position_here pools count s there ∙ stands)),
  )
  expression_fails name at wrong stands (inr (e, fails)) =
      let f = fails (walked pools count) later in (
        f.0,
        ap (λ b. and_then (judged (rule (Place.Name count) 1 (not b)) name) (λ n. verdict (shapes_of prices) (length (walked pools count)) expr)) e ∙ f.1,
        f.2 ∙ ap (λ l. error_in pools l f.0) (sym around),
      )

  module _ (inventory : Inventory) (name : List ℕ) (known : Known) (free : is_declared (shapes_of prices) name ≡ false) (accepted : IsAccepted pools prices number known)
      (old middle : Progress) (absent : found old.names name ≡ None) (are : AreNames old.names prices) (table : List (List ℕ))
      (kept : (n : ℕ) → count_by (λ other. other == n) w ≡ 0 → slice_get table n ≡ slice_get old.shapes.items n)
      (shaped : shapes_at table w ≡ map (shape_of (shapes_of prices)) (subexpressions expr)) (sized : length table ≡ length old.shapes.items) where
    own-shape : known.shape ≡ shape_in prices expr
    own-shape = verdict-shape (shapes_of prices) 0 expr known.shape (accepted.accepted 0)

    accepted-here : and_then (judged (rule (Place.Name count) 1 (not (is_declared (shapes_of prices) name))) name) (λ n. verdict (shapes_of prices) (length (walked pools count)) expr)
        ≡ Ok (shape_in prices expr)
    accepted-here =
        ap (λ b. and_then (judged (rule (Place.Name count) 1 (not b)) name) (λ n. verdict (shapes_of prices) (length (walked pools count)) expr)) free
        ∙ accepted.accepted (length (walked pools count)) ∙ ap Ok own-shape

    nodes-here : shapes_at table (walked pools (suc count)) ≡ shapes_at old.shapes.items (walked pools count) ++ map (shape_of (shapes_of prices)) (subexpressions expr)
    nodes-here = shapes_more once inside pools program count s number there one table old.shapes.items (map (shape_of (shapes_of prices)) (subexpressions expr)) kept shaped

    stands-here : StandsFor known (record { shape = shape_in prices expr; nodes = nodes prices expr; work = element_work prices expr })
    stands-here = record { shape = own-shape; nodes = accepted.nodes; work = accepted.work }

    abbrev priced : Priced
    priced = record { shape = shape_in prices expr; nodes = nodes prices expr; work = element_work prices expr }

    -- what is known once the scans are added
    module _ (names : middle.names ≡ old.names) (its_shapes : middle.shapes.items ≡ table) (shapes : middle.statement_shapes.items ≡ old.statement_shapes.items)
        (inputs : middle.inputs.items ≡ old.inputs.items) (outputs : middle.outputs.items ≡ old.outputs.items)
        (jobs : middle.jobs.items ≡ old.jobs.items ++ reverse (numbered_jobs (next_scan inventory old) (scans_at pools.nodes w)))
        (scans : middle.scans.items ≡ old.scans.items ++ Rattle.shape_check.specs.Layout.numbered (length old.scans.items) (map (λ scan. shape_in prices (node_tree pools scan.node)) (scans_at pools.nodes w)))
        (totals : IsWith (sum_by (scan_size pools prices) (scans_at pools.nodes w)) (sum_by (scan_work pools prices) (scans_at pools.nodes w)) old.totals middle.totals) where
      jobs-there : middle.jobs.items ≡ old.jobs.items ++ map (pooled (walk pools)) (reverse (scan_jobs (next_scan inventory old) (length (walked pools count)) (subexpressions expr)))
      jobs-there = jobs ∙ ap (λ l. old.jobs.items ++ l) (sym (scan-jobs-here (next_scan inventory old)))

      scans-there : middle.scans.items ≡ old.scans.items
          ++ Rattle.shape_check.specs.Layout.numbered (length old.scans.items) (map (shape_of (shapes_of prices)) (Rattle.moa_tree.specs.Subexpressions.scans_in expr))
      scans-there = scans ∙ ap (λ l. old.scans.items ++ Rattle.shape_check.specs.Layout.numbered (length old.scans.items) l) shapes-here

      pub adds_let : (new : Progress) → new.names ≡ middle.names ++ (name, known) ∷ [] → new.shapes.items ≡ middle.shapes.items
          → new.statement_shapes.items ≡ middle.statement_shapes.items ++ known.shape ∷ [] → new.jobs.items ≡ middle.jobs.items → new.inputs.items ≡ middle.inputs.items
          → new.outputs.items ≡ middle.outputs.items → new.scans.items ≡ middle.scans.items → new.totals ≡ middle.totals
          → Adds pools inventory prices count (Let name expr) old new
      adds_let new n s ss j i o c t = record {
        accepted = accepted-here;
        names = subst (λ l. AreNames l ((name, priced) ∷ prices)) (sym (n ∙ ap (λ l. l ++ (name, known) ∷ []) names)) (names_more old.names prices name known priced absent stands-here are);
        sized = ap length (s ∙ its_shapes) ∙ sized;
        nodes = ap (λ l. shapes_at l (walked pools (suc count))) (s ∙ its_shapes) ∙ nodes-here;
        statement = ss ∙ ap (λ l. l ++ known.shape ∷ []) shapes ∙ ap (λ sh. old.statement_shapes.items ++ sh ∷ []) own-shape;
        jobs =
            j ∙ jobs-there
            ∙ ap (λ l. old.jobs.items ++ map (pooled (walk pools)) l) (sym (append-nil (reverse (scan_jobs (next_scan inventory old) (length (walked pools count)) (subexpressions expr)))));
        inputs = i ∙ inputs ∙ sym (append-nil old.inputs.items);
        outputs = o ∙ outputs ∙ sym (append-nil old.outputs.items);
        scans = c ∙ scans-there;
        size = λ more.
            ap (λ x. capped (x.size + more)) t ∙ totals.size more
            ∙ ap (λ k. capped (old.totals.size + (k + more))) (sym (ap (sum_by (job_size prices)) (append-nil (reverse (scan_jobs 0 0 (subexpressions expr)))) ∙ sizes-here));
        work = λ more.
            ap (λ x. capped (x.work + more)) t ∙ totals.work more
            ∙ ap (λ k. capped (old.totals.work + (k + more))) (sym (ap (sum_by (job_work prices)) (append-nil (reverse (scan_jobs 0 0 (subexpressions expr)))) ∙ works-here));
      }

      first-here : Rattle.std.specs.Prelude.slice_index (walk pools) (length (walked pools count)) ≡ number
      first-here =
          ap (λ l. Rattle.std.specs.Prelude.slice_index l (length (walked pools count))) (around ∙ ap (λ l. walked pools count ++ (l ++ later)) (walk-first walks pools.nodes program.ordered number within))
          ∙ get_or_at (walked pools count) number (flat_map (walk_of pools.nodes) (Rattle.moa_tree.specs.Pool.operands (Rattle.shape_check.specs.Scans.node_at pools.nodes number)) ++ later) 0
          (length (walked pools count)) refl

      abbrev out_job : ℕ → ℕ → TreeJob
      out_job a k = record { job = record { area = a; node = k; fold = None }; of = expr }

      sum-out : (f : TreeJob → ℕ) (es : List TreeJob) (a k total_of : ℕ) → sum_by f es ≡ total_of → sum_by f (es ++ out_job a k ∷ []) ≡ total_of + f (out_job a k)
      sum-out f es a k total_of e =
          let x = sum_by-append f es (out_job a k ∷ []) in
          let y = sum_by-cons f (out_job a k) [] in
          let none : sum_by f [] ≡ 0 = refl in
          omega (arith, x, y, none, e)

      pub adds_output : (new : Progress) → AddsOutput inventory name number known middle new → Adds pools inventory prices count (Output name expr) old new
      adds_output new out =
          let both = with_both (sum_by (scan_size pools prices) (scans_at pools.nodes w)) (sum_by (scan_work pools prices) (scans_at pools.nodes w))
          (2 + (0 + nodes prices expr)) ((1 + total known.shape) * (1 + (0 + element_work prices expr))) old.totals middle.totals new.totals totals
          (out.totals (nodes prices expr) (element_work prices expr) accepted.nodes accepted.work) in
          record {
            accepted = accepted-here;
            names = subst (λ l. AreNames l ((name, stored (shape_in prices expr)) ∷ prices)) (sym (out.names.2 ∙ ap (λ l. l ++ (name, out.names.0) ∷ []) names))
                (names_more old.names prices name out.names.0 (stored (shape_in prices expr)) absent (subst (λ sh. StandsFor out.names.0 (stored sh)) own-shape out.names.1) are);
            sized = ap length (out.shapes ∙ its_shapes) ∙ sized;
            nodes = ap (λ l. shapes_at l (walked pools (suc count))) (out.shapes ∙ its_shapes) ∙ nodes-here;
            statement = out.statement_shapes ∙ ap (λ l. l ++ known.shape ∷ []) shapes ∙ ap (λ sh. old.statement_shapes.items ++ sh ∷ []) own-shape;
            jobs =
                let r = reverse (scan_jobs (next_scan inventory old) (length (walked pools count)) (subexpressions expr)) in
                out.jobs
                ∙ ap (λ l. l ++ record { area = inventory.inputs + length middle.outputs.items; node = number; fold = None } ∷ []) jobs-there
                ∙ append_assoc old.jobs.items (map (pooled (walk pools)) r) (record { area = inventory.inputs + length middle.outputs.items; node = number; fold = None } ∷ [])
                ∙ ap (λ l. old.jobs.items ++ (map (pooled (walk pools)) r ++ record { area = inventory.inputs + length l; node = number; fold = None } ∷ [])) outputs
                ∙ ap (λ k. old.jobs.items ++ (map (pooled (walk pools)) r ++ record { area = next_output inventory old; node = k; fold = None } ∷ [])) (sym first-here)
                ∙ ap (λ l. old.jobs.items ++ l) (sym (map-append (pooled (walk pools)) r (out_job (next_output inventory old) (length (walked pools count)) ∷ [])));
            inputs = out.inputs ∙ inputs ∙ sym (append-nil old.inputs.items);
            outputs = out.outputs ∙ ap (λ l. l ++ (area.Out name, known.shape) ∷ []) outputs ∙ ap (λ sh. old.outputs.items ++ (area.Out name, sh) ∷ []) own-shape;
            scans = out.scans ∙ scans-there;
            size = λ more.
                both.size more
                ∙ ap (λ k. capped (old.totals.size + (k + more)))
                (sym (sum-out (job_size prices) (reverse (scan_jobs 0 0 (subexpressions expr))) 0 0 (sum_by (scan_size pools prices) (scans_at pools.nodes w)) sizes-here));
            work = λ more.
                both.work more
                ∙ ap (λ sh. capped (old.totals.work + ((sum_by (scan_work pools prices) (scans_at pools.nodes w) + (1 + total sh) * (1 + (0 + element_work prices expr))) + more))) own-shape
                ∙ ap (λ k. capped (old.totals.work + (k + more)))
                (sym (sum-out (job_work prices) (reverse (scan_jobs 0 0 (subexpressions expr))) 0 0 (sum_by (scan_work pools prices) (scans_at pools.nodes w)) works-here));
          }
