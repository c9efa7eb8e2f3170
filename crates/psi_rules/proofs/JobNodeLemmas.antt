-- The node of a job is that of its task, and what holds of all nodes of a statement holds of those of its jobs.
use Rattle.std.specs.Prelude.{◌≡◌, ℕ, suc, ◌+◌, ◌<◌, All, List, [], ◌∷◌, ◌++◌, length, map, reverse, slice_get, slice_index, Some}
use Rattle.std.specs.List.{AllByRecursion, AllZip, flat_map, sum_by}
use Rattle.std.proofs.Common.{refl, ap, sym, subst, ◌∙◌, arith}
use Rattle.std.proofs.lemmas.Grind.{flat_map-append}
use Rattle.std.proofs.lemmas.List.{append-nil, append_assoc, get_or_at, length-append, length-map}
use Rattle.moa_tree.specs.declared.tree.Job.{Job}
use Rattle.moa_tree.specs.declared.tree.Statement.{Statement}
use Rattle.moa_tree.specs.declared.tree.Statement.TheVariants as statement
use Rattle.moa_tree.specs.Denotation.{scans_of}
use Rattle.moa_tree.specs.Expr.{Expr, Number, Use, Iota, One, Two, Psi, Take, Drop, Reverse, Rotate, Transpose, Permute, Cat, Reshape, Ravel, Outer, Inner, Reduce, Scan}
use Rattle.moa_tree.specs.Pool.{walk_of}
use Rattle.moa_tree.specs.Pools.{IsProgram, Pools, nodes_of, walk}
use Rattle.moa_tree.specs.Subexpressions.{subexpressions, subexpressions_of}
use Rattle.shape_check.specs.Jobs.{TreeJob, input_count, jobs, jobs_from, jobs_of, output_count, output_jobs, scan_jobs}
use Rattle.shape_check.specs.Judged.{items_in, node_tree}
use Rattle.shape_check.specs.Kept.{pooled}
use Rattle.psi_rules.specs.Jobs.{Next, Task, first, next_after, scanned, tasks_of}
use Rattle.psi_rules.specs.Rows.{item_in}
use Rattle.psi_rules.specs.Scopes.{Owned, owned, owned_from}
use Rattle.psi_rules.proofs.NodeShapeLemmas.{AllBelow, WalksEach, expressions-walked, walked}
use Rattle.psi_rules.proofs.ListLemmas.{mapped-at, zip-append, zip-at, zip-map, zip-reverse}

-- ---- behind a scan stands what it scans

-- an expression is the first of some
abbrev BeginsWith : Expr → List Expr → Type 0
BeginsWith of [] = ⊥
BeginsWith of (expr ∷ exprs) = expr ≡ of

-- the operand of each scan comes right behind it
abbrev AreFollowed : List Expr → Type 0
AreFollowed [] = Unit {0}
AreFollowed (Scan fold of ∷ others) = BeginsWith of others × AreFollowed others
AreFollowed (other ∷ others) = AreFollowed others

begins : (expr : Expr) (others : List Expr) → BeginsWith expr (subexpressions expr ++ others)
begins (Number value) others = refl
begins expr others = refl

both-followed : (left right : Expr) (others : List Expr) → AreFollowed (subexpressions left ++ (subexpressions right ++ others))
    → AreFollowed ((subexpressions left ++ subexpressions right) ++ others)
both-followed left right others h = subst AreFollowed (sym (append_assoc (subexpressions left) (subexpressions right) others)) h

followed : (expr : Expr) (others : List Expr) → AreFollowed others → AreFollowed (subexpressions expr ++ others)
followed (Number value) others h = h
followed (Use name) others h = h
followed (Iota extent) others h = h
followed (One op of) others h = followed of others h
followed (Two op left right) others h =
    both-followed left right others (followed left (subexpressions right ++ others) (followed right others h))
followed (Psi list of) others h = followed of others h
followed (Take list of) others h = followed of others h
followed (Drop list of) others h = followed of others h
followed (Reverse of) others h = followed of others h
followed (Rotate by of) others h = followed of others h
followed (Transpose of) others h = followed of others h
followed (Permute list of) others h = followed of others h
followed (Cat left right) others h =
    both-followed left right others (followed left (subexpressions right ++ others) (followed right others h))
followed (Reshape list of) others h = followed of others h
followed (Ravel of) others h = followed of others h
followed (Outer op left right) others h =
    both-followed left right others (followed left (subexpressions right ++ others) (followed right others h))
followed (Inner fold op left right) others h =
    both-followed left right others (followed left (subexpressions right ++ others) (followed right others h))
followed (Reduce fold of) others h = followed of others h
followed (Scan fold of) others h = (begins of others, followed of others h)

-- ---- one statement

-- what holds of nodes by the numbers of their statements
module _ (pools : Pools) (P : ℕ → ℕ → Type 0) where
  -- the node of a job, in the order of a walk, is that of a task, and it holds of it
  abbrev Gives : List ℕ → TreeJob → Owned → Type 0
  Gives order tree_job o =
      (node_tree pools (slice_index order tree_job.job.node) ≡ o.task.0) × P o.statement (slice_index order tree_job.job.node)

  abbrev GivesTask : List ℕ → ℕ → TreeJob → Task → Type 0
  GivesTask order number tree_job task = Gives order tree_job (record { statement = number; task = task })

  -- a node with its tree
  abbrev StandsFor : ℕ → ℕ → Expr → Type 0
  StandsFor number node expr = (node_tree pools node ≡ expr) × P number node

  -- some nodes stand at a place of the order
  abbrev StandsAt : List ℕ → ℕ → List ℕ → Type 0
  StandsAt order place w = (before : List ℕ) × (after : List ℕ) × (place ≡ length before) × (order ≡ before ++ (w ++ after))

  node-first : (order : List ℕ) (place node : ℕ) (w : List ℕ) → StandsAt order place (node ∷ w) → slice_index order place ≡ node
  node-first order place node w (before, after, long, e) =
      ap (λ l. slice_index l place) e ∙ get_or_at before node (w ++ after) 0 place (sym long)

  node-behind : (order : List ℕ) (place node : ℕ) (w : List ℕ) → StandsAt order place (node ∷ w) → StandsAt order (suc place) w
  node-behind order place node w (before, after, long, e) = (
    before ++ node ∷ [],
    after,
    omega (arith, long, length-append before (node ∷ [])),
    e ∙ sym (append_assoc before (node ∷ []) (w ++ after)),
  )

  -- the node at a place, where the expressions from there on begin with this one
  begun : (order : List ℕ) (number place : ℕ) (w : List ℕ) (exprs : List Expr) (of : Expr) → StandsAt order place w
      → AllZip (StandsFor number) w exprs → BeginsWith of exprs
      → (node_tree pools (slice_index order place) ≡ of) × P number (slice_index order place)
  begun order number place [] [] of at h k = absurd k
  begun order number place [] (expr ∷ exprs) of at h k = absurd h
  begun order number place (node ∷ w) [] of at h k = absurd h
  begun order number place (node ∷ w) (expr ∷ exprs) of at h k =
      let here = node-first order place node w at in
      (ap (node_tree pools) here ∙ h.0.0 ∙ k, subst (P number) (sym here) h.0.1)

  -- the jobs of the scans among some nodes
  scans-give : (order : List ℕ) (number area scan place : ℕ) (w : List ℕ) (exprs : List Expr) → StandsAt order place w
      → AllZip (StandsFor number) w exprs → AreFollowed exprs
      → AllZip (GivesTask order number) (scan_jobs area place exprs) (scanned scan exprs)
  scans-give order number area scan place [] [] at h k = tt
  scans-give order number area scan place [] (expr ∷ exprs) at h k = absurd h
  scans-give order number area scan place (node ∷ w) [] at h k = absurd h
  scans-give order number area scan place (node ∷ w) (Scan fold of ∷ exprs) at h k =
      let behind = node-behind order place node w at in (
        begun order number (suc place) w exprs of behind h.1 k.0,
        scans-give order number (suc area) (suc scan) (suc place) w exprs behind h.1 k.1,
      )
  scans-give order number area scan place (node ∷ w) (expr ∷ exprs) at h k =
      scans-give order number area scan (suc place) w exprs (node-behind order place node w at) h.1 k

  trees-stand : (number : ℕ) (w : List ℕ) → AllByRecursion (P number) w → AllZip (StandsFor number) w (map (node_tree pools) w)
  trees-stand number [] h = tt
  trees-stand number (node ∷ w) h = ((refl, h.0), trees-stand number w h.1)

  module _ (each : WalksEach) (program : IsProgram pools) where
    expression-stands : (number node : ℕ) → node < length pools.nodes → AllByRecursion (P number) (walk_of pools.nodes node)
        → AllZip (StandsFor number) (walk_of pools.nodes node) (subexpressions (node_tree pools node))
    expression-stands number node there h =
        subst (AllZip (StandsFor number) (walk_of pools.nodes node)) (each pools program node there) (trees-stand number (walk_of pools.nodes node) h)

    -- the jobs of an expression's scans
    expression-gives : (order : List ℕ) (number area scan place node : ℕ) → node < length pools.nodes
        → StandsAt order place (walk_of pools.nodes node) → AllByRecursion (P number) (walk_of pools.nodes node)
        → AllZip (GivesTask order number) (reverse (scan_jobs area place (subexpressions (node_tree pools node))))
        (reverse (scanned scan (subexpressions (node_tree pools node))))
    expression-gives order number area scan place node there at h =
        let all = subexpressions (node_tree pools node) in
        zip-reverse (GivesTask order number) (scan_jobs area place all) (scanned scan all)
        (scans-give order number area scan place (walk_of pools.nodes node) all at (expression-stands number node there h)
        (subst AreFollowed (append-nil all) (followed (node_tree pools node) [] tt)))

    statement-gives : (order : List ℕ) (number output place : ℕ) (next : Next) (s : Statement) → AllBelow (length pools.nodes) (nodes_of s)
        → StandsAt order place (walked pools (nodes_of s)) → AllByRecursion (P number) (walked pools (nodes_of s))
        → AllZip (GivesTask order number) (jobs_of output next.scan place (item_in pools s)) (tasks_of next (item_in pools s))
    statement-gives order number output place next (statement.Input name extents pos) there at h = tt
    statement-gives order number output place next (statement.Name name node pos) there at h =
        let all = subexpressions (node_tree pools node) in
        let alone = append-nil (walk_of pools.nodes node) in
        zip-append (GivesTask order number) (reverse (scan_jobs next.scan place all)) [] (reverse (scanned next.scan all)) []
        (expression-gives order number next.scan next.scan place node there.0 (subst (StandsAt order place) alone at)
        (subst (AllByRecursion (P number)) alone h)) tt
    statement-gives order number output place next (statement.Output name node pos) there at h =
        let all = subexpressions (node_tree pools node) in
        let alone = append-nil (walk_of pools.nodes node) in
        let here = subst (StandsAt order place) alone at in
        let holds = subst (AllByRecursion (P number)) alone h in
        zip-append (GivesTask order number) (reverse (scan_jobs next.scan place all))
        (output_jobs output place (item_in pools (statement.Output name node pos))) (reverse (scanned next.scan all))
        ((node_tree pools node, next.scan) ∷ [])
        (expression-gives order number next.scan next.scan place node there.0 here holds) (
          begun order number place (walk_of pools.nodes node) all (node_tree pools node) here (expression-stands number node there.0 holds)
              (subst (BeginsWith (node_tree pools node)) (append-nil all) (begins (node_tree pools node) [])),
          tt,
        )

    -- ---- all statements

    -- it holds of all nodes of these statements, the first of which has this number
    abbrev HoldsFrom : ℕ → List Statement → Type 0
    HoldsFrom number statements = (place : ℕ) (s : Statement) → slice_get statements place ≡ Some s
        → (other : ℕ) → other ≡ number + place → AllByRecursion (P other) (walked pools (nodes_of s))

    jobs-give : (order : List ℕ) (statements : List Statement) → All (λ s. AllBelow (length pools.nodes) (nodes_of s)) statements
        → (number output scan place : ℕ) (next : Next) → scan ≡ next.scan → HoldsFrom number statements
        → StandsAt order place (walked pools (flat_map nodes_of statements))
        → AllZip (Gives order) (jobs_from output scan place (map (item_in pools) statements))
        (owned_from number next (map (item_in pools) statements))
    jobs-give order [] there number output scan place next same holds at = tt
    jobs-give order (first ∷ others) there number output scan place next same holds (before, after, long, e) =
        let item = item_in pools first in
        let own : Task → Owned = λ task. record { statement = number; task = task } in
        let items = map (item_in pools) others in
        let w = walked pools (nodes_of first) in
        let rest = walked pools (flat_map nodes_of others) in
        let cut : order ≡ before ++ (w ++ (rest ++ after)) =
        e ∙ ap (λ l. before ++ (l ++ after)) (flat_map-append (walk_of pools.nodes) (nodes_of first) (flat_map nodes_of others))
        ∙ ap (λ l. before ++ l) (append_assoc w rest after) in
        let many : length w ≡ length (subexpressions_of item) =
        sym (length-map w (node_tree pools)) ∙ ap length (expressions-walked pools program each first (there 0 first (omega arith))) in
        zip-append (Gives order) (jobs_of output scan place item)
        (jobs_from (output + length (output_jobs output place item)) (scan + length (scans_of item)) (place + length (subexpressions_of item)) items)
        (map own (tasks_of next item)) (owned_from (suc number) (next_after next item) items)
        (zip-map (Gives order) own (jobs_of output scan place item) (tasks_of next item)
        (subst (λ area. AllZip (GivesTask order number) (jobs_of output area place item) (tasks_of next item)) (sym same)
        (statement-gives order number output place next first (there 0 first (omega arith)) (before, rest ++ after, long, cut)
        (holds 0 first refl number (omega arith)))))
        (jobs-give order others (λ k d below. there (suc k) d (omega (arith, below))) (suc number) (output + length (output_jobs output place item))
        (scan + length (scans_of item)) (place + length (subexpressions_of item)) (next_after next item) (ap (λ n. n + length (scans_of item)) same)
        (λ k s found other equal. holds (suc k) s found other (omega (arith, equal))) (
          before ++ w,
          after,
          omega (arith, long, many, length-append before w),
          cut ∙ sym (append_assoc before w (rest ++ after)),
        ))

    pub job-node : ((number : ℕ) (s : Statement) → slice_get pools.statements number ≡ Some s
        → AllByRecursion (P number) (flat_map (walk_of pools.nodes) (nodes_of s)))
        → (number : ℕ) (job : Job) (o : Owned) → slice_get (map (pooled (walk pools)) (jobs (items_in pools))) number ≡ Some job
        → slice_get (owned (items_in pools)) number ≡ Some o
        → (node_tree pools job.node ≡ o.task.0) × P o.statement job.node
    job-node holds number job o at there =
        let items = items_in pools in
        let outputs = sum_by input_count items in
        let found = mapped-at (pooled (walk pools)) (jobs items) number job at in
        let all = jobs-give (walk pools) pools.statements program.nodes_there 0 outputs (outputs + sum_by output_count items) 0 (first items) refl
        (λ place s here other equal.
        subst (λ number. AllByRecursion (P number) (walked pools (nodes_of s))) (omega (arith, equal)) (holds place s here))
        ([], [], refl, sym (append-nil (walk pools))) in
        subst (λ (j : Job). (node_tree pools j.node ≡ o.task.0) × P o.statement j.node) found.2
        (zip-at (Gives (walk pools)) (jobs items) (owned items) all number found.0 o found.1 there)
