-- The scans along a walk are those of the tree, in order.
use Rattle.std.proofs.Common.{◌≡◌, ℕ, zero, suc, ◌+◌, ◌<◌, ◌≤◌, List, [], ◌∷◌, ◌++◌, refl, ap, sym, subst, ◌∙◌, ◌⊎◌, inl, inr, arith, length, map, reverse, get_or, append_assoc, length-append}
use Rattle.std.specs.Prelude.{ℤ, pos, slice_index, slice_index_or, Some}
use Rattle.std.specs.List.{AllByRecursion, flat_map, sum_by}
use Rattle.std.proofs.lemmas.List.{get_or_at}
use Rattle.std.proofs.lemmas.List.Sums.{sum_by-cons}
use Rattle.moa_tree.specs.declared.operator.Op.{Op}
use Rattle.moa_tree.specs.declared.tree.Job.{Job}
use Rattle.moa_tree.specs.declared.tree.Node.{Node}
use Rattle.moa_tree.specs.declared.tree.Node.TheVariants as node
use Rattle.moa_tree.specs.Expr.{Expr, Scan}
use Rattle.moa_tree.specs.Pool.{IsOrdered, expr_of, operands, trees, walk_of}
use Rattle.moa_tree.specs.Pools.{Pools}
use Rattle.moa_tree.specs.ShapeOf.{Shapes, shape_of}
use Rattle.moa_tree.specs.Subexpressions.{if_scan}
use Rattle.shape_check.specs.declared.inventory.Inventory.{Inventory}
use Rattle.shape_check.specs.declared.progress.Progress.{Progress}
use Rattle.shape_check.specs.declared.scans.PoolScan.{PoolScan}
use Rattle.shape_check.specs.Costs.{Prices, shape_in}
use Rattle.shape_check.specs.Uses.{HasShapes}
use Rattle.shape_check.specs.Jobs.{TreeJob, scan_jobs}
use Rattle.shape_check.specs.Judged.{node_tree}
use Rattle.shape_check.specs.Kept.{pooled}
use Rattle.shape_check.specs.Layout.{numbered}
use Rattle.shape_check.specs.Scans.{AddsScans, IsShaped, IsWith, node_at, numbered_jobs, scan_of, scan_size, scan_work, scans_at}
use Rattle.shape_check.proofs.CountLemmas.{first_shape}
use Rattle.shape_check.proofs.NodeLemmas.{NodeTrees, WalksStep, all-cut, all-map, by-operands}

-- a node that is no scan is passed over
record IsPassed (pool : List ℤ) (t : List Expr) (n : Node) : Type 0 where
  none : scan_of n ≡ []
  jobs : (area at : ℕ) (es : List Expr) → scan_jobs area at (expr_of pool t n ∷ es) ≡ scan_jobs area (suc at) es
  shapes : if_scan (expr_of pool t n) ≡ []

abbrev IsScan : Node → Type 0
IsScan n = (fold : Op) × (of : ℕ) × (n ≡ node.Scan fold of)

scan_or_not : (pool : List ℤ) (t : List Expr) (n : Node) → IsPassed pool t n ⊎ IsScan n
scan_or_not pool t (node.Number value) = inl (record { none = refl; jobs = λ _ _ _. refl; shapes = refl })
scan_or_not pool t (node.Use name) = inl (record { none = refl; jobs = λ _ _ _. refl; shapes = refl })
scan_or_not pool t (node.Iota extent) = inl (record { none = refl; jobs = λ _ _ _. refl; shapes = refl })
scan_or_not pool t (node.One op of) = inl (record { none = refl; jobs = λ _ _ _. refl; shapes = refl })
scan_or_not pool t (node.Two op left right) = inl (record { none = refl; jobs = λ _ _ _. refl; shapes = refl })
scan_or_not pool t (node.Psi list of) = inl (record { none = refl; jobs = λ _ _ _. refl; shapes = refl })
scan_or_not pool t (node.Take list of) = inl (record { none = refl; jobs = λ _ _ _. refl; shapes = refl })
scan_or_not pool t (node.Drop list of) = inl (record { none = refl; jobs = λ _ _ _. refl; shapes = refl })
scan_or_not pool t (node.Reverse of) = inl (record { none = refl; jobs = λ _ _ _. refl; shapes = refl })
scan_or_not pool t (node.Rotate by of) = inl (record { none = refl; jobs = λ _ _ _. refl; shapes = refl })
scan_or_not pool t (node.Transpose of) = inl (record { none = refl; jobs = λ _ _ _. refl; shapes = refl })
scan_or_not pool t (node.Permute list of) = inl (record { none = refl; jobs = λ _ _ _. refl; shapes = refl })
scan_or_not pool t (node.Cat left right) = inl (record { none = refl; jobs = λ _ _ _. refl; shapes = refl })
scan_or_not pool t (node.Reshape list of) = inl (record { none = refl; jobs = λ _ _ _. refl; shapes = refl })
scan_or_not pool t (node.Ravel of) = inl (record { none = refl; jobs = λ _ _ _. refl; shapes = refl })
scan_or_not pool t (node.Outer op left right) = inl (record { none = refl; jobs = λ _ _ _. refl; shapes = refl })
scan_or_not pool t (node.Inner fold op left right) = inl (record { none = refl; jobs = λ _ _ _. refl; shapes = refl })
scan_or_not pool t (node.Reduce fold of) = inl (record { none = refl; jobs = λ _ _ _. refl; shapes = refl })
scan_or_not pool t (node.Scan fold of) = inr (fold, of, refl)

abbrev AllBelow : ℕ → List ℕ → Type 0
AllBelow bound numbers = AllByRecursion (λ number. number < bound) numbers

-- behind each scan of a walk stands the walk of what is scanned
abbrev pub Follows : List Node → List ℕ → Type 0
Follows nodes [] = Unit {0}
Follows nodes (number ∷ rest) =
    ((fold : Op) (of : ℕ) → node_at nodes number ≡ node.Scan fold of → (of < length nodes) × (tail : List ℕ) × (rest ≡ walk_of nodes of ++ tail)) × Follows nodes rest

follows-append : (nodes : List Node) (xs ys : List ℕ) → Follows nodes xs → Follows nodes ys → Follows nodes (xs ++ ys)
follows-append nodes [] ys h k = k
follows-append nodes (x ∷ xs) ys h k =
    (λ fold of e. let parts = h.0 fold of e in (parts.0, parts.1 ++ ys, ap (λ l. l ++ ys) parts.2 ∙ append_assoc (walk_of nodes of) parts.1 ys), follows-append nodes xs ys h.1 k)

follows-all : (nodes : List Node) (numbers : List ℕ) → AllByRecursion (λ number. Follows nodes (walk_of nodes number)) numbers → Follows nodes (flat_map (walk_of nodes) numbers)
follows-all nodes [] h = tt
follows-all nodes (number ∷ numbers) h = follows-append nodes (walk_of nodes number) (flat_map (walk_of nodes) numbers) h.0 (follows-all nodes numbers h.1)

pub follows : WalksStep → (nodes : List Node) → IsOrdered nodes → (number : ℕ) → number < length nodes → Follows nodes (walk_of nodes number)
follows law nodes ordered = by-operands nodes ordered (λ number. Follows nodes (walk_of nodes number)) (λ number within h.
    let n = slice_index_or nodes number (node.Iota (pos 0)) in
    subst (Follows nodes) (sym (law nodes ordered number (node.Iota (pos 0)) within)) (
      λ fold of e.
          let below = subst (λ m. AllByRecursion (λ operand. operand < number) (operands m)) e (ordered number (node.Iota (pos 0)) within) in
          (omega (arith, below.0, within), [], ap (λ m. flat_map (walk_of nodes) (operands m)) e),
      follows-all nodes (operands n) h,
    ))

module _ (walks : WalksStep) (over : NodeTrees) (pools : Pools) (ordered : IsOrdered pools.nodes) where
  abbrev t : List Expr
  t = trees pools.numbers pools.nodes

  tree-here : (number : ℕ) → number < length pools.nodes → node_tree pools number ≡ expr_of pools.numbers t (node_at pools.nodes number)
  tree-here number within = over pools.numbers pools.nodes ordered number (node.Iota (pos 0)) within

  tree-scan : (number : ℕ) (fold : Op) (of : ℕ) → number < length pools.nodes → node_at pools.nodes number ≡ node.Scan fold of
      → node_tree pools number ≡ Scan fold (node_tree pools of)
  tree-scan number fold of within e = tree-here number within ∙ ap (expr_of pools.numbers t) e

  -- the jobs of the scans along a part of a walk
  pub jobs-along : (w : List ℕ) → Follows pools.nodes w → AllBelow (length pools.nodes) w → (before after : List ℕ) (area : ℕ)
      → map (pooled (before ++ (w ++ after))) (scan_jobs area (length before) (map (node_tree pools) w)) ≡ numbered_jobs area (scans_at pools.nodes w)
  jobs-along [] h below before after area = refl
  jobs-along (number ∷ rest) h below before after area =
      let whole : (before ++ number ∷ []) ++ (rest ++ after) ≡ before ++ (number ∷ (rest ++ after)) = append_assoc before (number ∷ []) (rest ++ after) in
      let longer : length (before ++ number ∷ []) ≡ suc (length before) = omega (arith, length-append before (number ∷ [])) in
      let later : (next : ℕ) → map (pooled (before ++ (number ∷ (rest ++ after)))) (scan_jobs next (suc (length before)) (map (node_tree pools) rest)) ≡ numbered_jobs next (scans_at pools.nodes rest)
      = λ next.
      ap (λ l. map (pooled l) (scan_jobs next (suc (length before)) (map (node_tree pools) rest))) (sym whole)
      ∙ ap (λ k. map (pooled ((before ++ number ∷ []) ++ (rest ++ after))) (scan_jobs next k (map (node_tree pools) rest))) (sym longer)
      ∙ jobs-along rest h.1 below.1 (before ++ number ∷ []) after next in
      elim (scan_or_not pools.numbers t (node_at pools.nodes number)) [
        | inl passed ↦
            ap (λ e. map (pooled (before ++ (number ∷ (rest ++ after)))) (scan_jobs area (length before) (e ∷ map (node_tree pools) rest))) (tree-here number below.0)
            ∙ ap (map (pooled (before ++ (number ∷ (rest ++ after))))) (passed.jobs area (length before) (map (node_tree pools) rest))
            ∙ later area
            ∙ ap (λ l. numbered_jobs area (l ++ scans_at pools.nodes rest)) (sym passed.none)
        | inr (fold, of, e) ↦
            let parts = h.0 fold of e in
            let place : slice_index (before ++ (number ∷ (rest ++ after))) (suc (length before)) ≡ of =
            ap (λ l. slice_index l (suc (length before))) (sym whole)
            ∙ ap (λ l. slice_index ((before ++ number ∷ []) ++ (l ++ after)) (suc (length before))) (parts.2 ∙ ap (λ l. l ++ parts.1) (walks pools.nodes ordered of (node.Iota (pos 0)) parts.0))
            ∙ get_or_at (before ++ number ∷ []) of ((flat_map (walk_of pools.nodes) (operands (node_at pools.nodes of)) ++ parts.1) ++ after) 0 (suc (length before)) longer in
            ap (λ x. map (pooled (before ++ (number ∷ (rest ++ after)))) (scan_jobs area (length before) (x ∷ map (node_tree pools) rest))) (tree-scan number fold of below.0 e)
            ∙ ap (λ k. record { area = area; node = k; fold = Some fold } ∷ map (pooled (before ++ (number ∷ (rest ++ after)))) (scan_jobs (suc area) (suc (length before)) (map (node_tree pools) rest))) place
            ∙ ap (λ l. record { area = area; node = of; fold = Some fold } ∷ l) (later (suc area))
            ∙ ap (λ m. numbered_jobs area (scan_of m ++ scans_at pools.nodes rest)) (sym e)
      ]

  -- what is said of a job by its expression and its operator
  pub sum-along : (g : TreeJob → ℕ) (f : PoolScan → ℕ)
      → ((area at : ℕ) (fold : Op) (of : ℕ) → g (record { job = record { area = area; node = at; fold = Some fold }; of = node_tree pools of }) ≡ f (record { fold = fold; node = of }))
      → (w : List ℕ) → AllBelow (length pools.nodes) w → (area at : ℕ) → sum_by g (scan_jobs area at (map (node_tree pools) w)) ≡ sum_by f (scans_at pools.nodes w)
  sum-along g f same [] below area at = refl
  sum-along g f same (number ∷ rest) below area at = elim (scan_or_not pools.numbers t (node_at pools.nodes number)) [
    | inl passed ↦
        ap (λ e. sum_by g (scan_jobs area at (e ∷ map (node_tree pools) rest))) (tree-here number below.0)
        ∙ ap (sum_by g) (passed.jobs area at (map (node_tree pools) rest))
        ∙ sum-along g f same rest below.1 area (suc at)
        ∙ ap (λ l. sum_by f (l ++ scans_at pools.nodes rest)) (sym passed.none)
    | inr (fold, of, e) ↦
        ap (λ x. sum_by g (scan_jobs area at (x ∷ map (node_tree pools) rest))) (tree-scan number fold of below.0 e)
        ∙ sum_by-cons g (record { job = record { area = area; node = suc at; fold = Some fold }; of = node_tree pools of }) (scan_jobs (suc area) (suc at) (map (node_tree pools) rest))
        ∙ ap (λ k. k + sum_by g (scan_jobs (suc area) (suc at) (map (node_tree pools) rest))) (same area (suc at) fold of)
        ∙ ap (λ k. f (record { fold = fold; node = of }) + k) (sum-along g f same rest below.1 (suc area) (suc at))
        ∙ sym (sum_by-cons f (record { fold = fold; node = of }) (scans_at pools.nodes rest))
        ∙ ap (λ m. sum_by f (scan_of m ++ scans_at pools.nodes rest)) (sym e)
  ]

  -- the shapes of the scans are those of what is scanned
  pub shapes-along : (shapes : Shapes) (w : List ℕ) → AllBelow (length pools.nodes) w
      → map (shape_of shapes) (flat_map if_scan (map (node_tree pools) w)) ≡ map (λ scan. shape_of shapes (node_tree pools scan.node)) (scans_at pools.nodes w)
  shapes-along shapes [] below = refl
  shapes-along shapes (number ∷ rest) below = elim (scan_or_not pools.numbers t (node_at pools.nodes number)) [
    | inl passed ↦
        ap (λ e. map (shape_of shapes) (if_scan e ++ flat_map if_scan (map (node_tree pools) rest))) (tree-here number below.0)
        ∙ ap (λ l. map (shape_of shapes) (l ++ flat_map if_scan (map (node_tree pools) rest))) passed.shapes
        ∙ shapes-along shapes rest below.1
        ∙ ap (λ l. map (λ scan. shape_of shapes (node_tree pools scan.node)) (l ++ scans_at pools.nodes rest)) (sym passed.none)
    | inr (fold, of, e) ↦
        ap (λ x. map (shape_of shapes) (if_scan x ++ flat_map if_scan (map (node_tree pools) rest))) (tree-scan number fold of below.0 e)
        ∙ ap (λ l. shape_of shapes (node_tree pools of) ∷ l) (shapes-along shapes rest below.1)
        ∙ ap (λ m. map (λ scan. shape_of shapes (node_tree pools scan.node)) (scan_of m ++ scans_at pools.nodes rest)) (sym e)
  ]

-- there are no more scans than nodes
pub few-scans : (nodes : List Node) (w : List ℕ) → length (scans_at nodes w) ≤ length w
few-scans nodes [] = omega arith
few-scans nodes (number ∷ rest) =
    let one : (n : Node) → length (scan_of n) ≤ 1 = at_most_one in
    omega (arith, few-scans nodes rest, one (node_at nodes number), length-append (scan_of (node_at nodes number)) (scans_at nodes rest))
  where
    at_most_one : (n : Node) → length (scan_of n) ≤ 1
    at_most_one (node.Scan fold of) = omega arith
    at_most_one n = omega arith

-- what is scanned along a walk is there, and has its shapes where the walk has them
pub shaped-along : (pools : Pools) (prices : Prices) (shapes : List (List ℕ)) (w : List ℕ) → Follows pools.nodes w → HasShapes pools prices shapes w
    → AllByRecursion (IsShaped pools prices shapes) (scans_at pools.nodes w)
shaped-along pools prices shapes [] h k = tt
shaped-along pools prices shapes (number ∷ rest) h k = by (node_at pools.nodes number) refl (shaped-along pools prices shapes rest h.1 k.1)
  where
    by : (n : Node) → node_at pools.nodes number ≡ n → AllByRecursion (IsShaped pools prices shapes) (scans_at pools.nodes rest)
        → AllByRecursion (IsShaped pools prices shapes) (scan_of n ++ scans_at pools.nodes rest)
    by (node.Scan fold of) e rest_shaped =
        let parts = h.0 fold of e in (
          record {
            there = parts.0;
            shaped = (all-cut (λ other. slice_index_or shapes other [] ≡ shape_in prices (node_tree pools other)) (walk_of pools.nodes of) parts.1
                (subst (HasShapes pools prices shapes) parts.2 k.1)).0;
          },
          rest_shaped,
        )
    by n e rest_shaped = rest_shaped

-- what is scanned is there
pub there-along : (nodes : List Node) (w : List ℕ) → Follows nodes w → AllByRecursion (λ scan. scan.node < length nodes) (scans_at nodes w)
there-along nodes [] h = tt
there-along nodes (number ∷ rest) h = by (node_at nodes number) refl (there-along nodes rest h.1)
  where
    by : (n : Node) → node_at nodes number ≡ n → AllByRecursion (λ scan. scan.node < length nodes) (scans_at nodes rest)
        → AllByRecursion (λ scan. scan.node < length nodes) (scan_of n ++ scans_at nodes rest)
    by (node.Scan fold of) e others = ((h.0 fold of e).0, others)
    by n e others = others

pub all-from : {X : Type 0} (P : X → Type 0) (xs : List X) → AllByRecursion P xs → (k : ℕ) (d : X) → k < length xs → P (get_or xs k d)
all-from P [] h k d below = absurd (omega (arith, below))
all-from P (x ∷ xs) h zero d below = h.0
all-from P (x ∷ xs) h (suc k) d below = all-from P xs h.1 k d (omega (arith, below))

map-same : {A B : Type 0} (f g : A → B) (xs : List A) → AllByRecursion (λ x. f x ≡ g x) xs → map f xs ≡ map g xs
map-same f g [] h = refl
map-same f g (x ∷ xs) h = ap (λ y. y ∷ map f xs) h.0 ∙ ap (λ l. g x ∷ l) (map-same f g xs h.1)

-- the scans of an expression are added
module _ (walks : WalksStep) (pools : Pools) (ordered : IsOrdered pools.nodes) (inventory : Inventory) (prices : Prices) (number : ℕ) (within : number < length pools.nodes)
    (old new : Progress) where
  abbrev scans : List PoolScan
  scans = scans_at pools.nodes (walk_of pools.nodes number)

  pub scans_added : HasShapes pools prices old.shapes.items (walk_of pools.nodes number) → (found other another : List PoolScan) (table shapes : List (List ℕ)) (js : List Job) (k : ℕ)
      → found ≡ scans → other ≡ scans → another ≡ scans → table ≡ old.shapes.items → shapes ≡ old.shapes.items
      → new.jobs.items ≡ old.jobs.items ++ reverse js → js ≡ numbered_jobs (inventory.inputs + inventory.outputs + k) found → k ≡ length old.scans.items
      → new.scans.items ≡ old.scans.items ++ numbered (length old.scans.items) (map (λ scan. slice_index_or shapes scan.node []) another)
      → (((i : ℕ) (d : PoolScan) → i < length other → IsShaped pools prices table (get_or other i d))
      → IsWith (sum_by (scan_size pools prices) other) (sum_by (scan_work pools prices) other) old.totals new.totals)
      → AddsScans pools inventory prices number old new
  scans_added shaped found other another table shapes js k e f g t u jobs made len arrays totals =
      let all = shaped-along pools prices old.shapes.items (walk_of pools.nodes number) (follows walks pools.nodes ordered number within) shaped in
      record {
        jobs =
            jobs ∙ ap (λ l. old.jobs.items ++ reverse l) (made ∙ ap (numbered_jobs (inventory.inputs + inventory.outputs + k)) e)
            ∙ ap (λ m. old.jobs.items ++ reverse (numbered_jobs (inventory.inputs + inventory.outputs + m) scans)) len;
        scans =
            arrays
            ∙ ap (λ l. old.scans.items ++ numbered (length old.scans.items) (map (λ scan. slice_index_or shapes scan.node []) l)) g
            ∙ ap (λ l. old.scans.items ++ numbered (length old.scans.items) (map (λ scan. slice_index_or l scan.node []) scans)) u
            ∙ ap (λ l. old.scans.items ++ numbered (length old.scans.items) l)
            (map-same (λ scan. slice_index_or old.shapes.items scan.node []) (λ scan. shape_in prices (node_tree pools scan.node)) scans
            (all-map (IsShaped pools prices old.shapes.items) (λ scan. slice_index_or old.shapes.items scan.node [] ≡ shape_in prices (node_tree pools scan.node))
            (λ scan h. first_shape walks pools ordered prices old.shapes.items scan.node h.there h.shaped) scans all));
        totals =
            subst (λ l. IsWith (sum_by (scan_size pools prices) l) (sum_by (scan_work pools prices) l) old.totals new.totals) f
            (totals
            (subst (λ l. (i : ℕ) (d : PoolScan) → i < length l → IsShaped pools prices table (get_or l i d)) (sym f)
            (subst (λ l. (i : ℕ) (d : PoolScan) → i < length scans → IsShaped pools prices l (get_or scans i d)) (sym t)
            (all-from (IsShaped pools prices old.shapes.items) scans all))));
      }
