-- What a statement adds, and where it fails.
use Rattle.std.proofs.Common.{◌≡◌, ℕ, suc, ◌+◌, ◌<◌, cond, List, [], ◌∷◌, ◌++◌, refl, ap, sym, ◌∙◌, arith, inl, inr, length, map, take, drop, get_or, append_assoc}
use Rattle.std.specs.Prelude.{◌==◌, Some, slice_get, slice_index_or, unwrap_or}
use Rattle.std.specs.List.{AllByRecursion, count_by, flat_map}
use Rattle.std.proofs.Math.Seq.{drop-cons, take-suc}
use Rattle.std.proofs.lemmas.Bool.{cases_eq, eq-eqb, ne_eqb}
use Rattle.std.proofs.lemmas.Grind.{flat_map-append}
use Rattle.std.proofs.lemmas.List.{append-nil, get_or-map, map-append, take-append-drop}
use Rattle.std.proofs.lemmas.List.Sums.{sum_by-append, sum_by-cons}
use Rattle.std.proofs.lemmas.Option.{get_or_from_slice_get, slice_get_within, unwrap_or-slice_get}
use Rattle.text_tokens.specs.Tokens.{start}
use Rattle.moa_tree.specs.declared.tree.Statement.{Statement}
use Rattle.moa_tree.specs.Expr.{Item}
use Rattle.moa_tree.specs.Pool.{item_of, trees, walk_of}
use Rattle.moa_tree.specs.Pools.{IsProgram, Pools, nodes_of, walk}
use Rattle.moa_tree.specs.Positions.{position_of}
use Rattle.moa_tree.specs.ShapeOf.{shape_of}
use Rattle.moa_tree.specs.Subexpressions.{subexpressions}
use Rattle.shape_check.specs.declared.error.CheckError.{CheckError}
use Rattle.shape_check.specs.declared.error.CheckError.TheVariants as error
use Rattle.shape_check.specs.Costs.{Prices, shapes_of}
use Rattle.shape_check.specs.Judged.{node_tree}
use Rattle.shape_check.specs.Kept.{shapes_at}
use Rattle.shape_check.specs.Progress.{Fails, FailsAt, left_of, walked}
use Rattle.shape_check.specs.Uses.{HasShapes}

-- ---- where a statement stands

module _ (pools : Pools) (count : ℕ) (s : Statement) (there : slice_get pools.statements count ≡ Some s) where
  within : count < length pools.statements
  within = slice_get_within pools.statements count s there

  here : get_or pools.statements count s ≡ s
  here = get_or_from_slice_get pools.statements count s s there

  pub walked_next : walked pools (suc count) ≡ walked pools count ++ flat_map (walk_of pools.nodes) (nodes_of s)
  walked_next =
      ap (λ l. flat_map (walk_of pools.nodes) (flat_map nodes_of l)) (take-suc pools.statements count s within ∙ ap (λ x. take count pools.statements ++ x ∷ []) here)
      ∙ ap (flat_map (walk_of pools.nodes)) (flat_map-append nodes_of (take count pools.statements) (s ∷ []) ∙ ap (λ l. flat_map nodes_of (take count pools.statements) ++ l) (append-nil (nodes_of s)))
      ∙ flat_map-append (walk_of pools.nodes) (flat_map nodes_of (take count pools.statements)) (nodes_of s)

  pub left_next : left_of pools count ≡ item_of pools.numbers (trees pools.numbers pools.nodes) s ∷ left_of pools (suc count)
  left_next = ap (map (item_of pools.numbers (trees pools.numbers pools.nodes))) (drop-cons pools.statements count s within ∙ ap (λ x. x ∷ drop (suc count) pools.statements) here)

  pub position_here : slice_index_or (map position_of pools.statements) count start ≡ position_of s
  position_here = get_or-map position_of pools.statements count s start within ∙ ap position_of here

pub walk_split : (pools : Pools) (count : ℕ) → walk pools ≡ walked pools count ++ flat_map (walk_of pools.nodes) (flat_map nodes_of (drop count pools.statements))
walk_split pools count =
    ap (λ l. flat_map (walk_of pools.nodes) (flat_map nodes_of l)) (sym (take-append-drop count pools.statements))
    ∙ ap (flat_map (walk_of pools.nodes)) (flat_map-append nodes_of (take count pools.statements) (drop count pools.statements))
    ∙ flat_map-append (walk_of pools.nodes) (flat_map nodes_of (take count pools.statements)) (flat_map nodes_of (drop count pools.statements))

-- the walk of a statement's node stands between what comes before it and what comes after it
module _ (pools : Pools) (count : ℕ) (s : Statement) (number : ℕ) (there : slice_get pools.statements count ≡ Some s) (one : nodes_of s ≡ number ∷ []) where
  abbrev pub walked_later : List ℕ
  walked_later = flat_map (walk_of pools.nodes) (flat_map nodes_of (drop (suc count) pools.statements))

  pub walked_one : walked pools (suc count) ≡ walked pools count ++ walk_of pools.nodes number
  walked_one =
      walked_next pools count s there
      ∙ ap (λ l. walked pools count ++ flat_map (walk_of pools.nodes) l) one
      ∙ ap (λ l. walked pools count ++ l) (append-nil (walk_of pools.nodes number))

  pub walk_around : walk pools ≡ walked pools count ++ (walk_of pools.nodes number ++ walked_later)
  walk_around =
      walk_split pools (suc count) ∙ ap (λ l. l ++ walked_later) walked_one
      ∙ append_assoc (walked pools count) (walk_of pools.nodes number) walked_later

-- ---- shapes that are in the table

abbrev occurs : ℕ → List ℕ → ℕ
occurs n numbers = count_by (λ other. other == n) numbers

occurs-append : (n : ℕ) (xs ys : List ℕ) → occurs n (xs ++ ys) ≡ occurs n xs + occurs n ys
occurs-append n xs ys = sum_by-append (λ other. cond (other == n) 1 0) xs ys

occurs-first : (n : ℕ) (xs : List ℕ) → 0 < occurs n (n ∷ xs)
occurs-first n xs =
    let e = sum_by-cons (λ other. cond (other == n) 1 0) n xs ∙ ap (λ b. cond b 1 0 + occurs n xs) (eq-eqb n n refl) in
    omega (arith, e)

occurs-more : (n x : ℕ) (xs : List ℕ) → 0 < occurs n xs → 0 < occurs n (x ∷ xs)
occurs-more n x xs h = let e = sum_by-cons (λ other. cond (other == n) 1 0) x xs in omega (arith, e, h)

same-get : (new old : List (List ℕ)) (n : ℕ) → slice_get new n ≡ slice_get old n → slice_index_or new n [] ≡ slice_index_or old n []
same-get new old n e = sym (unwrap_or-slice_get new n []) ∙ ap (λ o. unwrap_or o []) e ∙ unwrap_or-slice_get old n []

same-shapes : (new old : List (List ℕ)) (w : List ℕ) → ((n : ℕ) → 0 < occurs n w → slice_get new n ≡ slice_get old n) → shapes_at new w ≡ shapes_at old w
same-shapes new old [] h = refl
same-shapes new old (n ∷ w) h =
    ap (λ x. x ∷ shapes_at new w) (same-get new old n (h n (occurs-first n w)))
    ∙ ap (λ l. slice_index_or old n [] ∷ l) (same-shapes new old w (λ m k. h m (occurs-more m n w k)))

occurs-within : (bound n : ℕ) (w : List ℕ) → AllByRecursion (λ number. number < bound) w → 0 < occurs n w → n < bound
occurs-within bound n [] below h = absurd (omega (arith, h))
occurs-within bound n (x ∷ w) below h = elim (cases_eq x n) [
  | inl e ↦ omega (arith, e, below.0)
  | inr ne ↦
      let e = sum_by-cons (λ other. cond (other == n) 1 0) x w ∙ ap (λ b. cond b 1 0 + occurs n w) (ne_eqb x n ne) in
      occurs-within bound n w below.1 (omega (arith, e, h))
]

-- each node of a program stands once in its walk
abbrev pub WalksOnce : Type 0
WalksOnce = (pools : Pools) → IsProgram pools → (number : ℕ) → number < length pools.nodes → occurs number (walk pools) ≡ 1

abbrev pub WalksWithin : Type 0
WalksWithin = (pools : Pools) → IsProgram pools → AllByRecursion (λ number. number < length pools.nodes) (walk pools)

-- the walk of a node goes over the expressions in its tree
abbrev pub WalksEach : Type 0
WalksEach = (pools : Pools) → IsProgram pools → (number : ℕ) → number < length pools.nodes
    → map (node_tree pools) (walk_of pools.nodes number) ≡ subexpressions (node_tree pools number)

module _ (once : WalksOnce) (inside : WalksWithin) (pools : Pools) (program : IsProgram pools) (count : ℕ) (s : Statement) (number : ℕ)
    (there : slice_get pools.statements count ≡ Some s) (one : nodes_of s ≡ number ∷ []) where
  -- the nodes before a statement are none of its own
  apart : (n : ℕ) → 0 < occurs n (walked pools count) → occurs n (walk_of pools.nodes number) ≡ 0
  apart n h =
      let e = ap (occurs n) (walk_around pools count s number there one) ∙ occurs-append n (walked pools count) (walk_of pools.nodes number ++ walked_later pools count s number there one) in
      let f = occurs-append n (walk_of pools.nodes number) (walked_later pools count s number there one) in
      let k = once pools program n (occurs-within (length pools.nodes) n (walk pools) (inside pools program) (omega (arith, e, h))) in
      omega (arith, e, f, k, h)

  pub shapes_more : (new old : List (List ℕ)) (shapes : List (List ℕ)) → ((n : ℕ) → occurs n (walk_of pools.nodes number) ≡ 0 → slice_get new n ≡ slice_get old n)
      → shapes_at new (walk_of pools.nodes number) ≡ shapes
      → shapes_at new (walked pools (suc count)) ≡ shapes_at old (walked pools count) ++ shapes
  shapes_more new old shapes kept found =
      ap (shapes_at new) (walked_one pools count s number there one)
      ∙ map-append (λ n. slice_index_or new n []) (walked pools count) (walk_of pools.nodes number)
      ∙ ap (λ l. l ++ shapes_at new (walk_of pools.nodes number)) (same-shapes new old (walked pools count) (λ n h. kept n (apart n h)))
      ∙ ap (λ l. shapes_at old (walked pools count) ++ l) found

each-known : (f : ℕ → List ℕ) (g : ℕ → List ℕ) (w : List ℕ) → map f w ≡ map g w → AllByRecursion (λ n. f n ≡ g n) w
each-known f g [] h = tt
each-known f g (n ∷ w) h = (cc, each-known f g w cc)

-- the table has the shapes of the nodes of an expression
pub table_known : WalksEach → (pools : Pools) → IsProgram pools → (prices : Prices) (number : ℕ) → number < length pools.nodes → (table : List (List ℕ))
    → shapes_at table (walk_of pools.nodes number) ≡ map (shape_of (shapes_of prices)) (subexpressions (node_tree pools number))
    → HasShapes pools prices table (walk_of pools.nodes number)
table_known each pools program prices number within table found =
    each-known (λ n. slice_index_or table n []) (λ n. shape_of (shapes_of prices) (node_tree pools n)) (walk_of pools.nodes number)
    (found ∙ ap (map (shape_of (shapes_of prices))) (sym (each pools program number within))
    ∙ map-map (shape_of (shapes_of prices)) (node_tree pools) (walk_of pools.nodes number))
  where
    map-map : {A B C : Type 0} (f : B → C) (g : A → B) (xs : List A) → map f (map g xs) ≡ map (λ x. f (g x)) xs
    map-map f g [] = refl
    map-map f g (x ∷ xs) = ap (λ l. f (g x) ∷ l) (map-map f g xs)

-- ---- how it fails

pub fails_as : (pools : Pools) (prices : Prices) (count : ℕ) (item : Item) (found : CheckError) → FailsAt pools prices count item found → Fails pools prices count item found
fails_as pools prices count item (error.Rule at rule) h = h
fails_as pools prices count item (error.Limit at which value) h = h
fails_as pools prices count item error.Memory h = tt
