-- Each node of a statement's expression has its shape among the names before the statement.
use Rattle.std.specs.Prelude.{◌≡◌, ℕ, zero, suc, ◌<◌, ◌≤◌, All, List, [], ◌∷◌, ◌++◌, drop, length, map, slice_get, slice_index_or, take, Some}
use Rattle.std.specs.List.{AllByRecursion, flat_map, fold}
use Rattle.std.proofs.Common.{refl, ap, sym, subst, ◌∙◌, arith}
use Rattle.std.proofs.lemmas.Grind.{flat_map-append}
use Rattle.std.proofs.lemmas.List.{append-nil, map-append}
use Rattle.std.proofs.lemmas.Option.{get_or_from_slice_get, none-some, same_Some, slice_get_within}
use Rattle.std.proofs.lemmas.Simd.{map-map}
use Rattle.moa_tree.specs.declared.tree.Node.{Node}
use Rattle.moa_tree.specs.declared.tree.Statement.{Statement}
use Rattle.moa_tree.specs.declared.tree.Statement.TheVariants as statement
use Rattle.moa_tree.specs.Expr.{Item}
use Rattle.moa_tree.specs.Pool.{IsOrdered, operands, tree_at, trees, walk_of}
use Rattle.moa_tree.specs.Pools.{IsProgram, Pools, nodes_of}
use Rattle.moa_tree.specs.ShapeOf.{Shapes, shape_of}
use Rattle.moa_tree.specs.Subexpressions.{subexpressions, subexpressions_of}
use Rattle.shape_check.specs.Judged.{items_in, node_tree}
use Rattle.shape_check.specs.Kept.{Checking, IsChecked, shapes_at}
use Rattle.shape_check.specs.Layout.{gathered, shapes_after}
use Rattle.shape_check.specs.Scans.{node_at}
use Rattle.psi_rules.specs.Rows.{item_in}
use Rattle.psi_rules.specs.Rules.{Names}
use Rattle.psi_rules.specs.Scopes.{names_at}
use Rattle.psi_rules.specs.Tables.{HaveShapes, HasShape, HasShapes}
use Rattle.psi_rules.proofs.ListLemmas.{each-append, each-cut, each-follows}
use Rattle.psi_rules.proofs.ScopeLemmas.{shapes-at}

-- ---- lists

abbrev pub AllBelow : ℕ → List ℕ → Type 0
AllBelow bound numbers = AllByRecursion (λ number. number < bound) numbers

-- lists that begin with what two functions make of the same items
made-alike : {X Y : Type 0} (f g : X → Y) (xs : List X) (ys zs : List Y) → map f xs ++ ys ≡ map g xs ++ zs
    → AllByRecursion (λ x. f x ≡ g x) xs × (ys ≡ zs)
made-alike f g [] ys zs e = (tt, e)
made-alike f g (x ∷ xs) ys zs e =
    let rest = made-alike f g xs ys zs (ap (drop 1) e) in
    ((ap (λ l. slice_index_or l 0 (f x)) e, rest.0), rest.1)

-- ---- the laws of walks

abbrev pub WalksStep : Type 0
WalksStep = (nodes : List Node) → IsOrdered nodes → (number : ℕ) (other : Node) → number < length nodes
    → walk_of nodes number ≡ number ∷ flat_map (walk_of nodes) (operands (slice_index_or nodes number other))

abbrev pub WalksEach : Type 0
WalksEach = (pools : Pools) → IsProgram pools → (number : ℕ) → number < length pools.nodes
    → map (tree_at (trees pools.numbers pools.nodes)) (walk_of pools.nodes number)
    ≡ subexpressions (tree_at (trees pools.numbers pools.nodes) number)

-- the walks of some nodes
module _ (pools : Pools) where
  abbrev pub walked : List ℕ → List ℕ
  walked numbers = flat_map (walk_of pools.nodes) numbers

-- the nodes of a statement are there, and their walks go over its expressions
module _ (pools : Pools) (program : IsProgram pools) where
  nodes-there : (number : ℕ) (s : Statement) → slice_get pools.statements number ≡ Some s → AllBelow (length pools.nodes) (nodes_of s)
  nodes-there number s at =
      subst (λ other. AllBelow (length pools.nodes) (nodes_of other)) (get_or_from_slice_get pools.statements number s s at)
      (program.nodes_there number s (slice_get_within pools.statements number s at))

  pub expressions-walked : WalksEach → (s : Statement) → AllBelow (length pools.nodes) (nodes_of s)
      → map (node_tree pools) (walked pools (nodes_of s)) ≡ subexpressions_of (item_in pools s)
  expressions-walked each (statement.Input name extents at) there = refl
  expressions-walked each (statement.Name name number at) there =
      ap (map (node_tree pools)) (append-nil (walk_of pools.nodes number)) ∙ each pools program number there.0
  expressions-walked each (statement.Output name number at) there =
      ap (map (node_tree pools)) (append-nil (walk_of pools.nodes number)) ∙ each pools program number there.0

-- ---- the shapes of all nodes are cut statement by statement

abbrev shapes_from : Shapes → List Item → List (List ℕ)
shapes_from known items = gathered (λ shapes item. map (shape_of shapes) (subexpressions_of item)) known items

module _ (pools : Pools) (shapes : List (List ℕ)) where
  -- a node has the shape of its tree among names of these shapes
  abbrev IsShapedAmong : Shapes → ℕ → Type 0
  IsShapedAmong known number = slice_index_or shapes number [] ≡ shape_of known (node_tree pools number)

module _ (each : WalksEach) (pools : Pools) (program : IsProgram pools) (shapes : List (List ℕ)) where
  abbrev item : Statement → Item
  item s = item_in pools s

  first-cut : (first : Statement) (others : List Statement) → AllBelow (length pools.nodes) (nodes_of first) → (known : Shapes)
      → shapes_at shapes (walked pools (flat_map nodes_of (first ∷ others))) ≡ shapes_from known (map item (first ∷ others))
      → AllByRecursion (IsShapedAmong pools shapes known) (walked pools (nodes_of first))
      × (shapes_at shapes (walked pools (flat_map nodes_of others)) ≡ shapes_from (shapes_after known (item first)) (map item others))
  first-cut first others there known e =
      let w = walked pools (nodes_of first) in
      let behind = walked pools (flat_map nodes_of others) in
      let rest = shapes_from (shapes_after known (item first)) (map item others) in
      let f : ℕ → List ℕ = λ number. slice_index_or shapes number [] in
      let g : ℕ → List ℕ = λ number. shape_of known (node_tree pools number) in
      made-alike f g w (map f behind) rest
      (sym (map-append f w behind)
      ∙ ap (map f) (sym (flat_map-append (walk_of pools.nodes) (nodes_of first) (flat_map nodes_of others)))
      ∙ e
      ∙ ap (λ l. map (shape_of known) l ++ rest) (sym (expressions-walked pools program each first there))
      ∙ ap (λ l. l ++ rest) (map-map (shape_of known) (node_tree pools) w))

  shaped-from : (statements : List Statement) → All (λ s. AllBelow (length pools.nodes) (nodes_of s)) statements → (known : Shapes)
      → shapes_at shapes (walked pools (flat_map nodes_of statements)) ≡ shapes_from known (map item statements)
      → (number : ℕ) (s : Statement) → slice_get statements number ≡ Some s
      → AllByRecursion (IsShapedAmong pools shapes (fold shapes_after known (take number (map item statements)))) (walked pools (nodes_of s))
  shaped-from [] there known e number s at = absurd (none-some s at)
  shaped-from (first ∷ others) there known e zero s at =
      subst (λ other. AllByRecursion (IsShapedAmong pools shapes known) (walked pools (nodes_of other))) (same_Some first s at)
      (first-cut first others (there 0 first (omega arith)) known e).0
  shaped-from (first ∷ others) there known e (suc number) s at =
      shaped-from others (λ k d below. there (suc k) d (omega (arith, below))) (shapes_after known (item first))
      (first-cut first others (there 0 first (omega arith)) known e).1 number s at

-- ---- where each node of a walk has its shape, so has each node of the expression of each of them

module _ (step : WalksStep) (checking : Checking) (ordered : IsOrdered checking.pools.nodes) (names : Names) where
  abbrev WalksHaveShape : List ℕ → Type 0
  WalksHaveShape numbers = AllByRecursion (HasShape checking names) (flat_map (walk_of checking.pools.nodes) numbers)

  abbrev WalksHaveShapes : List ℕ → Type 0
  WalksHaveShapes numbers = AllByRecursion (HasShapes checking names) (flat_map (walk_of checking.pools.nodes) numbers)

  node-step : (number : ℕ) → number < length checking.pools.nodes
      → walk_of checking.pools.nodes number
      ≡ number ∷ flat_map (walk_of checking.pools.nodes) (operands (node_at checking.pools.nodes number))
  node-step number there = step checking.pools.nodes ordered number (node_at [] 0) there

  shaped-more : (bound : ℕ) → suc bound ≤ length checking.pools.nodes
      → ((numbers : List ℕ) → AllBelow bound numbers → WalksHaveShape numbers → WalksHaveShapes numbers)
      → (numbers : List ℕ) → AllBelow (suc bound) numbers → WalksHaveShape numbers → WalksHaveShapes numbers
  shaped-more bound within h [] below listed = tt
  shaped-more bound within h (number ∷ numbers) below listed =
      let w = walk_of checking.pools.nodes in
      let there : number < length checking.pools.nodes = omega (arith, within, below.0) in
      let inner = operands (node_at checking.pools.nodes number) in
      let parts = each-cut (HasShape checking names) (w number) (flat_map w numbers) listed in
      let own = subst (AllByRecursion (HasShape checking names)) (node-step number there) parts.0 in
      each-append (HasShapes checking names) (w number) (flat_map w numbers)
      (subst (AllByRecursion (HasShapes checking names)) (sym (node-step number there)) (
        record { there = there; shape = own.0; shapes = parts.0 },
        h inner (each-follows (λ of. of < number) (λ of. of < bound) (λ of small. omega (arith, below.0, small)) inner
            (ordered number (node_at [] 0) there)) own.1,
      ))
      (shaped-more bound within h numbers below.1 parts.1)

  shaped : (bound : ℕ) → bound ≤ length checking.pools.nodes → (numbers : List ℕ) → AllBelow bound numbers → WalksHaveShape numbers
      → WalksHaveShapes numbers
  shaped zero within [] below listed = tt
  shaped zero within (number ∷ numbers) below listed = absurd (omega (arith, below.0))
  shaped (suc bound) within numbers below listed =
      shaped-more bound within (λ others h k. shaped bound (omega (arith, within)) others h k) numbers below listed

  roots-shaped : (numbers : List ℕ) → AllBelow (length checking.pools.nodes) numbers → WalksHaveShapes numbers
      → AllByRecursion (HasShapes checking names) numbers
  roots-shaped [] below h = tt
  roots-shaped (number ∷ numbers) below h =
      let parts = each-cut (HasShapes checking names) (walk_of checking.pools.nodes number) (flat_map (walk_of checking.pools.nodes) numbers) h in
      ((subst (AllByRecursion (HasShapes checking names)) (node-step number below.0) parts.0).0, roots-shaped numbers below.1 parts.1)

-- ---- the statements of a checked program

module _ (step : WalksStep) (each : WalksEach) (checking : Checking) (program : IsProgram checking.pools) (checked : IsChecked checking) where
  pub walk-shaped : (number : ℕ) (s : Statement) → slice_get checking.pools.statements number ≡ Some s
      → AllByRecursion (HasShapes checking (names_at (items_in checking.pools) number)) (flat_map (walk_of checking.pools.nodes) (nodes_of s))
  walk-shaped number s at =
      shaped step checking program.ordered (names_at (items_in checking.pools) number) (length checking.pools.nodes) (omega arith) (nodes_of s)
      (nodes-there checking.pools program number s at)
      (subst (λ known. AllByRecursion (IsShapedAmong checking.pools checking.shapes known) (walked checking.pools (nodes_of s)))
      (sym (shapes-at (items_in checking.pools) number))
      (shaped-from each checking.pools program checking.shapes checking.pools.statements program.nodes_there [] checked.shapes_of_nodes number s at))

  pub statement-shaped : (number : ℕ) (s : Statement) → slice_get checking.pools.statements number ≡ Some s → HaveShapes checking number (nodes_of s)
  statement-shaped number s at =
      roots-shaped step checking program.ordered (names_at (items_in checking.pools) number) (nodes_of s)
      (nodes-there checking.pools program number s at) (walk-shaped number s at)
