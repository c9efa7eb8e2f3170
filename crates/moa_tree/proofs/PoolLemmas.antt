-- What each node of a pool has by those before it: its tree is its operator over the trees of its operands, and its walk goes over theirs.
use Rattle.std.specs.Prelude.{◌≡◌, ℕ, zero, suc, ◌+◌, ◌<◌, ℤ, pos, List, [], ◌∷◌, ◌++◌, length, slice_index_or}
use Rattle.std.specs.List.{AllByRecursion, flat_map}
use Rattle.std.proofs.Common.{refl, ap, sym, ◌∙◌, arith, length-append}
use Rattle.std.proofs.Math.Seq.{get_or-append_seam}
use Rattle.std.proofs.lemmas.List.{get_or_append_left}
use Rattle.moa_tree.specs.declared.tree.Node.{Node}
use Rattle.moa_tree.specs.declared.tree.Node.TheVariants as node
use Rattle.moa_tree.specs.declared.tree.Statement.{Statement}
use Rattle.moa_tree.specs.declared.tree.Statement.TheVariants as statement
use Rattle.moa_tree.specs.Expr.{Expr, Number, One, Two, Psi, Take, Drop, Permute, Reshape, Reverse, Rotate, Transpose, Cat, Ravel, Outer, Inner, Reduce, Scan, Input, Let, Output}
use Rattle.moa_tree.specs.Pool.{each_after, expr_of, IsOrdered, item_of, list_at, operands, tree_at, trees, walk_at, walk_from, walk_of}
use Rattle.moa_tree.specs.Pools.{extents_of, lists_of, nodes_of}

-- two arguments may be exchanged for equal ones
both : {X : Type 0} {a b : X} {c d : Expr} (f : X → Expr → Expr) → a ≡ b → c ≡ d → f a c ≡ f b d
both {b = b} {c = c} f first second = ap (λ x. f x c) first ∙ ap (f b) second

-- a node reads nothing but its lists and the trees of its operands
pub expr-same : (pool other : List ℤ) (t u : List Expr) (n : Node) → AllByRecursion (λ list. list_at pool list ≡ list_at other list) (lists_of n)
    → AllByRecursion (λ operand. tree_at t operand ≡ tree_at u operand) (operands n) → expr_of pool t n ≡ expr_of other u n
expr-same pool other t u (node.Number value) g h = refl
expr-same pool other t u (node.Use name) g h = refl
expr-same pool other t u (node.Iota extent) g h = refl
expr-same pool other t u (node.One op of) g h = ap (One op) h.0
expr-same pool other t u (node.Two op left right) g h = both (Two op) h.0 h.1.0
expr-same pool other t u (node.Psi list of) g h = both Psi g.0 h.0
expr-same pool other t u (node.Take list of) g h = both Take g.0 h.0
expr-same pool other t u (node.Drop list of) g h = both Drop g.0 h.0
expr-same pool other t u (node.Reverse of) g h = ap Reverse h.0
expr-same pool other t u (node.Rotate by of) g h = ap (Rotate by) h.0
expr-same pool other t u (node.Transpose of) g h = ap Transpose h.0
expr-same pool other t u (node.Permute list of) g h = both Permute g.0 h.0
expr-same pool other t u (node.Cat left right) g h = both Cat h.0 h.1.0
expr-same pool other t u (node.Reshape list of) g h = both Reshape g.0 h.0
expr-same pool other t u (node.Ravel of) g h = ap Ravel h.0
expr-same pool other t u (node.Outer op left right) g h = both (Outer op) h.0 h.1.0
expr-same pool other t u (node.Inner fold op left right) g h = both (Inner fold op) h.0 h.1.0
expr-same pool other t u (node.Reduce fold of) g h = ap (Reduce fold) h.0
expr-same pool other t u (node.Scan fold of) g h = ap (Scan fold) h.0

-- and so does a statement
pub item-same : (pool other : List ℤ) (t u : List Expr) (s : Statement) → AllByRecursion (λ list. list_at pool list ≡ list_at other list) (extents_of s)
    → AllByRecursion (λ number. tree_at t number ≡ tree_at u number) (nodes_of s) → item_of pool t s ≡ item_of other u s
item-same pool other t u (statement.Input name extents at) g h = ap (Input name) g.0
item-same pool other t u (statement.Name name number at) g h = ap (Let name) h.0
item-same pool other t u (statement.Output name number at) g h = ap (Output name) h.0

-- what is read at each is itself
pub all-same : {X Y : Type 0} (read : X → Y) (places : List X) → AllByRecursion (λ place. read place ≡ read place) places
all-same read [] = tt
all-same read (place ∷ places) = (refl, all-same read places)

-- nor does its walk read more than those of its operands
walks-same : (t u : List (List ℕ)) (numbers : List ℕ) → AllByRecursion (λ operand. walk_at t operand ≡ walk_at u operand) numbers
    → flat_map (walk_at t) numbers ≡ flat_map (walk_at u) numbers
walks-same t u [] h = refl
walks-same t u (number ∷ numbers) h = ap (λ l. l ++ flat_map (walk_at t) numbers) h.0 ∙ ap (λ l. walk_at u number ++ l) (walks-same t u numbers h.1)

below-as : {a b : ℕ} (numbers : List ℕ) → a ≡ b → AllByRecursion (λ number. number < a) numbers → AllByRecursion (λ number. number < b) numbers
below-as [] e h = tt
below-as (number ∷ numbers) e h = (omega (arith, e, h.0), below-as numbers e h.1)

-- the nodes behind some others work on nodes before them
abbrev IsOrderedBehind : ℕ → List Node → Type 0
IsOrderedBehind count nodes = (number : ℕ) (other : Node) → number < length nodes → AllByRecursion (λ operand. operand < count + number) (operands (slice_index_or nodes number other))

module _ {X : Type 0} (none : X) (f : List X → ℕ → Node → X) where
  -- later nodes leave what earlier ones have as it is
  pub kept : (front : List X) (nodes : List Node) (number : ℕ) → number < length front → slice_index_or (each_after f front nodes) number none ≡ slice_index_or front number none
  kept front [] number h = refl
  kept front (first ∷ others) number h =
      kept (front ++ f front (length front) first ∷ []) others number (omega (arith, h, length-append front (f front (length front) first ∷ [])))
      ∙ get_or_append_left front (f front (length front) first ∷ []) none number h

  all-kept : (front : List X) (nodes : List Node) (numbers : List ℕ) → AllByRecursion (λ number. number < length front) numbers
      → AllByRecursion (λ number. slice_index_or front number none ≡ slice_index_or (each_after f front nodes) number none) numbers
  all-kept front nodes [] h = tt
  all-kept front nodes (number ∷ numbers) h = (sym (kept front nodes number h.0), all-kept front nodes numbers h.1)

  abbrev ReadsOperands : Type 0
  ReadsOperands = (t u : List X) (number : ℕ) (n : Node) → AllByRecursion (λ operand. slice_index_or t operand none ≡ slice_index_or u operand none) (operands n)
      → f t number n ≡ f u number n

  behind : ReadsOperands → (front : List X) (nodes : List Node) → IsOrderedBehind (length front) nodes → (number : ℕ) (other : Node) → number < length nodes
      → slice_index_or (each_after f front nodes) (length front + number) none ≡ f (each_after f front nodes) (length front + number) (slice_index_or nodes number other)
  behind reads front [] h number other within = absurd (omega (arith, within))
  behind reads front (first ∷ others) h zero other within =
      let more = front ++ f front (length front) first ∷ [] in
      let longer : length more ≡ length front + 1 = length-append front (f front (length front) first ∷ []) in
      let e : length front + zero ≡ length front = omega arith in
      let inner : AllByRecursion (λ operand. operand < length front) (operands first) = below-as (operands first) e (h zero other within) in
      ap (λ place. slice_index_or (each_after f more others) place none) e
      ∙ kept more others (length front) (omega (arith, longer))
      ∙ get_or-append_seam front (f front (length front) first) [] none
      ∙ reads front (each_after f more others) (length front) first (all-kept front (first ∷ others) (operands first) inner)
      ∙ ap (λ place. f (each_after f more others) place first) (sym e)
  behind reads front (first ∷ others) h (suc number) other within =
      let more = front ++ f front (length front) first ∷ [] in
      let longer : length more ≡ length front + 1 = length-append front (f front (length front) first ∷ []) in
      let e : length front + suc number ≡ length more + number = omega (arith, longer) in
      ap (λ place. slice_index_or (each_after f more others) place none) e
      ∙ behind reads more others
      (λ k o below. below-as (operands (slice_index_or others k o)) (let e : length front + suc k ≡ length more + k = omega (arith, longer) in e) (h (suc k) o (omega (arith, below))))
      number other (omega (arith, within))
      ∙ ap (λ place. f (each_after f more others) place (slice_index_or others number other)) (sym e)

  -- what a node has is made of what its operands have
  of-node : ReadsOperands → (nodes : List Node) → IsOrdered nodes → (number : ℕ) (other : Node) → number < length nodes
      → slice_index_or (each_after f [] nodes) number none ≡ f (each_after f [] nodes) number (slice_index_or nodes number other)
  of-node reads nodes h number other within =
      let e : number ≡ zero + number = omega arith in
      ap (λ place. slice_index_or (each_after f [] nodes) place none) e
      ∙ behind reads [] nodes
      (λ k o below. below-as (operands (slice_index_or nodes k o)) (let e : k ≡ zero + k = omega arith in e) (h k o below)) number other within
      ∙ ap (λ place. f (each_after f [] nodes) place (slice_index_or nodes number other)) (sym e)

pub tree-of-node : (pool : List ℤ) (nodes : List Node) → IsOrdered nodes → (number : ℕ) (other : Node) → number < length nodes
    → tree_at (trees pool nodes) number ≡ expr_of pool (trees pool nodes) (slice_index_or nodes number other)
tree-of-node pool nodes = of-node (Number (pos 0)) (λ before number node. expr_of pool before node) (λ t u number n h. expr-same pool pool t u n (all-same (list_at pool) (lists_of n)) h) nodes

pub walk-of-node : (nodes : List Node) → IsOrdered nodes → (number : ℕ) (other : Node) → number < length nodes
    → walk_of nodes number ≡ number ∷ flat_map (walk_of nodes) (operands (slice_index_or nodes number other))
walk-of-node nodes = of-node [] walk_from (λ t u number n h. ap (λ l. number ∷ l) (walks-same t u (operands n) h)) nodes
