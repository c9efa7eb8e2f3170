-- A node of a program, its tree and its walk.
use Rattle.std.proofs.Common.{◌≡◌, ℕ, zero, suc, ◌<◌, ◌≤◌, List, [], ◌∷◌, ◌++◌, refl, ap, ◌∙◌, arith, length}
use Rattle.std.specs.Prelude.{ℤ, pos, slice_get, slice_index_or, Some}
use Rattle.std.specs.List.{AllByRecursion, flat_map}
use Rattle.std.proofs.lemmas.Grind.{flat_map-append}
use Rattle.std.proofs.lemmas.Option.{get_or_from_slice_get, slice_get_within}
use Rattle.moa_tree.specs.declared.tree.Node.{Node}
use Rattle.moa_tree.specs.declared.tree.Node.TheVariants as node
use Rattle.moa_tree.specs.Pool.{IsOrdered, expr_of, operands, tree_at, trees, walk_of}
use Rattle.moa_tree.specs.Pools.{Pools}
use Rattle.shape_check.specs.Judged.{node_tree}

-- the walk of a node goes on with the walks of its operands, and its tree is over theirs
abbrev pub WalksStep : Type 0
WalksStep = (nodes : List Node) → IsOrdered nodes → (number : ℕ) (other : Node) → number < length nodes
    → walk_of nodes number ≡ number ∷ flat_map (walk_of nodes) (operands (slice_index_or nodes number other))

abbrev pub NodeTrees : Type 0
NodeTrees = (pool : List ℤ) (nodes : List Node) → IsOrdered nodes → (number : ℕ) (other : Node) → number < length nodes
    → tree_at (trees pool nodes) number ≡ expr_of pool (trees pool nodes) (slice_index_or nodes number other)

pub all-join : {X : Type 0} (P : X → Type 0) (xs ys : List X) → AllByRecursion P xs → AllByRecursion P ys → AllByRecursion P (xs ++ ys)
all-join P [] ys h k = k
all-join P (x ∷ xs) ys h k = (h.0, all-join P xs ys h.1 k)

pub all-cut : {X : Type 0} (P : X → Type 0) (xs ys : List X) → AllByRecursion P (xs ++ ys) → AllByRecursion P xs × AllByRecursion P ys
all-cut P [] ys h = (tt, h)
all-cut P (x ∷ xs) ys h = let rest = all-cut P xs ys h.1 in ((h.0, rest.0), rest.1)

pub all-map : {X : Type 0} (P Q : X → Type 0) → ((x : X) → P x → Q x) → (xs : List X) → AllByRecursion P xs → AllByRecursion Q xs
all-map P Q f [] h = tt
all-map P Q f (x ∷ xs) h = (f x h.0, all-map P Q f xs h.1)

pub flat-flat : {A B C : Type 0} (f : B → List C) (g : A → List B) (xs : List A) → flat_map f (flat_map g xs) ≡ flat_map (λ x. flat_map f (g x)) xs
flat-flat f g [] = refl
flat-flat f g (x ∷ xs) = flat_map-append f (g x) (flat_map g xs) ∙ ap (λ l. flat_map f (g x) ++ l) (flat-flat f g xs)

pub walk-step : WalksStep → (nodes : List Node) → IsOrdered nodes → (number : ℕ) (n : Node) → slice_get nodes number ≡ Some n
    → walk_of nodes number ≡ number ∷ flat_map (walk_of nodes) (operands n)
walk-step law nodes ordered number n there =
    law nodes ordered number n (slice_get_within nodes number n there)
    ∙ ap (λ m. number ∷ flat_map (walk_of nodes) (operands m)) (get_or_from_slice_get nodes number n n there)

-- a walk begins with its node
pub walk-first : WalksStep → (nodes : List Node) → IsOrdered nodes → (number : ℕ) → number < length nodes
    → walk_of nodes number ≡ number ∷ flat_map (walk_of nodes) (operands (slice_index_or nodes number (node.Iota (pos 0))))
walk-first law nodes ordered number within = law nodes ordered number (node.Iota (pos 0)) within

pub tree-is : NodeTrees → (pools : Pools) → IsOrdered pools.nodes → (number : ℕ) (n : Node) → slice_get pools.nodes number ≡ Some n
    → node_tree pools number ≡ expr_of pools.numbers (trees pools.numbers pools.nodes) n
tree-is law pools ordered number n there =
    law pools.numbers pools.nodes ordered number n (slice_get_within pools.nodes number n there)
    ∙ ap (expr_of pools.numbers (trees pools.numbers pools.nodes)) (get_or_from_slice_get pools.nodes number n n there)

-- what holds of a node where it holds of its operands holds of each node
module _ (nodes : List Node) (ordered : IsOrdered nodes) (P : ℕ → Type 0)
    (step : (number : ℕ) → number < length nodes → AllByRecursion P (operands (slice_index_or nodes number (node.Iota (pos 0)))) → P number) where
  below-all : (bound : ℕ) → bound ≤ length nodes → ((number : ℕ) → number < bound → P number)
      → (numbers : List ℕ) → AllByRecursion (λ number. number < bound) numbers → AllByRecursion P numbers
  below-all bound within h [] below = tt
  below-all bound within h (number ∷ numbers) below = (h number below.0, below-all bound within h numbers below.1)

  below : (bound : ℕ) → bound ≤ length nodes → (number : ℕ) → number < bound → P number
  below zero within number h = absurd (omega (arith, h))
  below (suc bound) within number h =
      step number (omega (arith, h, within))
      (below-all bound (omega (arith, within)) (below bound (omega (arith, within)))
      (operands (slice_index_or nodes number (node.Iota (pos 0))))
      (all-map (λ operand. operand < number) (λ operand. operand < bound) (λ operand lower. omega (arith, lower, h))
      (operands (slice_index_or nodes number (node.Iota (pos 0)))) (ordered number (node.Iota (pos 0)) (omega (arith, h, within)))))

  pub by-operands : (number : ℕ) → number < length nodes → P number
  by-operands number within = below (length nodes) (omega arith) number within
