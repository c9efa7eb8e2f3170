-- What the pools of a program name is there.
use Rattle.std.specs.Prelude.{◌≡◌, ℕ, ◌<◌, List, [], ◌∷◌, length, All, Some, slice_get}
use Rattle.std.specs.List.{AllByRecursion}
use Rattle.std.proofs.Common.{subst, arith}
use Rattle.std.proofs.lemmas.Option.{get_or_from_slice_get, slice_get_within}
use Rattle.moa_tree.specs.declared.tree.Node.{Node}
use Rattle.moa_tree.specs.Pool.{operands}
use Rattle.moa_tree.specs.Pools.{IsProgram, Pools}

-- what is said of all entries of a list is said of the one at a place
pub of_all : {X : Type 0} (P : X → Type 0) (list : List X) (place : ℕ) (x : X) → All P list → slice_get list place ≡ Some x → P x
of_all P list place x all there = subst P (get_or_from_slice_get list place x x there) (all place x (slice_get_within list place x there))

-- numbers below one that is within a count are within it
all_within : (number count : ℕ) (numbers : List ℕ) → number < count → AllByRecursion (λ operand. operand < number) numbers
    → AllByRecursion (λ operand. (operand < number) × (operand < count)) numbers
all_within number count [] within h = tt
all_within number count (first ∷ others) within h = ((h.0, omega (arith, within, h.0)), all_within number count others within h.1)

-- the operands of a node stand before it
pub operands_there : (pools : Pools) (number : ℕ) (node : Node) → IsProgram pools → slice_get pools.nodes number ≡ Some node
    → AllByRecursion (λ operand. (operand < number) × (operand < length pools.nodes)) (operands node)
operands_there pools number node program there =
    let within = slice_get_within pools.nodes number node there in
    let before = program.ordered number node within in
    all_within number (length pools.nodes) (operands node) within
    (subst (λ n. AllByRecursion (λ operand. operand < number) (operands n)) (get_or_from_slice_get pools.nodes number node node there) before)
