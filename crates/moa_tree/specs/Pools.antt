-- What a program keeps of its pools. This project's own.
use Rattle.std.specs.Prelude.{◌≡◌, ℕ, ◌+◌, ◌<◌, ◌≤◌, Bool, nat_le, nat_lt, ◌&&◌, ◌==◌, ℤ, List, [], ◌∷◌, ◌++◌, length, All}
use Rattle.std.specs.List.{AllByRecursion, count_by, flat_map}
use Rattle.shapes_core.specs.Limits.{most_items}
use Rattle.text_tokens.specs.declared.token.Position.{Position}
use Rattle.moa_tree.specs.declared.tree.Node.{Node}
use Rattle.moa_tree.specs.declared.tree.Node.TheVariants as node
use Rattle.moa_tree.specs.declared.tree.Numbers.{Numbers}
use Rattle.moa_tree.specs.declared.tree.Statement.{Statement}
use Rattle.moa_tree.specs.declared.tree.Statement.TheVariants as statement
use Rattle.moa_tree.specs.declared.tree.Version.{Version}
use Rattle.moa_tree.specs.Canonical.{canonical}
use Rattle.moa_tree.specs.Expr.{Tree}
use Rattle.moa_tree.specs.Pool.{IsOrdered, items_of, operands, walk_of}
use Rattle.moa_tree.specs.Readings.{Reads}

-- the version, the nodes with the position of each, the numbers of the lists, and the statements
pub record Pools : Type 0 where
  pub version : Version
  pub nodes : List Node
  pub positions : List Position
  pub numbers : List ℤ
  pub statements : List Statement

-- the program for which they stand
abbrev pub tree_of : Pools → Tree
tree_of pools = record { version = pools.version; statements = items_of pools.numbers pools.nodes pools.statements }

-- the lists of a node
abbrev pub lists_of : Node → List Numbers
lists_of (node.Psi list of) = list ∷ []
lists_of (node.Take list of) = list ∷ []
lists_of (node.Drop list of) = list ∷ []
lists_of (node.Permute list of) = list ∷ []
lists_of (node.Reshape list of) = list ∷ []
lists_of _ = []

-- the nodes and the lists of a statement
abbrev pub nodes_of : Statement → List ℕ
nodes_of (statement.Input name extents at) = []
nodes_of (statement.Name name number at) = number ∷ []
nodes_of (statement.Output name number at) = number ∷ []

abbrev pub extents_of : Statement → List Numbers
extents_of (statement.Input name extents at) = extents ∷ []
extents_of (statement.Name name number at) = []
extents_of (statement.Output name number at) = []

-- numbers that lie in the pool
abbrev pub AreThere : List ℤ → Numbers → Type 0
AreThere pool numbers = numbers.start + numbers.count ≤ length pool

-- every use of a node: as an operand, or as the expression of a statement
abbrev pub references : Pools → List ℕ
references pools = flat_map operands pools.nodes ++ flat_map nodes_of pools.statements

-- every list that a node or a statement names
abbrev pub all_lists : Pools → List Numbers
all_lists pools = flat_map lists_of pools.nodes ++ flat_map extents_of pools.statements

-- whether a place of the pool of numbers belongs to a list
abbrev pub covers : Numbers → ℕ → Bool
covers list place = nat_le list.start place && nat_lt place (list.start + list.count)

-- the numbers of a program's nodes in prefix order, from the first statement on
abbrev pub walk : Pools → List ℕ
walk pools = flat_map (walk_of pools.nodes) (flat_map nodes_of pools.statements)

-- Each node has a position, operands stand before their node, what is named is there, each node is used once and each number is in one list
-- at most, and the canonical text of the program reads as it.
pub record IsProgram (pools : Pools) : Type 0 where
  pub placed : length pools.positions ≡ length pools.nodes
  pub ordered : IsOrdered pools.nodes
  pub lists_there : All (λ n. AllByRecursion (AreThere pools.numbers) (lists_of n)) pools.nodes
  pub nodes_there : All (λ s. AllByRecursion (λ number. number < length pools.nodes) (nodes_of s)) pools.statements
  pub extents_there : All (λ s. AllByRecursion (AreThere pools.numbers) (extents_of s)) pools.statements
  pub each_once : (number : ℕ) → number < length pools.nodes → count_by (λ other. other == number) (references pools) ≡ 1
  pub lists_apart : (place : ℕ) → count_by (λ list. covers list place) (all_lists pools) ≤ 1
  pub reads : Reads (canonical (tree_of pools)) (tree_of pools)
  pub few : length pools.nodes + length pools.numbers + length pools.statements ≤ most_items
