-- Pools to which something is added. This project's own.
use Rattle.std.specs.Prelude.{◌≡◌, ℕ, ◌<◌, ◌≤◌, ◌==◌, ℤ, List, [], ◌∷◌, ◌++◌, length, All}
use Rattle.std.specs.List.{AllByRecursion, count_by}
use Rattle.text_tokens.specs.declared.token.Position.{Position}
use Rattle.moa_tree.specs.declared.tree.Node.{Node}
use Rattle.moa_tree.specs.declared.tree.Numbers.{Numbers}
use Rattle.moa_tree.specs.declared.tree.Statement.{Statement}
use Rattle.moa_tree.specs.declared.tree.Version.{Version}
use Rattle.moa_tree.specs.Pool.{IsOrdered, list_at, tree_at, trees, walk_of}
use Rattle.moa_tree.specs.Pools.{AreThere, Pools, all_lists, covers, extents_of, lists_of, nodes_of, references}
use Rattle.moa_tree.specs.Positions.{positions_at}

abbrev pub no_pools : Version → Pools
no_pools version = record { version = version; nodes = []; positions = []; numbers = []; statements = [] }

abbrev pub with_node : Pools → Node → Position → Pools
with_node pools node at =
    record pools { nodes = pools.nodes ++ node ∷ []; positions = pools.positions ++ at ∷ [] }

abbrev pub with_numbers : Pools → List ℤ → Pools
with_numbers pools values = record pools { numbers = pools.numbers ++ values }

abbrev pub with_statement : Pools → Statement → Pools
with_statement pools statement = record pools { statements = pools.statements ++ statement ∷ [] }

-- Pools in the making: these nodes have no use yet, and every other node has one. These lists belong to nothing yet, and each number is in one list
-- at most.
pub record IsOpen (roots : List ℕ) (lists : List Numbers) (pools : Pools) : Type 0 where
  pub placed : length pools.positions ≡ length pools.nodes
  pub ordered : IsOrdered pools.nodes
  pub lists_there : All (λ n. AllByRecursion (AreThere pools.numbers) (lists_of n)) pools.nodes
  pub nodes_there : All (λ s. AllByRecursion (λ number. number < length pools.nodes) (nodes_of s)) pools.statements
  pub extents_there : All (λ s. AllByRecursion (AreThere pools.numbers) (extents_of s)) pools.statements
  pub roots_there : AllByRecursion (λ number. number < length pools.nodes) roots
  pub free_lists_there : AllByRecursion (AreThere pools.numbers) lists
  pub each_once : (number : ℕ) → number < length pools.nodes → count_by (λ other. other == number) (roots ++ references pools) ≡ 1
  pub lists_apart : (place : ℕ) → count_by (λ list. covers list place) (lists ++ all_lists pools) ≤ 1

-- what was there when nodes and numbers were added has the same trees, lists and positions
pub record Keeps (old new : Pools) : Type 0 where
  pub version : new.version ≡ old.version
  pub nodes_longer : length old.nodes ≤ length new.nodes
  pub numbers_longer : length old.numbers ≤ length new.numbers
  pub statements : new.statements ≡ old.statements
  pub lists : (list : Numbers) → AreThere old.numbers list → list_at new.numbers list ≡ list_at old.numbers list
  pub trees : (number : ℕ) → number < length old.nodes → tree_at (trees new.numbers new.nodes) number ≡ tree_at (trees old.numbers old.nodes) number
  pub stand : (number : ℕ) → number < length old.nodes
      → positions_at new.positions (walk_of new.nodes number) ≡ positions_at old.positions (walk_of old.nodes number)
