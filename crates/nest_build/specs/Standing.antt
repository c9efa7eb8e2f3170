-- Steps in the making, and the tree for which they stand among lists that are made. This project's own.
use Rattle.std.specs.Prelude.{◌≡◌, ◌<◌, List, length}
use Rattle.std.specs.List.{AllByRecursion, flat_map}
use Rattle.loop_ir.specs.declared.step.Step.{Step}
use Rattle.loop_ir.specs.Pool.{inner_lists, steps_of, tree_at, trees}
use Rattle.loop_ir.specs.Steps.{Steps}

-- the tree of steps that name these lists
abbrev pub tree_in : List (List Step) → List Step → Steps
tree_in lists steps = steps_of (tree_at (trees lists)) steps

-- steps name lists that are there
abbrev pub AreNamed : List (List Step) → List Step → Type 0
AreNamed lists steps = AllByRecursion (λ inner. inner < length lists) (flat_map inner_lists steps)

-- and stand for this tree
pub record Stands (lists : List (List Step)) (steps : List Step) (tree : Steps) : Type 0 where
  pub named : AreNamed lists steps
  pub same : tree_in lists steps ≡ tree
