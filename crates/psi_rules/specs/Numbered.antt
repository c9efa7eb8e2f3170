-- The areas of a program's block have numbers, and the expressions of its jobs are small. This project's own.
use Rattle.std.specs.Prelude.{ℕ, ◌+◌, ◌*◌, ◌≤◌, List, [], length, take}
use Rattle.std.specs.List.{fold}
use Rattle.shapes_core.specs.Limits.{greatest_size, most_items}
use Rattle.moa_tree.specs.Denotation.{scans_of}
use Rattle.moa_tree.specs.Expr.{Item}
use Rattle.moa_tree.specs.Subexpressions.{scans_in}
use Rattle.shape_check.specs.Costs.{Prices, nodes, prices_after}
use Rattle.shape_check.specs.Jobs.{input_count, output_count}
use Rattle.psi_rules.specs.Jobs.{Next, Task}
use Rattle.psi_rules.specs.Operands.{IsAccepted}
use Rattle.psi_rules.specs.Rules.{Names, shapes_of}

-- the greatest number of an area: a program has no more statements than items of a list, and far fewer scans
abbrev pub greatest_area : ℕ
greatest_area = 2 * most_items

-- the areas that come next, and those of a statement, have numbers
pub record HaveNumbers (next : Next) (item : Item) : Type 0 where
  pub input : next.input + input_count item ≤ greatest_area
  pub output : next.output + output_count item ≤ greatest_area
  pub scan : next.scan + length (scans_of item) ≤ greatest_area

-- the names before the statement of this number with what each use of them counts
abbrev pub prices_at : List Item → ℕ → Prices
prices_at items number = fold prices_after [] (take number items)

-- a task whose expression is accepted among these names, with few nodes and numbers for the areas of its scans
pub record IsGoodTask (names : Names) (prices : Prices) (task : Task) : Type 0 where
  pub accepted : IsAccepted (shapes_of names) task.0
  pub few : nodes prices task.0 ≤ greatest_size
  pub areas : task.1 + length (scans_in task.0) ≤ greatest_area
