-- What is counted of the expressions of a program's pools, capped at the greatest number of 64 bits. This project's own.
use Rattle.std.specs.Prelude.{◌≡◌, ℕ, ◌+◌, ◌*◌, List, [], ◌∷◌, slice_index, slice_index_or}
use Rattle.std.specs.List.{AllByRecursion}
use Rattle.moa_tree.specs.declared.tree.Node.{Node}
use Rattle.moa_tree.specs.Expr.{Expr}
use Rattle.moa_tree.specs.Pool.{operands}
use Rattle.moa_tree.specs.Pools.{Pools}
use Rattle.shape_check.specs.declared.uses.Counts.{Counts}
use Rattle.shape_check.specs.declared.uses.Form.{Form}
use Rattle.shape_check.specs.declared.uses.Form.TheVariants as form
use Rattle.shape_check.specs.Costs.{Prices, element_work, nodes, price, shape_in}
use Rattle.shape_check.specs.Judged.{capped, node_tree}

-- these counts, as far as 64 bits go
pub record IsCapped (exact_nodes exact_work : ℕ) (counts : Counts) : Type 0 where
  pub nodes : counts.nodes ≡ capped exact_nodes
  pub work : counts.work ≡ capped exact_work

-- those of a name, and of the expression of a node
abbrev pub IsUse : Prices → List ℕ → Counts → Type 0
IsUse prices name counts = IsCapped (price prices name).nodes (price prices name).work counts

abbrev pub IsPriced : Pools → Prices → ℕ → Counts → Type 0
IsPriced pools prices number counts = IsCapped (nodes prices (node_tree pools number)) (element_work prices (node_tree pools number)) counts

-- the table has the shape of each of these nodes
abbrev pub HasShapes : Pools → Prices → List (List ℕ) → List ℕ → Type 0
HasShapes pools prices shapes numbers = AllByRecursion (λ number. slice_index_or shapes number [] ≡ shape_in prices (node_tree pools number)) numbers

-- how the counts of a node come from those of its operands
abbrev pub form_nodes : Prices → (ℕ → Expr) → Form → ℕ
form_nodes prices tree form.Stored = 1
form_nodes prices tree (form.Use name) = (price prices name).nodes
form_nodes prices tree (form.One of) = 1 + nodes prices (tree of)
form_nodes prices tree (form.Two left right) = 1 + (nodes prices (tree left) + nodes prices (tree right))
form_nodes prices tree (form.Inner left right) = 1 + (nodes prices (tree left) + nodes prices (tree right))
form_nodes prices tree (form.Reduce of) = 1 + nodes prices (tree of)

abbrev pub form_work : Prices → (ℕ → Expr) → Form → ℕ
form_work prices tree form.Stored = 1
form_work prices tree (form.Use name) = (price prices name).work
form_work prices tree (form.One of) = 1 + element_work prices (tree of)
form_work prices tree (form.Two left right) = 1 + (element_work prices (tree left) + element_work prices (tree right))
form_work prices tree (form.Inner left right) =
    1 + slice_index (shape_in prices (tree right)) 0 * (2 + (element_work prices (tree left) + element_work prices (tree right)))
form_work prices tree (form.Reduce of) = 1 + slice_index (shape_in prices (tree of)) 0 * (1 + element_work prices (tree of))

-- the operands that a form counts are those of the node
abbrev pub HasOperands : Form → Node → Type 0
HasOperands form.Stored node = Unit {0}
HasOperands (form.Use name) node = Unit {0}
HasOperands (form.One of) node = operands node ≡ of ∷ []
HasOperands (form.Two left right) node = operands node ≡ left ∷ right ∷ []
HasOperands (form.Inner left right) node = operands node ≡ left ∷ right ∷ []
HasOperands (form.Reduce of) node = operands node ≡ of ∷ []
