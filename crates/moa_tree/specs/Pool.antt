-- The tree for which a program's pools stand. This project's own.
use Rattle.std.specs.Prelude.{ℕ, ◌+◌, ◌<◌, ℤ, pos, List, [], ◌∷◌, ◌++◌, length, map, slice_index_or, slice_range}
use Rattle.std.specs.List.{AllByRecursion, flat_map}
use Rattle.moa_tree.specs.declared.tree.Node.{Node}
use Rattle.moa_tree.specs.declared.tree.Node.TheVariants as node
use Rattle.moa_tree.specs.declared.tree.Numbers.{Numbers}
use Rattle.moa_tree.specs.declared.tree.Operands.{Operands}
use Rattle.moa_tree.specs.declared.tree.Operands.TheVariants as operand
use Rattle.moa_tree.specs.declared.tree.Statement.{Statement}
use Rattle.moa_tree.specs.declared.tree.Statement.TheVariants as statement
use Rattle.moa_tree.specs.Expr.{Expr, Number, Use, Iota, One, Two, Psi, Take, Drop, Reverse, Rotate, Transpose, Permute, Cat, Reshape, Ravel, Outer, Inner, Reduce, Scan, Item, Input, Let, Output}

-- some numbers of a pool, one behind the other
abbrev pub list_at : List ℤ → Numbers → List ℤ
list_at pool numbers = slice_range pool numbers.start (numbers.start + numbers.count)

-- the tree of a node, among the trees of the nodes before it
abbrev pub tree_at : List Expr → ℕ → Expr
tree_at trees number = slice_index_or trees number (Number (pos 0))

-- the expression that a node is, over the trees of the nodes before it
abbrev pub expr_of : List ℤ → List Expr → Node → Expr
expr_of pool trees (node.Number value) = Number value
expr_of pool trees (node.Use name) = Use name
expr_of pool trees (node.Iota extent) = Iota extent
expr_of pool trees (node.One op of) = One op (tree_at trees of)
expr_of pool trees (node.Two op left right) = Two op (tree_at trees left) (tree_at trees right)
expr_of pool trees (node.Psi list of) = Psi (list_at pool list) (tree_at trees of)
expr_of pool trees (node.Take list of) = Take (list_at pool list) (tree_at trees of)
expr_of pool trees (node.Drop list of) = Drop (list_at pool list) (tree_at trees of)
expr_of pool trees (node.Reverse of) = Reverse (tree_at trees of)
expr_of pool trees (node.Rotate by of) = Rotate by (tree_at trees of)
expr_of pool trees (node.Transpose of) = Transpose (tree_at trees of)
expr_of pool trees (node.Permute list of) = Permute (list_at pool list) (tree_at trees of)
expr_of pool trees (node.Cat left right) = Cat (tree_at trees left) (tree_at trees right)
expr_of pool trees (node.Reshape list of) = Reshape (list_at pool list) (tree_at trees of)
expr_of pool trees (node.Ravel of) = Ravel (tree_at trees of)
expr_of pool trees (node.Outer op left right) = Outer op (tree_at trees left) (tree_at trees right)
expr_of pool trees (node.Inner fold op left right) = Inner fold op (tree_at trees left) (tree_at trees right)
expr_of pool trees (node.Reduce fold of) = Reduce fold (tree_at trees of)
expr_of pool trees (node.Scan fold of) = Scan fold (tree_at trees of)

-- what each of some nodes has, behind what the nodes before them have: of its number, itself and what was before it
abbrev pub each_after : {X : Type 0} → (List X → ℕ → Node → X) → List X → List Node → List X
each_after f before [] = before
each_after f before (first ∷ others) = each_after f (before ++ f before (length before) first ∷ []) others

-- the trees of some nodes behind those that have theirs
abbrev pub trees_after : List ℤ → List Expr → List Node → List Expr
trees_after pool trees nodes = each_after (λ before number node. expr_of pool before node) trees nodes

-- the tree of each node: its operands stand before it
abbrev pub trees : List ℤ → List Node → List Expr
trees pool nodes = trees_after pool [] nodes

-- the statement over the trees of all nodes
abbrev pub item_of : List ℤ → List Expr → Statement → Item
item_of pool trees (statement.Input name extents at) = Input name (list_at pool extents)
item_of pool trees (statement.Name name number at) = Let name (tree_at trees number)
item_of pool trees (statement.Output name number at) = Output name (tree_at trees number)

-- the statements of a program over its pools
abbrev pub items_of : List ℤ → List Node → List Statement → List Item
items_of pool nodes statements = map (item_of pool (trees pool nodes)) statements

-- the nodes on which a node works, in order
abbrev pub operands : Node → List ℕ
operands (node.Number value) = []
operands (node.Use name) = []
operands (node.Iota extent) = []
operands (node.One op of) = of ∷ []
operands (node.Two op left right) = left ∷ right ∷ []
operands (node.Psi list of) = of ∷ []
operands (node.Take list of) = of ∷ []
operands (node.Drop list of) = of ∷ []
operands (node.Reverse of) = of ∷ []
operands (node.Rotate by of) = of ∷ []
operands (node.Transpose of) = of ∷ []
operands (node.Permute list of) = of ∷ []
operands (node.Cat left right) = left ∷ right ∷ []
operands (node.Reshape list of) = of ∷ []
operands (node.Ravel of) = of ∷ []
operands (node.Outer op left right) = left ∷ right ∷ []
operands (node.Inner fold op left right) = left ∷ right ∷ []
operands (node.Reduce fold of) = of ∷ []
operands (node.Scan fold of) = of ∷ []

-- these operands as a list
abbrev pub listed : Operands → List ℕ
listed operand.None = []
listed (operand.One of) = of ∷ []
listed (operand.Two left right) = left ∷ right ∷ []

-- every operand of a node has a smaller number than the node
abbrev pub IsOrdered : List Node → Type 0
IsOrdered nodes = (number : ℕ) (other : Node) → number < length nodes → AllByRecursion (λ operand. operand < number) (operands (slice_index_or nodes number other))

-- the walk of a node, a list of numbers of nodes, among those of the nodes before it
abbrev pub walk_at : List (List ℕ) → ℕ → List ℕ
walk_at walks number = slice_index_or walks number []

-- a node stands before the walks of its operands, and these from left to right
abbrev pub walk_from : List (List ℕ) → ℕ → Node → List ℕ
walk_from walks number node = number ∷ flat_map (walk_at walks) (operands node)

-- the walk of each node
abbrev pub walks : List Node → List (List ℕ)
walks nodes = each_after walk_from [] nodes

-- the numbers of a node and of those under it, in prefix order
abbrev pub walk_of : List Node → ℕ → List ℕ
walk_of nodes number = walk_at (walks nodes) number
