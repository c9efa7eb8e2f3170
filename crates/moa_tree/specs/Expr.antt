-- Programs as trees. Everything that is said of a program is said of its tree: where its nodes and numbers stand in their pools, and the
-- positions, appear nowhere else. This project's own, after Mullin, A Mathematics of Arrays (1988).
use Rattle.std.specs.Prelude.{ℕ, ℤ, List}
use Rattle.moa_tree.specs.declared.operator.Op.{Op}
use Rattle.moa_tree.specs.declared.operator.Unary.{Unary}
use Rattle.moa_tree.specs.declared.tree.Version.{Version}

pub data Expr : Type 0 where
  Number : (value : ℤ) → Expr
  Use : (name : List ℕ) → Expr
  Iota : (extent : ℤ) → Expr
  One : (op : Unary) → (of : Expr) → Expr
  Two : (op : Op) → (left right : Expr) → Expr
  Psi : (list : List ℤ) → (of : Expr) → Expr
  Take : (list : List ℤ) → (of : Expr) → Expr
  Drop : (list : List ℤ) → (of : Expr) → Expr
  Reverse : (of : Expr) → Expr
  Rotate : (by : ℤ) → (of : Expr) → Expr
  Transpose : (of : Expr) → Expr
  Permute : (list : List ℤ) → (of : Expr) → Expr
  Cat : (left right : Expr) → Expr
  Reshape : (list : List ℤ) → (of : Expr) → Expr
  Ravel : (of : Expr) → Expr
  Outer : (op : Op) → (left right : Expr) → Expr
  Inner : (fold op : Op) → (left right : Expr) → Expr
  Reduce : (fold : Op) → (of : Expr) → Expr
  Scan : (fold : Op) → (of : Expr) → Expr

-- a statement: an input with its extents, a name for an expression, or an output
pub data Item : Type 0 where
  Input : (name : List ℕ) → (extents : List ℤ) → Item
  Let : (name : List ℕ) → (of : Expr) → Item
  Output : (name : List ℕ) → (of : Expr) → Item

-- a program: the version of the language that it is written in, and its statements in order
pub record Tree : Type 0 where
  pub version : Version
  pub statements : List Item
