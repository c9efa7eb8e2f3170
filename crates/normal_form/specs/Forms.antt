-- Forms as trees. A form loads elements, and what a load names is a parameter. This project's own, after Mullin and Thibault (1994).
use Rattle.std.specs.Prelude.{ℕ, ℤ, List}
use Rattle.moa_tree.specs.declared.operator.Op.{Op}
use Rattle.moa_tree.specs.declared.operator.Unary.{Unary}
use Rattle.normal_form.specs.declared.entry.Entry.{Entry}
use Rattle.normal_form.specs.declared.term.Bind.{Bind}

pub data Form (Load : Type 0) : Type 0 where
  Lit : (value : ℤ) → Form Load
  Index : (entry : Entry) → Form Load
  Get : (load : Load) → Form Load
  Un : (op : Unary) → (of : Form Load) → Form Load
  Bin : (op : Op) → (left right : Form Load) → Form Load
  Case : (entry : Entry) → (below : ℤ) → (first second : Form Load) → Form Load
  Fold : (op : Op) → (var low high : ℕ) → (of : Form Load) → Form Load
  Let : (var : ℕ) → (bind : Bind) → (of : Form Load) → Form Load

-- an element of a stored array: that of an area, which has this shape, at entries
pub record Element : Type 0 where
  pub area : ℕ
  pub shape : List ℕ
  pub at : List Entry

-- a form whose loads name elements
abbrev pub Normal : Type 0
Normal = Form Element
