-- Parts of programs and of forms, for examples. This project's own.
use Rattle.std.specs.Prelude.{ℕ, ℤ, codes, List}
use Rattle.moa_tree.specs.Expr.{Expr, Use, Item, Input, Output}
use Rattle.normal_form.specs.declared.entry.Entry.{Entry}
use Rattle.normal_form.specs.Forms.{Get, Normal}

-- two inputs and an output, and their names as expressions
abbrev pub in_a : List ℤ → Item
in_a extents = Input (codes "A") extents

abbrev pub in_b : List ℤ → Item
in_b extents = Input (codes "B") extents

abbrev pub out_c : Expr → Item
out_c of = Output (codes "C") of

abbrev pub a : Expr
a = Use (codes "A")

abbrev pub b : Expr
b = Use (codes "B")

abbrev pub c : Expr
c = Use (codes "C")

-- an element of a stored array
abbrev pub element : ℕ → List ℕ → List Entry → Normal
element area shape at = Get (record { area = area; shape = shape; at = at })
