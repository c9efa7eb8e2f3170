-- The report on a program: its statements with the shapes of their arrays, and what it costs. This project's own.
use Rattle.std.specs.Prelude.{ℕ, List, ◌++◌, codes}
use Rattle.std.specs.Fmt.{decimal}
use Rattle.std.specs.List.{flat_map, zip}
use Rattle.moa_tree.specs.Expr.{Item, Input, Let, Output}
use Rattle.shape_check.specs.Costs.{size, work}
use Rattle.shape_check.specs.Layout.{name_of, statement_shapes, words}

-- the word with which a statement begins
abbrev pub word_of : Item → List ℕ
word_of (Input name extents) = codes "in"
word_of (Let name of) = codes "let"
word_of (Output name of) = codes "out"

abbrev pub extents_text : List ℕ → List ℕ
extents_text shape = flat_map (λ extent. codes " " ++ decimal extent) shape

-- a statement and the shape of its array, on a line
abbrev pub statement_line : Item × List ℕ → List ℕ
statement_line shaped = word_of shaped.0 ++ codes " " ++ name_of shaped.0 ++ extents_text shaped.1 ++ codes "\n"

abbrev pub costs_text : ℕ → ℕ → ℕ → List ℕ
costs_text size work words =
    codes "size " ++ decimal size ++ codes "\nwork " ++ decimal work ++ codes "\nwords " ++ decimal words ++ codes "\n"

abbrev pub report : List Item → List ℕ
report items = flat_map statement_line (zip items (statement_shapes items)) ++ costs_text (size items) (work items) (words items)
