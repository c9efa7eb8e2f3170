-- How the block of a program is laid out: the inputs, the outputs, and the scans. This project's own.
use Rattle.std.specs.Prelude.{ℕ, suc, ◌+◌, List, [], ◌∷◌, ◌++◌, map}
use Rattle.std.specs.List.{sum_by}
use Rattle.shapes_core.specs.Shape.{total}
use Rattle.shapes_core.specs.declared.area.Area.{Area}
use Rattle.shapes_core.specs.declared.area.AreaKind.{AreaKind}
use Rattle.shapes_core.specs.declared.area.AreaKind.TheVariants as area
use Rattle.moa_tree.specs.Axes.{naturals}
use Rattle.moa_tree.specs.Denotation.{scans_of}
use Rattle.moa_tree.specs.Expr.{Item, Input, Let, Output}
use Rattle.moa_tree.specs.ShapeOf.{Shapes, shape_of}
use Rattle.moa_tree.specs.Subexpressions.{subexpressions_of}

-- the name that a statement declares
abbrev pub name_of : Item → List ℕ
name_of (Input name extents) = name
name_of (Let name of) = name
name_of (Output name of) = name

-- the shape of a statement among earlier names
abbrev pub shape_of_item : Shapes → Item → List ℕ
shape_of_item shapes (Input name extents) = naturals extents
shape_of_item shapes (Let name of) = shape_of shapes of
shape_of_item shapes (Output name of) = shape_of shapes of

-- the names after a statement, with their shapes
abbrev pub shapes_after : Shapes → Item → Shapes
shapes_after shapes item = (name_of item, shape_of_item shapes item) ∷ shapes

-- what each statement adds among the names before it, in order
abbrev pub gathered : {X : Type 0} → (Shapes → Item → List X) → Shapes → List Item → List X
gathered f shapes [] = []
gathered f shapes (item ∷ items) = f shapes item ++ gathered f (shapes_after shapes item) items

-- the shape of each statement, and of each node in the order of the text
abbrev pub statement_shapes : List Item → List (List ℕ)
statement_shapes items = gathered (λ shapes item. shape_of_item shapes item ∷ []) [] items

abbrev pub node_shapes : List Item → List (List ℕ)
node_shapes items = gathered (λ shapes item. map (shape_of shapes) (subexpressions_of item)) [] items

-- an array of the block: what it is, and its shape
abbrev pub Array : Type 0
Array = AreaKind × List ℕ

-- the input, the output and the shapes of the scans of a statement
abbrev pub input_of : Shapes → Item → List Array
input_of shapes (Input name extents) = (area.In name, naturals extents) ∷ []
input_of shapes (Let name of) = []
input_of shapes (Output name of) = []

abbrev pub output_of : Shapes → Item → List Array
output_of shapes (Input name extents) = []
output_of shapes (Let name of) = []
output_of shapes (Output name of) = (area.Out name, shape_of shapes of) ∷ []

abbrev pub scan_shapes : Shapes → Item → List (List ℕ)
scan_shapes shapes item = map (shape_of shapes) (scans_of item)

-- scans of these shapes, which are numbered from here on
abbrev pub numbered : ℕ → List (List ℕ) → List Array
numbered number [] = []
numbered number (shape ∷ shapes) = (area.Scan number, shape) ∷ numbered (suc number) shapes

-- arrays, one after another from a word on
abbrev pub placed : ℕ → List Array → List Area
placed start [] = []
placed start (array ∷ arrays) =
    record { kind = array.0; shape = array.1; start = start } ∷ placed (start + total array.1) arrays

-- the arrays of a program's block, each in the order of declaration
abbrev pub arrays : List Item → List Array
arrays items = gathered input_of [] items ++ gathered output_of [] items ++ numbered 0 (gathered scan_shapes [] items)

abbrev pub areas : List Item → List Area
areas items = placed 0 (arrays items)

-- the words of all areas
abbrev pub words : List Item → ℕ
words items = sum_by (λ area. total area.shape) (areas items)
