-- How what belongs to the areas of a program's block stands in lists: for the inputs, then for the outputs, then for the scans. This
-- project's own.
use Rattle.std.specs.Prelude.{◌≡◌, ℕ, suc, ℤ, List, [], ◌∷◌, Some, map, slice_get, ⊤}
use Rattle.moa_tree.specs.Denotation.{Store as Lists}
use Rattle.moa_tree.specs.Expr.{Item}
use Rattle.moa_tree.specs.ShapeOf.{Shapes}
use Rattle.shape_check.specs.Layout.{Array, input_of, output_of}
use Rattle.psi_rules.specs.Jobs.{Next}

-- the items from this place on are these
abbrev pub AreAt : {X : Type 0} → List X → ℕ → List X → Type 0
AreAt all start [] = ⊤
AreAt all start (item ∷ items) = (slice_get all start ≡ Some item) × AreAt all (suc start) items

-- those of the inputs, of the outputs and of the scans stand from their first areas on
abbrev pub StandInOrder : {X : Type 0} → List X → Next → List X → List X → List X → Type 0
StandInOrder all next inputs outputs scans = AreAt all next.input inputs × AreAt all next.output outputs × AreAt all next.scan scans

-- ---- shapes

abbrev pub shapes_in : List Array → List (List ℕ)
shapes_in arrays = map (λ array. array.1) arrays

-- the shapes of the input and of the output of a statement
abbrev pub input_shapes : Shapes → Item → List (List ℕ)
input_shapes shapes item = shapes_in (input_of shapes item)

abbrev pub output_shapes : Shapes → Item → List (List ℕ)
output_shapes shapes item = shapes_in (output_of shapes item)

-- ---- lists

abbrev pub lists_of : Lists → List (List ℤ)
lists_of outputs = map (λ output. output.1) outputs
