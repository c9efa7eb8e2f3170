-- What the outputs of a program must hold, and a text that is good for it. This project's own.
use Rattle.std.specs.Prelude.{ℕ, ℤ, List, [], ◌∷◌, map}
use Rattle.std.specs.List.{flat_map, zip}
use Rattle.moa_tree.specs.Denotation.{denote}
use Rattle.moa_tree.specs.Expr.{Item, Input, Let, Output, Tree}
use Rattle.rv_steps.specs.GoodText.{IsGood}
use Rattle.shape_check.specs.Layout.{areas}

-- the name of an input
abbrev pub input_name : Item → List (List ℕ)
input_name (Input name extents) = name ∷ []
input_name (Let name of) = []
input_name (Output name of) = []

-- what the outputs of a program must hold where its inputs hold these lists: what it denotes
abbrev pub denoted : Tree → List (List ℤ) → List (List ℤ)
denoted tree inputs = map (λ output. output.1) (denote tree (zip (flat_map input_name tree.statements) inputs))

-- the text is good for a program
abbrev pub IsGoodFor : List ℕ → Tree → Type 0
IsGoodFor text tree = IsGood text (areas tree.statements) (denoted tree)
