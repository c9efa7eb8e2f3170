-- How the worked examples are written: programs as they stand in a text, and what fails in them. This project's own.
use Rattle.std.specs.Prelude.{ℕ, List, codes, Option, None, Some, Result, Ok, Err}
use Rattle.moa_tree.specs.declared.tree.Version.TheVariants.{First}
use Rattle.moa_tree.specs.Expr.{Item}
use Rattle.moa_tree.specs.Readings.{deepest}
use Rattle.moa_tree.specs.Trees.{statements_in}
use Rattle.moa_tree.specs.Vocabulary.{lexemes}
use Rattle.shape_check.specs.Costs.{size, work}
use Rattle.shape_check.specs.Layout.{statement_shapes, words}
use Rattle.shape_check.specs.Rules.{Failure, Place}
use Rattle.shape_check.specs.Statements.{verdict_of}
use Prim.Native.String.{String}

-- the statements of a text
abbrev pub statements : String → List Item
statements text = statements_in deepest (lexemes First (codes text))

-- what fails in a program, if something does
abbrev pub failure : {A : Type 0} → Result A Failure → Option Failure
failure (Ok a) = None
failure (Err first) = Some first

abbrev pub failure_in : String → Option Failure
failure_in text = failure (verdict_of (statements text))

-- a rule that is broken at a node, or at a name
abbrev pub at_node : ℕ → ℕ → Option Failure
at_node number rule = Some (Failure.Rule (Place.Node number) rule)

abbrev pub at_name : ℕ → ℕ → Option Failure
at_name statement rule = Some (Failure.Rule (Place.Name statement) rule)

-- a limit that a shape exceeds there
abbrev pub beyond : ℕ → ℕ → ℕ → Option Failure
beyond number which value = Some (Failure.Limit (Some (Place.Node number)) which value)

abbrev pub beyond_at_name : ℕ → ℕ → ℕ → Option Failure
beyond_at_name statement which value = Some (Failure.Limit (Some (Place.Name statement)) which value)

-- a limit that a program exceeds as a whole
abbrev pub beyond_in_all : ℕ → ℕ → Option Failure
beyond_in_all which value = Some (Failure.Limit None which value)

-- the shape of each statement of a program
abbrev pub shapes_in : String → List (List ℕ)
shapes_in text = statement_shapes (statements text)

-- size, work and words of a program
abbrev pub costs : String → ℕ × ℕ × ℕ
costs text = (size (statements text), work (statements text), words (statements text))
