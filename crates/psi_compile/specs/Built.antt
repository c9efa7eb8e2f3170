-- What is not compiled so far: programs with an expression whose form would choose, fold or bind. This project's own.
use Rattle.std.specs.Prelude.{◌≡◌, ℕ, not, List, Some, position, slice_get}
use Rattle.std.specs.List.{flat_map}
use Rattle.text_tokens.specs.declared.token.Position.{Position}
use Rattle.moa_tree.specs.Expr.{Expr, Tree}
use Rattle.moa_tree.specs.Positions.{expression_positions}
use Rattle.moa_tree.specs.Readings.{Reads}
use Rattle.moa_tree.specs.Subexpressions.{subexpressions_of}
use Rattle.nest_jobs.specs.Plain.{is_plain}

-- the expressions of a program, in the order of the text
abbrev pub expressions : Tree → List Expr
expressions tree = flat_map subexpressions_of tree.statements

-- the text reads as a program of which this is the first expression that is not built, and it stands at this position
pub record IsNotBuilt (text : List ℕ) (at : Position) : Type 0 where
  pub tree : Tree
  pub read : Reads text tree
  pub number : ℕ
  pub first : position (λ expr. not (is_plain expr)) (expressions tree) ≡ Some number
  pub there : slice_get (expression_positions text) number ≡ Some at
