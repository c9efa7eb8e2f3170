-- Where the expressions of a text and the names of its statements stand. This project's own.
use Rattle.std.specs.Prelude.{◌≡◌, ℕ, Bool, true, false, List, [], ◌∷◌, ◌++◌, map, slice_index_or, if◌then◌else◌}
use Rattle.text_tokens.specs.declared.token.Position.{Position}
use Rattle.text_tokens.specs.declared.token.Sign.TheVariants as sign
use Rattle.text_tokens.specs.declared.token.Token.{Token}
use Rattle.text_tokens.specs.Tokens.{start, tokens}
use Rattle.moa_tree.specs.declared.tree.Statement.{Statement}
use Rattle.moa_tree.specs.declared.tree.Statement.TheVariants as statement
use Rattle.moa_tree.specs.declared.tree.Version.{Version}
use Rattle.moa_tree.specs.Expected.{Want, at_start, next}
use Rattle.moa_tree.specs.Pools.{Pools, walk}
use Rattle.moa_tree.specs.Vocabulary.{Lexeme, lexeme_of, version_of}

-- where those tokens of a version stand that pass a test, which sees what is wanted before the token
abbrev pub places : Version → (List Want → Lexeme → Bool) → List Want → List (Token × Position) → List Position
places version test wants [] = []
places version test wants (first ∷ others) =
    let lexeme = lexeme_of version first.0 in
    (if test wants lexeme then first.1 ∷ [] else []) ++ places version test (next wants lexeme) others

-- an expression is wanted and begins, in no parentheses of its own
abbrev pub begins_expression : List Want → Lexeme → Bool
begins_expression wants (Lexeme.Sign sign.Open) = false
begins_expression (Want.AnExpr depth ∷ wants) lexeme = true
begins_expression _ _ = false

-- the name of a statement is wanted
abbrev pub is_statement_name : List Want → Lexeme → Bool
is_statement_name (Want.AName ∷ wants) lexeme = true
is_statement_name _ _ = false

-- where each expression of a text stands: its word or its number
abbrev pub expression_positions : List ℕ → List Position
expression_positions text = places (version_of text) begins_expression at_start (tokens start text)

-- where the name of each statement stands
abbrev pub name_positions : List ℕ → List Position
name_positions text = places (version_of text) is_statement_name at_start (tokens start text)

-- the position that a statement has
abbrev pub position_of : Statement → Position
position_of (statement.Input name extents at) = at
position_of (statement.Name name number at) = at
position_of (statement.Output name number at) = at

-- the positions of some nodes
abbrev pub positions_at : List Position → List ℕ → List Position
positions_at positions numbers = map (λ number. slice_index_or positions number start) numbers

-- the nodes of a program, in prefix order, have the positions of the expressions of a text, and its statements those of their names
pub record StandsIn (text : List ℕ) (pools : Pools) : Type 0 where
  pub expressions : positions_at pools.positions (walk pools) ≡ expression_positions text
  pub names : map position_of pools.statements ≡ name_positions text
