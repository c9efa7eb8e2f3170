-- What is left of a text: its lexemes with their positions. This project's own.
use Rattle.std.specs.Prelude.{◌≡◌, List, [], ◌∷◌, map}
use Rattle.text_tokens.specs.declared.token.Position.{Position}
use Rattle.text_tokens.specs.declared.token.Token.{Token}
use Rattle.text_tokens.specs.Tokens.{Remaining, remaining_tokens}
use Rattle.moa_tree.specs.declared.tree.Version.{Version}
use Rattle.moa_tree.specs.Vocabulary.{Lexeme, lexeme_of}

abbrev pub Placed : Type 0
Placed = List (Lexeme × Position)

-- what some tokens are to a version, with their positions
abbrev pub placed : Version → List (Token × Position) → Placed
placed version tokens = map (λ token. (lexeme_of version token.0, token.1)) tokens

-- the lexeme that comes next, where it stands, and those behind it
pub record Ahead : Type 0 where
  pub lexeme : Lexeme
  pub at : Position
  pub behind : Placed

-- all of them
abbrev pub all : Ahead → Placed
all ahead = (ahead.lexeme, ahead.at) ∷ ahead.behind

-- the lexemes alone
abbrev pub left : Ahead → List Lexeme
left ahead = map (λ lexeme. lexeme.0) (all ahead)

-- this lexeme alone is passed over
abbrev pub Takes : Ahead → Lexeme → Ahead → Type 0
Takes old lexeme new = all old ≡ (lexeme, old.at) ∷ all new

-- those that follow a lexeme: none follows the end
abbrev pub following : Version → Lexeme → Remaining → Placed
following version Lexeme.End left = []
following version _ left = placed version (remaining_tokens left)
