-- The tokens of an array file, each with the number of its line. This project's own.
use Rattle.std.specs.Prelude.{ℕ, List, map}
use Rattle.text_tokens.specs.declared.token.Position.{Position}
use Rattle.text_tokens.specs.declared.token.Token.{Token}
use Rattle.text_tokens.specs.Tokens.{start, tokens}

abbrev pub Lined : Type 0
Lined = Token × ℕ

-- tokens with their lines in place of their positions
abbrev pub lined : List (Token × Position) → List Lined
lined placed = map (λ token. (token.0, token.1.line)) placed

-- the tokens of a file, the end included, which has the line where the next byte would stand
abbrev pub lined_tokens : List ℕ → List Lined
lined_tokens text = lined (tokens start text)
