-- The tokens of a text with their positions. This project's own.
use Rattle.std.specs.Prelude.{◌≡◌, ℕ, zero, suc, ◌+◌, ◌⊎◌, ◌<◌, ◌≤◌, ℤ, List, [], ◌∷◌, ◌++◌, map, length, ◌==◌, IfSome, None, if◌then◌else◌}
use Rattle.std.specs.declared.option.Option.{Option}
use Rattle.std.specs.List.{fold, prefix_len, take_while}
use Rattle.text_tokens.specs.declared.token.Position.{Position}
use Rattle.text_tokens.specs.declared.token.Token.{Token}
use Rattle.text_tokens.specs.declared.token.Token.TheVariants.{End, Number}
use Rattle.text_tokens.specs.Bytes.{is_run_byte, is_separator, is_within_line, token_of_byte}
use Rattle.text_tokens.specs.Runs.{number_of, token_of_run}

-- where a text begins
abbrev pub start : Position
start = record { line = 1; column = 1 }

-- where the byte after this one stands: a line feed ends its line
abbrev pub position_after : Position → ℕ → Position
position_after position byte =
    if byte == 10 then record { line = position.line + 1; column = 1 }
    else record { line = position.line; column = position.column + 1 }

-- further on in the same line
abbrev pub along : Position → ℕ → Position
along position count = record { line = position.line; column = position.column + count }

-- where the byte after these stands
abbrev pub position_past : Position → List ℕ → Position
position_past position bytes = fold position_after position bytes

-- how many of the bytes after a first one, which is in no comment and no run, belong to its comment or its run
abbrev pub joined_len : ℕ → List ℕ → ℕ
joined_len first others =
    if first == 35 then prefix_len is_within_line others
    else (if is_run_byte first then prefix_len is_run_byte others
    else 0)

-- the token that begins with a byte, or none at a separator
abbrev pub first_token : Position → ℕ → List ℕ → List (Token × Position)
first_token position first others =
    if is_separator first then []
    else (if is_run_byte first then (token_of_run (first ∷ take_while is_run_byte others), position) ∷ []
    else (token_of_byte first, position) ∷ [])

-- the tokens that begin after the first few bytes, which belong to a comment or a run before them
abbrev pub tokens_after : ℕ → Position → List ℕ → List (Token × Position)
tokens_after joined position [] = []
tokens_after zero position (first ∷ others) =
    first_token position first others ++ tokens_after (joined_len first others) (position_after position first) others
tokens_after (suc joined) position (first ∷ others) = tokens_after joined (position_after position first) others

-- the tokens of a text that begins at a position, without the end
abbrev pub inner_tokens : Position → List ℕ → List (Token × Position)
inner_tokens position bytes = tokens_after 0 position bytes

-- the tokens of a text that begins at a position, the end included, which stands where the next byte would
abbrev pub tokens : Position → List ℕ → List (Token × Position)
tokens position bytes = inner_tokens position bytes ++ (End, position_past position bytes) ∷ []

-- the tokens of a text without their positions
abbrev pub tokens_only : List ℕ → List Token
tokens_only bytes = map (λ t. t.0) (tokens start bytes)

-- on an earlier line, or further left on the same
abbrev pub IsBefore : Position → Position → Type 0
IsBefore a b = (a.line < b.line) ⊎ ((a.line ≡ b.line) × (a.column < b.column))

-- a token with the line and the column of its first byte
abbrev pub placed : ℕ → ℕ → Token → Token × Position
placed line column token = (token, record { line = line; column = column })

-- what a scanner has before it: the bytes that are left, and where the first of them stands
pub record Remaining : Type 0 where
  pub position : Position
  pub bytes : List ℕ

abbrev pub remaining_tokens : Remaining → List (Token × Position)
remaining_tokens left = tokens left.position left.bytes

-- the number that stands first among tokens, if a number does
abbrev pub first_number : List (Token × Position) → Option ℤ
first_number [] = None
first_number (first ∷ others) = number_of first.0

-- the tokens that follow one that was given: none follows the end
abbrev pub following : Token → Remaining → List (Token × Position)
following End left = []
following _ left = remaining_tokens left

-- each token but the end takes bytes
abbrev pub TakesBytes : Token → Remaining → Remaining → Type 0
TakesBytes End old new = length new.bytes ≤ length old.bytes
TakesBytes _ old new = length new.bytes < length old.bytes

-- what a scanner does when it is asked for the next token
pub record GivesNext (old : Remaining) (given : Token × Position) (new : Remaining) : Type 0 where
  -- it gives the first of the tokens that are left, and leaves the others
  pub next : remaining_tokens old ≡ given ∷ following given.0 new
  -- after the end it gives the end again
  pub again : given.0 ≡ End → remaining_tokens new ≡ given ∷ []
  pub takes : TakesBytes given.0 old new

-- what a scanner does when it is asked for the next number
pub record GivesNumber (old : Remaining) (given : Option (ℤ × Position)) (new : Remaining) : Type 0 where
  -- it gives the next token where that is a number
  pub taken : IfSome given (λ found. GivesNext old (Number found.0, found.1) new)
  -- otherwise it gives nothing, and leaves all tokens
  pub other : given ≡ None → (remaining_tokens new ≡ remaining_tokens old) × (first_number (remaining_tokens old) ≡ None)
