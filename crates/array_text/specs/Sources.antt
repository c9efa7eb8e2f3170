-- What is left of an array file, and what an error says of what becomes of it. This project's own.
use Rattle.std.specs.Prelude.{◌≡◌, ℕ, ◌-◌, ◌≤◌, ℤ, List, ◌∷◌, length, ⊤}
use Rattle.shapes_core.specs.declared.area.Declared.{Declared}
use Rattle.text_tokens.specs.declared.token.Token.{Token}
use Rattle.text_tokens.specs.Tokens.{Remaining, following}
use Rattle.array_text.specs.declared.error.DataError.{DataError}
use Rattle.array_text.specs.Lines.{Lined, lined}
use Rattle.array_text.specs.Outcome.{Came, Outcome, Want, at_array, filled, outcome_along}

-- the token that comes next, its line, and the tokens behind it
pub record Ahead : Type 0 where
  pub token : Token
  pub line : ℕ
  pub behind : List Lined

-- all of them
abbrev pub all : Ahead → List Lined
all ahead = (ahead.token, ahead.line) ∷ ahead.behind

-- those that follow a token: none follows the end
abbrev pub behind_token : Token → Remaining → List Lined
behind_token token left = lined (following token left)

-- the word `array` comes next
abbrev pub BeginsArray : Ahead → Type 0
BeginsArray ahead = (came : Came) → at_array came ahead.token ahead.line ≡ Outcome.Goes came (Want.AName ahead.line)

-- the file is refused so; want of memory explains nothing
abbrev pub Explains : Outcome → DataError → Type 0
Explains outcome (DataError.Text line cause) = outcome ≡ Outcome.Refused line cause
Explains outcome DataError.Memory = ⊤

-- what becomes of these tokens behind what was read becomes of those behind what is read by then
abbrev pub Passes : List Declared → Outcome → Ahead → Outcome → Ahead → Type 0
Passes declared before old after new = outcome_along declared before (all old) ≡ outcome_along declared after (all new)

-- these tokens are refused so behind what was read
abbrev pub IsRefusedWith : List Declared → Outcome → Ahead → DataError → Type 0
IsRefusedWith declared before old error = Explains (outcome_along declared before (all old)) error

-- of so many values of an array these are read: what becomes of the tokens behind them becomes of those behind more of them
pub record Fills (count : ℕ) (before : List ℤ) (old : List Lined) (after : List ℤ) (new : List Lined) : Type 0 where
  pub passes : (declared : List Declared) (came : Came) (place : ℕ)
      → outcome_along declared (filled came place before (count - length before)) old
      ≡ outcome_along declared (filled came place after (count - length after)) new
  pub no_longer : length new ≤ length old
  pub no_fewer : length before ≤ length after
