-- What is left of a file by one token after the other.
use Rattle.std.proofs.Common.{◌≡◌, ◌≢◌, ◌∷◌, refl, sym, ap}
use Rattle.text_tokens.specs.declared.token.Position.{Position}
use Rattle.text_tokens.specs.declared.token.Token.{Token}
use Rattle.text_tokens.specs.declared.token.Token.TheVariants as token
use Rattle.text_tokens.specs.Tokens.{GivesNext, Remaining, remaining_tokens}
use Rattle.array_text.specs.Lines.{lined}
use Rattle.array_text.specs.Sources.{behind_token}

-- the token that was given and those that follow it are all that was left
pub next_lined : (old new : Remaining) (given : Token × Position) → GivesNext old given new
    → (given.0, given.1.line) ∷ behind_token given.0 new ≡ lined (remaining_tokens old)
next_lined old new given gives = ap lined (sym gives.next)

pub following_on : (first : Token) (left : Remaining) → first ≢ token.End → behind_token first left ≡ lined (remaining_tokens left)
following_on token.End left h = absurd (h refl)
following_on first left h = refl
