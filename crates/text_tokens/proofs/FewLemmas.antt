-- A text has no more tokens than bytes.
use Rattle.std.proofs.Common.{◌≡◌, ℕ, zero, suc, ◌+◌, ◌≤◌, ◌⊎◌, inl, inr, List, [], ◌∷◌, length, ap, arith}
use Rattle.std.proofs.lemmas.List.{length-append}
use Rattle.text_tokens.specs.declared.token.Position.{Position}
use Rattle.text_tokens.specs.declared.token.Token.{Token}
use Rattle.text_tokens.specs.declared.token.Token.TheVariants.{End}
use Rattle.text_tokens.specs.Tokens.{first_token, joined_len, position_after, position_past, tokens, tokens_after}
use Rattle.text_tokens.proofs.RiseLemmas.{first_token_cases}

one_at_most : (list : List (Token × Position)) (position : Position)
    → (list ≡ []) ⊎ ((token : Token) × (list ≡ (token, position) ∷ [])) → length list ≤ 1
one_at_most list position (inl none) = omega (arith, ap length none)
one_at_most list position (inr one) = omega (arith, ap length one.1)

few_after : (joined : ℕ) (position : Position) (bytes : List ℕ) → length (tokens_after joined position bytes) ≤ length bytes
few_after joined position [] = omega arith
few_after zero position (first ∷ others) =
    omega (
      arith,
      length-append (first_token position first others) (tokens_after (joined_len first others) (position_after position first) others),
      one_at_most (first_token position first others) position (first_token_cases position first others),
      few_after (joined_len first others) (position_after position first) others,
    )
few_after (suc joined) position (first ∷ others) = omega (arith, few_after joined (position_after position first) others)

pub tokens_few : (position : Position) (bytes : List ℕ) → length (tokens position bytes) ≤ 1 + length bytes
tokens_few position bytes =
    omega (arith, length-append (tokens_after 0 position bytes) ((End, position_past position bytes) ∷ []), few_after 0 position bytes)
