-- The positions of tokens rise.
use Rattle.std.proofs.Common.{refl, ◌≡◌, ℕ, zero, suc, ◌<◌, ◌≤◌, ◌⊎◌, inl, inr, ⊎_elim, Bool, true, false, List, [], ◌∷◌, ◌++◌, sym, subst, append_assoc, arith}
use Rattle.std.specs.Prelude.{◌==◌}
use Rattle.std.specs.List.{All, AllPairs, take_while}
use Rattle.std.proofs.lemmas.List.Elements.{All-cons, All-nil, All-weaker}
use Rattle.std.proofs.lemmas.List.Kept.{AllPairs-cons}
use Rattle.text_tokens.specs.declared.token.Position.{Position}
use Rattle.text_tokens.specs.declared.token.Token.{Token}
use Rattle.text_tokens.specs.declared.token.Token.TheVariants.{End}
use Rattle.text_tokens.specs.Bytes.{is_run_byte, is_separator, token_of_byte}
use Rattle.text_tokens.specs.Runs.{token_of_run}
use Rattle.text_tokens.specs.Tokens.{IsBefore, first_token, joined_len, position_after, position_past, tokens, tokens_after}

-- not before
abbrev IsFrom : Position → Position → Type 0
IsFrom a b = (a.line < b.line) ⊎ ((a.line ≡ b.line) × (a.column ≤ b.column))

-- the next byte stands after this one
step_rises : (position : Position) (byte : ℕ) → IsBefore position (position_after position byte)
step_rises position byte = by_test (byte == 10) refl
  where
    by_test : (test : Bool) → (byte == 10) ≡ test → IsBefore position (position_after position byte)
    by_test true e = rw e (inl (omega arith))
    by_test false e = rw e (inr (refl, omega arith))

before_from : (a b c : Position) → IsBefore a b → IsFrom b c → IsBefore a c
before_from a b c h k = grind arith

from_before : (a b : Position) → IsBefore a b → IsFrom a b
from_before a b h = grind arith

FromOn : Position → List (Token × Position) → Type 0
FromOn position list = All (λ t. IsFrom position t.1) list

to_end : ℕ → Position → List ℕ → List (Token × Position)
to_end joined position bytes = tokens_after joined position bytes ++ (End, position_past position bytes) ∷ []

AllRise : List (Token × Position) → Type 0
AllRise list = AllPairs (λ t u. IsBefore t.1 u.1) list

-- what begins with a byte is one token that stands there, or none
pub first_token_cases : (position : Position) (first : ℕ) (others : List ℕ) → (first_token position first others ≡ []) ⊎ ((token : Token) × (first_token position first others ≡ (token, position) ∷ []))
first_token_cases position first others = by_tests (is_separator first) (is_run_byte first) refl refl
  where
    by_tests : (separates runs : Bool) → is_separator first ≡ separates → is_run_byte first ≡ runs → (first_token position first others ≡ []) ⊎ ((token : Token) × (first_token position first others ≡ (token, position) ∷ []))
    by_tests true runs s r = inl (rw s refl)
    by_tests false true s r = inr (token_of_run (first ∷ take_while is_run_byte others), rw (s, r) refl)
    by_tests false false s r = inr (token_of_byte first, rw (s, r) refl)

from_later : (position : Position) (byte : ℕ) (list : List (Token × Position)) → FromOn (position_after position byte) list → All (λ t. IsBefore position t.1) list
unfolding FromOn
from_later position byte list h =
    All-weaker (λ t. IsFrom (position_after position byte) t.1) (λ t. IsBefore position t.1) (λ t from. before_from _ _ _ (step_rises position byte) from) list h

from_earlier : (position : Position) (byte : ℕ) (list : List (Token × Position)) → FromOn (position_after position byte) list → FromOn position list
unfolding FromOn
from_earlier position byte list h =
    All-weaker (λ t. IsBefore position t.1) (λ t. IsFrom position t.1) (λ t before. from_before _ _ before) list (from_later position byte list h)

first_from : (position : Position) (first : ℕ) (others : List ℕ) (list : List (Token × Position)) → FromOn (position_after position first) list → FromOn position (first_token position first others ++ list)
unfolding FromOn
first_from position first others list h =
    ⊎_elim
    (λ none. subst (λ l. FromOn position (l ++ list)) (sym none) (from_earlier position first list h))
    (λ one. subst (λ l. FromOn position (l ++ list)) (sym one.1) (All-cons (λ t. IsFrom position t.1) (one.0, position) list (inr (refl, omega arith)) (from_earlier position first list h)))
    (first_token_cases position first others)

first_rises : (position : Position) (first : ℕ) (others : List ℕ) (list : List (Token × Position)) → FromOn (position_after position first) list → AllRise list → AllRise (first_token position first others ++ list)
unfolding AllRise
first_rises position first others list h rise =
    ⊎_elim
    (λ none. subst (λ l. AllRise (l ++ list)) (sym none) rise)
    (λ one. subst (λ l. AllRise (l ++ list)) (sym one.1) (AllPairs-cons (λ t u. IsBefore t.1 u.1) (one.0, position) list (from_later position first list h) rise))
    (first_token_cases position first others)

from_on : (joined : ℕ) (position : Position) (bytes : List ℕ) → FromOn position (to_end joined position bytes)
unfolding FromOn to_end
from_on joined position [] = All-cons (λ t. IsFrom position t.1) (End, position) [] (inr (refl, omega arith)) (All-nil _)
from_on zero position (first ∷ others) =
    subst (FromOn position) (sym (append_assoc (first_token position first others) _ _)) (first_from position first others _ (from_on (joined_len first others) (position_after position first) others))
from_on (suc joined) position (first ∷ others) = from_earlier position first _ (from_on joined (position_after position first) others)

all_rise : (joined : ℕ) (position : Position) (bytes : List ℕ) → AllRise (to_end joined position bytes)
unfolding AllRise to_end
all_rise joined position [] = λ i j d below within. absurd (omega arith)
all_rise zero position (first ∷ others) =
    subst AllRise (sym (append_assoc (first_token position first others) _ _))
    (first_rises position first others _ (from_on (joined_len first others) (position_after position first) others) (all_rise (joined_len first others) (position_after position first) others))
all_rise (suc joined) position (first ∷ others) = all_rise joined (position_after position first) others

pub positions_rise : (position : Position) (bytes : List ℕ) → AllPairs (λ t u. IsBefore t.1 u.1) (tokens position bytes)
unfolding AllRise to_end
positions_rise position bytes = all_rise 0 position bytes
