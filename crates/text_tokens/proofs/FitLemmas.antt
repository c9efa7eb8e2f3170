-- The words among the tokens are names, and the numbers have 64 bits.
use Rattle.std.proofs.Common.{refl, ◌≡◌, ℕ, zero, suc, ◌<◌, ◌^◌, Bool, true, false, List, [], ◌∷◌, w64, arith}
use Rattle.std.specs.Prelude.{◌==◌, cond, FitsSigned, ℤ, pos, negsuc}
use Rattle.std.specs.List.{All, take_while}
use Rattle.std.proofs.lemmas.Bool.Decides.{nat_tests}
use Rattle.std.proofs.lemmas.List.Elements.{All-append, All-cons, All-nil}
use Rattle.text_tokens.specs.declared.token.Position.{Position}
use Rattle.text_tokens.specs.declared.token.Token.{Token}
use Rattle.text_tokens.specs.declared.token.Token.TheVariants.{End}
use Rattle.shapes_core.specs.Name.{is_name}
use Rattle.text_tokens.specs.Bytes.{is_run_byte, is_separator, token_of_byte}
use Rattle.text_tokens.specs.Runs.{IsFit, is_in_range, is_numeral, is_word, number_value, token_of_run, unsigned_part}
use Rattle.text_tokens.specs.Tokens.{first_token, joined_len, position_after, position_past, tokens, tokens_after}

in_range_fits : (value : ℤ) → is_in_range value ≡ true → FitsSigned w64 value
in_range_fits (pos n) h = let below : n < 2 ^ 63 = grind (arith, nat_tests) in record { sfits = below }
in_range_fits (negsuc n) h = let below : n < 2 ^ 63 = grind (arith, nat_tests) in record { sfits = below }

if_fit : (test : Bool) (t u : Token) → (test ≡ true → IsFit t) → IsFit u → IsFit (cond test t u)
if_fit true t u first second = first refl
if_fit false t u first second = second

run_fit : (run : List ℕ) → IsFit (token_of_run run)
run_fit run =
    if_fit (is_name run) _ _ (λ name. name)
    (if_fit (is_word run) _ _ (λ word. tt)
    (if_fit (is_numeral (unsigned_part run)) _ _ (λ numeral. if_fit (is_in_range (number_value run)) _ _ (in_range_fits (number_value run)) tt) tt))

byte_fit : (byte : ℕ) → IsFit (token_of_byte byte)
byte_fit byte =
    if_fit (byte == 60) _ _ (λ h. tt) (if_fit (byte == 62) _ _ (λ h. tt) (if_fit (byte == 40) _ _ (λ h. tt) (if_fit (byte == 41) _ _ (λ h. tt) (if_fit (byte == 61) _ _ (λ h. tt) tt))))

AllFit : List (Token × Position) → Type 0
AllFit list = All (λ t. IsFit t.0) list

one_fit : (token : Token) (position : Position) → IsFit token → AllFit ((token, position) ∷ [])
unfolding AllFit
one_fit token position h = All-cons (λ t. IsFit t.0) (token, position) [] h (All-nil _)

first_fit : (position : Position) (first : ℕ) (others : List ℕ) → AllFit (first_token position first others)
unfolding AllFit
first_fit position first others = by_tests (is_separator first) (is_run_byte first) refl refl
  where
    by_tests : (separates runs : Bool) → is_separator first ≡ separates → is_run_byte first ≡ runs → AllFit (first_token position first others)
    by_tests true runs s r = rw s (All-nil (λ t. IsFit t.0))
    by_tests false true s r = rw (s, r) (one_fit (token_of_run (first ∷ take_while is_run_byte others)) position (run_fit (first ∷ take_while is_run_byte others)))
    by_tests false false s r = rw (s, r) (one_fit (token_of_byte first) position (byte_fit first))

after_fit : (joined : ℕ) (position : Position) (bytes : List ℕ) → AllFit (tokens_after joined position bytes)
unfolding AllFit
after_fit joined position [] = All-nil _
after_fit zero position (first ∷ others) =
    All-append (λ t. IsFit t.0) (first_token position first others) _ (first_fit position first others) (after_fit (joined_len first others) (position_after position first) others)
after_fit (suc joined) position (first ∷ others) = after_fit joined (position_after position first) others

pub tokens_fit : (position : Position) (bytes : List ℕ) → All (λ t. IsFit t.0) (tokens position bytes)
unfolding AllFit
tokens_fit position bytes =
    All-append (λ t. IsFit t.0) (tokens_after 0 position bytes) _ (after_fit 0 position bytes) (one_fit End (position_past position bytes) tt)
