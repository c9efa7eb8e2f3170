-- What is printed of a name or a number is its one token.
use Rattle.std.proofs.Common.{refl, ◌≡◌, ℕ, suc, ◌^◌, ◌<◌, true, false, List, [], ◌∷◌, ◌++◌, length, take, drop, sym, ap, ◌∙◌, w64, arith}
use Rattle.std.specs.Prelude.{◌&&◌, FitsSigned, ℤ, pos, negsuc, neg_ℤ}
use Rattle.std.specs.Fmt.{decimal, signed_decimal}
use Rattle.std.specs.List.{list_all, prefix_len}
use Rattle.std.specs.Str.Parse.{AllDigits, digits_value}
use Rattle.std.proofs.lemmas.Bool.Decides.{nat_tests}
use Rattle.std.proofs.lemmas.Fmt.{decimal_is_IsNumeral}
use Rattle.std.proofs.lemmas.List.{append-nil, drop_at, take_at}
use Rattle.std.proofs.lemmas.Str.Parse.{digit_from_value}
use Rattle.shapes_core.specs.Name.{IsName, is_digit, is_letter, is_name_byte}
use Rattle.text_tokens.specs.declared.token.Position.{Position}
use Rattle.text_tokens.specs.declared.token.Token.TheVariants.{Word, Number, End}
use Rattle.text_tokens.specs.Bytes.{is_run_byte}
use Rattle.text_tokens.specs.Runs.{is_in_range, token_of_number, token_of_run}
use Rattle.text_tokens.specs.Separators.{begins_in_run}
use Rattle.text_tokens.specs.Tokens.{along, tokens}
use Rattle.text_tokens.proofs.CutLemmas.{prefix_none, prefix_reaches}
use Rattle.text_tokens.proofs.NumberLemmas.{all_wider, digit_in_run, token_of_digits, token_of_minus}
use Rattle.text_tokens.proofs.TestLemmas.{both}
use Rattle.text_tokens.proofs.TokenLemmas.{prefix_all, tokens_run}

-- a run is one token, whatever follows that is no part of it
one_run : (position : Position) (run rest : List ℕ) → 0 < length run → list_all is_run_byte run ≡ true → begins_in_run rest ≡ false → tokens position (run ++ rest) ≡ (token_of_run run, position) ∷ tokens (along position (length run)) rest
one_run position [] rest h all ends = absurd (omega arith)
one_run position (first ∷ others) rest h all ends =
    let run = first ∷ others in
    let whole : prefix_len is_run_byte (run ++ rest) ≡ length run = prefix_reaches is_run_byte run rest (prefix_none rest ends) ∙ prefix_all is_run_byte run all in
    let begins = (both (is_run_byte first) (list_all is_run_byte others) all).0 in
    tokens_run (record { position = position; bytes = run ++ rest }) (omega arith) begins
    ∙ ap (λ n. (token_of_run (take n (run ++ rest)), position) ∷ tokens (along position n) (drop n (run ++ rest))) whole
    ∙ ap (λ list. (token_of_run list, position) ∷ tokens (along position (length run)) (drop (length run) (run ++ rest))) (take_at run rest (length run) refl)
    ∙ ap (λ list. (token_of_run run, position) ∷ tokens (along position (length run)) list) (drop_at run rest (length run) refl)

name_byte_in_run : (byte : ℕ) → is_name_byte byte ≡ true → is_run_byte byte ≡ true
name_byte_in_run byte h = rw h refl

letter_in_run : (byte : ℕ) → is_letter byte ≡ true → is_run_byte byte ≡ true
letter_in_run byte h = rw h refl

name_token : (run : List ℕ) → IsName run → token_of_run run ≡ Word run
name_token run h = rw h refl

-- a name is one word
pub tokens_name : (position : Position) (name rest : List ℕ) → IsName name → begins_in_run rest ≡ false → tokens position (name ++ rest) ≡ (Word name, position) ∷ tokens (along position (length name)) rest
tokens_name position [] rest h ends = absurd (cc h)
tokens_name position (first ∷ others) rest h ends =
    let name = first ∷ others in
    let parts = both (is_letter first && list_all is_name_byte others) _ h in
    let bytes = both (is_letter first) (list_all is_name_byte others) parts.0 in
    let all : list_all is_run_byte name ≡ true = rw (letter_in_run first bytes.0) (all_wider is_name_byte is_run_byte name_byte_in_run others bytes.1) in
    one_run position name rest (omega arith) all ends ∙ ap (λ t. (t, position) ∷ tokens (along position (length name)) rest) (name_token name h)

-- digits of std are digits here
all_digits : (list : List ℕ) → AllDigits 10 list → list_all is_digit list ≡ true
all_digits [] h = refl
all_digits (first ∷ others) h =
    let range = digit_from_value first h.0 in
    let digit : is_digit first ≡ true = grind (arith, nat_tests) in
    rw digit (all_digits others h.1)

in_range : (n : ℕ) → n < 2 ^ 63 → (is_in_range (pos n) ≡ true) × (is_in_range (negsuc n) ≡ true)
in_range n h = grind (arith, nat_tests)

-- digits are their number
number_of_digits : (list : List ℕ) (n : ℕ) → 0 < length list → list_all is_digit list ≡ true → digits_value 10 list ≡ n → n < 2 ^ 63
    → token_of_run list ≡ Number (pos n)
number_of_digits list n h all value fits =
    token_of_digits list h all ∙ ap (λ m. token_of_number (pos m)) value ∙ rw (in_range n fits).0 refl

-- `-` and digits are the negative of their number
number_of_minus : (list : List ℕ) (n : ℕ) → 0 < length list → list_all is_digit list ≡ true → digits_value 10 list ≡ suc n → n < 2 ^ 63
    → token_of_run (45 ∷ list) ≡ Number (negsuc n)
number_of_minus list n h all value fits =
    token_of_minus list h all ∙ ap (λ m. token_of_number (neg_ℤ (pos m))) value ∙ rw (in_range n fits).1 refl

-- a number as it is printed is one number
pub tokens_number : (position : Position) (z : ℤ) (rest : List ℕ) → FitsSigned w64 z → begins_in_run rest ≡ false → tokens position (signed_decimal z ++ rest) ≡ (Number z, position) ∷ tokens (along position (length (signed_decimal z))) rest
tokens_number position (pos n) rest h ends =
    let fits : n < 2 ^ 63 = h.sfits in
    let written = decimal_is_IsNumeral n (omega arith) in
    let digits = all_digits (decimal n) written.0.1 in
    one_run position (decimal n) rest written.0.0 (all_wider is_digit is_run_byte digit_in_run (decimal n) digits) ends
    ∙ ap (λ t. (t, position) ∷ tokens (along position (length (decimal n))) rest) (number_of_digits (decimal n) n written.0.0 digits written.1 fits)
tokens_number position (negsuc n) rest h ends =
    let fits : n < 2 ^ 63 = h.sfits in
    let written = decimal_is_IsNumeral (suc n) (omega arith) in
    let digits = all_digits (decimal (suc n)) written.0.1 in
    one_run position (45 ∷ decimal (suc n)) rest (omega arith) (all_wider is_digit is_run_byte digit_in_run (decimal (suc n)) digits) ends
    ∙ ap (λ t. (t, position) ∷ tokens (along position (length (45 ∷ decimal (suc n)))) rest) (number_of_minus (decimal (suc n)) n written.0.0 digits written.1 fits)

-- the same of a name and of a number with nothing after it
pub tokens_name_alone : (position : Position) (name : List ℕ) → IsName name → tokens position name ≡ (Word name, position) ∷ (End, along position (length name)) ∷ []
tokens_name_alone position name h = ap (tokens position) (sym (append-nil name)) ∙ tokens_name position name [] h refl

pub tokens_number_alone : (position : Position) (z : ℤ) → FitsSigned w64 z → tokens position (signed_decimal z) ≡ (Number z, position) ∷ (End, along position (length (signed_decimal z))) ∷ []
tokens_number_alone position z h = ap (tokens position) (sym (append-nil (signed_decimal z))) ∙ tokens_number position z [] h refl
