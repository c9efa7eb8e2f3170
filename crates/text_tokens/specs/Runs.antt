-- What a longest run of letters, digits, `_` and `-` is, taken as a whole. This project's own.
use Rattle.std.specs.Prelude.{ℕ, ◌^◌, Bool, false, ◌&&◌, List, [], ◌∷◌, drop, ℤ, pos, negsuc, neg_ℤ, nat_lt, FitsSigned, Some, None}
use Rattle.std.specs.Prelude.{option_map, if◌then◌else◌}
use Rattle.std.specs.declared.option.Option.{Option}
use Rattle.std.specs.Int.{w64}
use Rattle.std.specs.List.{list_all, prefix_len, take_while}
use Rattle.std.specs.Str.Parse.{starts_with_minus, digits_value}
use Rattle.shapes_core.specs.Name.{IsName, is_digit, is_letter, is_name, is_name_byte}
use Rattle.text_tokens.specs.declared.token.Token.{Token}
use Rattle.text_tokens.specs.declared.token.Token.TheVariants.{Word, LongWord, Number, OutOfRange, Malformed}
use Rattle.text_tokens.specs.Bytes.{is_run_byte}

-- a run that begins with a letter and has no `-`
abbrev pub is_word : List ℕ → Bool
is_word [] = false
is_word (first ∷ others) = is_letter first && list_all is_name_byte others

-- one decimal digit or more, and nothing else
abbrev pub is_numeral : List ℕ → Bool
is_numeral [] = false
is_numeral (first ∷ others) = is_digit first && list_all is_digit others

-- a run without one `-` in front
abbrev pub unsigned_part : List ℕ → List ℕ
unsigned_part run = if starts_with_minus run then drop 1 run else run

-- the number that a magnitude is, with or without `-` in front
abbrev pub signed : Bool → ℕ → ℤ
signed minus magnitude = if minus then neg_ℤ (pos magnitude) else pos magnitude

-- the value of a run of digits, with or without one `-` in front
abbrev pub number_value : List ℕ → ℤ
number_value run = signed (starts_with_minus run) (digits_value 10 (unsigned_part run))

-- within the signed numbers of 64 bits
abbrev pub is_in_range : ℤ → Bool
is_in_range (pos n) = nat_lt n (2 ^ 63)
is_in_range (negsuc n) = nat_lt n (2 ^ 63)

-- the token of a number's value
abbrev pub token_of_number : ℤ → Token
token_of_number value = if is_in_range value then Number value else OutOfRange

-- the token of a run: a word, a number, or none
abbrev pub token_of_run : List ℕ → Token
token_of_run run =
    if is_name run then Word run
    else (if is_word run then LongWord
    else (if is_numeral (unsigned_part run) then token_of_number (number_value run)
    else Malformed))

-- the number that a token is, if it is one
abbrev pub number_of : Token → Option ℤ
number_of (Number value) = Some value
number_of _ = None

-- the number that the longest run in front is, if it is one, and how long that run is
abbrev pub number_in_front : List ℕ → Option (ℤ × ℕ)
number_in_front bytes =
    option_map (λ value. (value, prefix_len is_run_byte bytes)) (number_of (token_of_run (take_while is_run_byte bytes)))

-- a word is a name, and a number has 64 bits
abbrev pub IsFit : Token → Type 0
IsFit (Word name) = IsName name
IsFit (Number value) = FitsSigned w64 value
IsFit _ = Unit {0}
