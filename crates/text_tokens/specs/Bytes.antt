-- The kinds of bytes in a text of words, numbers and signs. This project's own.
use Rattle.std.specs.Prelude.{ℕ, Bool, not, ◌||◌, ◌==◌, if◌then◌else◌}
use Rattle.shapes_core.specs.Name.{is_name_byte}
use Rattle.text_tokens.specs.declared.token.Sign.TheVariants.{Less, Greater, Open, Close, Equal}
use Rattle.text_tokens.specs.declared.token.Token.{Token}
use Rattle.text_tokens.specs.declared.token.Token.TheVariants.{Sign, Malformed}

-- a letter, a digit, `_` or `-`
abbrev pub is_run_byte : ℕ → Bool
is_run_byte byte = is_name_byte byte || byte == 45

-- a space, a tab or a carriage return
abbrev pub is_blank : ℕ → Bool
is_blank byte = byte == 32 || byte == 9 || byte == 13

-- any byte but a line feed, which ends its line
abbrev pub is_within_line : ℕ → Bool
is_within_line byte = not (byte == 10)

-- a blank, a line feed, or the `#` that begins a comment
abbrev pub is_separator : ℕ → Bool
is_separator byte = is_blank byte || byte == 10 || byte == 35

-- the token that a byte is by itself, outside runs and separators: one of the five signs, or none
abbrev pub token_of_byte : ℕ → Token
token_of_byte byte =
    if byte == 60 then Sign Less
    else (if byte == 62 then Sign Greater
    else (if byte == 40 then Sign Open
    else (if byte == 41 then Sign Close
    else (if byte == 61 then Sign Equal
    else Malformed))))
