-- What parts of a text are made of. This project's own.
use Rattle.std.specs.Prelude.{ℕ, Bool}
use Rattle.shapes_core.specs.Name.{is_digit, is_name_byte}
use Rattle.text_tokens.specs.declared.bytes.Kind.{Kind}
use Rattle.text_tokens.specs.declared.bytes.Kind.TheVariants.{Run, WithinLine, NameByte, Digit}
use Rattle.text_tokens.specs.Bytes.{is_run_byte, is_within_line}

-- the bytes of a kind
abbrev pub is_of : Kind → ℕ → Bool
is_of Run = is_run_byte
is_of WithinLine = is_within_line
is_of NameByte = is_name_byte
is_of Digit = is_digit
