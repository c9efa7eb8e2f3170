-- What is read of an operand: a number, a register, an immediate, an address or a label. After the syntax of RISC-V assembly.
use Rattle.std.specs.Prelude.{ℕ, ◌==◌, ℤ, Bool, false, not, ◌&&◌, ◌||◌, nat_lt, List, [], ◌∷◌, length, drop, codes, slice_index, if◌then◌else◌}
use Rattle.std.specs.List.{list_all}
use Rattle.std.specs.Str.Parse.{digits_value, signed_digits_value}
use Rattle.std.specs.declared.option.Option.{Option}
use Rattle.std.specs.declared.option.Option.TheVariants.{None, Some}
use Rattle.shapes_core.specs.Name.{is_digit}
use Rattle.rv_line.specs.Instructions.{is_label}
use Rattle.rv_line.specs.Numbers.{without_minus}
use Rattle.rv_reader.specs.Cuts.{same, until, since}

-- one decimal digit or more
abbrev pub is_number : List ℕ → Bool
is_number [] = false
is_number (first ∷ others) = is_digit first && list_all is_digit others

-- a number without a sign: leading zeros are allowed
abbrev pub number_of : List ℕ → Option ℕ
number_of text = if is_number text then Some (digits_value 10 text) else None

-- a number with or without one `-` in front
abbrev pub immediate_of : List ℕ → Option ℤ
immediate_of text = if is_number (without_minus text) then Some (signed_digits_value 10 text) else None

-- a number without a leading zero, but for 0 itself
abbrev pub is_shortest : List ℕ → Bool
is_shortest digits = is_number digits && (length digits == 1 || not (slice_index digits 0 == 48))

-- `x` and the number of a register, 0 to 31
abbrev pub is_register : List ℕ → Bool
is_register text = slice_index text 0 == 120 && is_shortest (drop 1 text) && nat_lt (digits_value 10 (drop 1 text)) 32

abbrev pub register_of : List ℕ → Option ℕ
register_of text = if is_register text then Some (digits_value 10 (drop 1 text)) else None

-- an immediate, and a register in parentheses behind it, without blanks
pub record Address : Type 0 where
  pub imm : ℤ
  pub base : ℕ

abbrev pub address : ℤ → ℕ → Address
address imm base = record { imm = imm; base = base }

-- what stands before the `(`; between it and the `)`; and from the `)` on
abbrev pub offset_part : List ℕ → List ℕ
offset_part text = until (λ byte. byte == 40) text

abbrev pub base_part : List ℕ → List ℕ
base_part text = until (λ byte. byte == 41) (drop 1 (since (λ byte. byte == 40) text))

abbrev pub end_part : List ℕ → List ℕ
end_part text = since (λ byte. byte == 41) (drop 1 (since (λ byte. byte == 40) text))

abbrev pub address_from : Bool → Option ℤ → Option ℕ → Option Address
address_from closed (Some imm) (Some base) = if closed then Some (address imm base) else None
address_from closed _ _ = None

abbrev pub address_of : List ℕ → Option Address
address_of text = address_from (same (end_part text) (codes ")")) (immediate_of (offset_part text)) (register_of (base_part text))

-- the name of a label
abbrev pub label_of : List ℕ → Option (List ℕ)
label_of text = if is_label text then Some text else None
