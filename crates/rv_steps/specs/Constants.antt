-- Lines that set a register to a number. This project's own.
use Rattle.std.specs.Prelude.{ℕ, zero, suc, ◌^◌, Bool, ℤ, pos, negsuc, ◌+ℤ◌, ◌-ℤ◌, ◌*ℤ◌, if◌then◌else◌, nat_lt, List, [], ◌∷◌, ◌++◌}
use Rattle.std.specs.Int.{int_shr}
use Rattle.rv_line.specs.declared.line.Line.{Line}
use Rattle.rv_line.specs.declared.line.Line.TheVariants.{Imm as ImmLine, Lui}
use Rattle.rv_line.specs.declared.line.Imm.TheVariants.{Addi, Addiw, Slli}
use Rattle.rv_steps.specs.Wrapped.{residue}

-- the number is from -bound to bound - 1
abbrev pub is_signed_below : ℕ → ℤ → Bool
is_signed_below bound (pos n) = nat_lt n bound
is_signed_below bound (negsuc n) = nat_lt n bound

-- the upper part of a number, rounded so that a signed number of twelve bits is left
abbrev pub upper_of : ℤ → ℤ
upper_of value = int_shr (value +ℤ pos 2048) 12

-- the signed number of twelve bits that is left
abbrev pub lower_of : ℤ → ℤ
lower_of value = value -ℤ pos 4096 *ℤ upper_of value

-- lines for a signed number of 32 bits
abbrev pub short_lines : ℕ → ℤ → List Line
short_lines to value =
    if is_signed_below 2048 value then ImmLine Addi to 0 value ∷ []
    else Lui to (residue 1048576 (upper_of value)) ∷ ImmLine Addiw to to (lower_of value) ∷ []

-- lines that shift an upper part up, and add what is left
abbrev pub shift_lines : ℕ → ℤ → List Line
shift_lines to value = ImmLine Slli to to (pos 12) ∷ ImmLine Addi to to (lower_of value) ∷ []

-- lines with at most so many shifts
unfoldable pub shifted_lines : ℕ → ℕ → ℤ → List Line
shifted_lines zero to value = short_lines to value
shifted_lines (suc levels) to value =
    if is_signed_below (2 ^ 31) value then short_lines to value
    else shifted_lines levels to (upper_of value) ++ shift_lines to value

-- lines after which the register holds a signed number of 64 bits
abbrev pub constant_lines : ℕ → ℤ → List Line
constant_lines to value = shifted_lines 3 to value
