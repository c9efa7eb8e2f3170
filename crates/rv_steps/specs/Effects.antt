-- What each mnemonic of RV64IM computes, on words: natural numbers below 2 ^ 64. The rules are those of the chapters "RV64I Base Integer
-- Instruction Set" and '"M" Extension for Integer Multiplication and Division' of the RISC-V unprivileged ISA.
use Rattle.std.specs.Prelude.{ℕ, ◌+◌, ◌-◌, ◌*◌, ◌/◌, ◌%◌, ◌^◌, Bool, not, ℤ, pos, ◌*ℤ◌, if◌then◌else◌, ◌==◌, nat_lt, int_lt, int_div, int_rem, bit_and, bit_or, bit_xor}
use Rattle.std.specs.Int.{Width, w8, w16, w32, w64, cast_signed, cast_unsigned, int_shr, from_bool}
use mir.Val.{bits}
use Rattle.rv_line.specs.declared.line.Three.{Three}
use Rattle.rv_line.specs.declared.line.Imm.{Imm}
use Rattle.rv_line.specs.declared.line.Load.{Load}
use Rattle.rv_line.specs.declared.line.Store.{Store}
use Rattle.rv_line.specs.declared.line.Branch.{Branch}

-- a word as a signed number: two's complement
abbrev pub signed_value : ℕ → ℤ
signed_value a = cast_signed w64 a

-- the word of a signed number
abbrev pub word_of : ℤ → ℕ
word_of z = cast_unsigned w64 z

-- the low bits of a number, as a word that is extended by their sign
abbrev pub sign_extension : Width → ℕ → ℕ
sign_extension w a = word_of (cast_signed w (a % 2 ^ bits w))

-- ---- operations at a width, on numbers of that many bits, and what they wrap to

-- `add`
abbrev pub sum_of : Width → ℕ → ℕ → ℕ
sum_of w a b = (a + b) % 2 ^ bits w

-- `sub`
abbrev pub difference_of : Width → ℕ → ℕ → ℕ
difference_of w a b = (a + (2 ^ bits w - b)) % 2 ^ bits w

-- `mul`
abbrev pub product_of : Width → ℕ → ℕ → ℕ
product_of w a b = (a * b) % 2 ^ bits w

-- `sll`: shifts take the low six bits of b, or the low five at 32 bits
abbrev pub left_shift : Width → ℕ → ℕ → ℕ
left_shift w a b = (a * 2 ^ (b % bits w)) % 2 ^ bits w

-- `srl`, which fills with zeros
abbrev pub right_shift : Width → ℕ → ℕ → ℕ
right_shift w a b = a / 2 ^ (b % bits w)

-- `sra`, which fills with the sign
abbrev pub signed_right_shift : Width → ℕ → ℕ → ℕ
signed_right_shift w a b = cast_unsigned w (int_shr (cast_signed w a) (b % bits w))

-- `div`, which rounds toward zero, and by 0 gives all ones. The least number by -1 gives itself: the quotient 2 ^ 63, or 2 ^ 31, as bits
abbrev pub quotient_of : Width → ℕ → ℕ → ℕ
quotient_of w a b = if b == 0 then 2 ^ bits w - 1 else cast_unsigned w (int_div (cast_signed w a) (cast_signed w b))

-- `divu`
abbrev pub quotient_unsigned : Width → ℕ → ℕ → ℕ
quotient_unsigned w a b = if b == 0 then 2 ^ bits w - 1 else a / b

-- `rem`, which has the dividend's sign, and by 0 is the dividend
abbrev pub remainder_of : Width → ℕ → ℕ → ℕ
remainder_of w a b = if b == 0 then a else cast_unsigned w (int_rem (cast_signed w a) (cast_signed w b))

-- `remu`
abbrev pub remainder_unsigned : Width → ℕ → ℕ → ℕ
remainder_unsigned w a b = if b == 0 then a else a % b

-- `mulh` and its kin: the upper half of a product of 128 bits
abbrev pub upper_half : ℤ → ℕ
upper_half z = word_of (int_shr z 64)

-- the forms with `w`: an operation on the low 32 bits, whose 32 bits are extended by their sign
abbrev pub low_half_value : (Width → ℕ → ℕ → ℕ) → ℕ → ℕ → ℕ
low_half_value operation a b = sign_extension w32 (operation w32 (a % 2 ^ 32) (b % 2 ^ 32))

-- ---- one equation a mnemonic

-- what the mnemonics with three registers give, from the values of rs1 and rs2
abbrev pub three_value : Three → ℕ → ℕ → ℕ
three_value Three.Add a b = sum_of w64 a b
three_value Three.Sub a b = difference_of w64 a b
three_value Three.Sll a b = left_shift w64 a b
three_value Three.Slt a b = from_bool (int_lt (signed_value a) (signed_value b))
three_value Three.Sltu a b = from_bool (nat_lt a b)
three_value Three.Xor a b = bit_xor a b
three_value Three.Srl a b = right_shift w64 a b
three_value Three.Sra a b = signed_right_shift w64 a b
three_value Three.Or a b = bit_or a b
three_value Three.And a b = bit_and a b
three_value Three.Mul a b = product_of w64 a b
three_value Three.Mulh a b = upper_half (signed_value a *ℤ signed_value b)
three_value Three.Mulhsu a b = upper_half (signed_value a *ℤ pos b)
three_value Three.Mulhu a b = upper_half (pos a *ℤ pos b)
three_value Three.Div a b = quotient_of w64 a b
three_value Three.Divu a b = quotient_unsigned w64 a b
three_value Three.Rem a b = remainder_of w64 a b
three_value Three.Remu a b = remainder_unsigned w64 a b
three_value Three.Addw a b = low_half_value sum_of a b
three_value Three.Subw a b = low_half_value difference_of a b
three_value Three.Sllw a b = low_half_value left_shift a b
three_value Three.Srlw a b = low_half_value right_shift a b
three_value Three.Sraw a b = low_half_value signed_right_shift a b
three_value Three.Mulw a b = low_half_value product_of a b
three_value Three.Divw a b = low_half_value quotient_of a b
three_value Three.Divuw a b = low_half_value quotient_unsigned a b
three_value Three.Remw a b = low_half_value remainder_of a b
three_value Three.Remuw a b = low_half_value remainder_unsigned a b

-- what the mnemonics with an immediate give: the operation of three registers, with the immediate extended by its sign
abbrev pub immediate_value : Imm → ℕ → ℤ → ℕ
immediate_value Imm.Addi a imm = three_value Three.Add a (word_of imm)
immediate_value Imm.Slti a imm = three_value Three.Slt a (word_of imm)
immediate_value Imm.Sltiu a imm = three_value Three.Sltu a (word_of imm)
immediate_value Imm.Xori a imm = three_value Three.Xor a (word_of imm)
immediate_value Imm.Ori a imm = three_value Three.Or a (word_of imm)
immediate_value Imm.Andi a imm = three_value Three.And a (word_of imm)
immediate_value Imm.Slli a imm = three_value Three.Sll a (word_of imm)
immediate_value Imm.Srli a imm = three_value Three.Srl a (word_of imm)
immediate_value Imm.Srai a imm = three_value Three.Sra a (word_of imm)
immediate_value Imm.Addiw a imm = three_value Three.Addw a (word_of imm)
immediate_value Imm.Slliw a imm = three_value Three.Sllw a (word_of imm)
immediate_value Imm.Srliw a imm = three_value Three.Srlw a (word_of imm)
immediate_value Imm.Sraiw a imm = three_value Three.Sraw a (word_of imm)

-- whether a branch is taken, from the values of rs1 and rs2
abbrev pub is_taken : Branch → ℕ → ℕ → Bool
is_taken Branch.Beq a b = a == b
is_taken Branch.Bne a b = not (a == b)
is_taken Branch.Blt a b = int_lt (signed_value a) (signed_value b)
is_taken Branch.Bge a b = not (int_lt (signed_value a) (signed_value b))
is_taken Branch.Bltu a b = nat_lt a b
is_taken Branch.Bgeu a b = not (nat_lt a b)

-- the value of `lui`, which `auipc` adds to its own address: the immediate in bits 12 to 31, extended from bit 31
abbrev pub upper_value : ℕ → ℕ
upper_value imm = sign_extension w32 (imm * 4096)

-- how many bits a load reads
abbrev pub load_width : Load → Width
load_width Load.Lb = w8
load_width Load.Lh = w16
load_width Load.Lw = w32
load_width Load.Ld = w64
load_width Load.Lbu = w8
load_width Load.Lhu = w16
load_width Load.Lwu = w32

-- what a load gives, from the number of that many bits that stands in memory
abbrev pub load_value : Load → ℕ → ℕ
load_value Load.Lb a = sign_extension w8 a
load_value Load.Lh a = sign_extension w16 a
load_value Load.Lw a = sign_extension w32 a
load_value Load.Ld a = a
load_value Load.Lbu a = a
load_value Load.Lhu a = a
load_value Load.Lwu a = a

-- how many of the register's low bits a store writes
abbrev pub store_width : Store → Width
store_width Store.Sb = w8
store_width Store.Sh = w16
store_width Store.Sw = w32
store_width Store.Sd = w64
