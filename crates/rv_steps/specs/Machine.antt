-- The machine that runs a list of lines: its configurations, and one step from each. A step is what the chapter "RV64I Base Integer
-- Instruction Set" of the RISC-V unprivileged ISA says of the line at the pc. The addresses of lines, the stops and jumps to addresses that
-- are no multiple of 4 are this project's own.
use Rattle.std.specs.Prelude.{◌≡◌, ℕ, zero, suc, ◌<◌, ◌≤◌, ◌^◌, ◌+◌, ◌-◌, ◌*◌, ◌/◌, ◌%◌, Bool, ◌&&◌, List, ◌++◌, length, take, drop, ℤ, Option, Some, None, if◌then◌else◌, ◌==◌, nat_le, ⊤, slice_get, slice_index, slice_set, slice_range, All}
use Rattle.std.specs.Option.{option_map_or}
use Rattle.std.specs.Int.{Width, w64, byte_len, from_le_bytes, to_le_bytes}
use Rattle.rv_line.specs.declared.line.Line.{Line}
use Rattle.rv_steps.specs.Effects.{word_of, sum_of, three_value, immediate_value, is_taken, upper_value, load_width, load_value, store_width}

-- ---- registers and memory

-- the value of a register: register 0 is always 0
unfoldable pub register_at : List ℕ → ℕ → ℕ
register_at registers zero = 0
register_at registers (suc r) = slice_index registers (suc r)

-- the registers after a write to one: a write to register 0 is dropped
unfoldable pub with_register : List ℕ → ℕ → ℕ → List ℕ
with_register registers zero value = registers
with_register registers (suc r) value = slice_set registers (suc r) value

-- the little-endian number in the bytes from a place on
unfoldable pub value_at : Width → List ℕ → ℕ → ℕ
value_at w block place = from_le_bytes w (slice_range block place (place + byte_len w))

-- the bytes after the low bits of a number were written from a place on, little-endian
unfoldable pub with_value : Width → List ℕ → ℕ → ℕ → List ℕ
with_value w block place value = (take place block ++ to_le_bytes w value) ++ drop (place + byte_len w) block

-- ---- configurations

-- 32 registers, the address of the line that comes next, and the bytes of the block, whose own address does not change
pub record Config : Type 0 where
  pub registers : List ℕ
  pub pc : ℕ
  pub block : List ℕ

-- 32 registers that hold words, and a block of bytes
pub record IsValid (c : Config) : Type 0 where
  pub count : length c.registers ≡ 32
  pub words : All (λ value. value < 2 ^ 64) c.registers
  pub bytes : All (λ byte. byte < 256) c.block

-- the address of line k, counted from 0; the end address is that of the line after the last
abbrev pub address_of : ℕ → ℕ
address_of k = 65536 + 4 * k

-- the number of the line that an address lies in
unfoldable pub number_at : ℕ → ℕ
number_at pc = (pc - 65536) / 4

-- the line at an address, if that is the address of a line
unfoldable pub line_at : List Line → ℕ → Option Line
line_at lines pc = if address_of (number_at pc) == pc then slice_get lines (number_at pc) else None

-- the pc is the address of line k, which is this one
pub record IsAt (lines : List Line) (k : ℕ) (line : Line) (c : Config) : Type 0 where
  pub at : c.pc ≡ address_of k
  pub there : slice_get lines k ≡ Some line

-- ---- loads and stores

-- what a line touches: the address of the first byte, and how many bytes
pub data Access : Type 0 where
  NoAccess : Access
  Loads : (address size : ℕ) → Access
  Stores : (address size : ℕ) → Access

-- the address of a load, a store and `jalr`: a register plus an immediate, wrapped at 2 ^ 64
abbrev pub address : List ℕ → ℕ → ℤ → ℕ
address registers r imm = sum_of w64 (register_at registers r) (word_of imm)

-- with the values of the registers
abbrev pub access_of : Line → List ℕ → Access
access_of (Line.Load code to imm pointer) registers = Loads (address registers pointer imm) (byte_len (load_width code))
access_of (Line.Store code from imm pointer) registers = Stores (address registers pointer imm) (byte_len (store_width code))
access_of line registers = NoAccess

-- what the next step touches
abbrev pub access_at : List Line → Config → Access
access_at lines c = option_map_or (λ line. access_of line c.registers) (line_at lines c.pc) NoAccess

-- an access to `size` bytes is aligned, and lies in the block of `extent` bytes at `base`: as a test, and as facts
unfoldable pub is_allowed : ℕ → ℕ → ℕ → ℕ → Bool
is_allowed base extent at size = (at % size == 0) && (nat_le base at && nat_le (at + size) (base + extent))

pub record IsAllowed (base extent at size : ℕ) : Type 0 where
  pub aligned : at % size ≡ 0
  pub above : base ≤ at
  pub below : at + size ≤ base + extent

abbrev pub AccessAllowed : ℕ → ℕ → Access → Type 0
AccessAllowed base extent NoAccess = ⊤
AccessAllowed base extent (Loads at size) = IsAllowed base extent at size
AccessAllowed base extent (Stores at size) = IsAllowed base extent at size

-- ---- one step

-- why no step is made before the end: the pc is the address of no line, the line is `ecall` or `ebreak`, or its access is not allowed
pub data Stop : Type 0 where
  OffText : (at : ℕ) → Stop
  Trap : (line : ℕ) → Stop
  BadAccess : (line at : ℕ) → Stop

-- what comes next: another configuration, the end, or a stop before it
pub data Next : Type 0 where
  Goes : Config → Next
  AtEnd : Next
  Halts : Stop → Next

-- on to the line after this one, with a value written to a register
abbrev pub with_result : Config → ℕ → ℕ → Config
with_result c r value = record { registers = with_register c.registers r value; pc = c.pc + 4; block = c.block }

-- on to the line at another address, with the address of the line after this one written to a register
abbrev pub after_jump : Config → ℕ → ℕ → Config
after_jump c r to = record { registers = with_register c.registers r (c.pc + 4); pc = to; block = c.block }

-- what a line that is no trap does, over a block at `base`, where its access is allowed
abbrev pub effect : ℕ → Line → Config → Config
effect base (Line.Three code to left right) c = with_result c to (three_value code (register_at c.registers left) (register_at c.registers right))
effect base (Line.Imm code to from imm) c = with_result c to (immediate_value code (register_at c.registers from) imm)
effect base (Line.Load code to imm pointer) c =
    with_result c to (load_value code (value_at (load_width code) c.block (address c.registers pointer imm - base)))
effect base (Line.Store code from imm pointer) c =
    record c { pc = c.pc + 4; block = with_value (store_width code) c.block (address c.registers pointer imm - base) (register_at c.registers from) }
effect base (Line.Branch code left right target) c =
    record c { pc = if is_taken code (register_at c.registers left) (register_at c.registers right) then address_of target else c.pc + 4 }
effect base (Line.Lui to imm) c = with_result c to (upper_value imm)
effect base (Line.Auipc to imm) c = with_result c to (sum_of w64 c.pc (upper_value imm))
effect base (Line.Jal to target) c = after_jump c to (address_of target)
effect base (Line.Jalr to imm pointer) c = after_jump c to (address c.registers pointer imm / 2 * 2)
effect base Line.Fence c = record c { pc = c.pc + 4 }
effect base Line.Ecall c = c
effect base Line.Ebreak c = c

-- on to d, where the access of line k is allowed
abbrev pub guarded_step : ℕ → ℕ → Access → Config → Config → Next
guarded_step base k NoAccess c d = Goes d
guarded_step base k (Loads at size) c d = if is_allowed base (length c.block) at size then Goes d else Halts (BadAccess k at)
guarded_step base k (Stores at size) c d = if is_allowed base (length c.block) at size then Goes d else Halts (BadAccess k at)

-- what comes of the line at the pc, which is line k, or of none
abbrev pub line_step : ℕ → ℕ → Option Line → Config → Next
line_step base k None c = Halts (OffText c.pc)
line_step base k (Some Line.Ecall) c = Halts (Trap k)
line_step base k (Some Line.Ebreak) c = Halts (Trap k)
line_step base k (Some line) c = guarded_step base k (access_of line c.registers) c (effect base line c)

-- one step, over a block at `base`
unfoldable pub next_step : List Line → ℕ → Config → Next
next_step lines base c =
    if c.pc == address_of (length lines) then AtEnd else line_step base (number_at c.pc) (line_at lines c.pc) c
