-- What a program does for its caller: from any block that is as long as the header says, it ends within the printed steps, with every
-- output holding what is demanded of the inputs, and touches nothing else. This project's own.
use Rattle.std.specs.Prelude.{◌≡◌, ℕ, ◌+◌, ◌*◌, ◌%◌, ◌^◌, ◌≤◌, Bool, true, false, not, ◌&&◌, ◌||◌, ◌==◌, nat_le, All, IsTrue, List, length, map, filter, ℤ}
use Rattle.std.specs.List.{list_any, range_with_len}
use Rattle.std.specs.Int.{w64}
use Rattle.shapes_core.specs.Shape.{total}
use Rattle.shapes_core.specs.declared.area.Area.{Area}
use Rattle.shapes_core.specs.declared.area.AreaKind.{AreaKind}
use Rattle.shapes_core.specs.declared.area.AreaKind.TheVariants.{In, Out, Scan}
use Rattle.rv_steps.specs.Accesses.{accesses_of}
use Rattle.rv_steps.specs.Effects.{signed_value}
use Rattle.rv_steps.specs.Machine.{Access, Config, IsValid, Loads, NoAccess, Stores, address_of, register_at, value_at}
use Rattle.rv_line.specs.Parts.{block_words}
use Rattle.rv_steps.specs.Stops.{Ends}
use Rattle.rv_line.specs.declared.assembly.Header.{Header}
use Rattle.rv_line.specs.declared.line.Line.{Line}

-- the values of so many words of the block from a word on, as signed numbers
abbrev pub values_at : List ℕ → ℕ → ℕ → List ℤ
values_at block word count = map (λ k. signed_value (value_at w64 block (8 * (word + k)))) (range_with_len 0 count)

-- the values that an area holds, in row-major order, where so many spill words stand before the areas
abbrev pub area_values : ℕ → List ℕ → Area → List ℤ
area_values spill block area = values_at block (spill + area.start) (total area.shape)

abbrev pub is_input : AreaKind → Bool
is_input (In name) = true
is_input (Out name) = false
is_input (Scan number) = false

abbrev pub is_output : AreaKind → Bool
is_output (In name) = false
is_output (Out name) = true
is_output (Scan number) = false

-- what the inputs hold, and what the outputs hold, each in the order of declaration
abbrev pub input_values : Header → List Area → List ℕ → List (List ℤ)
input_values header areas block = map (area_values header.spill block) (filter (λ area. is_input area.kind) areas)

abbrev pub output_values : Header → List Area → List ℕ → List (List ℤ)
output_values header areas block = map (area_values header.spill block) (filter (λ area. is_output area.kind) areas)

-- a configuration from which a caller may start the program: the block is at an address that is a multiple of 8, and as long as the header
-- says, x10 holds its address and x1 the address to return to, which is the end. All else may be anything.
pub record IsStart (header : Header) (areas : List Area) (lines : List Line) (base : ℕ) (c : Config) : Type 0 where
  pub valid : IsValid c
  pub aligned : base % 8 ≡ 0
  pub room : base + length c.block ≤ 2 ^ 64
  pub sized : length c.block ≡ 8 * block_words header areas
  pub first : c.pc ≡ address_of 0
  pub block_at : register_at c.registers 10 ≡ base
  pub return_to : register_at c.registers 1 ≡ address_of (length lines)

-- bytes that lie in the words from one of the block on
abbrev pub is_within : ℕ → ℕ → ℕ → ℕ → ℕ → Bool
is_within base word count at size = nat_le (base + 8 * word) at && nat_le (at + size) (base + 8 * (word + count))

abbrev pub is_in_area : ℕ → ℕ → ℕ → ℕ → Area → Bool
is_in_area base spill at size area = is_within base (spill + area.start) (total area.shape) at size

-- a load is aligned and lies in the spill words or in an area
abbrev pub is_fine_load : Header → List Area → ℕ → ℕ → ℕ → Bool
is_fine_load header areas base at size =
    at % size == 0 && (is_within base 0 header.spill at size || list_any (is_in_area base header.spill at size) areas)

-- a store too, and in no area of an input
abbrev pub is_fine_store : Header → List Area → ℕ → ℕ → ℕ → Bool
is_fine_store header areas base at size =
    at % size == 0
    && (is_within base 0 header.spill at size || list_any (λ area. is_in_area base header.spill at size area && not (is_input area.kind)) areas)

abbrev pub is_fine_access : Header → List Area → ℕ → Access → Bool
is_fine_access header areas base NoAccess = true
is_fine_access header areas base (Loads at size) = is_fine_load header areas base at size
is_fine_access header areas base (Stores at size) = is_fine_store header areas base at size

-- the registers that a program gives back as it found them: those of a callee in the calling convention, x2 to x4, x8, x9 and x18 to x27, and
-- besides the address to return to, x1, and that of the block, x10
abbrev pub is_kept : ℕ → Bool
is_kept r = (nat_le 1 r && nat_le r 4) || (nat_le 8 r && nat_le r 10) || (nat_le 18 r && nat_le r 27)

-- A run from a start. `demand` says what the outputs must hold where the inputs held these values.
pub record Serves (header : Header) (areas : List Area) (lines : List Line) (demand : List (List ℤ) → List (List ℤ)) (base : ℕ) (c : Config) : Type 0 where
  pub steps : ℕ
  pub last : Config
  pub ends : Ends lines base steps c last
  pub within : steps ≤ header.steps
  pub outputs : output_values header areas last.block ≡ demand (input_values header areas c.block)
  pub inside : All (λ access. IsTrue (is_fine_access header areas base access)) (accesses_of lines base steps c)
  pub kept : (r : ℕ) → IsTrue (is_kept r) → register_at last.registers r ≡ register_at c.registers r
