-- Two loops: one that counts register 5 down to 0, and one with a choice in it. This project's own.
use Rattle.std.specs.Prelude.{◌≡◌, ℕ, ◌+◌, ◌*◌, ◌%◌, ◌^◌, List, [], ◌∷◌, length, map, ℤ, pos, neg_ℤ, if◌then◌else◌, int_lt, nat_lt}
use Rattle.std.specs.Int.{w64}
use Rattle.std.specs.List.{flat_map, range_with_len}
use Rattle.shapes_core.specs.declared.area.Area.{Area}
use Rattle.shapes_core.specs.declared.area.AreaKind.TheVariants.{In, Out}
use Rattle.rv_line.specs.declared.assembly.Header.{Header}
use Rattle.rv_line.specs.declared.line.Branch.TheVariants.{Bge, Bne}
use Rattle.rv_line.specs.declared.line.Imm.TheVariants.{Addi}
use Rattle.rv_line.specs.declared.line.Line.{Line}
use Rattle.rv_line.specs.declared.line.Line.TheVariants.{Branch as BranchLine, Imm as ImmLine, Jalr, Load as LoadLine, Store as StoreLine}
use Rattle.rv_line.specs.declared.line.Load.TheVariants.{Ld}
use Rattle.rv_line.specs.declared.line.Store.TheVariants.{Sd}
use Rattle.rv_steps.specs.Effects.{is_taken}
use Rattle.rv_steps.specs.Machine.{Access, Config, Loads, Stores, address_of, register_at, value_at}
use Rattle.rv_steps.specs.Written.{IsWritten}

-- ---- counting down

abbrev pub countdown : List Line
countdown = ImmLine Addi 5 5 (neg_ℤ (pos 1)) ∷ BranchLine Bne 5 0 0 ∷ []

-- so many of n turns were made, without a load or a store
pub record IsCounting (n turns : ℕ) (c : Config) (accesses : List Access) : Type 0 where
  pub at : c.pc ≡ address_of (if nat_lt turns n then 0 else 2)
  pub count : length c.registers ≡ 32
  pub left : register_at c.registers 5 + turns ≡ n
  pub none : accesses ≡ []

-- ---- the positive parts of n numbers

abbrev pub positive_part : ℤ → ℤ
positive_part z = if int_lt z (pos 0) then pos 0 else z

abbrev pub positive_parts : List (List ℤ) → List (List ℤ)
positive_parts rows = map (λ row. map positive_part row) rows

abbrev pub positive_areas : ℕ → List Area
positive_areas n =
    record { kind = In (65 ∷ []); shape = n ∷ []; start = 0 } ∷ record { kind = Out (67 ∷ []); shape = n ∷ []; start = n } ∷ []

-- three lines before the loop, at most seven a turn, and the return
abbrev pub positive_header : ℕ → Header
positive_header n = record { steps = 7 * n + 4; spill = 0 }

-- pointers to both areas and the end of the first, and a loop that skips line 5 where the word is not negative
abbrev pub positive_lines : ℕ → List Line
positive_lines n =
    ImmLine Addi 5 10 (pos 0) ∷ ImmLine Addi 6 10 (pos (8 * n)) ∷ ImmLine Addi 7 6 (pos 0) ∷ LoadLine Ld 11 (pos 0) 5
    ∷ BranchLine Bge 11 0 6 ∷ ImmLine Addi 11 0 (pos 0) ∷ StoreLine Sd 11 (pos 0) 6 ∷ ImmLine Addi 5 5 (pos 8)
    ∷ ImmLine Addi 6 6 (pos 8) ∷ BranchLine Bne 5 7 3 ∷ Jalr 0 (pos 0) 1 ∷ []

-- the word that is stored for word i of the block
abbrev pub positive_at : List ℕ → ℕ → ℕ
positive_at block i = if is_taken Bge (value_at w64 block (8 * i)) 0 then value_at w64 block (8 * i) else 0

-- the loads and stores of turn i, and of so many turns
abbrev pub positive_turn : ℕ → ℕ → ℕ → List Access
positive_turn n base i = Loads (base + 8 * i) 8 ∷ Stores (base + 8 * (n + i)) 8 ∷ []

abbrev pub positive_accesses : ℕ → ℕ → ℕ → List Access
positive_accesses n base turns = flat_map (positive_turn n base) (range_with_len 0 turns)

-- what the loop is given: how many numbers, the address of the block, and the block
pub record Numbers : Type 0 where
  pub count : ℕ
  pub base : ℕ
  pub block : List ℕ

-- so many turns were made: the pointers stand so many words within their areas, of which the second may end where addresses do, and so many
-- words are stored
pub record IsPositive (given : Numbers) (turns : ℕ) (c : Config) (accesses : List Access) : Type 0 where
  pub at : c.pc ≡ address_of (if nat_lt turns given.count then 3 else 10)
  pub count : length c.registers ≡ 32
  pub from : register_at c.registers 5 ≡ given.base + 8 * turns
  pub to : register_at c.registers 6 ≡ (given.base + 8 * (given.count + turns)) % 2 ^ 64
  pub end : register_at c.registers 7 ≡ given.base + 8 * given.count
  pub sized : length given.block ≡ 8 * (2 * given.count)
  pub stored : IsWritten given.count turns (positive_at given.block) given.block c.block
  pub touched : accesses ≡ positive_accesses given.count given.base turns
