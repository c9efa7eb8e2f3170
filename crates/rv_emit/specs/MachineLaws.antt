-- The laws of the machine on which those of lines stand, gathered from the clauses of the functions of rv_steps. This project's own.
use Rattle.std.specs.Prelude.{◌≡◌, ◌≢◌, ◌⊎◌, ℕ, ◌+◌, ◌*◌, ◌%◌, ◌^◌, ◌<◌, ◌≤◌, true, false, ℤ, pos, ◌+ℤ◌, ◌*ℤ◌, All}
use Rattle.std.specs.Prelude.{List, [], ◌∷◌, ◌++◌, length, Some, slice_get, slice_set, FitsSigned, IsTrue}
use Rattle.std.specs.Int.{Width, byte_len, w64}
use Rattle.std.specs.List.{list_all}
use Rattle.rv_line.specs.Fits.{IsImmediate}
use Rattle.rv_line.specs.declared.line.Branch.{Branch}
use Rattle.rv_line.specs.declared.line.Imm.{Imm}
use Rattle.rv_line.specs.declared.line.Line.{Line}
use Rattle.rv_line.specs.declared.line.Load.{Load}
use Rattle.rv_line.specs.declared.line.Store.{Store}
use Rattle.rv_line.specs.declared.line.Three.{Three}
use Rattle.rv_steps.specs.Accesses.{Leads, touched}
use Rattle.rv_steps.specs.Constants.{constant_lines}
use Rattle.rv_steps.specs.Effects.{is_taken, signed_value, word_of}
use Rattle.rv_steps.specs.Good.{is_kept, values_at}
use Rattle.rv_steps.specs.Kinds.{is_free}
use Rattle.rv_steps.specs.Machine.{Access, Config, Goes, IsAt, access_of, address, address_of, line_step, next_step, register_at}
use Rattle.rv_steps.specs.Machine.{value_at, with_register, with_result, with_value}
use Rattle.rv_steps.specs.Pieces.{StandsAt}
use Rattle.rv_steps.specs.Registers.{AgreeBut}
use Rattle.rv_steps.specs.Stops.{Reaches}
use Rattle.rv_steps.specs.Wrapped.{wrapped}

pub record MachineLaws : Type 0 where
  -- chains of steps
  pub none : (lines : List Line) (base : ℕ) (c : Config) → Leads lines base 0 c c []
  pub line : (lines : List Line) (base k n : ℕ) (line : Line) (c d e : Config) (rest : List Access) → IsAt lines k line c
      → next_step lines base c ≡ Goes d → Leads lines base n d e rest
      → Leads lines base (n + 1) c e (touched (access_of line c.registers) ++ rest)
  pub steps : (lines : List Line) (base m n : ℕ) (c d e : Config) (one two : List Access) → Leads lines base m c d one
      → Leads lines base n d e two → Leads lines base (m + n) c e (one ++ two)
  pub kept : (lines : List Line) (base n : ℕ) (c d : Config) (r : ℕ) → IsTrue (list_all is_free lines)
      → Reaches lines base n c d → IsTrue (is_kept r) → register_at d.registers r ≡ register_at c.registers r
  -- pieces of lines
  pub there : (lines : List Line) (k : ℕ) (piece : List Line) (i : ℕ) → StandsAt lines k piece
      → i < length piece → slice_get lines (k + i) ≡ slice_get piece i
  pub front : (lines : List Line) (k : ℕ) (front back : List Line) → StandsAt lines k (front ++ back) → StandsAt lines k front
  pub back : (lines : List Line) (k : ℕ) (front back : List Line) → StandsAt lines k (front ++ back)
      → StandsAt lines (k + length front) back
  pub stands : (front piece back : List Line) → StandsAt (front ++ (piece ++ back)) (length front) piece
  -- one step
  pub goes : (lines : List Line) (base k : ℕ) (c : Config) (line : Line) → IsAt lines k line c
      → next_step lines base c ≡ line_step base k (Some line) c
  pub taken : (lines : List Line) (base k : ℕ) (c : Config) (code : Branch) (left right target : ℕ)
      → IsAt lines k (Line.Branch code left right target) c
      → is_taken code (register_at c.registers left) (register_at c.registers right) ≡ true
      → next_step lines base c ≡ Goes (record c { pc = address_of target })
  pub not_taken : (lines : List Line) (base k : ℕ) (c : Config) (code : Branch) (left right target : ℕ)
      → IsAt lines k (Line.Branch code left right target) c
      → is_taken code (register_at c.registers left) (register_at c.registers right) ≡ false
      → next_step lines base c ≡ Goes (record c { pc = c.pc + 4 })
  pub addi : (lines : List Line) (base k to : ℕ) (c : Config) (from : ℕ) (z imm : ℤ)
      → IsAt lines k (Line.Imm Imm.Addi to from imm) c → register_at c.registers from ≡ wrapped z → IsImmediate imm
      → next_step lines base c ≡ Goes (with_result c to (wrapped (z +ℤ imm)))
  pub add : (lines : List Line) (base k to : ℕ) (c : Config) (left right : ℕ) (x y : ℤ)
      → IsAt lines k (Line.Three Three.Add to left right) c → register_at c.registers left ≡ wrapped x
      → register_at c.registers right ≡ wrapped y
      → next_step lines base c ≡ Goes (with_result c to (wrapped (x +ℤ y)))
  pub shift : (lines : List Line) (base k to : ℕ) (c : Config) (from amount : ℕ) (x : ℤ)
      → IsAt lines k (Line.Imm Imm.Slli to from (pos amount)) c → amount < 64 → register_at c.registers from ≡ wrapped x
      → next_step lines base c ≡ Goes (with_result c to (wrapped (pos (2 ^ amount) *ℤ x)))
  pub load : (lines : List Line) (base k : ℕ) (c : Config) (to : ℕ) (imm : ℤ) (pointer place : ℕ)
      → IsAt lines k (Line.Load Load.Ld to imm pointer) c → base % 8 ≡ 0
      → address c.registers pointer imm ≡ base + 8 * place → 8 * place + 8 ≤ length c.block
      → next_step lines base c ≡ Goes (with_result c to (value_at w64 c.block (8 * place)))
  pub store : (lines : List Line) (base k : ℕ) (c : Config) (from : ℕ) (imm : ℤ) (pointer place : ℕ)
      → IsAt lines k (Line.Store Store.Sd from imm pointer) c → base % 8 ≡ 0
      → address c.registers pointer imm ≡ base + 8 * place → 8 * place + 8 ≤ length c.block
      → next_step lines base c ≡ Goes (record c {
        pc = c.pc + 4;
        block = with_value w64 c.block (8 * place) (register_at c.registers from);
      })
  -- the lines of a constant
  pub constant : (lines : List Line) (base k to : ℕ) (value : ℤ) (c : Config)
      → StandsAt lines k (constant_lines to value) → 0 < to → to < length c.registers → FitsSigned w64 value
      → c.pc ≡ address_of k
      → Leads lines base (length (constant_lines to value)) c (record {
        registers = with_register c.registers to (word_of value);
        pc = address_of (k + length (constant_lines to value));
        block = c.block;
      }) []
  -- registers
  pub zero : (registers : List ℕ) → register_at registers 0 ≡ 0
  pub set : (registers : List ℕ) (r value : ℕ) → 0 < r → r < length registers → register_at (with_register registers r value) r ≡ value
  pub unset : (registers : List ℕ) (r value other : ℕ) → other ≢ r
      → register_at (with_register registers r value) other ≡ register_at registers other
  pub count : (registers : List ℕ) (r value : ℕ) → length (with_register registers r value) ≡ length registers
  pub agree : (changed registers : List ℕ) → AgreeBut changed registers registers
  pub agree_one : (registers : List ℕ) (r value : ℕ) → AgreeBut (r ∷ []) registers (with_register registers r value)
  pub agree_again : (changed before between after : List ℕ) → AgreeBut changed before between → AgreeBut changed between after
      → AgreeBut changed before after
  -- the block and its words
  pub word : (block : List ℕ) (place value : ℕ) → place + 8 ≤ length block → value < 2 ^ 64
      → value_at w64 (with_value w64 block place value) place ≡ value
  pub other_word : (block : List ℕ) (i j value : ℕ) → 8 * i + 8 ≤ length block → i ≢ j
      → value_at w64 (with_value w64 block (8 * i) value) (8 * j) ≡ value_at w64 block (8 * j)
  pub small_word : (block : List ℕ) (place : ℕ) → All (λ b. b < 256) block → value_at w64 block place < 2 ^ 64
  pub sized : (w : Width) (block : List ℕ) (place value : ℕ) → place + byte_len w ≤ length block
      → length (with_value w block place value) ≡ length block
  pub bytes : (w : Width) (block : List ℕ) (place value : ℕ) → All (λ b. b < 256) block
      → All (λ b. b < 256) (with_value w block place value)
  pub value : (block : List ℕ) (word count i : ℕ) → i < count → slice_get (values_at block word count) i
      ≡ Some (signed_value (value_at w64 block (8 * (word + i))))
  pub inside : (block : List ℕ) (word count i value : ℕ) → i < count → 8 * (word + i) + 8 ≤ length block
      → value < 2 ^ 64 → values_at (with_value w64 block (8 * (word + i)) value) word count
      ≡ slice_set (values_at block word count) i (signed_value value)
  pub outside : (block : List ℕ) (word count place value : ℕ) → 8 * place + 8 ≤ length block
      → (place < word) ⊎ (word + count ≤ place)
      → values_at (with_value w64 block (8 * place) value) word count ≡ values_at block word count
  -- numbers that wrap at 64 bits, and addresses
  pub natural : (n : ℕ) → n < 2 ^ 64 → wrapped (pos n) ≡ n
  pub signed : (z : ℤ) → FitsSigned w64 z → word_of z ≡ wrapped z
  pub below : (z : ℤ) → wrapped z < 2 ^ 64
  pub sum : (x y : ℤ) → (wrapped x + wrapped y) % 2 ^ 64 ≡ wrapped (x +ℤ y)
  pub reach : (registers : List ℕ) (r : ℕ) (z imm : ℤ) → register_at registers r ≡ wrapped z → IsImmediate imm
      → address registers r imm ≡ wrapped (z +ℤ imm)
  pub place : (registers : List ℕ) (r : ℕ) (z imm : ℤ) (base place : ℕ) → register_at registers r ≡ wrapped z
      → IsImmediate imm → z +ℤ imm ≡ pos (base + place) → base + place < 2 ^ 64
      → address registers r imm ≡ base + place
