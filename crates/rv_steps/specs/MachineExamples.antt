-- The configuration from which worked examples start, and what they come to. This project's own.
use Rattle.std.specs.Prelude.{ℕ, ◌^◌, List, [], ◌∷◌, length, ℤ, pos, replicate, slice_set}
use Rattle.rv_line.specs.declared.line.Line.{Line}
use Rattle.rv_line.specs.declared.line.Load.{Load}
use Rattle.rv_line.specs.declared.line.Store.{Store}
use Rattle.rv_steps.specs.Accesses.{accesses_of}
use Rattle.rv_steps.specs.Machine.{Access, Config, address_of, register_at, with_register, value_at, with_value, number_at, line_at, is_allowed, next_step}
use Rattle.rv_steps.specs.Stops.{End, Outcome, run}

-- at the first line, with the end address in register 1, the block's address in register 10 and 0 elsewhere, over a block of 8 bytes
abbrev pub start_config : List Line → ℕ → Config
start_config lines base = record {
  registers = slice_set (slice_set (replicate 32 0) 1 (address_of (length lines))) 10 base;
  pc = 65536;
  block = replicate 8 0;
}

-- the outcome of the lines over a block at `base`, with a budget
unfoldable pub outcome_of : List Line → ℕ → ℕ → Outcome
unfolding register_at with_register value_at with_value number_at line_at is_allowed next_step run
outcome_of lines base budget = run lines base budget (start_config lines base)

-- how they end
abbrev pub end_of : List Line → ℕ → ℕ → End
end_of lines base budget = (outcome_of lines base budget).end

-- what a register holds, and the block, after at most 99 steps over a block at 2 ^ 32
abbrev pub register_after : List Line → ℕ → ℕ
register_after lines r = register_at (outcome_of lines (2 ^ 32) 99).last.registers r

abbrev pub bytes_after : List Line → List ℕ
bytes_after lines = (outcome_of lines (2 ^ 32) 99).last.block

-- what a load from an offset gives, where the block holds 2 ^ 64 - 2 ^ 32 + 0x8f0e1000: the bytes 0, 16, 14, 143 and four times 255
abbrev pub loaded_from : Load → ℤ → ℕ
loaded_from code imm = register_after (Line.Lui 5 0x8f0e1 ∷ Line.Store Store.Sd 5 (pos 0) 10 ∷ Line.Load code 6 imm 10 ∷ []) 6

-- the loads and stores of the first steps over a block at 2 ^ 32
unfoldable pub accesses_after : List Line → ℕ → List Access
unfolding register_at with_register value_at with_value number_at line_at is_allowed next_step accesses_of
accesses_after lines steps = accesses_of lines (2 ^ 32) steps (start_config lines (2 ^ 32))
