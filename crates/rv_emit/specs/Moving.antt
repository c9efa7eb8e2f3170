-- Lines between homes and registers: those that fetch a home, put one, and repay what it owes. This project's own.
-- x28 to x31 are free within a step: x28 and x29 take what is read, x30 what is to be put and addresses, x31 the addresses of far
-- spill words and constants. x10 holds the address of the block, which the spill words begin.
use Rattle.std.specs.Prelude.{ℕ, ◌*◌, Bool, ℤ, pos, List, [], ◌∷◌, ◌++◌, nat_lt, if◌then◌else◌}
use Rattle.std.specs.Ordering.{int_eq}
use Rattle.std.specs.List.{flat_map}
use Rattle.register_map.specs.declared.home.Home.{Home}
use Rattle.register_map.specs.declared.home.Home.TheVariants as home
use Rattle.rv_line.specs.declared.line.Line.{Line}
use Rattle.rv_line.specs.declared.line.Line.TheVariants.{Three as ThreeLine, Imm as ImmLine, Load as LoadLine, Store as StoreLine}
use Rattle.rv_line.specs.declared.line.Three.TheVariants.{Add}
use Rattle.rv_line.specs.declared.line.Imm.TheVariants.{Addi}
use Rattle.rv_line.specs.declared.line.Load.TheVariants.{Ld}
use Rattle.rv_line.specs.declared.line.Store.TheVariants.{Sd}
use Rattle.rv_steps.specs.Constants.{constant_lines, is_signed_below}
use Rattle.rv_emit.specs.Walks.{Owed, bytes}

-- a spill word whose offset from the block is an immediate
abbrev pub is_near : ℕ → Bool
is_near word = nat_lt word 256

-- lines that bring a spill word into reach, the register from which it is reached then, and the offset there
abbrev pub reach_lines : ℕ → List Line
reach_lines word = if is_near word then [] else constant_lines 31 (pos (8 * word)) ++ ThreeLine Add 31 31 10 ∷ []

abbrev pub reach_register : ℕ → ℕ
reach_register word = if is_near word then 10 else 31

abbrev pub reach_offset : ℕ → ℤ
reach_offset word = if is_near word then pos (8 * word) else pos 0

-- the register of a home: its own, or this one for a spill word
abbrev pub register_of : ℕ → Home → ℕ
register_of scratch (home.Register number) = number
register_of scratch (home.Spill word) = scratch

-- lines after which that register holds what the home does
abbrev pub fetch_lines : ℕ → Home → List Line
fetch_lines scratch (home.Register number) = []
fetch_lines scratch (home.Spill word) = reach_lines word ++ LoadLine Ld scratch (reach_offset word) (reach_register word) ∷ []

-- lines after which the home holds what its own register does, or x30 for a spill word
abbrev pub put_lines : Home → List Line
put_lines (home.Register number) = []
put_lines (home.Spill word) = reach_lines word ++ StoreLine Sd 30 (reach_offset word) (reach_register word) ∷ []

-- the register adds so many bytes
abbrev pub advance_lines : ℕ → ℤ → List Line
advance_lines register count =
    if is_signed_below 2048 count then ImmLine Addi register register count ∷ []
    else constant_lines 31 count ++ ThreeLine Add register register 31 ∷ []

-- the home adds the words that it owes
abbrev pub repay_lines : Home → ℤ → List Line
repay_lines home words =
    if int_eq words (pos 0) then []
    else fetch_lines 30 home ++ (advance_lines (register_of 30 home) (bytes words) ++ put_lines home)

-- so does each
abbrev pub settle_lines : Owed → List Line
settle_lines owed = flat_map (λ entry. repay_lines entry.0 entry.1) owed
