-- Nests that need many registers together. This project's own.
use Rattle.std.specs.Prelude.{ℕ, zero, suc, pos}
use Rattle.loop_ir.specs.Steps.{Steps, End, Then, Place, Set, Walk, Write}

-- so many registers are set, and then these steps are done
abbrev pub settings : ℕ → Steps → Steps
settings zero rest = rest
settings (suc count) rest = Then (Set count (pos 7)) (settings count rest)

-- so many registers are written, each to the next word
abbrev pub writings : ℕ → Steps
writings zero = End
writings (suc count) = Then (Write 0 0 count) (Then (Walk 0 (pos 1)) (writings count))

-- registers are set, and then written from word 0 on
abbrev pub set_and_written : ℕ → Steps
set_and_written count = settings count (Then (Place 0 (pos 0)) (writings count))
