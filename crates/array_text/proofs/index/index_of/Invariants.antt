use Rattle.std.proofs.Common.{take}
use Rattle.array_text.specs.Index.{IsIndex}
use Rattle.array_text.proofs.index.index_of.Given as goal

-- the names so far
abbrev pub invariant-loop-place : goal.invariant-loop-place
invariant-loop-place l = IsIndex (take l.place l.declared) l.index
