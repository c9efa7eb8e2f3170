use Rattle.std.proofs.Common.{arith}
use Rattle.std.proofs.lemmas.Int.{to_z-of_z}
use Rattle.rv_emit.proofs.ShiftLemmas.{last_level, no_level, one_level}
use Rattle.rv_emit.proofs.constants.+shifted.Goals as goal

pub returns-then-levels-eq0-clause-lines : goal.returns-then-levels-eq0-clause-lines
returns-then-levels-eq0-clause-lines t c = grind (arith, to_z-of_z, last_level)

pub returns-then-is_within-clause-lines : goal.returns-then-is_within-clause-lines
returns-then-is_within-clause-lines t c = grind (arith, to_z-of_z, no_level)

pub returns-clause-lines : goal.returns-clause-lines
returns-clause-lines t c = grind (arith, to_z-of_z, one_level)
