use Rattle.std.proofs.Common.{◌≡◌, ◌++◌, take}
use Rattle.rv_emit.specs.Moving.{settle_lines}
use Rattle.rv_emit.proofs.moving.push_settle.Given as goal

abbrev pub invariant-loop-debt : goal.invariant-loop-debt
invariant-loop-debt l = l.lines.items ≡ l.fn.lines.items ++ settle_lines (take l.debt-index l.owed)
