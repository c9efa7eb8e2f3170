use Rattle.std.proofs.Common.{◌≡◌, ◌++◌, replicate}
use Rattle.psi_rules.proofs.tables.push_each.Given as goal

abbrev pub invariant-loop-place : goal.invariant-loop-place
invariant-loop-place l = l.numbers.items ≡ l.fn.numbers.items ++ replicate l._place l.number
