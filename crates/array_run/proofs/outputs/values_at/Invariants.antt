use Rattle.std.proofs.Common.{◌≡◌}
use Rattle.rv_steps.specs.Good.{values_at}
use Rattle.array_run.proofs.outputs.values_at.Given as goal

abbrev pub invariant-loop-k : goal.invariant-loop-k
invariant-loop-k l = l.values.items ≡ values_at l.block l.word l.k
