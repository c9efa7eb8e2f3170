use Rattle.std.proofs.Common.{◌≡◌, ◌+ℤ◌, drop, w64}
use Rattle.std.specs.Int.{int_wrap}
use Rattle.rv_emit.specs.Walks.{owed_at}
use Rattle.rv_emit.proofs.owed.owed_at.Given as goal

abbrev pub invariant-loop-debt : goal.invariant-loop-debt
invariant-loop-debt l = int_wrap w64 (l.words +ℤ owed_at (drop l.debt-index l.owed) l.home) ≡ owed_at l.owed l.home
