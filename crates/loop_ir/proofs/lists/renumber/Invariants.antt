use Rattle.std.proofs.Common.{map}
use Rattle.loop_ir.specs.Pool.{renumbered}
use Rattle.loop_ir.proofs.RenumberLemmas.{IsHalfway}
use Rattle.loop_ir.proofs.lists.renumber.Given as goal

abbrev pub invariant-loop-step : goal.invariant-loop-step
invariant-loop-step l = IsHalfway l.count l.step-index l.step-items (map (renumbered l.count) l.fn.list.items)
