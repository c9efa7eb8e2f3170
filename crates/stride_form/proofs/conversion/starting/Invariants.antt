use Rattle.std.proofs.Common.{◌≡◌, take}
use Rattle.stride_form.specs.Facts.{starting}
use Rattle.stride_form.specs.Small.{fact_at}
use Rattle.stride_form.proofs.conversion.starting.Given as goal

abbrev pub invariant-loop-low : goal.invariant-loop-low
invariant-loop-low l = (l.var ≡ l.low-index) × (fact_at l.facts ≡ starting (take l.low-index l.low-items))
