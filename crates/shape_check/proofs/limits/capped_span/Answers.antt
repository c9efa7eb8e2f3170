use Rattle.std.proofs.Common.{◌∙◌, arith}
use Rattle.shape_check.proofs.LimitLemmas.{span-step}
use Rattle.shape_check.proofs.limits.capped_span.Goals as goal

pub loop-extent-preserved : goal.loop-extent-preserved
loop-extent-preserved c =
    let step = span-step c.loop-extent.span 18446744073709551615 c.args.extents.now c.loop-extent.extent-index (omega arith) in
    (omega arith, rw (c.saturating_mul-span.ensures, c.max.ensures) (step ∙ c.loop-extent.invariant.1))
