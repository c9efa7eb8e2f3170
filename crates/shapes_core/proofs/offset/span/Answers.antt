use Rattle.std.proofs.Common.{◌*◌, ap, arith}
use Rattle.shapes_core.proofs.SpanLemmas.{span_step}
use Rattle.shapes_core.proofs.offset.span.Goals as goal

pub overflow_mul-span : goal.overflow_mul-span
overflow_mul-span c =
    let step = span_step c.loop-extent.span c.args.extents.now c.loop-extent.extent-index c.loop-extent-test.true c.loop-extent.invariant in
    let same = ap (λ factor. c.loop-extent.span * factor) c.max-span.ensures in
    omega (arith, step, same)
