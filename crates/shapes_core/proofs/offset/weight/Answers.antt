use Rattle.std.proofs.Common.{arith, suc}
use Rattle.shapes_core.proofs.SpanLemmas.{span_drop, span_within}
use Rattle.shapes_core.proofs.offset.weight.Goals as goal

pub span-requires : goal.span-requires
span-requires c =
    rw c.behind.ensures.value (omega (arith, span_drop (suc c.args.axis) c.args.shape.now, span_within c.args.shape.now c.behind.ensures.shape))
