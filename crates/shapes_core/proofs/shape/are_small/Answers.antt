use Rattle.std.proofs.Common.{sym, arith}
use Rattle.shapes_core.proofs.SpanLemmas.{extent_beyond, span_beyond, span_passed}
use Rattle.shapes_core.proofs.shape.are_small.Goals as goal

pub returns-then-extent-gt-GREATEST_EXTENT : goal.returns-then-extent-gt-GREATEST_EXTENT
returns-then-extent-gt-GREATEST_EXTENT c = sym (extent_beyond c.args.extents.now c.loop-extent.extent-index (omega arith) (omega arith))

pub returns-then-factor-span-gt-GREATEST_EXTENT : goal.returns-then-factor-span-gt-GREATEST_EXTENT
returns-then-factor-span-gt-GREATEST_EXTENT c =
    sym (span_beyond c.loop-extent.span c.args.extents.now c.loop-extent.extent-index c.loop-extent.invariant.0 (omega arith) (grind arith))

pub returns : goal.returns
returns c =
    sym (span_passed c.loop-extent.span c.args.extents.now c.loop-extent.extent-index (omega arith) c.loop-extent.invariant.0 c.loop-extent.invariant.1 c.loop-extent.invariant.2)
