use Rattle.std.proofs.Common.{◌≡◌, ◌≤◌, ◌+◌, ◌*◌, [], length, drop, get_or, arith}
use Rattle.std.proofs.Math.ListN.{drop_of_length-le}
use Rattle.shapes_core.specs.Limits.{greatest_extent}
use Rattle.shapes_core.specs.Shape.{total}
use Rattle.shapes_core.proofs.SpanLemmas.{span_above, span_within, total_more, total_step}
use Rattle.shapes_core.proofs.shape.total.Goals as goal

pub overflow_mul-total : goal.overflow_mul-total
overflow_mul-total c =
    let extents = c.extents-extent-items.result.now in
    let i = c.loop-extent.extent-index in
    omega (
      arith,
      total_step c.loop-extent.total greatest_extent extents i (omega arith) (omega arith),
      span_above (c.loop-extent.total * get_or extents i 0) (drop (i + 1) extents),
    )

pub loop-extent-init : goal.loop-extent-init
loop-extent-init c =
    let within = span_within c.args.shape.now c.extents-extent-items.ensures.shape in
    let same = c.extents-extent-items.ensures.value in
    (omega arith, rw same (omega arith))

pub loop-extent-preserved : goal.loop-extent-preserved
loop-extent-preserved c =
    let extents = c.extents-extent-items.result.now in
    let i = c.loop-extent.extent-index in (
      omega (arith, total_more c.loop-extent.total extents i (omega arith)),
      total_step c.loop-extent.total greatest_extent extents i (omega arith) (omega arith),
    )

pub returns-clause-value : goal.returns-clause-value
returns-clause-value c =
    let extents = c.extents-extent-items.result.now in
    let passed : length extents ≤ c.loop-extent.extent-index = omega arith in
    let ended : drop c.loop-extent.extent-index extents ≡ [] = drop_of_length-le extents passed in
    let counted : c.loop-extent.total * total [] ≡ total extents = rw ended at c.loop-extent.invariant.0 in
    let value : c.loop-extent.total ≡ total extents = omega (arith, counted) in
    rw c.extents-extent-items.ensures.value at value
