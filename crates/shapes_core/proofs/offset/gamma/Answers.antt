use Rattle.std.proofs.Common.{◌≡◌, length, arith, sym, ◌∙◌}
use Rattle.shapes_core.proofs.GammaLemmas.{gamma-below, gamma-ended, gamma-next, length-IsIndex}
use Rattle.shapes_core.proofs.SpanLemmas.{total_within}
use Rattle.shapes_core.proofs.offset.gamma.Goals as goal

pub overflow_mul-offset : goal.overflow_mul-offset
overflow_mul-offset c = omega (
  arith,
  gamma-next c.loop-place.offset c.in-Some.ensures.steps c.loop-place.invariant.1,
  gamma-below c.args.index.now c.args.shape.now c.requires,
  total_within c.args.shape.now c.extents.ensures.shape,
)

pub overflow_add-offset : goal.overflow_add-offset
overflow_add-offset c = omega (
  arith,
  gamma-next c.loop-place.offset c.in-Some.ensures.steps c.loop-place.invariant.1,
  gamma-below c.args.index.now c.args.shape.now c.requires,
  total_within c.args.shape.now c.extents.ensures.shape,
)

pub returns-clause-value : goal.returns-clause-value
returns-clause-value c =
    let index = c.loop-place.place-iterator.a.rest.now in
    let shape = c.loop-place.place-iterator.b.rest.now in
    let left = c.loop-place.invariant.1 in
    let none : length index ≡ 0 = grind (arith, length-IsIndex index shape left) in
    sym (gamma-ended c.loop-place.offset index shape left none) ∙ c.loop-place.invariant.0

pub returns-clause-below : goal.returns-clause-below
returns-clause-below c =
    omega (arith, returns-clause-value c, gamma-below c.args.index.now c.args.shape.now c.requires)
