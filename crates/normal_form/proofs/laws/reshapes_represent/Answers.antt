use Rattle.std.specs.Str.{bytes_eq}
use Rattle.normal_form.proofs.ReshapeLemmas.{OffsetLaws, represents-reshape}
use Rattle.normal_form.proofs.laws.reshapes_represent.Goals as goal

pub returns : goal.returns
returns c = λ s of shape operand at same h.
    let offsets = c.gamma_laws.ensures in
    let law : OffsetLaws = record {
      below = offsets.below;
      is_index = offsets.is_index;
      undone = offsets.undone;
      digits_same = c.digit_laws.ensures.same;
      span_positive = c.span_laws.ensures.positive;
      extents_positive = λ list. (c.span_laws.ensures.no_extent_0 list).0;
    } in
    represents-reshape law s of shape at operand same h (bytes_eq shape operand) (c.equality_is_exact.ensures shape operand).0
