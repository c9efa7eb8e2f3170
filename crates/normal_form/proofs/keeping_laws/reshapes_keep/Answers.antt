use Rattle.std.specs.Str.{bytes_eq}
use Rattle.normal_form.proofs.KeepReshapeLemmas.{SpanLaws, reshape-keeps}
use Rattle.normal_form.proofs.keeping_laws.reshapes_keep.Goals as goal

pub returns : goal.returns
returns c = λ own room of shape operand small same shaped well h.
    let law : SpanLaws = record {
      below = c.gamma_laws.ensures.below;
      span_positive = c.span_laws.ensures.positive;
      extents_positive = λ list. (c.span_laws.ensures.no_extent_0 list).0;
      total_positive = λ list. (c.span_laws.ensures.no_extent_0 list).1;
      span_is = c.span_laws.ensures.is_total;
    } in
    reshape-keeps law own room small of shape shaped operand well same h (bytes_eq shape operand)
    (c.equality_is_exact.ensures shape operand).0
