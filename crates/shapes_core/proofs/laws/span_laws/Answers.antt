use Rattle.shapes_core.proofs.DigitLemmas.{positive-extents, positive-total, span-of-index, span-total}
use Rattle.shapes_core.proofs.SpanLemmas.{span_pos}
use Rattle.shapes_core.proofs.laws.span_laws.Goals as goal

pub returns : goal.returns
returns c = record {
  positive = span_pos;
  no_extent_0 = λ shape. (positive-extents shape, positive-total shape);
  is_total = span-total;
  of_index = span-of-index;
}
