use Rattle.std.proofs.Common.{arith, ap, slice_index}
use Rattle.shape_check.proofs.operators.cat_shape.Goals as goal

pub overflow_add-extents : goal.overflow_add-extents
overflow_add-extents c =
    let same = ap (λ l. slice_index l 0) c.copy_from_slice.ensures.after in
    omega (arith, same, c.extents-s.ensures.small 0, c.extents-t.ensures.small 0)
