use Rattle.std.proofs.Common.{arith}
use Rattle.stride_form.proofs.StrideLemmas.{walk-few}
use Rattle.stride_form.proofs.collect.walk_of.Goals as goal

pub unwrap-requires : goal.unwrap-requires
unwrap-requires c =
    grind (
      arith,
      c.new.ensures.within,
      c.deref.ensures.value,
      c.in_ok-offset.ensures.strides,
      c.requires.few,
      walk-few c.args.entries.now c.extents.result.now,
    )
