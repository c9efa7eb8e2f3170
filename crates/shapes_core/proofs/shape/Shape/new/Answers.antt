use Rattle.std.proofs.Common.{subst, sym, arith}
use Rattle.std.proofs.lemmas.Bool.Decides.{nat_tests}
use Rattle.shapes_core.specs.Shape.{IsShape}
use Rattle.shapes_core.proofs.PaddedLemmas.{filled, filled_front}
use Rattle.shapes_core.proofs.shape.Shape.new.Goals as goal

pub invariant_of-result : goal.invariant_of-result
invariant_of-result c =
    let extents = c.args.extents.now in
    let copied = c.copy_from_slice.new.self in
    let shape : IsShape extents = grind (arith, nat_tests) in (
      filled 0 6 extents copied c.copy_from_slice.ensures.after (omega arith),
      subst (λ list. IsShape list) (sym (filled_front extents copied _ c.copy_from_slice.ensures.after)) shape,
    )
