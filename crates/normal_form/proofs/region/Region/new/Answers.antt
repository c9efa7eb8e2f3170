use Rattle.std.proofs.Common.{arith}
use Rattle.normal_form.proofs.region.Region.new.Goals as goal

pub invariant_of-result : goal.invariant_of-result
invariant_of-result c =
    c.copies_are_padded.ensures (0, 0) 6 c.args.list.now c.copy_from_slice.new.self c.copy_from_slice.ensures.after (omega arith)
