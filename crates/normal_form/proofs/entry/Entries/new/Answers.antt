use Rattle.std.proofs.Common.{pos, arith}
use Rattle.normal_form.specs.declared.entry.Entry.TheVariants.{At}
use Rattle.normal_form.proofs.entry.Entries.new.Goals as goal

pub invariant_of-result : goal.invariant_of-result
invariant_of-result c =
    c.copies_are_padded.ensures (At (pos 0)) 6 c.args.list.now c.copy_from_slice.new.self c.copy_from_slice.ensures.after (omega arith)
