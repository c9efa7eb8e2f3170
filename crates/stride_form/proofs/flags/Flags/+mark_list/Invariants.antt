use Rattle.std.proofs.Common.{length}
use Rattle.stride_form.proofs.flags.Flags.+mark_list.Given as goal

abbrev pub decreases-mark_list : goal.decreases-mark_list
decreases-mark_list l = length l.entries.now
