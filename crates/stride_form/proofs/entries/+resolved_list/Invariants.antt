use Rattle.std.proofs.Common.{length}
use Rattle.stride_form.proofs.entries.+resolved_list.Given as goal

abbrev pub decreases-resolved_list : goal.decreases-resolved_list
decreases-resolved_list l = length l.list.now
