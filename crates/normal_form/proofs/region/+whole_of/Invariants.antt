use Rattle.std.proofs.Common.{length}
use Rattle.normal_form.proofs.region.+whole_of.Given as goal

abbrev pub decreases-whole_of : goal.decreases-whole_of
decreases-whole_of l = length l.extents.now
