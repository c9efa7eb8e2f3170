use Rattle.std.proofs.Common.{length}
use Rattle.stride_form.proofs.digits.+common.Given as goal

abbrev pub decreases-common : goal.decreases-common
decreases-common l = length l.entries.now
