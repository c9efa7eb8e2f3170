use Rattle.std.proofs.Common.{length}
use Rattle.stride_form.proofs.flags.Flags.+mark_strides.Given as goal

abbrev pub decreases-mark_strides : goal.decreases-mark_strides
decreases-mark_strides l = length l.strides.now
