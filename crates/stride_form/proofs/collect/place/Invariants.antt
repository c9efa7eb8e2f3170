use Rattle.std.proofs.Common.{ℕ, pos, ◌<◌, slice_index_or}
use Rattle.stride_form.proofs.collect.place.Given as goal

abbrev pub invariant-loop-place : goal.invariant-loop-place
invariant-loop-place l = (k : ℕ) → k < l.place → (slice_index_or l.strides k (0, pos 0)).0 < l.var
