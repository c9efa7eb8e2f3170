use Rattle.std.specs.Prelude.{pos, unsigned_abs, slice_index_or}
use Rattle.std.proofs.Common.{◌≡◌, ◌∙◌, suc, ◌+◌, arith, rules}
use Rattle.moa_tree.specs.Axes.{taken}
use Rattle.shape_check.proofs.EntryLemmas.{written-extent}
use Rattle.shape_check.proofs.entries.take_extents.Goals as goal

pub loop-axis-preserved : goal.loop-axis-preserved
loop-axis-preserved c =
    let step = written-extent taken c.args.list.now c.loop-axis.extents c.loop-axis.axis (pos 0) (omega arith) (omega arith) in
    let size : c.unsigned_abs.result ≡ unsigned_abs (slice_index_or c.args.list.now c.loop-axis.axis (pos 0)) = search rules in
    let next : c.loop-axis.axis + 1 ≡ suc c.loop-axis.axis = omega arith in
    rw (next, size) (c.loop-axis.invariant ∙ step)
