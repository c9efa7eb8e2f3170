use Rattle.std.specs.Prelude.{pos, unsigned_abs, slice_index_or}
use Rattle.std.proofs.Common.{◌≡◌, ◌∙◌, arith, rules}
use Rattle.shape_check.proofs.LimitLemmas.{total-step}
use Rattle.shape_check.proofs.entries.capped_total.Goals as goal

pub loop-k-preserved : goal.loop-k-preserved
loop-k-preserved c =
    let step = total-step c.loop-k.total 18446744073709551615 c.args.list.now c.loop-k.k-index (pos 0) (omega arith) in
    let size : c.unsigned_abs.result ≡ unsigned_abs (slice_index_or c.args.list.now c.loop-k.k-index (pos 0)) = search rules in
    (omega arith, rw (c.saturating_mul-total.ensures, size) (step ∙ c.loop-k.invariant.1))
