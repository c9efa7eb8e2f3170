use Rattle.form_text.proofs.LineLemmas.{margin-more}
use Rattle.form_text.proofs.rows.push_margin.Goals as goal

pub loop-preserved : goal.loop-preserved
loop-preserved c = rw c.in_ok-push_text.ensures (margin-more c.args.out.now.items c.loop.out.items c.loop.counter c.loop.invariant)
