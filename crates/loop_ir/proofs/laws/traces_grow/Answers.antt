use Rattle.loop_ir.proofs.TraceLemmas.{run-grows, was-defined}
use Rattle.loop_ir.proofs.laws.traces_grow.Goals as goal

pub returns : goal.returns
returns c = record { grow = run-grows; defined = was-defined }
