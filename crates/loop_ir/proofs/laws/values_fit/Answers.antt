use Rattle.loop_ir.proofs.FitLemmas.{run-fits}
use Rattle.loop_ir.proofs.laws.values_fit.Goals as goal

pub returns : goal.returns
returns c = run-fits (record { two = c.values_fit.ensures.binary; one = c.values_fit.ensures.unary })
