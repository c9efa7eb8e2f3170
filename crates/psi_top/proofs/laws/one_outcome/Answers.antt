use Rattle.psi_top.proofs.OutcomeLemmas.{one_outcome}
use Rattle.psi_top.proofs.laws.one_outcome.Goals as goal

pub returns : goal.returns
returns c = one_outcome c.one_reading.ensures c.one_refusal.ensures c.never_both.ensures
