use Rattle.rv_emit.proofs.MovingSettleLemmas.{settled}
use Rattle.rv_emit.proofs.moving_laws.debts_are_settled.Goals as goal

pub returns : goal.returns
returns c = settled c.machine_is_known.ensures
