use Rattle.loop_ir.proofs.StayLemmas.{others-stay}
use Rattle.loop_ir.proofs.laws.others_stay.Goals as goal

pub returns : goal.returns
returns c = others-stay
