use Rattle.normal_form.proofs.TurnLemmas.{turn-represents}
use Rattle.normal_form.proofs.laws.turns_represent.Goals as goal

pub returns : goal.returns
returns c = turn-represents
