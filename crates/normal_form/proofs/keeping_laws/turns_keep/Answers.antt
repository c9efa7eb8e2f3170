use Rattle.normal_form.proofs.KeepTurnLemmas.{turn-keeps}
use Rattle.normal_form.proofs.keeping_laws.turns_keep.Goals as goal

pub returns : goal.returns
returns c = turn-keeps
