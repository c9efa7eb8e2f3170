use Rattle.array_text.proofs.FitLemmas.{accepted_fit}
use Rattle.array_text.proofs.laws.accepted_values_fit.Goals as goal

pub returns : goal.returns
returns c = λ declared arrays text accepted. accepted_fit declared arrays text (c.values_fit.ensures _ text) accepted
