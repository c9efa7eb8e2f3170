use Rattle.array_text.proofs.WholeLemmas.{accepted_whole}
use Rattle.array_text.proofs.laws.accepted_arrays_are_whole.Goals as goal

pub returns : goal.returns
returns c = λ declared arrays text accepted. accepted_whole declared arrays text accepted
