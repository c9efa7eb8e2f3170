use Rattle.text_tokens.proofs.FitLemmas.{tokens_fit}
use Rattle.text_tokens.proofs.laws.values_fit.Goals as goal

pub returns : goal.returns
returns c = tokens_fit
