use Rattle.text_tokens.proofs.FewLemmas.{tokens_few}
use Rattle.text_tokens.proofs.laws.tokens_are_few.Goals as goal

pub returns : goal.returns
returns c = tokens_few
