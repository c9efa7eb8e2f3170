use Rattle.rv_reader.proofs.TextLemmas.{not_refused}
use Rattle.rv_reader.proofs.laws.spelled_texts_are_not_refused.Goals as goal

pub returns : goal.returns
returns c = not_refused
