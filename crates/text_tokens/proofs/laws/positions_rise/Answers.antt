use Rattle.text_tokens.proofs.RiseLemmas.{positions_rise}
use Rattle.text_tokens.proofs.laws.positions_rise.Goals as goal

pub returns : goal.returns
returns c = positions_rise
