use Rattle.text_tokens.proofs.CutLemmas.{pieces}
use Rattle.text_tokens.proofs.laws.pieces.Goals as goal

pub returns : goal.returns
returns c = pieces
