use Rattle.rv_steps.proofs.PieceLemmas.{piece-fits}
use Rattle.rv_steps.proofs.run_laws.pieces_fit.Goals as goal

pub returns : goal.returns
returns c = piece-fits
