use Rattle.rv_steps.proofs.PieceLemmas.{piece-back, piece-front, piece-line, piece-stands}
use Rattle.rv_steps.proofs.run_laws.pieces_stand.Goals as goal

pub returns : goal.returns
returns c = record { line = piece-line; front = piece-front; back = piece-back; stands = piece-stands }
