use Rattle.rv_steps.proofs.WalkLemmas.{walk-within, walk-wrapping}
use Rattle.rv_steps.proofs.run_laws.pointers_walk.Goals as goal

pub returns : goal.returns
returns c = record { within = walk-within; wrapping = walk-wrapping }
