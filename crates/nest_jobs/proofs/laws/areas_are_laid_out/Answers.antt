use Rattle.nest_jobs.proofs.PlacedLemmas.{laid-out}
use Rattle.nest_jobs.proofs.laws.areas_are_laid_out.Goals as goal

pub returns : goal.returns
returns c = laid-out
