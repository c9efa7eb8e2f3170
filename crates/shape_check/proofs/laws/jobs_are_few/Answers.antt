use Rattle.shape_check.proofs.FewLemmas.{jobs-few}
use Rattle.shape_check.proofs.laws.jobs_are_few.Goals as goal

pub returns : goal.returns
returns c = jobs-few
