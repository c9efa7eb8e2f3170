use Rattle.nest_jobs.proofs.NestOfLemmas.{some-size, some-work}
use Rattle.nest_jobs.proofs.source_laws.outputs_have_size.Goals as goal

pub returns-clause-size : goal.returns-clause-size
returns-clause-size c = some-size

pub returns-clause-work : goal.returns-clause-work
returns-clause-work c = some-work
