use Rattle.stride_form.proofs.FollowJobLemmas.{job-ends, job-follows}
use Rattle.stride_form.proofs.former_laws.jobs_follow.Goals as goal

pub returns-clause-same : goal.returns-clause-same
returns-clause-same c = job-follows

pub returns-clause-ends : goal.returns-clause-ends
returns-clause-ends c = job-ends
