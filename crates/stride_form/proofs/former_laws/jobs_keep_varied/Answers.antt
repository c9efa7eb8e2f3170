use Rattle.stride_form.proofs.FollowFactLemmas.{binding-varied, knowing-varied, starting-variables, starting-varied}
use Rattle.stride_form.proofs.former_laws.jobs_keep_varied.Goals as goal

pub returns-clause-job : goal.returns-clause-job
returns-clause-job c = starting-varied

pub returns-clause-binding : goal.returns-clause-binding
returns-clause-binding c = binding-varied

pub returns-clause-more : goal.returns-clause-more
returns-clause-more c = knowing-varied

pub returns-clause-variables : goal.returns-clause-variables
returns-clause-variables c = starting-variables
