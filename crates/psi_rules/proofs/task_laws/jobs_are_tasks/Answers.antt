use Rattle.psi_rules.proofs.OwnedLemmas.{forms-owned, owned-there, scan-of-owned, shapes-owned, tasks-owned}
use Rattle.psi_rules.proofs.task_laws.jobs_are_tasks.Goals as goal

pub returns-clause-there : goal.returns-clause-there
returns-clause-there c = owned-there

pub returns-clause-forms : goal.returns-clause-forms
returns-clause-forms c = forms-owned

pub returns-clause-tasks : goal.returns-clause-tasks
returns-clause-tasks c = tasks-owned

pub returns-clause-scans : goal.returns-clause-scans
returns-clause-scans c = scan-of-owned

pub returns-clause-shapes : goal.returns-clause-shapes
returns-clause-shapes c = shapes-owned
