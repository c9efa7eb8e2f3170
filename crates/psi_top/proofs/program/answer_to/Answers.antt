use Rattle.psi_top.proofs.DueLemmas.{due_usage}
use Rattle.psi_top.proofs.program.answer_to.Goals as goal

pub returns-in-None-clause-due : goal.returns-in-None-clause-due
returns-in-None-clause-due g c = due_usage _ _ c.in-None.ensures
