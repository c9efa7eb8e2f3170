use Rattle.psi_top.proofs.AnswerLemmas.{refusal_put}
use Rattle.psi_top.proofs.program.publish.Goals as goal

pub returns-in-Err-clause-put : goal.returns-in-Err-clause-put
returns-in-Err-clause-put g c =
    let said = c.refuse.ensures.put in
    rw c.in-Err.is (said.0, said.1, refusal_put c.in-Err.refusal said.0 _ _ _ _ said.1 said.2)
