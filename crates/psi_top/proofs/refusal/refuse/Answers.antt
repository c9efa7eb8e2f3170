use Rattle.std.proofs.Common.{inr, refl}
use Rattle.psi_top.proofs.AnswerLemmas.{not_usage}
use Rattle.psi_top.proofs.refusal.refuse.Goals as goal

pub returns-in-Err-clause-put : goal.returns-in-Err-clause-put
returns-in-Err-clause-put g c =
    (_, inr (not_usage c.args.refusal c.in_default.not-Usage, refl), c.put_line-in-Err.ensures.put)
