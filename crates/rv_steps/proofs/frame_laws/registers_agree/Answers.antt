use Rattle.rv_steps.proofs.RegisterLemmas.{agree-again, agree-kept, agree-more, agree-none, agree-one, agree-then}
use Rattle.rv_steps.proofs.frame_laws.registers_agree.Goals as goal

pub returns : goal.returns
returns c = record { none = agree-none; one = agree-one; then = agree-then; again = agree-again; more = agree-more; kept = agree-kept }
