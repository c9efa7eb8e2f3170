use Rattle.rv_steps.proofs.RunLemmas.{reaches_more}
use Rattle.rv_steps.proofs.machine_laws.chains_compose.Goals as goal

pub returns : goal.returns
returns c = record { steps = reaches_more }
