use Rattle.rv_steps.proofs.KeptLemmas.{step-lengths, chain-lengths, step-valid}
use Rattle.rv_steps.proofs.machine_laws.steps_keep_configurations.Goals as goal

pub returns : goal.returns
returns c = record { step = step-lengths; chain = chain-lengths; valid = step-valid }
