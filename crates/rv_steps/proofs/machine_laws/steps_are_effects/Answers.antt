use Rattle.rv_steps.proofs.StepLemmas.{next_step-goes}
use Rattle.rv_steps.proofs.machine_laws.steps_are_effects.Goals as goal

pub returns : goal.returns
returns c = record { line = next_step-goes }
