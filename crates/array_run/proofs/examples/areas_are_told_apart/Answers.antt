use Rattle.std.proofs.Common.{refl}
use Rattle.rv_steps.specs.Machine.{value_at}
use Rattle.array_run.proofs.examples.areas_are_told_apart.Goals as goal

pub returns-clause-inputs : goal.returns-clause-inputs
unfolding value_at
returns-clause-inputs c = refl

pub returns-clause-outputs : goal.returns-clause-outputs
unfolding value_at
returns-clause-outputs c = refl
