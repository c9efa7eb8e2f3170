use Rattle.std.proofs.Common.{refl}
use Rattle.std.specs.Fmt.{digits}
use Rattle.rv_steps.specs.Machine.{value_at}
use Rattle.array_run.proofs.examples.ends_are_told.Goals as goal

pub returns-clause-done : goal.returns-clause-done
unfolding digits value_at
returns-clause-done c = refl
