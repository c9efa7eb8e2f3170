use Rattle.std.proofs.Common.{refl}
use Rattle.std.specs.Fmt.{digits}
use Rattle.rv_steps.specs.Machine.{value_at}
use Rattle.array_run.proofs.examples.outputs_are_printed.Goals as goal

pub returns-clause-two : goal.returns-clause-two
unfolding digits value_at
returns-clause-two c = refl

pub returns-clause-shifted : goal.returns-clause-shifted
unfolding digits value_at
returns-clause-shifted c = refl
