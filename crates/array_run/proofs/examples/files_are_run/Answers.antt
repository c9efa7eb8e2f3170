use Rattle.std.proofs.Common.{refl}
use Rattle.std.specs.Fmt.{digits}
use Rattle.array_run.specs.Examples.{ran_lines}
use Rattle.array_run.proofs.examples.files_are_run.Goals as goal

pub returns-clause-copied : goal.returns-clause-copied
unfolding ran_lines digits
returns-clause-copied c = refl
