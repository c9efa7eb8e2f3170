use Rattle.array_run.proofs.HaltLemmas.{ends_at_a_line}
use Rattle.array_run.proofs.run.run_to_end.Goals as goal

pub returns-clause-line : goal.returns-clause-line
returns-clause-line c = ends_at_a_line _ _ _ _ _ c.run.result c.run.ensures.stops
