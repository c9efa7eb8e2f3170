use Rattle.rv_steps.proofs.RunLemmas.{run-stops, run-is, stops_within}
use Rattle.rv_steps.proofs.machine_laws.runs_stop.Goals as goal

pub returns : goal.returns
returns c = record { computed = run-stops; only = run-is; enough = stops_within }
