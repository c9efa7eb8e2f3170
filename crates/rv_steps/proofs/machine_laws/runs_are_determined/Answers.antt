use Rattle.rv_steps.proofs.RunLemmas.{reaches_same, ends_once, stops_once}
use Rattle.rv_steps.proofs.machine_laws.runs_are_determined.Goals as goal

pub returns : goal.returns
returns c = record { steps = reaches_same; ends = ends_once; stops = stops_once }
