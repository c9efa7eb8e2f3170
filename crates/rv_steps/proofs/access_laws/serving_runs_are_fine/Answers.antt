use Rattle.rv_steps.proofs.AccessLemmas.{serving-fine}
use Rattle.rv_steps.proofs.access_laws.serving_runs_are_fine.Goals as goal

pub returns : goal.returns
returns c = record { each = serving-fine }
