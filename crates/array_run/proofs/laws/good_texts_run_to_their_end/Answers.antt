use Rattle.array_run.proofs.GoodLemmas.{good_ends}
use Rattle.array_run.proofs.laws.good_texts_run_to_their_end.Goals as goal

pub returns : goal.returns
returns c = good_ends c.runs_are_determined.ensures.stops
