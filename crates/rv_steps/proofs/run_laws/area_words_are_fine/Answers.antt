use Rattle.rv_steps.proofs.FineLemmas.{load-fine, store-fine}
use Rattle.rv_steps.proofs.run_laws.area_words_are_fine.Goals as goal

pub returns : goal.returns
returns c = record { load = load-fine; store = store-fine }
