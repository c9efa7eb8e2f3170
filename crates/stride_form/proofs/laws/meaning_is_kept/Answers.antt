use Rattle.stride_form.proofs.MeaningLemmas.{means-same, reaches-fine}
use Rattle.stride_form.proofs.laws.meaning_is_kept.Goals as goal

pub returns-clause-same : goal.returns-clause-same
returns-clause-same c = means-same

pub returns-clause-fine : goal.returns-clause-fine
returns-clause-fine c = reaches-fine
