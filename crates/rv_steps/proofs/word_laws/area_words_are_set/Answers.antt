use Rattle.rv_steps.proofs.AreaWordLemmas.{length-values_at, slice_get-values_at, values_at-set, values_at-outside}
use Rattle.rv_steps.proofs.word_laws.area_words_are_set.Goals as goal

pub returns : goal.returns
returns c = record { count = length-values_at; value = slice_get-values_at; inside = values_at-set; outside = values_at-outside }
