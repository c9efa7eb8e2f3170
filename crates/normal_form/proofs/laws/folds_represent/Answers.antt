use Rattle.normal_form.proofs.FoldLemmas.{fold-represents}
use Rattle.normal_form.proofs.laws.folds_represent.Goals as goal

pub returns : goal.returns
returns c = fold-represents
