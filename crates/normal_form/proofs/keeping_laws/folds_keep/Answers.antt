use Rattle.normal_form.proofs.KeepFoldLemmas.{fold-keeps}
use Rattle.normal_form.proofs.keeping_laws.folds_keep.Goals as goal

pub returns : goal.returns
returns c = fold-keeps
