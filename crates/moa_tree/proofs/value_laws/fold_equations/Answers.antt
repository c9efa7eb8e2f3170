use Rattle.moa_tree.specs.Folds.{fold-last}
use Rattle.moa_tree.proofs.value_laws.fold_equations.Goals as goal

pub returns-clause-more : goal.returns-clause-more
returns-clause-more c = fold-last
