use Rattle.moa_tree.proofs.FitLemmas.{apply-fits, apply_unary-fits, fold-fits}
use Rattle.moa_tree.proofs.value_laws.values_fit.Goals as goal

pub returns-clause-binary : goal.returns-clause-binary
returns-clause-binary c = apply-fits

pub returns-clause-unary : goal.returns-clause-unary
returns-clause-unary c = apply_unary-fits

pub returns-clause-fold : goal.returns-clause-fold
returns-clause-fold c = fold-fits
