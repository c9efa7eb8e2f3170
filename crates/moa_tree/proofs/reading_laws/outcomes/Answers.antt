use Rattle.std.proofs.Common.{subst}
use Rattle.moa_tree.proofs.DecidedLemmas.{Says, read_computed, refused_computed, says}
use Rattle.moa_tree.proofs.reading_laws.outcomes.Goals as goal

pub returns-clause-read : goal.returns-clause-read
returns-clause-read c = λ text tree. (λ e. subst (Says text) e (says text), λ reads. read_computed text tree reads)

pub returns-clause-refused : goal.returns-clause-refused
returns-clause-refused c = λ text position cause. (λ e. subst (Says text) e (says text), λ refused. refused_computed text position cause refused)
