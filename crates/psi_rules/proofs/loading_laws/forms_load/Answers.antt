use Rattle.psi_rules.proofs.LoadJobLemmas.{program-loads}
use Rattle.psi_rules.proofs.loading_laws.forms_load.Goals as goal

pub returns : goal.returns
returns c = λ items number form made. program-loads items number form made
