use Rattle.rv_steps.proofs.ConstantLemmas.{constant-leads}
use Rattle.rv_steps.proofs.constant_laws.constants_are_set.Goals as goal

pub returns : goal.returns
returns c = record { leads = constant-leads }
