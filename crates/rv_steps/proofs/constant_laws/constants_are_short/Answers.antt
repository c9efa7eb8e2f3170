use Rattle.rv_steps.proofs.ConstantFormLemmas.{few-lines, few-short-lines}
use Rattle.rv_steps.proofs.constant_laws.constants_are_short.Goals as goal

pub returns : goal.returns
returns c = record { few = few-short-lines; most = few-lines }
