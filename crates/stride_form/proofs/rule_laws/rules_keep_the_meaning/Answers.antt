use Rattle.stride_form.proofs.PassLemmas.{rules-mean, rules-reach}
use Rattle.stride_form.proofs.rule_laws.rules_keep_the_meaning.Goals as goal

pub returns-clause-same : goal.returns-clause-same
returns-clause-same c = rules-mean

pub returns-clause-fine : goal.returns-clause-fine
returns-clause-fine c = rules-reach
