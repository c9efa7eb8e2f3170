use Rattle.stride_form.proofs.PassKeptLemmas.{operational-kept}
use Rattle.stride_form.proofs.rule_laws.rules_keep_what_is_kept.Goals as goal

pub returns : goal.returns
returns c = λ own shape region form shaped box h. operational-kept own shape region form shaped box h
