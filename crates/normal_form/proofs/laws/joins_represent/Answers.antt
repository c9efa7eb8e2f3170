use Rattle.normal_form.proofs.JoinLemmas.{join-represents}
use Rattle.normal_form.proofs.laws.joins_represent.Goals as goal

pub returns : goal.returns
returns c = join-represents
