use Rattle.normal_form.proofs.KeepJoinLemmas.{join-keeps}
use Rattle.normal_form.proofs.keeping_laws.joins_keep.Goals as goal

pub returns : goal.returns
returns c = join-keeps
