use Rattle.stride_form.proofs.FollowBindLemmas.{bound-follows}
use Rattle.stride_form.proofs.former_laws.bindings_follow.Goals as goal

pub returns : goal.returns
returns c = bound-follows
