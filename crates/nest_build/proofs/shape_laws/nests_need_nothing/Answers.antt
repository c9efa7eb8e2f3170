use Rattle.nest_build.proofs.LoopNeedLemmas.{nest-needs-nothing}
use Rattle.nest_build.proofs.shape_laws.nests_need_nothing.Goals as goal

pub returns : goal.returns
returns c = nest-needs-nothing c.lists_join.ensures.needs
