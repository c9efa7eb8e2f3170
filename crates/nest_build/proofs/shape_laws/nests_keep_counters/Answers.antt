use Rattle.nest_build.proofs.KeepLemmas.{nest-keeps-counters}
use Rattle.nest_build.proofs.shape_laws.nests_keep_counters.Goals as goal

pub returns : goal.returns
returns c = nest-keeps-counters c.lists_join.ensures.counters
