use Rattle.nest_build.proofs.NameLemmas.{nest-names-few}
use Rattle.nest_build.proofs.bound_laws.nests_name_few.Goals as goal

pub returns : goal.returns
returns c = nest-names-few
