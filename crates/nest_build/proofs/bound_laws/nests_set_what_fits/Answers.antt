use Rattle.nest_build.proofs.NameLemmas.{nest-sets-what-fits}
use Rattle.nest_build.proofs.bound_laws.nests_set_what_fits.Goals as goal

pub returns : goal.returns
returns c = nest-sets-what-fits
