use Rattle.nest_build.proofs.WriteLemmas.{nest-writes-own}
use Rattle.nest_build.proofs.bound_laws.nests_write_their_own.Goals as goal

pub returns : goal.returns
returns c = nest-writes-own
