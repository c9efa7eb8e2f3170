use Rattle.std.proofs.Common.{subst}
use Rattle.std.specs.List.{AllByRecursion}
use Rattle.std.proofs.lemmas.List.{take_all}
use Rattle.register_map.specs.Homes.{IsGiven}
use Rattle.rv_emit.proofs.emission.most_spill.Goals as goal

pub returns-clause-given : goal.returns-clause-given
returns-clause-given c =
    subst (AllByRecursion IsGiven) (take_all c.loop-given.given-index c.args.homes.now c.loop-given-test.false) c.loop-given.invariant.1
