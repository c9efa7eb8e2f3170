use Rattle.loop_ir.specs.Running.{Pointer}
use Rattle.rv_emit.proofs.SiteLemmas.{found-within}
use Rattle.rv_emit.proofs.site.Emission.place.Goals as goal

pub returns-clause-above : goal.returns-clause-above
returns-clause-above c =
    (found-within c.self.inside.homes.now c.self.invariant.1 (Pointer c.args.number) c.place.result c.place.ensures).0

pub returns-clause-below : goal.returns-clause-below
returns-clause-below c =
    (found-within c.self.inside.homes.now c.self.invariant.1 (Pointer c.args.number) c.place.result c.place.ensures).1
