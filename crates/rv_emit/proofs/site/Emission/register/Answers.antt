use Rattle.loop_ir.specs.Running.{Register}
use Rattle.rv_emit.proofs.SiteLemmas.{found-within}
use Rattle.rv_emit.proofs.site.Emission.register.Goals as goal

pub returns-clause-above : goal.returns-clause-above
returns-clause-above c =
    (found-within c.self.inside.homes.now c.self.invariant.1 (Register c.args.number) c.register.result c.register.ensures).0

pub returns-clause-below : goal.returns-clause-below
returns-clause-below c =
    (found-within c.self.inside.homes.now c.self.invariant.1 (Register c.args.number) c.register.result c.register.ensures).1
