use Rattle.std.proofs.Common.{arith, refl}
use Rattle.rv_machine.proofs.machine.walk.Goals as goal

pub returns-in-Away-clause-stops : goal.returns-in-Away-clause-stops
returns-in-Away-clause-stops c =
    let reached = c.chains_go_on.ensures.goes _ _ _ _ _ _ _ _ c.loop-made.invariant.reached (record { at = refl; there = c.fetch.ensures.there }) c.in-Away.ensures.step in
    c.chains_go_on.ensures.off _ _ _ _ _ _ (omega arith) reached c.in-Away.ensures.within _ c.off_text-end.ensures
