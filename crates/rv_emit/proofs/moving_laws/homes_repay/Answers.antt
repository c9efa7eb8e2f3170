use Rattle.rv_emit.proofs.MovingRepayLemmas.{repay}
use Rattle.rv_emit.proofs.moving_laws.homes_repay.Goals as goal

pub returns : goal.returns
returns c = λ lines base spill words at home owed held d room block within stands pc holds.
    let done = repay c.machine_is_known.ensures lines base spill words room at home owed d block within stands pc in
    (done.run, record { block = done.block; here = done.here held holds; others = done.others; areas = done.areas })
