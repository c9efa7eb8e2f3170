use Rattle.rv_emit.proofs.MovingLemmas.{fetch}
use Rattle.rv_emit.proofs.moving_laws.homes_are_fetched.Goals as goal

pub returns : goal.returns
returns c = λ lines base spill words at scratch home d room block within low high stands pc.
    fetch c.machine_is_known.ensures lines base spill words room at scratch home d block within low high stands pc
