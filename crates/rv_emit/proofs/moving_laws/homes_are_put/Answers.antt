use Rattle.rv_emit.proofs.MovingLemmas.{put}
use Rattle.rv_emit.proofs.moving_laws.homes_are_put.Goals as goal

pub returns : goal.returns
returns c = λ lines base spill words at home d room block within stands pc small.
    put c.machine_is_known.ensures lines base spill words room at home d block within stands pc small
