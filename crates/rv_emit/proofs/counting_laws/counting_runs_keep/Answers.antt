use Rattle.loop_ir.specs.Steps.{End, Then}
use Rattle.rv_emit.proofs.CountingLemmas.{ActionLaws, counting-fits, counting-grows, counting-many, counting-stays}
use Rattle.rv_emit.proofs.counting_laws.counting_runs_keep.Goals as goal

pub returns : goal.returns
returns c =
    let laws : ActionLaws = record {
      alike = λ action. c.needed_decides.ensures (Then action End);
      stays = λ action. c.others_stay.ensures (Then action End);
      fits = λ action state small fit. c.values_fit.ensures (Then action End) state tt (small, tt) fit;
      grows = λ action. c.traces_grow.ensures.grow (Then action End);
    } in
    record { others = counting-stays laws; fit = counting-fits laws; words = counting-many; grow = counting-grows laws }
