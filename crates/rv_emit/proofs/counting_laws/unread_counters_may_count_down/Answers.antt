use Rattle.loop_ir.specs.Steps.{End, Then}
use Rattle.rv_emit.proofs.CountingLemmas.{counting-alike}
use Rattle.rv_emit.proofs.counting_laws.unread_counters_may_count_down.Goals as goal

pub returns : goal.returns
returns c = counting-alike (record {
  alike = λ action. c.needed_decides.ensures (Then action End);
  stays = λ action. c.others_stay.ensures (Then action End);
  fits = λ action state small fit. c.values_fit.ensures (Then action End) state tt (small, tt) fit;
  grows = λ action. c.traces_grow.ensures.grow (Then action End);
})
