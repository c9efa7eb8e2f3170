use Rattle.loop_ir.specs.Steps.{End, Then}
use Rattle.rv_emit.proofs.CountingLemmas.{ActionLaws}
use Rattle.rv_emit.proofs.StepLemmas.{steps-simulated}
use Rattle.rv_emit.proofs.step_laws.steps_are_simulated.Goals as goal

pub returns : goal.returns
returns c =
    let acts : ActionLaws = record {
      alike = λ action. c.needed_decides.ensures (Then action End);
      stays = λ action. c.others_stay.ensures (Then action End);
      fits = λ action state small fit. c.values_fit.ensures (Then action End) state tt (small, tt) fit;
      grows = λ action. c.traces_grow.ensures.grow (Then action End);
    } in
    steps-simulated c.machine_is_known.ensures acts c.homes_are_fetched.ensures c.homes_are_put.ensures c.debts_are_settled.ensures
    c.actions_are_simulated.ensures
