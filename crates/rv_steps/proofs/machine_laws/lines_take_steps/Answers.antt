use Rattle.rv_steps.proofs.StepLemmas.{next_step-at_line, access_at-line, next_step-load, next_step-store, next_step-taken, next_step-not_taken}
use Rattle.rv_steps.proofs.machine_laws.lines_take_steps.Goals as goal

pub returns : goal.returns
returns c = record {
  line = next_step-at_line;
  access = access_at-line;
  load = next_step-load;
  store = next_step-store;
  taken = next_step-taken;
  not_taken = next_step-not_taken;
}
