use Rattle.rv_steps.proofs.StepLemmas.{next_step-at_end, at_end-next_step, is_allowed-true, IsAllowed-true}
use Rattle.rv_steps.proofs.machine_laws.tests_are_facts.Goals as goal

pub returns : goal.returns
returns c = record {
  end = λ lines base d. (at_end-next_step lines base d, next_step-at_end lines base d);
  access = λ base extent at size. (IsAllowed-true base extent at size, is_allowed-true base extent at size);
}
