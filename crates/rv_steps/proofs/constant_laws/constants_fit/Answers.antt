use Rattle.rv_steps.proofs.ConstantFormLemmas.{all-base, all-free, all-written, fit-shifted}
use Rattle.rv_steps.proofs.constant_laws.constants_fit.Goals as goal

pub returns : goal.returns
returns c = record {
  fit = λ count to at value register. fit-shifted count to register 3 at value;
  base = all-base;
  written = all-written;
  free = all-free;
}
