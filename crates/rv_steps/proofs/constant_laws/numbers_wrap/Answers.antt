use Rattle.rv_steps.proofs.WrappedLemmas.{wrapped-natural, word_of-wrapped, wrapped-below, wrapped-multiple, wrapped-sum}
use Rattle.rv_steps.proofs.constant_laws.numbers_wrap.Goals as goal

pub returns : goal.returns
returns c = record { natural = wrapped-natural; signed = word_of-wrapped; below = wrapped-below; sum = wrapped-sum; multiple = wrapped-multiple }
