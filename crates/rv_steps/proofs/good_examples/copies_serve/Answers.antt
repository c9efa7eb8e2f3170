use Rattle.rv_steps.proofs.GoodExampleLemmas.{copy-serves, not-given-back, too-slow}
use Rattle.rv_steps.proofs.good_examples.copies_serve.Goals as goal

pub returns : goal.returns
returns c = record { serves = copy-serves; steps = too-slow; saved = not-given-back }
