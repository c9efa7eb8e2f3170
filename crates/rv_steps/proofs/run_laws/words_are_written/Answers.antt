use Rattle.rv_steps.proofs.WrittenLemmas.{none-written, more-written, values-written, values-elsewhere}
use Rattle.rv_steps.proofs.run_laws.words_are_written.Goals as goal

pub returns : goal.returns
returns c = record { none = none-written; more = more-written; values = values-written; others = values-elsewhere }
