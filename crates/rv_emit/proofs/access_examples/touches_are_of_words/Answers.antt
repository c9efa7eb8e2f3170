use Rattle.rv_emit.proofs.AccessLemmas.{last-word, no-word-before, no-word-behind}
use Rattle.rv_emit.proofs.access_examples.touches_are_of_words.Goals as goal

pub returns : goal.returns
returns c = record { last = last-word; behind = no-word-behind; before = no-word-before }
