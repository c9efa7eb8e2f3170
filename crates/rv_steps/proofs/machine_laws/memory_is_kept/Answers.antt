use Rattle.rv_steps.proofs.MemoryLemmas.{word_again, word_elsewhere, value_elsewhere, kept, length-with_value}
use Rattle.rv_steps.proofs.machine_laws.memory_is_kept.Goals as goal

pub returns : goal.returns
returns c = record { same = word_again; other_word = word_elsewhere; other = value_elsewhere; byte = kept; len = length-with_value }
