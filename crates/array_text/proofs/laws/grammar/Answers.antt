use Rattle.array_text.proofs.GrammarLemmas.{accepted_file, file_accepted}
use Rattle.array_text.proofs.laws.grammar.Goals as goal

pub returns : goal.returns
returns c = λ declared arrays text differ. (accepted_file declared arrays text differ, file_accepted declared arrays text differ)
