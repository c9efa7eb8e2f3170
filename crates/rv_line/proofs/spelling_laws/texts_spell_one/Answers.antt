use Rattle.rv_line.proofs.UniqueLemmas.{one_program}
use Rattle.rv_line.proofs.spelling_laws.texts_spell_one.Goals as goal

pub returns : goal.returns
returns c = one_program
