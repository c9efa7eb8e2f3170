use Rattle.rv_line.proofs.SpellLemmas.{emitted_spells}
use Rattle.rv_line.proofs.spelling_laws.fitting_programs_are_spelled.Goals as goal

pub returns : goal.returns
returns c = emitted_spells
