use Rattle.rv_reader.proofs.TextLemmas.{spells_parts}
use Rattle.rv_reader.proofs.laws.other_texts_spell_their_parts.Goals as goal

pub returns : goal.returns
returns c = spells_parts
