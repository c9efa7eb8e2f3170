use Rattle.rv_reader.proofs.TextLemmas.{not_refused, spells_parts, spells_or_refused}
use Rattle.rv_reader.specs.Refusals.{parts_of}
use Rattle.rv_reader.proofs.laws.each_text_spells_or_is_refused.Goals as goal

pub returns : goal.returns
returns c = record {
  parts = λ text parts spells. c.texts_spell_one.ensures text parts (parts_of text) spells (spells_parts text (not_refused text parts spells));
  either = spells_or_refused;
}
