use Rattle.rv_reader.proofs.WholeLemmas.{no_others}
use Rattle.rv_reader.proofs.asm.read_asm.Goals as goal

pub returns-clause-spelled : goal.returns-clause-spelled
returns-clause-spelled c = λ parts spells.
    no_others c.args.text.now c.read_once.result parts c.texts_spell_one.ensures (c.spelled_texts_are_not_refused.ensures c.args.text.now parts spells) c.read_once.ensures.read c.read_once.ensures.refused spells
