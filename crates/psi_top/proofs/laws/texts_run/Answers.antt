use Rattle.psi_top.proofs.DenoteLemmas.{faithful}
use Rattle.psi_top.proofs.laws.texts_run.Goals as goal

pub returns-clause-faithful : goal.returns-clause-faithful
returns-clause-faithful c = λ tree text compiled.
    faithful c.spelled_texts_are_not_refused.ensures c.other_texts_spell_their_parts.ensures c.good_texts_give_what_is_demanded.ensures tree text compiled
