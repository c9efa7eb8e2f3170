use Rattle.std.proofs.Common.{sym, ◌∙◌}
use Rattle.moa_tree.proofs.reading_laws.never_both.Goals as goal

pub returns : goal.returns
returns c = λ text tree position cause reads refused.
    cc (sym ((c.outcomes.ensures.read text tree).1 reads) ∙ (c.outcomes.ensures.refused text position cause).1 refused)
