use Rattle.std.proofs.Common.{sym, ◌∙◌}
use Rattle.moa_tree.proofs.reading_laws.one_reading.Goals as goal

pub returns : goal.returns
returns c = λ text first second reads others. cc (sym ((c.outcomes.ensures.read text first).1 reads) ∙ (c.outcomes.ensures.read text second).1 others)
