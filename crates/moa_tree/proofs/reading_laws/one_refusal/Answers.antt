use Rattle.std.proofs.Common.{◌≡◌, sym, ◌∙◌}
use Rattle.moa_tree.specs.Outcome.{Outcome}
use Rattle.moa_tree.proofs.reading_laws.one_refusal.Goals as goal

pub returns : goal.returns
returns c = λ text first second cause other refused again.
    let same : Outcome.Refused first cause ≡ Outcome.Refused second other =
    sym ((c.outcomes.ensures.refused text first cause).1 refused) ∙ (c.outcomes.ensures.refused text second other).1 again in
    (cc same, cc same)
