use Rattle.std.proofs.lemmas.Result.{err_from_is_err_and}
use Rattle.std.specs.Prelude.{[], Some}
use Rattle.array_text.specs.Outcome.{Outcome, Want}
use Rattle.array_text.proofs.PassLemmas.{passed_refused}
use Rattle.array_text.proofs.head.read_extents.Goals as goal

pub returns-in_err-extent-clause-refused : goal.returns-in_err-extent-clause-refused
returns-in_err-extent-clause-refused c =
    let p = err_from_is_err_and c.from_residual.result c.from_residual.ensures.1 in
    rw (p.1, p.2) (λ declared came name.
    passed_refused declared (Outcome.Goes came (Want.AnExtent c.args.first name (Some []))) (Outcome.Goes came (Want.AnExtent c.args.first name c.line.extents))
    c.args.source.now c.line.source _ (c.line.invariant.passes declared came name) (c.in_err-extent.ensures.refused declared came name))
