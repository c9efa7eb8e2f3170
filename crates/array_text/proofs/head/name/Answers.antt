use Rattle.std.proofs.lemmas.Result.{err_from_is_err_and}
use Rattle.array_text.specs.Outcome.{Outcome, Want}
use Rattle.array_text.proofs.PassLemmas.{refused_next}
use Rattle.array_text.proofs.head.name.Goals as goal

pub returns-in_err-name-clause-refused : goal.returns-in_err-name-clause-refused
returns-in_err-name-clause-refused c =
    let p = err_from_is_err_and c.from_residual.result c.from_residual.ensures.1 in
    rw (p.1, p.2) (λ declared came. refused_next declared (Outcome.Goes came (Want.AName c.args.first)) c.args.source.now _ (c.in_err-name.ensures.refused came))
