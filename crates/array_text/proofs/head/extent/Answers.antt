use Rattle.std.proofs.Common.{sym, subst}
use Rattle.std.proofs.lemmas.Result.{err_from_is_err_and}
use Rattle.array_text.specs.Outcome.{Outcome, Want}
use Rattle.array_text.specs.Sources.{Explains}
use Rattle.array_text.proofs.PassLemmas.{on_the_line, refused_next}
use Rattle.array_text.proofs.head.extent.Goals as goal

pub returns-in_err-token-clause-refused : goal.returns-in_err-token-clause-refused
returns-in_err-token-clause-refused c =
    let p = err_from_is_err_and c.from_residual.result c.from_residual.ensures.1 in
    rw (p.1, p.2) (λ declared came name.
    refused_next declared (Outcome.Goes came (Want.AnExtent c.args.first name c.args.extents.now)) c.args.source.now _
    (let P : Outcome → Type 0 = λ outcome. Explains outcome c.in_err-token.field-0.0 in
    subst P (sym (on_the_line declared came c.args.first name c.args.extents.now c.args.source.now.token c.args.source.now.line c.requires))
    (c.in_err-token.ensures.refused came name c.args.extents.now)))
