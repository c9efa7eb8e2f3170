use Rattle.std.proofs.lemmas.Result.{err_from_is_err_and}
use Rattle.moa_reader.proofs.heads.iota.Goals as goal

pub returns-in_err-extent-clause-refused : goal.returns-in_err-extent-clause-refused
returns-in_err-extent-clause-refused c =
    let p = err_from_is_err_and c.from_residual.result c.from_residual.ensures.1 in
    rw (p.1, p.2) (λ depth wants free. c.in_err-extent.ensures.refused wants)
