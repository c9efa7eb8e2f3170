use Rattle.std.proofs.lemmas.Result.{err_from_is_err_and}
use Rattle.moa_reader.proofs.StandingLemmas.{parentheses_close, parentheses_refused}
use Rattle.moa_reader.proofs.expression.close_parentheses.Goals as goal

pub returns-in_err-sign-clause-refused : goal.returns-in_err-sign-clause-refused
returns-in_err-sign-clause-refused c =
    let p = err_from_is_err_and c.from_residual.result c.from_residual.ensures.1 in
    rw (p.1, p.2)
    (λ first before pools frames read.
    parentheses_refused first c.args.source.now before pools frames c.args.node c.in_err-sign.field-0.0 read c.in_err-sign.ensures.other
    c.in_err-sign.ensures.refused)

pub returns-clause-stands : goal.returns-clause-stands
returns-clause-stands c = λ first before pools frames read.
    parentheses_close first c.args.source.now c.sign.new.self before pools frames c.args.node read c.in_ok-sign.ensures.taken
