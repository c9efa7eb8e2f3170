use Rattle.std.proofs.Common.{inl, inr}
use Rattle.std.proofs.lemmas.Result.{MatchResult-weaker, err_from_is_err_and}
use Rattle.shape_check.proofs.statement.expression.Goals as goal

pub returns-in_err-new_name-clause-answered : goal.returns-in_err-new_name-clause-answered
returns-in_err-new_name-clause-answered c = λ prices names.
    let p = err_from_is_err_and c.from_residual.result c.from_residual.ensures.1 in
    rw (p.1, p.2) (inl (c.in_err-new_name.ensures.told prices names))

pub returns-clause-answered : goal.returns-clause-answered
returns-clause-answered c = λ prices names.
    MatchResult-weaker c.judge.result (c.judge.ensures.judged prices names) (λ known accepted. (c.in_ok-new_name.ensures.told prices names, accepted))
    (λ wrong fails. inr (c.in_ok-new_name.ensures.told prices names, fails))
