use Rattle.std.proofs.lemmas.Result.{err_from_is_err_and}
use Rattle.shape_check.proofs.checking.limited.Goals as goal

pub returns-in_err-layout-clause-refused : goal.returns-in_err-layout-clause-refused
returns-in_err-layout-clause-refused c =
    let p = err_from_is_err_and c.from_residual.result c.from_residual.ensures.1 in
    rw (p.1, p.2) (c.in_err-layout.ensures c.args.program c.requires)
