use Rattle.std.proofs.lemmas.Result.{err_from_is_err_and}
use Rattle.moa_reader.proofs.HeadLemmas.{listed_refused}
use Rattle.moa_reader.specs.Sources.{all}
use Rattle.moa_reader.proofs.heads.listed.Goals as goal

pub returns-in_err-list-clause-refused : goal.returns-in_err-list-clause-refused
returns-in_err-list-clause-refused c =
    let p = err_from_is_err_and c.from_residual.result c.from_residual.ensures.1 in
    rw (p.1, p.2) (listed_refused c.args.form (all c.args.source.now) c.in_err-list.field-0.0 c.in_err-list.ensures.refused)
