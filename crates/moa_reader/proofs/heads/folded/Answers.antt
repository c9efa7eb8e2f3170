use Rattle.std.proofs.lemmas.Result.{err_from_is_err_and}
use Rattle.moa_reader.proofs.HeadLemmas.{folded_refused}
use Rattle.moa_reader.specs.Sources.{all}
use Rattle.moa_reader.proofs.heads.folded.Goals as goal

pub returns-in_err-op-clause-refused : goal.returns-in_err-op-clause-refused
returns-in_err-op-clause-refused c =
    let p = err_from_is_err_and c.from_residual.result c.from_residual.ensures.1 in
    rw (p.1, p.2) (folded_refused c.args.form (all c.args.source.now) c.in_err-op.field-0.0 c.in_err-op.ensures.refused)
