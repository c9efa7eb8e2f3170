use Rattle.std.proofs.Common.{suc, ◌∷◌}
use Rattle.std.proofs.lemmas.Result.{err_from_is_err_and}
use Rattle.moa_tree.specs.Expected.{Want}
use Rattle.moa_reader.proofs.heads.rotate.Goals as goal

pub returns-in_err-by-clause-refused : goal.returns-in_err-by-clause-refused
returns-in_err-by-clause-refused c =
    let p = err_from_is_err_and c.from_residual.result c.from_residual.ensures.1 in
    rw (p.1, p.2) (λ depth wants free. c.in_err-by.ensures.refused (Want.AnExpr (suc depth) ∷ wants))
