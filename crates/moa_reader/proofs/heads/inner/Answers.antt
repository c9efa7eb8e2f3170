use Rattle.std.proofs.Common.{suc, ◌∷◌}
use Rattle.std.proofs.lemmas.Result.{err_from_is_err_and}
use Rattle.moa_tree.specs.Expected.{Want}
use Rattle.moa_reader.proofs.HeadLemmas.{inner_refused}
use Rattle.moa_reader.proofs.heads.inner.Goals as goal

pub returns-in_err-fold-clause-refused : goal.returns-in_err-fold-clause-refused
returns-in_err-fold-clause-refused c =
    let p = err_from_is_err_and c.from_residual.result c.from_residual.ensures.1 in
    rw (p.1, p.2) (λ depth wants free. c.in_err-fold.ensures.refused (Want.AnOp ∷ Want.AnExpr (suc depth) ∷ Want.AnExpr (suc depth) ∷ wants))

pub returns-in_err-op-clause-refused : goal.returns-in_err-op-clause-refused
returns-in_err-op-clause-refused c =
    let p = err_from_is_err_and c.from_residual-in_err-op.result c.from_residual-in_err-op.ensures.1 in
    rw (p.1, p.2)
    (inner_refused c.args.source.now c.fold.new.source c.in_ok-fold.fold c.in_err-op.field-0.0 c.in_ok-fold.ensures.taken c.in_ok-fold.ensures.folds
    c.in_err-op.ensures.refused)
