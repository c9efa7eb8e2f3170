use Rattle.std.proofs.Common.{subst, sym}
use Rattle.std.proofs.lemmas.Result.{err_from_is_err_and}
use Rattle.shape_check.specs.Kept.{Explains}
use Rattle.shape_check.proofs.CheckLemmas.{size_refused}
use Rattle.shape_check.proofs.LimitedLemmas.{costs_told}
use Rattle.shape_check.proofs.checking.within_costs.Goals as goal

pub returns-in_err-within : goal.returns-in_err-within
returns-in_err-within c = λ pools surveyed.
    let p = err_from_is_err_and c.from_residual.result c.from_residual.ensures.1 in
    let h = c.in_err-within.ensures in
    rw (p.1, p.2) (subst (Explains pools) (sym h.told.1) (size_refused pools c.args.progress.now surveyed h.told.0 h.fits))

pub returns : goal.returns
returns c = λ pools surveyed. costs_told pools c.args.progress.now surveyed c.in_ok-within.ensures.told c.within-2.result c.within-2.ensures.fits c.within-2.ensures.told
