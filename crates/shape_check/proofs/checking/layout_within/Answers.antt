use Rattle.std.proofs.Common.{subst, sym}
use Rattle.std.proofs.lemmas.Result.{err_from_is_err_and}
use Rattle.shape_check.specs.Limited.{IsBlockRefused}
use Rattle.shape_check.specs.Limited.IsBlockRefused.{no_memory, too_many}
use Rattle.shape_check.proofs.checking.layout_within.Goals as goal

pub returns-in_err-within : goal.returns-in_err-within
returns-in_err-within c =
    let p = err_from_is_err_and c.from_residual.result c.from_residual.ensures.1 in
    let h = c.in_err-within.ensures in
    rw (p.1, p.2) (subst (IsBlockRefused c.args.arrays.now) (sym h.told.1) (too_many c.array_words.ensures h.told.0 h.fits))

pub returns-in_err-place : goal.returns-in_err-place
returns-in_err-place c =
    let p = err_from_is_err_and c.from_residual-in_err-place.result c.from_residual-in_err-place.ensures.1 in
    rw (p.1, p.2) no_memory
