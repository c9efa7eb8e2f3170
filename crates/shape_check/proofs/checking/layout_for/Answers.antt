use Rattle.std.proofs.Common.{◌∙◌}
use Rattle.std.proofs.lemmas.Result.{err_from_is_err_and}
use Rattle.shape_check.proofs.LimitedLemmas.{block_laid, block_told}
use Rattle.shape_check.proofs.checking.layout_for.Goals as goal

pub returns-in_err-within_costs : goal.returns-in_err-within_costs
returns-in_err-within_costs c = λ pools surveyed.
    let p = err_from_is_err_and c.from_residual.result c.from_residual.ensures.1 in
    rw (p.1, p.2) (c.in_err-within_costs.ensures pools surveyed)

pub layout_within-requires : goal.layout_within-requires
layout_within-requires c =
    let pools = c.requires.0 in
    let surveyed = c.requires.1 in
    let told = c.in_ok-within_costs.ensures pools surveyed in
    block_laid pools c.args.progress.now surveyed told.0 told.1 c.deref.result.now (c.deref.ensures.value ∙ c.in_ok-arrays.ensures ∙ surveyed.arrays)

pub returns : goal.returns
returns c = λ pools surveyed.
    let told = c.in_ok-within_costs.ensures pools surveyed in
    let they = c.deref.ensures.value ∙ c.in_ok-arrays.ensures ∙ surveyed.arrays in
    block_told pools c.args.progress.now surveyed told.0 told.1 c.deref.result.now they c.layout_within.result c.layout_within.ensures
