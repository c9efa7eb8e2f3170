use Rattle.std.proofs.Common.{arith, length, ◌≤◌}
use Rattle.std.proofs.lemmas.Result.{err_from_is_err_and}
use Rattle.array_text.proofs.ValueLemmas.{fills_all, fills_refused}
use Rattle.array_text.proofs.reading.values.Goals as goal

pub returns-in_err-some_values-clause-refused : goal.returns-in_err-some_values-clause-refused
returns-in_err-some_values-clause-refused c =
    let p = err_from_is_err_and c.from_residual-in_err-some_values.result c.from_residual-in_err-some_values.ensures.1 in
    rw (p.1, p.2) (λ declared came place.
    fills_refused c.args.count c.values.values.items c.args.source.now c.values.source declared came place _ c.values.invariant
    (c.in_err-some_values.ensures.refused declared came place))

pub returns-clause-passes : goal.returns-clause-passes
returns-clause-passes c = λ declared came place.
    fills_all c.args.count c.values.values.items c.args.source.now c.values.source declared came place c.values.invariant
    (let whole : c.args.count ≤ length c.values.values.items = omega arith in whole)
