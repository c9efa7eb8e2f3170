use Rattle.std.proofs.Common.{[], refl, ap, sym, ◌∙◌}
use Rattle.shape_check.specs.Rules.{Place}
use Rattle.shape_check.specs.Verdict.{judged}
use Rattle.shape_check.proofs.LimitLemmas.{shape-within}
use Rattle.shape_check.proofs.limits.limited.Goals as goal

pub returns-in-Some : goal.returns-in-Some
returns-in-Some c = λ at.
    let within = shape-within (Place.Node at) c.args.extents.now (c.in-Some.ensures.within.0 refl) in
    ap (λ shape. judged [] shape) c.in-Some.ensures.same ∙ sym (ap (λ broken. judged broken c.args.extents.now) within)
