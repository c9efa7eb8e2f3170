use Rattle.std.proofs.Common.{Some, Err, arith, ap, sym, ◌∙◌}
use Rattle.shape_check.specs.Rules.{Failure, Place}
use Rattle.shape_check.proofs.LimitLemmas.{extent-beyond, span-beyond}
use Rattle.shape_check.proofs.limits.exceeded.Goals as goal

pub returns-in-Some : goal.returns-in-Some
returns-in-Some c = λ at.
    extent-beyond (Place.Node at) c.in-Some.extent c.args.extents.now (omega arith) (λ i. omega (arith, c.type_inv.extents i)) (sym c.first_beyond.ensures ∙ c.in-Some.is)

pub returns-in-None : goal.returns-in-None
returns-in-None c = λ at.
    span-beyond (Place.Node at) c.args.extents.now (omega arith) (sym c.first_beyond.ensures ∙ c.in-None.is) c.requires
    ∙ ap (λ value. Err (Failure.Limit (Some (Place.Node at)) 4 value)) (sym c.capped_span.ensures)
