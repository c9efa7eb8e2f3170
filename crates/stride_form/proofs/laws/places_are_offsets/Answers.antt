use Rattle.std.specs.Prelude.{◌<◌, unsigned_abs}
use Rattle.std.proofs.Common.{sym, ap, subst}
use Rattle.shapes_core.specs.Shape.{total}
use Rattle.normal_form.specs.Assignments.{places}
use Rattle.stride_form.proofs.PlaceLemmas.{are-places, at-place, place-offset}
use Rattle.stride_form.proofs.laws.places_are_offsets.Goals as goal

pub returns-clause-offset : goal.returns-clause-offset
returns-clause-offset c = place-offset

pub returns-clause-not_negative : goal.returns-clause-not_negative
returns-clause-not_negative c = at-place

pub returns-clause-below : goal.returns-clause-below
returns-clause-below c = λ m element h.
    subst (λ k. k < total element.shape) (sym (ap unsigned_abs (place-offset m element h)))
    (c.gamma_laws.ensures.below (places m element.at) element.shape (are-places m element h))
