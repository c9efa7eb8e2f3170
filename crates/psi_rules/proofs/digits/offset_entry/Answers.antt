use Rattle.std.proofs.Common.{arith, subst, sym, ◌∙◌, ◌<◌}
use Rattle.std.specs.Prelude.{ℤ}
use Rattle.std.specs.Int.{w64}
use Rattle.std.proofs.lemmas.Int.{to_z-of_z}
use Rattle.shapes_core.specs.Shape.{span, total}
use Rattle.normal_form.specs.Keeps.{IsWithin}
use Rattle.normal_form.specs.declared.entry.Entry.TheVariants.{At}
use Rattle.psi_rules.proofs.FitPartLemmas.{all-some}
use Rattle.psi_rules.proofs.digits.offset_entry.Goals as goal

pub returns-in-Some-clause-within : goal.returns-in-Some-clause-within
returns-in-Some-clause-within c = λ room known h.
    let shape = c.args.shape.now in
    let some = (c.span_laws.ensures.no_extent_0 shape).1 (all-some room known c.args.entries.now shape h) in
    let same = c.span_laws.ensures.is_total shape some in
    let inside : c.in-Some.offset < span shape = c.in-Some.ensures.small in
    subst (λ (z : ℤ). IsWithin room known (At z) (total shape)) (sym (to_z-of_z w64 c.signed.result (omega arith) ∙ c.signed.ensures))
    (subst (λ n. c.in-Some.offset < n) same inside)
