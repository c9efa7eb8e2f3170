use Rattle.std.proofs.Common.{ap, arith, subst, sym, ◌∙◌, ◌<◌, ◌≤◌, ◌≡◌, ◌*◌, ◌+◌, ◌∷◌, drop}
use Rattle.std.specs.Prelude.{Some, slice_index, suc, max, unsigned_abs}
use Rattle.std.specs.Int.{w64}
use Rattle.std.specs.Option.{option_map}
use Rattle.std.proofs.lemmas.Int.{to_z-of_z}
use Rattle.shapes_core.specs.Gamma.{gamma}
use Rattle.shapes_core.specs.Limits.{greatest_extent}
use Rattle.shapes_core.specs.Shape.{span}
use Rattle.normal_form.specs.Formers.{constants}
use Rattle.normal_form.specs.declared.entry.Entry.TheVariants.{At}
use Rattle.psi_rules.specs.Fitting.{ArePlaces, IsPlace}
use Rattle.psi_rules.proofs.FitPartLemmas.{axis-cut, extent-small, offset-less, offset-made, place-small, places-step, product-small, shape-few}
use Rattle.psi_rules.proofs.WithinLemmas.{extents-small}
use Rattle.psi_rules.proofs.digits.+constant_offset.Goals as goal

pub overflow_add-axis : goal.overflow_add-axis
overflow_add-axis t c =
    let shape = c.args.shape.now in
    let axis = c.args.axis in
    let h = places-step c.in-Some.entry.now c.in-Some.entries.now shape axis
    (subst (λ l. ArePlaces l (drop axis shape)) c.in-Some.ensures.cases.0 c.requires.places) in
    let few = shape-few shape c.requires.shape in
    omega (arith, h.0, few)

pub constant_offset-requires : goal.constant_offset-requires
constant_offset-requires t c =
    let shape = c.args.shape.now in
    let axis = c.args.axis in
    let h = places-step c.in-Some.entry.now c.in-Some.entries.now shape axis
    (subst (λ l. ArePlaces l (drop axis shape)) c.in-Some.ensures.cases.0 c.requires.places) in
    let next : suc axis ≡ axis + 1 = omega arith in (
      omega (arith, c.in-Some.ensures.cases.1, c.decreases),
      (c.requires.shape, (omega (arith, h.0), subst (λ k. ArePlaces c.in-Some.entries.now (drop k shape)) next h.1.1)),
    )

pub overflow_mul-result : goal.overflow_mul-result
overflow_mul-result t c =
    let shape = c.args.shape.now in
    let axis = c.args.axis in
    let h = places-step c.in-Some.entry.now c.in-Some.entries.now shape axis
    (subst (λ l. ArePlaces l (drop axis shape)) c.in-Some.ensures.cases.0 c.requires.places) in
    let constant = c.in-At.constant in
    let n = slice_index shape axis in
    let next : suc axis ≡ axis + 1 = omega arith in
    let value = c.unsigned_abs.ensures.value ∙ ap unsigned_abs (to_z-of_z w64 constant (omega arith)) in
    let least = extent-small shape axis (extents-small shape c.requires.shape) h.0 in
    let place = place-small constant n least (subst (λ e. IsPlace e n) c.in-At.is h.1.0) in
    let product = product-small c.unsigned_abs.result c.weight.result (subst (λ a. a ≤ greatest_extent) (sym value) place.1) c.weight.ensures.small in
    let heavy = c.weight.ensures.value ∙ ap (λ k. span (drop k shape)) next in
    let small = c.in_ok-offset.ensures.small in
    omega (arith, product)

pub overflow_add-result : goal.overflow_add-result
overflow_add-result t c =
    let shape = c.args.shape.now in
    let axis = c.args.axis in
    let h = places-step c.in-Some.entry.now c.in-Some.entries.now shape axis
    (subst (λ l. ArePlaces l (drop axis shape)) c.in-Some.ensures.cases.0 c.requires.places) in
    let constant = c.in-At.constant in
    let n = slice_index shape axis in
    let next : suc axis ≡ axis + 1 = omega arith in
    let value = c.unsigned_abs.ensures.value ∙ ap unsigned_abs (to_z-of_z w64 constant (omega arith)) in
    let least = extent-small shape axis (extents-small shape c.requires.shape) h.0 in
    let place = place-small constant n least (subst (λ e. IsPlace e n) c.in-At.is h.1.0) in
    let product = product-small c.unsigned_abs.result c.weight.result (subst (λ a. a ≤ greatest_extent) (sym value) place.1) c.weight.ensures.small in
    let heavy = c.weight.ensures.value ∙ ap (λ k. span (drop k shape)) next in
    let small = c.in_ok-offset.ensures.small in
    let light = c.weight.ensures.small in
    omega (arith, product, small, heavy, light)

pub returns-clause-offset : goal.returns-clause-offset
returns-clause-offset t c =
    let shape = c.args.shape.now in
    let axis = c.args.axis in
    let h = places-step c.in-Some.entry.now c.in-Some.entries.now shape axis
    (subst (λ l. ArePlaces l (drop axis shape)) c.in-Some.ensures.cases.0 c.requires.places) in
    let constant = c.in-At.constant in
    let n = slice_index shape axis in
    let next : suc axis ≡ axis + 1 = omega arith in
    let value = c.unsigned_abs.ensures.value ∙ ap unsigned_abs (to_z-of_z w64 constant (omega arith)) in
    let least = extent-small shape axis (extents-small shape c.requires.shape) h.0 in
    let place = place-small constant n least (subst (λ e. IsPlace e n) c.in-At.is h.1.0) in
    let product = product-small c.unsigned_abs.result c.weight.result (subst (λ a. a ≤ greatest_extent) (sym value) place.1) c.weight.ensures.small in
    let heavy = c.weight.ensures.value ∙ ap (λ k. span (drop k shape)) next in
    let small = c.in_ok-offset.ensures.small in
    let entries = c.in-Some.entries.now in
    let rest = drop (suc axis) shape in
    let offset = c.in_ok-offset.offset in
    let weight = c.weight.result in
    let behind = subst (λ k. Some offset ≡ option_map (λ index. gamma index (drop k shape)) (constants entries)) (sym next)
    c.in_ok-offset.ensures.offset in
    ap (λ a. Some (a * weight + offset)) value
    ∙ offset-made constant entries n rest offset weight c.span_laws.ensures.of_index h.1.1 behind c.weight.ensures.value
    ∙ ap (λ s. option_map (λ index. gamma index s) (constants (At constant ∷ entries))) (sym (axis-cut shape axis h.0))
    ∙ ap (λ l. option_map (λ index. gamma index (drop axis shape)) (constants l)) (sym (c.in-Some.ensures.cases.0 ∙ ap (λ e. e ∷ entries) c.in-At.is))

pub returns-clause-small : goal.returns-clause-small
returns-clause-small t c =
    let shape = c.args.shape.now in
    let axis = c.args.axis in
    let h = places-step c.in-Some.entry.now c.in-Some.entries.now shape axis
    (subst (λ l. ArePlaces l (drop axis shape)) c.in-Some.ensures.cases.0 c.requires.places) in
    let constant = c.in-At.constant in
    let n = slice_index shape axis in
    let next : suc axis ≡ axis + 1 = omega arith in
    let value = c.unsigned_abs.ensures.value ∙ ap unsigned_abs (to_z-of_z w64 constant (omega arith)) in
    let least = extent-small shape axis (extents-small shape c.requires.shape) h.0 in
    let place = place-small constant n least (subst (λ e. IsPlace e n) c.in-At.is h.1.0) in
    let product = product-small c.unsigned_abs.result c.weight.result (subst (λ a. a ≤ greatest_extent) (sym value) place.1) c.weight.ensures.small in
    let heavy = c.weight.ensures.value ∙ ap (λ k. span (drop k shape)) next in
    let small = c.in_ok-offset.ensures.small in
    let rest = span (drop (suc axis) shape) in
    let offset = c.in_ok-offset.offset in
    let abs = c.unsigned_abs.result in
    let below = subst (λ a. a < n) (sym value) place.0 in
    let inside = subst (λ k. offset < span (drop k shape)) (sym next) small in
    subst (λ s. abs * c.weight.result + offset < span s) (sym (axis-cut shape axis h.0))
    (subst (λ w. abs * w + offset < max n 1 * rest) (sym c.weight.ensures.value) (offset-less abs n rest offset below inside))
