use Rattle.std.proofs.Common.{◌≡◌, ◌<◌, ◌≤◌, ◌^◌, ℤ, pos, ◌+ℤ◌, length, slice_index_or, slice_set, to_z, of_z, w64, sym, ap, ap₂, subst, ◌∙◌, arith}
use Rattle.std.specs.List.{insert}
use Rattle.std.proofs.lemmas.Int.{fits_signed_from_abs, ints, to_z-of_z}
use Rattle.std.proofs.lemmas.List.{get_or_read}
use Rattle.shapes_core.specs.Limits.{greatest_extent}
use Rattle.stride_form.proofs.StrideLemmas.{AreSmaller, near-at, sum-near, stride-new, stride-there, var_at}
use Rattle.stride_form.proofs.collect.add_stride.Goals as goal
use Rattle.stride_form.proofs.collect.add_stride.Goals.{else-place-len-via-then-place-len+else-index-var, else-place-len-via-else-place-len}

pub returns-then-index-var : goal.returns-then-index-var
returns-then-index-var c =
    let steps = c.args.strides.now.items in
    let place = c.place-place.result in
    let within : place < length steps = grind (arith, c.if-place-len.true, c.len.ensures) in
    let smaller : AreSmaller c.args.var steps place =
    subst (λ list. AreSmaller c.args.var list place) c.deref.ensures.value c.place-place.ensures.smaller in
    let here : c.index.result.now ≡ slice_index_or steps place (0, pos 0) =
    get_or_read steps _ _ within c.index.ensures (0, pos 0) in
    let there : c.index-then-index-var.result.now ≡ slice_index_or steps place (0, pos 0) =
    get_or_read steps _ _ within c.index-then-index-var.ensures (0, pos 0) in
    let before : ℤ = (slice_index_or steps place (0, pos 0)).1 in
    let near = near-at (2 ^ 62) place steps within c.requires.near in
    let fits = fits_signed_from_abs w64 (before +ℤ c.args.stride)
    (omega (arith, sum-near (2 ^ 62) greatest_extent before c.args.stride near c.requires.stride)) in
    let sum : to_z w64 (of_z w64 (to_z w64 (of_z w64 c.index-then-index-var.result.now.1) +ℤ to_z w64 (of_z w64 c.args.stride)))
    ≡ before +ℤ c.args.stride =
    ap₂ (λ a b. to_z w64 (of_z w64 (a +ℤ b)))
    (ap (λ pair. to_z w64 (of_z w64 pair.1)) there ∙ to_z-of_z w64 before (fits_signed_from_abs w64 before (omega (arith, near))))
    (to_z-of_z w64 c.args.stride c.ranges.stride)
    ∙ to_z-of_z w64 (before +ℤ c.args.stride) fits in
    let same : var_at steps place ≡ c.args.var = grind (arith, here, c.if-index-var.true) in
    ap (λ z. slice_set steps place (c.args.var, z)) sum
    ∙ sym (stride-there c.args.var c.args.stride steps place within smaller same)

pub returns-in_ok-insert : goal.returns-in_ok-insert
returns-in_ok-insert c =
    let steps = c.args.strides.now.items in
    let place = c.place-place.result in
    let var = c.args.var in
    let smaller : AreSmaller var steps place =
    subst (λ list. AreSmaller var list place) c.deref.ensures.value c.place-place.ensures.smaller in
    let next : place < length steps → var ≤ var_at steps place =
    subst (λ list. place < length list → var ≤ var_at list place) c.deref.ensures.value c.place-place.ensures.next in
    let put : c.insert.new.self.items ≡ insert steps place (var, c.args.stride) =
    grind (arith, ints, to_z-of_z, c.in_ok-insert.ensures.items, c.ranges) in
    put ∙ sym (stride-new var c.args.stride steps place
    (grind (arith, c.deref.ensures, c.place-place.ensures.within)) smaller
    (λ inside. elim c.else-place-len.branch [
      | else-place-len-via-then-place-len+else-index-var w ↦
          let here : w.index.result.now ≡ slice_index_or steps place (0, pos 0) = get_or_read steps _ _ inside w.index.ensures (0, pos 0) in
          grind (arith, here, w.if-index-var.false, next inside)
      | else-place-len-via-else-place-len w ↦ absurd (grind (arith, inside, w.if-place-len.false, c.len.ensures))
    ]))
