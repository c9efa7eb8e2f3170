use Rattle.std.specs.Prelude.{◌*◌, ◌^◌, ◌≤◌, unsigned_abs}
use Rattle.std.proofs.Common.{sym, subst, arith, to_z, of_z, w64}
use Rattle.std.proofs.lemmas.Int.{fits_signed_from_abs, ints, to_z-of_z}
use Rattle.shapes_core.specs.Limits.{greatest_extent}
use Rattle.stride_form.specs.Accesses.{AreNear}
use Rattle.stride_form.specs.Small.{AreNearEntries}
use Rattle.stride_form.proofs.StrideLemmas.{small-rest, most_start, start-more, start-room, walk-room}
use Rattle.stride_form.proofs.collect.+collect.Goals as goal

pub add_entry-requires-clause-near : goal.add_entry-requires-clause-near
add_entry-requires-clause-near t c =
    let extents = c.in-Some-split_first.extents.now in
    subst (AreNear (2 ^ 62)) (sym c.in_ok-start.ensures.strides)
    (walk-room c.in-Some.entries.now extents (grind (arith, c.in-Some.ensures.cases, c.requires.few))
    (small-rest c.in-Some-split_first.field-0-0.now extents greatest_extent
    (grind (arith, c.in-Some-split_first.ensures.cases, c.requires.small))))

pub start_with-requires-clause-room : goal.start_with-requires-clause-room
start_with-requires-clause-room t c =
    let extents = c.in-Some-split_first.extents.now in
    let entries = c.in-Some.entries.now in
    let rest = small-rest c.in-Some-split_first.field-0-0.now extents greatest_extent
    (grind (arith, c.in-Some-split_first.ensures.cases, c.requires.small)) in
    let near : AreNearEntries entries = (subst AreNearEntries c.in-Some.ensures.cases.0 c.requires.near).1 in
    let start = c.in_ok-start.field-0.start in
    let small : unsigned_abs start ≤ 5 * most_start = subst (λ z. unsigned_abs z ≤ 5 * most_start) (sym c.in_ok-start.ensures.start)
    (start-room entries extents (grind (arith, c.in-Some.ensures.cases, c.requires.few)) rest near) in
    subst (λ z. unsigned_abs z ≤ 5 * most_start) (sym (to_z-of_z w64 start (fits_signed_from_abs w64 start (omega (arith, small))))) small

pub returns-clause-start : goal.returns-clause-start
returns-clause-start t c =
    start-more c.args.entries.now c.in-Some.entries.now c.in-Some.entry.now
    c.args.extents.now c.in-Some-split_first.extents.now c.in-Some-split_first.field-0-0.now
    c.total_of-weight.result c.in_ok-start.start (to_z w64 (of_z w64 c.start_with.result))
    c.in-Some.ensures.cases.0 c.in-Some-split_first.ensures.cases.0
    c.total_of-weight.ensures.value
    (search (arith, ints, to_z-of_z, c.in_ok-start.ensures))
    (search (arith, ints, to_z-of_z, c.start_with.ensures))
