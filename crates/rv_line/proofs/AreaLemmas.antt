-- What fits has a row for each area, with the number of a scan below 2 ^ 32 and an offset below 2 ^ 64.
use Rattle.std.proofs.Common.{ℕ, ◌+◌, ◌*◌, ◌<◌, ◌≤◌, ◌^◌, List, [], ◌∷◌, length, arith, le_trans, mul-le-mul}
use Rattle.std.specs.Prelude.{map, nat_le}
use Rattle.std.specs.List.{list_all, AllByRecursion}
use Rattle.std.proofs.Math.Nat.{le-max_left}
use Rattle.std.proofs.lemmas.Bool.{leb-true}
use Rattle.std.proofs.lemmas.List.{length-map}
use Rattle.shapes_core.specs.Limits.{greatest_extent, most_axes}
use Rattle.shapes_core.specs.Shape.{IsShape, span, total}
use Rattle.shapes_core.specs.declared.area.Area.{Area}
use Rattle.shapes_core.specs.declared.area.AreaKind.{AreaKind}
use Rattle.shapes_core.specs.declared.area.AreaKind.TheVariants.{In, Out, Scan}
use Rattle.rv_line.specs.Fits.{AreInOrder, AreOuts, ArePacked, AreScans, Fits, IsArea}
use Rattle.rv_line.specs.Parts.{Parts}
use Rattle.rv_line.proofs.LinesLemmas.{both}
use Rattle.rv_line.proofs.RowLemmas.{HasRow, IsBelow}

-- a shape has at most so many elements
total-span : (shape : List ℕ) → total shape ≤ span shape
total-span [] = omega arith
total-span (extent ∷ extents) = mul-le-mul (le-max_left extent 1) (total-span extents)

total_small : (shape : List ℕ) → IsShape shape → total shape ≤ greatest_extent
total_small shape is =
    let small = (both (list_all (λ extent. nat_le extent greatest_extent) shape) (nat_le (span shape) greatest_extent) (both (nat_le (length shape) most_axes) _ is).1).1 in
    le_trans (total-span shape) (leb-true (span shape) greatest_extent small)

-- scans are numbered below the number of areas
scans_below : (most number : ℕ) (kinds : List AreaKind) → number + length kinds ≤ most → AreScans number kinds → AllByRecursion (IsBelow most) kinds
scans_below most number [] within scans = tt
scans_below most number (In name ∷ kinds) within scans = absurd scans
scans_below most number (Out name ∷ kinds) within scans = absurd scans
scans_below most number (Scan found ∷ kinds) within scans =
    let same = scans.0 in
    (omega arith, scans_below most (number + 1) kinds (omega arith) scans.1)

outs_below : (most : ℕ) (kinds : List AreaKind) → length kinds ≤ most → AreOuts kinds → AllByRecursion (IsBelow most) kinds
outs_below most [] within outs = tt
outs_below most (In name ∷ kinds) within outs = absurd outs
outs_below most (Out name ∷ kinds) within outs = (tt, outs_below most kinds (omega arith) outs)
outs_below most (Scan number ∷ kinds) within outs = scans_below most 0 (Scan number ∷ kinds) (omega arith) outs

kinds_below : (most : ℕ) (kinds : List AreaKind) → length kinds ≤ most → AreInOrder kinds → AllByRecursion (IsBelow most) kinds
kinds_below most [] within order = tt
kinds_below most (In name ∷ kinds) within order = (tt, kinds_below most kinds (omega arith) order)
kinds_below most (Out name ∷ kinds) within order = outs_below most (Out name ∷ kinds) within order
kinds_below most (Scan number ∷ kinds) within order = scans_below most 0 (Scan number ∷ kinds) (omega arith) order

rows_from : (spill start : ℕ) (areas : List Area) → spill + start + greatest_extent * length areas < 2 ^ 64 → AllByRecursion IsArea areas → AllByRecursion (IsBelow (2 ^ 32)) (map (λ area. area.kind) areas) → ArePacked start areas → AllByRecursion (HasRow spill) areas
rows_from spill start [] small each below packed = tt
rows_from spill start (area ∷ areas) small each below packed =
    let bound = total_small area.shape each.0.shaped in
    let here = packed.0 in (
      record { is = each.0; scan = below.0; offset = omega arith },
      rows_from spill (start + total area.shape) areas (omega arith) each.1 below.1 packed.1,
    )

-- what fits has a row for each area
pub have_rows : (parts : Parts) → Fits parts.header parts.areas parts.lines → AllByRecursion (HasRow parts.header.spill) parts.areas
have_rows parts fits =
    let count = fits.area_count in
    let spill = fits.spill in
    rows_from parts.header.spill 0 parts.areas (omega arith) fits.in_block.each
    (kinds_below (2 ^ 32) (map (λ area. area.kind) parts.areas) (omega (arith, length-map parts.areas (λ area. area.kind))) fits.in_block.in_order)
    fits.in_block.packed
