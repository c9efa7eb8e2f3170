-- The shapes of a program's areas, and their lists, stand in the order of the block, and how many there are.
use Rattle.std.specs.Prelude.{◌≡◌, ℕ, suc, ◌+◌, List, [], ◌∷◌, ◌++◌, length, map}
use Rattle.std.specs.List.{flat_map, sum_by}
use Rattle.std.proofs.Common.{refl, ap, subst, ◌∙◌, arith}
use Rattle.std.proofs.lemmas.List.{length-append, length-map, map-append}
use Rattle.std.proofs.lemmas.List.Sums.{sum_by-cons}
use Rattle.shapes_core.specs.Shape.{total}
use Rattle.moa_tree.specs.Denotation.{Store as Lists, denote_from, denote_scans_from, scans_of}
use Rattle.moa_tree.specs.Expr.{Item, Input, Let, Output}
use Rattle.moa_tree.specs.ShapeOf.{Shapes, shape_of}
use Rattle.shape_check.specs.Jobs.{input_count, output_count}
use Rattle.shape_check.specs.Layout.{Array, areas, arrays, gathered, input_of, numbered, output_of, placed, scan_shapes, shapes_after}
use Rattle.psi_rules.specs.Areas.{area_lists, input_list}
use Rattle.psi_rules.specs.Blocks.{AreAt, StandInOrder, input_shapes, lists_of, output_shapes, shapes_in}
use Rattle.psi_rules.specs.Jobs.{first}
use Rattle.psi_rules.proofs.AreaLemmas.{inputs-counted, outputs-counted}
use Rattle.psi_rules.proofs.ListLemmas.{at-both, at-here}

-- ---- the shapes of the arrays of a block

placed-shapes : (start : ℕ) (arrays : List Array) → map (λ area. area.shape) (placed start arrays) ≡ shapes_in arrays
placed-shapes start [] = refl
placed-shapes start (array ∷ arrays) = ap (λ shapes. array.1 ∷ shapes) (placed-shapes (start + total array.1) arrays)

numbered-shapes : (number : ℕ) (shapes : List (List ℕ)) → shapes_in (numbered number shapes) ≡ shapes
numbered-shapes number [] = refl
numbered-shapes number (shape ∷ shapes) = ap (λ others. shape ∷ others) (numbered-shapes (suc number) shapes)

-- what each statement adds to the shapes
abbrev pub Adds : Type 0
Adds = Shapes → Item → List (List ℕ)

gathered-shapes : (f : Shapes → Item → List Array) (shapes : Shapes) (items : List Item)
    → shapes_in (gathered f shapes items) ≡ gathered (λ names item. shapes_in (f names item)) shapes items
gathered-shapes f shapes [] = refl
gathered-shapes f shapes (item ∷ items) =
    map-append (λ array. array.1) (f shapes item) (gathered f (shapes_after shapes item) items)
    ∙ ap (λ rest. shapes_in (f shapes item) ++ rest) (gathered-shapes f (shapes_after shapes item) items)

area-shapes : (items : List Item) → map (λ area. area.shape) (areas items)
    ≡ gathered input_shapes [] items ++ gathered output_shapes [] items ++ gathered scan_shapes [] items
area-shapes items =
    let ins = gathered input_of [] items in
    let outs = gathered output_of [] items in
    let scans = gathered scan_shapes [] items in
    placed-shapes 0 (arrays items)
    ∙ map-append (λ array. array.1) (ins ++ outs) (numbered 0 scans)
    ∙ ap (λ front. front ++ shapes_in (numbered 0 scans)) (map-append (λ array. array.1) ins outs)
    ∙ ap (λ front. front ++ shapes_in outs ++ shapes_in (numbered 0 scans)) (gathered-shapes input_of [] items)
    ∙ ap (λ middle. gathered input_shapes [] items ++ middle ++ shapes_in (numbered 0 scans)) (gathered-shapes output_of [] items)
    ∙ ap (λ back. gathered input_shapes [] items ++ gathered output_shapes [] items ++ back) (numbered-shapes 0 scans)

-- ---- how many shapes there are

abbrev pub AddsSoMany : Adds → (Item → ℕ) → Type 0
AddsSoMany f count = (shapes : Shapes) (item : Item) → length (f shapes item) ≡ count item

pub inputs-many : AddsSoMany input_shapes input_count
inputs-many shapes (Input name extents) = refl
inputs-many shapes (Let name of) = refl
inputs-many shapes (Output name of) = refl

pub outputs-many : AddsSoMany output_shapes output_count
outputs-many shapes (Input name extents) = refl
outputs-many shapes (Let name of) = refl
outputs-many shapes (Output name of) = refl

pub scans-many : AddsSoMany scan_shapes (λ item. length (scans_of item))
scans-many shapes item = length-map (scans_of item) (shape_of shapes)

gathered-many : (f : Adds) (count : Item → ℕ) → AddsSoMany f count → (shapes : Shapes) (items : List Item)
    → length (gathered f shapes items) ≡ sum_by count items
gathered-many f count many shapes [] = refl
gathered-many f count many shapes (item ∷ items) =
    let later = shapes_after shapes item in
    let both = length-append (f shapes item) (gathered f later items) in
    omega (arith, both, gathered-many f count many later items, many shapes item, sum_by-cons count item items)

pub areas-counted : (items : List Item) → length (areas items) ≡ (first items).scan + length (gathered scan_shapes [] items)
areas-counted items =
    let ins = gathered input_shapes [] items in
    let outs = gathered output_shapes [] items in
    let scans = gathered scan_shapes [] items in
    let whole : length (map (λ area. area.shape) (areas items)) ≡ length (ins ++ outs ++ scans) = ap length (area-shapes items) in
    omega (
      arith,
      length-map (areas items) (λ area. area.shape),
      whole,
      length-append (ins ++ outs) scans,
      length-append ins outs,
      gathered-many input_shapes input_count inputs-many [] items,
      gathered-many output_shapes output_count outputs-many [] items,
    )

-- ---- where they stand

pub shapes-stand : (items : List Item) → StandInOrder (map (λ area. area.shape) (areas items)) (first items)
    (gathered input_shapes [] items) (gathered output_shapes [] items) (gathered scan_shapes [] items)
shapes-stand items =
    let known = map (λ area. area.shape) (areas items) in
    let ins = gathered input_shapes [] items in
    let outs = gathered output_shapes [] items in
    let scans = gathered scan_shapes [] items in
    let both = at-both known 0 (ins ++ outs) scans (subst (AreAt known 0) (area-shapes items) (at-here known)) in
    let front = at-both known 0 ins outs both.0 in
    let in-many : 0 + length ins ≡ sum_by input_count items = omega (arith, gathered-many input_shapes input_count inputs-many [] items) in
    let out-many : 0 + length (ins ++ outs) ≡ sum_by input_count items + sum_by output_count items =
    omega (arith, in-many, length-append ins outs, gathered-many output_shapes output_count outputs-many [] items) in
    (front.0, subst (λ n. AreAt known n outs) in-many front.1, subst (λ n. AreAt known n scans) out-many both.1)

pub lists-stand : (inputs : Lists) (items : List Item) → StandInOrder (area_lists inputs items) (first items)
    (flat_map (input_list inputs) items) (lists_of (denote_from inputs [] items)) (denote_scans_from inputs [] items)
lists-stand inputs items =
    let known = area_lists inputs items in
    let ins = flat_map (input_list inputs) items in
    let outs = lists_of (denote_from inputs [] items) in
    let scans = denote_scans_from inputs [] items in
    let parts = at-both known 0 ins (outs ++ scans) (at-here known) in
    let more = at-both known (0 + length ins) outs scans parts.1 in
    let in-many : 0 + length ins ≡ sum_by input_count items = omega (arith, inputs-counted inputs items) in
    let out-many : 0 + length ins + length outs ≡ sum_by input_count items + sum_by output_count items =
    omega (arith, in-many, outputs-counted inputs [] items) in
    (parts.0, subst (λ n. AreAt known n outs) in-many more.0, subst (λ n. AreAt known n scans) out-many more.1)
