-- The lists of the areas of a plain program: of its inputs, and of what its outputs denote, in order.
use Rattle.std.specs.Prelude.{◌≡◌, ℕ, zero, suc, ◌+◌, ◌<◌, ℤ, List, [], ◌∷◌, ◌++◌, length, map, slice_get, slice_index_or, Some}
use Rattle.std.specs.List.{AllByRecursion, AllZip, flat_map, sum_by}
use Rattle.std.proofs.Common.{refl, ap, sym, subst, ◌∙◌, arith, append_assoc}
use Rattle.std.proofs.lemmas.List.{map-append}
use Rattle.std.proofs.lemmas.List.Sums.{sum_by-cons}
use Rattle.std.proofs.lemmas.Option.{same_Some}
use Rattle.shapes_core.specs.declared.area.AreaKind.{AreaKind}
use Rattle.shapes_core.specs.declared.area.AreaKind.TheVariants as area
use Rattle.shapes_core.specs.Shape.{total}
use Rattle.moa_tree.specs.Denotation.{Store as Lists, denote_from, denote_scans_from, outputs_of, values}
use Rattle.moa_tree.specs.Expr.{Item, Input, Let, Output}
use Rattle.moa_tree.specs.ShapeOf.{Shapes, beside}
use Rattle.moa_tree.specs.Values.{Env}
use Rattle.shape_check.specs.Jobs.{input_count, output_count}
use Rattle.shape_check.specs.Layout.{Array, areas, arrays, gathered, input_of, numbered, output_of, placed, scan_shapes, shapes_after}
use Rattle.psi_rules.specs.Areas.{area_lists, input_list}
use Rattle.psi_rules.specs.Blocks.{AreAt, lists_of}
use Rattle.nest_jobs.specs.BlockLaws.{BlockLaws}
use Rattle.nest_jobs.specs.Leads.{HoldInputs}
use Rattle.nest_jobs.specs.Outputs.{Due, Scene, dues, dues_from, opening, scene_after}
use Rattle.nest_jobs.proofs.ListLemmas.{at-both, at-mapped}
use Rattle.nest_jobs.proofs.OutputLemmas.{each-due}
use Rattle.nest_jobs.proofs.StepLemmas.{HoldBefore}

-- ---- outputs

-- the areas of outputs follow one another
abbrev pub AreInOrder : ℕ → List Due → Type 0
AreInOrder own [] = Unit {0}
AreInOrder own (due ∷ others) = (due.scene.next.output ≡ own) × AreInOrder (suc own) others

pub in-order : (inputs : Lists) (items : List Item) (scene : Scene) (own : ℕ) → scene.next.output ≡ own
    → AreInOrder own (dues_from inputs scene items)
in-order inputs [] scene own e = tt
in-order inputs (Input name extents ∷ items) scene own e =
    in-order inputs items (scene_after inputs scene (Input name extents)) own (omega (arith, e))
in-order inputs (Let name of ∷ items) scene own e = in-order inputs items (scene_after inputs scene (Let name of)) own (omega (arith, e))
in-order inputs (Output name of ∷ items) scene own e =
    (e, in-order inputs items (scene_after inputs scene (Output name of)) (suc own) (omega (arith, e)))

pub dues-many : (inputs : Lists) (items : List Item) (scene : Scene) → length (dues_from inputs scene items) ≡ sum_by output_count items
dues-many inputs [] scene = refl
dues-many inputs (Input name extents ∷ items) scene =
    let rest = dues-many inputs items (scene_after inputs scene (Input name extents)) in
    omega (arith, rest, sum_by-cons output_count (Input name extents) items)
dues-many inputs (Let name of ∷ items) scene =
    omega (arith, dues-many inputs items (scene_after inputs scene (Let name of)), sum_by-cons output_count (Let name of) items)
dues-many inputs (Output name of ∷ items) scene =
    omega (arith, dues-many inputs items (scene_after inputs scene (Output name of)), sum_by-cons output_count (Output name of) items)

-- ---- what outputs denote

-- the list of the output's area is what it denotes
abbrev pub IsListed : List (List ℤ) → Due → Type 0
IsListed lists due = slice_get lists due.scene.next.output ≡ Some (values due.scene.env due.of)

abbrev AreListed : Lists → List (List ℤ) → Scene → List Item → Type 0
AreListed inputs lists scene items = AreAt lists scene.next.output (lists_of (denote_from inputs scene.env items))

output-counted : (env : Env) (item : Item) → length (lists_of (outputs_of env item)) ≡ output_count item
output-counted env (Input name extents) = refl
output-counted env (Let name of) = refl
output-counted env (Output name of) = refl

listed-both : (inputs : Lists) (lists : List (List ℤ)) (scene : Scene) (item : Item) (items : List Item)
    → AreListed inputs lists scene (item ∷ items)
    → AreAt lists scene.next.output (lists_of (outputs_of scene.env item)) × AreListed inputs lists (scene_after inputs scene item) items
listed-both inputs lists scene item items h =
    let own = scene.next.output in
    let here = outputs_of scene.env item in
    let behind = denote_from inputs (scene_after inputs scene item).env items in
    let parts = at-both lists own (lists_of here) (lists_of behind)
    (subst (AreAt lists own) (map-append (λ output. output.1) here behind) h) in
    (parts.0, subst (λ n. AreAt lists (own + n) (lists_of behind)) (output-counted scene.env item) parts.1)

pub dues-listed : BlockLaws → (inputs : Lists) (items : List Item) → AllByRecursion (IsListed (area_lists inputs items)) (dues inputs items)
dues-listed block inputs items =
    let lists = area_lists inputs items in
    each-due inputs (AreListed inputs lists) (IsListed lists)
    (λ scene item behind h. (listed-both inputs lists scene item behind h).1)
    (λ scene name of behind h. (listed-both inputs lists scene (Output name of) behind h).0.0)
    items (opening items) (block.areas_listed inputs items).1

-- ---- inputs

abbrev kinds_in : List Array → List AreaKind
kinds_in arrays = map (λ array. array.0) arrays

placed-kinds : (start : ℕ) (arrays : List Array) → map (λ area. area.kind) (placed start arrays) ≡ kinds_in arrays
placed-kinds start [] = refl
placed-kinds start (array ∷ arrays) = ap (λ kinds. array.0 ∷ kinds) (placed-kinds (start + total array.1) arrays)

-- an input's area with its list
abbrev IsInput : Lists → AreaKind → List ℤ → Type 0
IsInput inputs kind list = (name : List ℕ) × (kind ≡ area.In name) × (list ≡ beside [] inputs name)

inputs-match : (inputs : Lists) (shapes : Shapes) (items : List Item)
    → AllZip (IsInput inputs) (kinds_in (gathered input_of shapes items)) (flat_map (input_list inputs) items)
inputs-match inputs shapes [] = tt
inputs-match inputs shapes (Input name extents ∷ items) =
    ((name, refl, refl), inputs-match inputs (shapes_after shapes (Input name extents)) items)
inputs-match inputs shapes (Let name of ∷ items) = inputs-match inputs (shapes_after shapes (Let name of)) items
inputs-match inputs shapes (Output name of ∷ items) = inputs-match inputs (shapes_after shapes (Output name of)) items

-- two lists that agree on their fronts, at a place of the second front
front-at : {X Y : Type 0} (R : X → Y → Type 0) (xs more : List X) (ys others : List Y) → AllZip R xs ys
    → (number : ℕ) (x : X) (other : Y) → number < length ys → slice_get (xs ++ more) number ≡ Some x
    → R x (slice_index_or (ys ++ others) number other)
front-at R xs more [] others h number x other below e = absurd (omega (arith, below))
front-at R [] more (y ∷ ys) others h number x other below e = absurd h
front-at R (first ∷ xs) more (y ∷ ys) others h zero x other below e = subst (λ z. R z y) (same_Some first x e) h.0
front-at R (first ∷ xs) more (y ∷ ys) others h (suc number) x other below e =
    front-at R xs more ys others h.1 number x other (omega (arith, below)) e

pub inputs-held : BlockLaws → (inputs : Lists) (items : List Item) (words : List ℤ) → HoldInputs inputs items words
    → HoldBefore (areas items) (area_lists inputs items) (sum_by input_count items) words
inputs-held block inputs items words held number found below e =
    let ins = gathered input_of [] items in
    let outs = gathered output_of [] items in
    let scans = numbered 0 (gathered scan_shapes [] items) in
    let behind = outs ++ scans in
    let kinds : map (λ area. area.kind) (areas items) ≡ kinds_in ins ++ kinds_in behind =
    placed-kinds 0 (arrays items) ∙ ap kinds_in (append_assoc ins outs scans) ∙ map-append (λ array. array.0) ins behind in
    let kind = subst (λ l. slice_get l number ≡ Some found.kind) kinds (at-mapped (λ area. area.kind) (areas items) number found e) in
    let count : length (flat_map (input_list inputs) items) ≡ sum_by input_count items = block.inputs_counted inputs items in
    let input = front-at (IsInput inputs) (kinds_in ins) (kinds_in behind) (flat_map (input_list inputs) items)
    (lists_of (denote_from inputs [] items) ++ denote_scans_from inputs [] items) (inputs-match inputs [] items)
    number found.kind [] (omega (arith, below, count)) kind in
    held number found input.0 e input.1 ∙ sym input.2
