-- The array of each output of a plain program has the shape of its area.
use Rattle.std.specs.Prelude.{◌≡◌, ℕ, ◌+◌, List, [], ◌∷◌, ◌++◌, length, map, slice_get, Some}
use Rattle.std.specs.List.{AllByRecursion, fold, sum_by}
use Rattle.std.proofs.Common.{refl, ap, ap₂, sym, subst, ◌∙◌, arith}
use Rattle.std.proofs.lemmas.Simd.{map-map}
use Rattle.shapes_core.specs.Shape.{IsShape}
use Rattle.moa_tree.specs.Denotation.{Store as Lists}
use Rattle.moa_tree.specs.Expr.{Item, Input, Let, Output}
use Rattle.moa_tree.specs.ShapeOf.{Shapes, shape_of}
use Rattle.moa_tree.specs.Subexpressions.{subexpressions}
use Rattle.moa_tree.specs.Values.{shapes_of as env_shapes}
use Rattle.shape_check.specs.Costs.{Prices, prices_after, shapes_of as price_shapes}
use Rattle.shape_check.specs.Jobs.{input_count, output_count}
use Rattle.shape_check.specs.Layout.{areas, gathered, scan_shapes, shapes_after}
use Rattle.psi_rules.specs.Areas.{Given}
use Rattle.psi_rules.specs.Blocks.{AreAt, output_shapes}
use Rattle.psi_rules.specs.Rules.{shape_in, shapes_of}
use Rattle.psi_rules.specs.Scopes.{job_shapes}
use Rattle.nest_jobs.specs.BlockLaws.{BlockLaws}
use Rattle.nest_jobs.specs.Outputs.{Due, Scene, array_of, dues, opening, scene_after}
use Rattle.nest_jobs.specs.Plain.{ArePlain}
use Rattle.nest_jobs.proofs.ListLemmas.{at-both}
use Rattle.nest_jobs.proofs.OutputLemmas.{arrays-due, each-due, no-scans, plain-cut}

-- ---- the shapes of names

-- the shapes of the prices go on as those of the statements do
price-shapes : (prices : Prices) (item : Item) → price_shapes (prices_after prices item) ≡ shapes_after (price_shapes prices) item
price-shapes prices (Input name extents) = refl
price-shapes prices (Let name of) = refl
price-shapes prices (Output name of) = refl

-- arrays and prices have the shapes of the forms
abbrev pub AreAlike : Scene → Type 0
AreAlike scene = (env_shapes scene.env ≡ shapes_of scene.names) × (price_shapes scene.prices ≡ shapes_of scene.names)

pub alike-after : BlockLaws → (inputs : Lists) (scene : Scene) (item : Item) → AreAlike scene → AreAlike (scene_after inputs scene item)
alike-after block inputs scene item h =
    let there = sym (block.names_shaped scene.names scene.next item) in (
      block.arrays_shaped inputs scene.env (item ∷ []) ∙ ap (λ shapes. shapes_after shapes item) h.0 ∙ there,
      price-shapes scene.prices item ∙ ap (λ shapes. shapes_after shapes item) h.1 ∙ there,
    )

abbrev pub AreShapes : Shapes → Type 0
AreShapes shapes = AllByRecursion (λ entry. IsShape entry.1) shapes

shapes-before : (items : List Item) (shapes : Shapes) → AreShapes (fold shapes_after shapes items) → AreShapes shapes
shapes-before [] shapes h = h
shapes-before (item ∷ items) shapes h = (shapes-before items (shapes_after shapes item) h).1

-- ---- areas

outputs-many : (shapes : Shapes) (item : Item) → length (output_shapes shapes item) ≡ output_count item
outputs-many shapes (Input name extents) = refl
outputs-many shapes (Let name of) = refl
outputs-many shapes (Output name of) = refl

-- a plain program has no scan
pub no-scan-shapes : (shapes : Shapes) (items : List Item) → ArePlain items → gathered scan_shapes shapes items ≡ []
no-scan-shapes shapes [] h = refl
no-scan-shapes shapes (Input name extents ∷ items) h =
    no-scan-shapes (shapes_after shapes (Input name extents)) items (plain-cut (Input name extents) items h).1
no-scan-shapes shapes (Let name of ∷ items) h =
    let parts = plain-cut (Let name of) items h in
    let later = gathered scan_shapes (shapes_after shapes (Let name of)) items in
    ap (λ l. map (shape_of shapes) l ++ later) (no-scans (subexpressions of) parts.0)
    ∙ no-scan-shapes (shapes_after shapes (Let name of)) items parts.1
no-scan-shapes shapes (Output name of ∷ items) h =
    let parts = plain-cut (Output name of) items h in
    let later = gathered scan_shapes (shapes_after shapes (Output name of)) items in
    ap (λ l. map (shape_of shapes) l ++ later) (no-scans (subexpressions of) parts.0)
    ∙ no-scan-shapes (shapes_after shapes (Output name of)) items parts.1

-- a plain program's areas are those of its inputs and of its outputs
pub areas-many : BlockLaws → (items : List Item) → ArePlain items → length (areas items) ≡ sum_by input_count items + sum_by output_count items
areas-many block items plain =
    let none : length (gathered scan_shapes [] items) ≡ 0 = ap length (no-scan-shapes [] items plain) in
    let all : length (areas items) ≡ sum_by input_count items + sum_by output_count items + length (gathered scan_shapes [] items) =
    block.areas_counted items in
    omega (arith, all, none)

-- ---- programs

-- the shape of an output's array
abbrev pub shape_at : Due → List ℕ
shape_at due = shape_in due.scene.names due.of

-- it is a shape, that of the values too, and that of the area of the output among areas of these shapes
pub record IsShaped (known : List (List ℕ)) (due : Due) : Type 0 where
  pub shaped : IsShape (shape_at due)
  pub alike : AreAlike due.scene
  pub there : slice_get known due.scene.next.output ≡ Some (shape_at due)

pub record IsSceneShaped (known : List (List ℕ)) (scene : Scene) (items : List Item) : Type 0 where
  pub shaped : AreShapes (fold shapes_after (shapes_of scene.names) items)
  pub alike : AreAlike scene
  pub stored : AreAt known scene.next.output (gathered output_shapes (shapes_of scene.names) items)

shaped-after : BlockLaws → (inputs : Lists) (known : List (List ℕ)) (scene : Scene) (item : Item) (items : List Item)
    → IsSceneShaped known scene (item ∷ items) → IsSceneShaped known (scene_after inputs scene item) items
shaped-after block inputs known scene item items h =
    let shapes = shapes_of scene.names in
    let same = sym (block.names_shaped scene.names scene.next item) in
    let later = gathered output_shapes (shapes_after shapes item) items in
    let parts = at-both known scene.next.output (output_shapes shapes item) later h.stored in
    record {
      shaped = subst (λ s. AreShapes (fold shapes_after s items)) same h.shaped;
      alike = alike-after block inputs scene item h.alike;
      stored = subst (λ s. AreAt known (scene.next.output + output_count item) (gathered output_shapes s items)) same
          (subst (λ n. AreAt known (scene.next.output + n) later) (outputs-many shapes item) parts.1);
    }

pub dues-shaped : BlockLaws → (inputs : Lists) (items : List Item) → AreShapes (fold shapes_after [] items)
    → AllByRecursion (IsShaped (map (λ area. area.shape) (areas items))) (dues inputs items)
dues-shaped block inputs items shaped =
    let known = map (λ area. area.shape) (areas items) in
    each-due inputs (IsSceneShaped known) (IsShaped known) (shaped-after block inputs known)
    (λ scene name of behind h. record {
      shaped = (shapes-before behind (shapes_after (shapes_of scene.names) (Output name of)) h.shaped).0;
      alike = h.alike;
      there = h.stored.0;
    })
    items (opening items)
    (record { shaped = shaped; alike = (refl, refl); stored = (block.areas_shaped items).1 })

-- ---- jobs

arrays-shaped : BlockLaws → (inputs : Lists) (items : List Item) → AllByRecursion (λ due. (array_of due).shape ≡ shape_at due) (dues inputs items)
arrays-shaped block inputs items =
    each-due inputs (λ scene items. AreAlike scene) (λ due. (array_of due).shape ≡ shape_at due)
    (λ scene item behind h. alike-after block inputs scene item h)
    (λ scene name of behind h. ap (λ shapes. shape_of shapes of) h.0) items (opening items) (refl, refl)

each-mapped : {X Y : Type 0} (f g : X → Y) (xs : List X) → AllByRecursion (λ x. f x ≡ g x) xs → map f xs ≡ map g xs
each-mapped f g [] h = refl
each-mapped f g (x ∷ xs) h = ap₂ (λ first others. first ∷ others) h.0 (each-mapped f g xs h.1)

-- the shapes of the jobs of a plain program are those of its outputs
pub shapes-due : BlockLaws → (inputs : Lists) (items : List Item) → ArePlain items → job_shapes items ≡ map shape_at (dues inputs items)
shapes-due block inputs items plain =
    let list = dues inputs items in
    let shape = λ (array : Given). array.shape in
    sym (block.jobs_shaped inputs items) ∙ ap (λ l. map shape l) (arrays-due inputs items plain) ∙ map-map shape array_of list
    ∙ each-mapped (λ due. (array_of due).shape) shape_at list (arrays-shaped block inputs items)
