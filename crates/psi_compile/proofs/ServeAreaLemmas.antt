-- The areas of a program, of the inputs, the outputs and the scans, and the values that the words of a block have in them.
use Rattle.std.specs.Prelude.{◌≡◌, ℕ, suc, ◌+◌, ◌*◌, ◌≤◌, Bool, true, false, pos, List, [], ◌∷◌, ◌++◌, length, map, filter, slice_get}
use Rattle.std.specs.Prelude.{slice_index_or, Some}
use Rattle.std.specs.Int.{w64}
use Rattle.std.specs.List.{AllByRecursion, AllZip, flat_map, sum_by}
use Rattle.std.proofs.Common.{refl, ap, sym, ◌∙◌, arith}
use Rattle.std.proofs.lemmas.List.{append_assoc, append-nil}
use Rattle.std.proofs.lemmas.List.Elements.{filter-append}
use Rattle.std.proofs.lemmas.List.FromFn.{get_or-map-range_with_len}
use Rattle.std.proofs.lemmas.List.Sums.{sum_by-cons}
use Rattle.shapes_core.specs.declared.area.Area.{Area}
use Rattle.shapes_core.specs.declared.area.AreaKind.{AreaKind}
use Rattle.shapes_core.specs.declared.area.AreaKind.TheVariants as area
use Rattle.shapes_core.specs.Shape.{total}
use Rattle.moa_tree.specs.Axes.{naturals}
use Rattle.moa_tree.specs.Denotation.{Store as Lists, env_after, denote_from}
use Rattle.moa_tree.specs.Expr.{Item, Input, Let, Output}
use Rattle.moa_tree.specs.ShapeOf.{Shapes}
use Rattle.moa_tree.specs.Values.{Env}
use Rattle.shape_check.specs.Jobs.{input_count}
use Rattle.shape_check.specs.Layout.{Array, areas, arrays, gathered, input_of, numbered, output_of, placed, scan_shapes, shapes_after}
use Rattle.psi_rules.specs.Areas.{input_list}
use Rattle.nest_jobs.specs.Leads.{area_values as job_values}
use Rattle.rv_steps.specs.Effects.{signed_value}
use Rattle.rv_steps.specs.Good.{area_values, is_input, is_output, values_at}
use Rattle.rv_steps.specs.Machine.{value_at}
use Rattle.psi_compile.specs.Demands.{input_name}
use Rattle.psi_compile.proofs.ServeListLemmas.{each-append, each-behind, same-range}

-- ---- arrays that are placed

-- the word behind arrays
abbrev pub end_of : ℕ → List Array → ℕ
end_of start [] = start
end_of start (array ∷ arrays) = end_of (start + total array.1) arrays

placed-append : (start : ℕ) (front back : List Array)
    → placed start (front ++ back) ≡ placed start front ++ placed (end_of start front) back
placed-append start [] back = refl
placed-append start (array ∷ front) back =
    ap (λ l. record { kind = array.0; shape = array.1; start = start } ∷ l) (placed-append (start + total array.1) front back)

pub placed-many : (start : ℕ) (list : List Array) → length (placed start list) ≡ length list
placed-many start [] = refl
placed-many start (array ∷ list) = ap suc (placed-many (start + total array.1) list)

-- arrays of which each kind answers a test so
abbrev pub AreKind : (AreaKind → Bool) → Bool → List Array → Type 0
AreKind test answer list = AllByRecursion (λ (array : Array). test array.0 ≡ answer) list

placed-kind : (test : AreaKind → Bool) (answer : Bool) (start : ℕ) (list : List Array) → AreKind test answer list
    → AllByRecursion (λ area. test area.kind ≡ answer) (placed start list)
placed-kind test answer start [] h = tt
placed-kind test answer start (array ∷ list) h = (h.0, placed-kind test answer (start + total array.1) list h.1)

kept-all : (test : AreaKind → Bool) (list : List Area) → AllByRecursion (λ area. test area.kind ≡ true) list
    → filter (λ area. test area.kind) list ≡ list
kept-all test [] h = refl
kept-all test (area ∷ list) h = rw (h.0, kept-all test list h.1) refl

kept-none : (test : AreaKind → Bool) (list : List Area) → AllByRecursion (λ area. test area.kind ≡ false) list
    → filter (λ area. test area.kind) list ≡ []
kept-none test [] h = refl
kept-none test (area ∷ list) h = rw (h.0, kept-none test list h.1) refl

-- ---- kinds

inputs-kind : (shapes : Shapes) (items : List Item) → AreKind is_input true (gathered input_of shapes items)
inputs-kind shapes [] = tt
inputs-kind shapes (Input name extents ∷ items) = (refl, inputs-kind (shapes_after shapes (Input name extents)) items)
inputs-kind shapes (Let name of ∷ items) = inputs-kind (shapes_after shapes (Let name of)) items
inputs-kind shapes (Output name of ∷ items) = inputs-kind (shapes_after shapes (Output name of)) items

inputs-other : (shapes : Shapes) (items : List Item) → AreKind is_output false (gathered input_of shapes items)
inputs-other shapes [] = tt
inputs-other shapes (Input name extents ∷ items) = (refl, inputs-other (shapes_after shapes (Input name extents)) items)
inputs-other shapes (Let name of ∷ items) = inputs-other (shapes_after shapes (Let name of)) items
inputs-other shapes (Output name of ∷ items) = inputs-other (shapes_after shapes (Output name of)) items

outputs-kind : (shapes : Shapes) (items : List Item) → AreKind is_output true (gathered output_of shapes items)
outputs-kind shapes [] = tt
outputs-kind shapes (Input name extents ∷ items) = outputs-kind (shapes_after shapes (Input name extents)) items
outputs-kind shapes (Let name of ∷ items) = outputs-kind (shapes_after shapes (Let name of)) items
outputs-kind shapes (Output name of ∷ items) = (refl, outputs-kind (shapes_after shapes (Output name of)) items)

outputs-other : (shapes : Shapes) (items : List Item) → AreKind is_input false (gathered output_of shapes items)
outputs-other shapes [] = tt
outputs-other shapes (Input name extents ∷ items) = outputs-other (shapes_after shapes (Input name extents)) items
outputs-other shapes (Let name of ∷ items) = outputs-other (shapes_after shapes (Let name of)) items
outputs-other shapes (Output name of ∷ items) = (refl, outputs-other (shapes_after shapes (Output name of)) items)

scans-input : (number : ℕ) (shapes : List (List ℕ)) → AreKind is_input false (numbered number shapes)
scans-input number [] = tt
scans-input number (shape ∷ shapes) = (refl, scans-input (suc number) shapes)

scans-output : (number : ℕ) (shapes : List (List ℕ)) → AreKind is_output false (numbered number shapes)
scans-output number [] = tt
scans-output number (shape ∷ shapes) = (refl, scans-output (suc number) shapes)

-- ---- the parts of a program's areas

module _ (items : List Item) where
  abbrev pub ins : List Array
  ins = gathered input_of [] items

  abbrev pub outs : List Array
  outs = gathered output_of [] items

  abbrev pub scans : List Array
  scans = numbered 0 (gathered scan_shapes [] items)

  abbrev pub in_areas : List Area
  in_areas = placed 0 ins

  abbrev pub out_areas : List Area
  out_areas = placed (end_of 0 ins) outs

  abbrev pub scan_areas : List Area
  scan_areas = placed (end_of (end_of 0 ins) outs) scans

  pub areas-parts : areas items ≡ in_areas ++ (out_areas ++ scan_areas)
  areas-parts =
      ap (placed 0) (append_assoc ins outs scans) ∙ placed-append 0 ins (outs ++ scans)
      ∙ ap (λ l. in_areas ++ l) (placed-append (end_of 0 ins) outs scans)

  others-input : AllByRecursion (λ area. is_input area.kind ≡ false) (out_areas ++ scan_areas)
  others-input =
      each-append (λ area. is_input area.kind ≡ false) out_areas scan_areas
      (placed-kind is_input false (end_of 0 ins) outs (outputs-other [] items))
      (placed-kind is_input false (end_of (end_of 0 ins) outs) scans (scans-input 0 (gathered scan_shapes [] items)))

  pub inputs-kept : filter (λ area. is_input area.kind) (areas items) ≡ in_areas
  inputs-kept =
      ap (filter (λ area. is_input area.kind)) areas-parts ∙ filter-append (λ area. is_input area.kind) in_areas (out_areas ++ scan_areas)
      ∙ ap (λ l. l ++ filter (λ area. is_input area.kind) (out_areas ++ scan_areas))
      (kept-all is_input in_areas (placed-kind is_input true 0 ins (inputs-kind [] items)))
      ∙ ap (λ l. in_areas ++ l) (kept-none is_input (out_areas ++ scan_areas) others-input) ∙ append-nil in_areas

  pub outputs-kept : filter (λ area. is_output area.kind) (areas items) ≡ out_areas
  outputs-kept =
      let keep : List Area → List Area = filter (λ area. is_output area.kind) in
      ap keep areas-parts ∙ filter-append (λ area. is_output area.kind) in_areas (out_areas ++ scan_areas)
      ∙ ap (λ l. l ++ keep (out_areas ++ scan_areas))
      (kept-none is_output in_areas (placed-kind is_output false 0 ins (inputs-other [] items)))
      ∙ filter-append (λ area. is_output area.kind) out_areas scan_areas
      ∙ ap (λ l. l ++ keep scan_areas)
      (kept-all is_output out_areas (placed-kind is_output true (end_of 0 ins) outs (outputs-kind [] items)))
      ∙ ap (λ l. out_areas ++ l) (kept-none is_output scan_areas
      (placed-kind is_output false (end_of (end_of 0 ins) outs) scans (scans-output 0 (gathered scan_shapes [] items))))
      ∙ append-nil out_areas

  inputs-many : (shapes : Shapes) (list : List Item) → length (gathered input_of shapes list) ≡ sum_by input_count list
  inputs-many shapes [] = refl
  inputs-many shapes (Input name extents ∷ list) =
      omega (arith, inputs-many (shapes_after shapes (Input name extents)) list, sum_by-cons input_count (Input name extents) list)
  inputs-many shapes (Let name of ∷ list) =
      omega (arith, inputs-many (shapes_after shapes (Let name of)) list, sum_by-cons input_count (Let name of) list)
  inputs-many shapes (Output name of ∷ list) =
      omega (arith, inputs-many (shapes_after shapes (Output name of)) list, sum_by-cons input_count (Output name of) list)

  -- an area that stands behind those of the inputs is none of an input
  pub not-input : (number : ℕ) (area : Area) → slice_get (areas items) number ≡ Some area → sum_by input_count items ≤ number
      → is_input area.kind ≡ false
  not-input number area e from =
      each-behind (λ a. is_input a.kind ≡ false) in_areas (out_areas ++ scan_areas) others-input number area
      (ap (λ l. slice_get l number) (sym areas-parts) ∙ e) (omega (arith, placed-many 0 ins, inputs-many [] items, from))

-- ---- how many there are

pub input-lists-long : (inputs : Lists) (shapes : Shapes) (items : List Item)
    → length (flat_map (input_list inputs) items) ≡ length (gathered input_of shapes items)
input-lists-long inputs shapes [] = refl
input-lists-long inputs shapes (Input name extents ∷ items) =
    ap suc (input-lists-long inputs (shapes_after shapes (Input name extents)) items)
input-lists-long inputs shapes (Let name of ∷ items) = input-lists-long inputs (shapes_after shapes (Let name of)) items
input-lists-long inputs shapes (Output name of ∷ items) = input-lists-long inputs (shapes_after shapes (Output name of)) items

pub output-lists-long : (inputs : Lists) (env : Env) (shapes : Shapes) (items : List Item)
    → length (map (λ output. output.1) (denote_from inputs env items)) ≡ length (gathered output_of shapes items)
output-lists-long inputs env shapes [] = refl
output-lists-long inputs env shapes (Input name extents ∷ items) =
    output-lists-long inputs (env_after inputs env (Input name extents)) (shapes_after shapes (Input name extents)) items
output-lists-long inputs env shapes (Let name of ∷ items) =
    output-lists-long inputs (env_after inputs env (Let name of)) (shapes_after shapes (Let name of)) items
output-lists-long inputs env shapes (Output name of ∷ items) =
    ap suc (output-lists-long inputs (env_after inputs env (Output name of)) (shapes_after shapes (Output name of)) items)

-- ---- the inputs' names

abbrev pub IsNamed : Area → List ℕ → Type 0
IsNamed array name = array.kind ≡ area.In name

pub inputs-named : (start : ℕ) (shapes : Shapes) (items : List Item)
    → AllZip IsNamed (placed start (gathered input_of shapes items)) (flat_map input_name items)
inputs-named start shapes [] = tt
inputs-named start shapes (Input name extents ∷ items) =
    (refl, inputs-named (start + total (naturals extents)) (shapes_after shapes (Input name extents)) items)
inputs-named start shapes (Let name of ∷ items) = inputs-named start (shapes_after shapes (Let name of)) items
inputs-named start shapes (Output name of ∷ items) = inputs-named start (shapes_after shapes (Output name of)) items

-- ---- the values in an area

-- the values of an area's words are those that the words of all areas have there
pub area-same : (block : List ℕ) (spill count : ℕ) (area : Area) → area.start + total area.shape ≤ count
    → area_values spill block area ≡ job_values (values_at block spill count) area
area-same block spill count area within =
    same-range (λ k. signed_value (value_at w64 block (8 * (spill + area.start + k))))
    (λ k. slice_index_or (values_at block spill count) (area.start + k) (pos 0)) 0 (total area.shape)
    (λ k low high.
    let there =
    get_or-map-range_with_len (λ i. signed_value (value_at w64 block (8 * (spill + i)))) 0 count (area.start + k) (area.start + k)
    (pos 0) (omega (arith, within, high)) (omega arith) in
    let place : spill + area.start + k ≡ spill + (area.start + k) = omega arith in
    ap (λ n. signed_value (value_at w64 block (8 * n))) place ∙ sym there)
