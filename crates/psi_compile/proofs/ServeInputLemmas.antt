-- The inputs of a program, by name, are what their areas hold.
use Rattle.std.specs.Prelude.{◌≡◌, ℕ, zero, suc, Bool, true, false, AllPairs, List, [], ◌∷◌, map, filter, slice_get, Some}
use Rattle.std.specs.List.{AllByRecursion, AllZip, flat_map, zip}
use Rattle.std.specs.Str.{bytes_eq}
use Rattle.std.proofs.Common.{refl, ap, sym, ◌∙◌, arith}
use Rattle.std.proofs.lemmas.List.Elements.{recursion_from_All}
use Rattle.std.proofs.lemmas.Option.{none-some, same_Some}
use Rattle.std.proofs.lemmas.Slice.Eq.{bytes_eq-Decides}
use Rattle.shapes_core.specs.declared.area.Area.{Area}
use Rattle.shapes_core.specs.declared.area.AreaKind.{AreaKind}
use Rattle.shapes_core.specs.declared.area.AreaKind.TheVariants.{In, Out, Scan}
use Rattle.moa_tree.specs.Denotation.{Store as Lists}
use Rattle.moa_tree.specs.Expr.{Item, Input, Let, Output}
use Rattle.moa_tree.specs.ShapeOf.{beside}
use Rattle.shape_check.specs.Layout.{areas, name_of, words}
use Rattle.nest_build.specs.Gives.{AreLaidOut}
use Rattle.nest_jobs.specs.Leads.{HoldInputs}
use Rattle.rv_line.specs.declared.assembly.Header.{Header}
use Rattle.rv_steps.specs.Good.{area_values, input_values, is_input, values_at}
use Rattle.psi_compile.specs.Demands.{input_name}
use Rattle.psi_compile.proofs.ServeAreaLemmas.{IsNamed, area-same, in_areas, inputs-kept, inputs-named}
use Rattle.psi_compile.proofs.ServeListLemmas.{IsThere, each-at, there-filtered}

-- ---- names that differ

-- each name differs from those behind it
abbrev pub Differ : List (List ℕ) → Type 0
Differ [] = Unit {0}
Differ (name ∷ names) = AllByRecursion (λ other. name ≡ other → ⊥) names × Differ names

pub differ-pairs : (names : List (List ℕ)) → AllPairs (λ name other. name ≡ other → ⊥) names → Differ names
differ-pairs [] h = tt
differ-pairs (name ∷ names) h = (
  recursion_from_All (λ other. name ≡ other → ⊥) names (λ k d below. h 0 (suc k) d (omega arith) (omega (arith, below))),
  differ-pairs names (λ i j d low high. h (suc i) (suc j) d (omega (arith, low)) (omega (arith, high))),
)

inputs-among : (name : List ℕ) (items : List Item) → AllByRecursion (λ other. name ≡ other → ⊥) (map name_of items)
    → AllByRecursion (λ other. name ≡ other → ⊥) (flat_map input_name items)
inputs-among name [] h = tt
inputs-among name (Input other extents ∷ items) h = (h.0, inputs-among name items h.1)
inputs-among name (Let other of ∷ items) h = inputs-among name items h.1
inputs-among name (Output other of ∷ items) h = inputs-among name items h.1

pub inputs-differ : (items : List Item) → Differ (map name_of items) → Differ (flat_map input_name items)
inputs-differ [] h = tt
inputs-differ (Input name extents ∷ items) h = (inputs-among name items h.0, inputs-differ items h.1)
inputs-differ (Let name of ∷ items) h = inputs-differ items h.1
inputs-differ (Output name of ∷ items) h = inputs-differ items h.1

-- ---- what stands beside a name

abbrev name_in : AreaKind → List ℕ
name_in (In name) = name
name_in (Out name) = []
name_in (Scan number) = []

-- the name at the place of an item
named-at : (list : List Area) (names : List (List ℕ)) → AllZip IsNamed list names → (number : ℕ) (array : Area) (name : List ℕ)
    → slice_get list number ≡ Some array → array.kind ≡ In name → slice_get names number ≡ Some name
named-at [] names h number array name e kind = absurd (none-some array e)
named-at (first ∷ list) [] h number array name e kind = absurd h
named-at (first ∷ list) (front ∷ names) h zero array name e kind =
    let same = same_Some first array e in ap (λ k. Some (name_in k)) (sym h.0 ∙ ap (λ a. a.kind) same ∙ kind)
named-at (first ∷ list) (front ∷ names) h (suc number) array name e kind = named-at list names h.1 number array name e kind

beside-held : {Y : Type 0} (f : Area → Y) (d : Y) (list : List Area) (names : List (List ℕ)) → AllZip IsNamed list names → Differ names
    → (number : ℕ) (array : Area) (name : List ℕ) → slice_get list number ≡ Some array → array.kind ≡ In name
    → beside d (zip names (map f list)) name ≡ f array
beside-held f d [] names h differ number array name e kind = absurd (none-some array e)
beside-held f d (first ∷ list) [] h differ number array name e kind = absurd h
beside-held f d (first ∷ list) (front ∷ names) h differ zero array name e kind =
    let same = same_Some first array e in
    let alike : front ≡ name = ap name_in (sym h.0 ∙ ap (λ a. a.kind) same ∙ kind) in
    let test : bytes_eq front name ≡ true = (bytes_eq-Decides front name).1 alike in
    rw test (ap f same)
beside-held f d (first ∷ list) (front ∷ names) h differ (suc number) array name e kind =
    let apart : front ≡ name → ⊥ =
    each-at (λ other. front ≡ other → ⊥) names differ.0 number name (named-at list names h.1 number array name e kind) in
    let test : bytes_eq front name ≡ false = unlike (bytes_eq front name) (λ t. apart ((bytes_eq-Decides front name).0 t)) in
    rw test (beside-held f d list names h.1 differ.1 number array name e kind)
  where
    unlike : (b : Bool) → (b ≡ true → ⊥) → b ≡ false
    unlike true h = absurd (h refl)
    unlike false h = refl

-- ---- the inputs

-- what the areas of the inputs hold, by the inputs' names
abbrev pub named_inputs : List Item → Header → List ℕ → Lists
named_inputs items header block = zip (flat_map input_name items) (input_values header (areas items) block)

input-test : (array : Area) (name : List ℕ) → array.kind ≡ In name → is_input array.kind ≡ true
input-test array name e = ap is_input e

pub inputs-held : (items : List Item) (header : Header) (block : List ℕ) → AreLaidOut (areas items) (words items)
    → Differ (map name_of items) → HoldInputs (named_inputs items header block) items (values_at block header.spill (words items))
inputs-held items header block laid differ number array name e kind =
    let there : IsThere (filter (λ area. is_input area.kind) (areas items)) array =
    there-filtered (λ area. is_input area.kind) (areas items) number array e (input-test array name kind) in
    let found : slice_get (in_areas items) there.0 ≡ Some array = ap (λ l. slice_get l there.0) (sym (inputs-kept items)) ∙ there.1 in
    let values = area_values header.spill block in
    sym (area-same block header.spill (words items) array (laid.within number array e))
    ∙ sym (beside-held values [] (in_areas items) (flat_map input_name items) (inputs-named 0 [] items)
    (inputs-differ items differ) there.0 array name found kind)
    ∙ ap (λ l. beside [] (zip (flat_map input_name items) (map values l)) name) (sym (inputs-kept items))
