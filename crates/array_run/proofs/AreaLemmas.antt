-- The areas of a block: the inputs come first, and all lie in it.
use Rattle.std.proofs.Common.{◌≡◌, ◌≢◌, ℕ, ◌+◌, ◌<◌, ◌≤◌, List, [], ◌∷◌, ◌++◌, length, map, refl, sym, ap, subst, arith, sum_by, length-append}
use Rattle.std.proofs.lemmas.List.{get_or_append_left}
use Rattle.std.proofs.lemmas.List.Elements.{All-cons, All-nil}
use Rattle.std.proofs.lemmas.List.Sums.{sum_by-cons}
use Rattle.std.specs.List.{All, AllPairs}
use Rattle.shapes_core.specs.Shape.{total}
use Rattle.shapes_core.specs.declared.area.Area.{Area}
use Rattle.shapes_core.specs.declared.area.AreaKind.{AreaKind}
use Rattle.shapes_core.specs.declared.area.AreaKind.TheVariants.{In, Out, Scan}
use Rattle.shapes_core.specs.declared.area.Declared.{Declared}
use Rattle.rv_line.specs.Fits.{AreAreas, AreInOrder, AreOuts, ArePacked, AreScans, area_names}
use Rattle.array_run.specs.Starts.{input_in, inputs}

abbrev kinds_of : List Area → List AreaKind
kinds_of areas = map (λ area. area.kind) areas

abbrev names_of : List Declared → List (List ℕ)
names_of declared = map (λ array. array.name) declared

-- an area in front of others, by its kind
no_input_scanned : (number : ℕ) (kind : AreaKind) (shape : List ℕ) (kinds : List AreaKind) (others : List Declared)
    → AreScans number (kind ∷ kinds)
    → (AreScans (number + 1) kinds → others ≡ []) → input_in kind shape ++ others ≡ []
no_input_scanned number (In name) shape kinds others scans none = absurd scans
no_input_scanned number (Out name) shape kinds others scans none = absurd scans
no_input_scanned number (Scan found) shape kinds others scans none = none scans.1

no_input_put_out : (kind : AreaKind) (shape : List ℕ) (kinds : List AreaKind) (others : List Declared) → AreOuts (kind ∷ kinds)
    → (AreOuts kinds → others ≡ [])
    → (AreScans 1 kinds → others ≡ []) → input_in kind shape ++ others ≡ []
no_input_put_out (In name) shape kinds others outs none last = absurd outs
no_input_put_out (Out name) shape kinds others outs none last = none outs
no_input_put_out (Scan found) shape kinds others outs none last = last outs.1

pub no_inputs_in_scans : (number : ℕ) (areas : List Area) → AreScans number (kinds_of areas) → inputs areas ≡ []
no_inputs_in_scans number [] scans = refl
no_inputs_in_scans number (area ∷ areas) scans =
    no_input_scanned number area.kind area.shape (kinds_of areas) (inputs areas) scans (no_inputs_in_scans (number + 1) areas)

pub no_inputs_in_outs : (areas : List Area) → AreOuts (kinds_of areas) → inputs areas ≡ []
no_inputs_in_outs [] outs = refl
no_inputs_in_outs (area ∷ areas) outs =
    no_input_put_out area.kind area.shape (kinds_of areas) (inputs areas) outs (no_inputs_in_outs areas) (no_inputs_in_scans 1 areas)

-- the names of the inputs stand in front of all others
abbrev NamedFirst : List AreaKind → List Declared → Type 0
NamedFirst kinds declared = (behind : List (List ℕ)) × (area_names kinds ≡ names_of declared ++ behind)

named_first : (kind : AreaKind) (shape : List ℕ) (kinds : List AreaKind) (others : List Declared) → AreInOrder (kind ∷ kinds)
    → (AreInOrder kinds → NamedFirst kinds others) → (AreOuts kinds → others ≡ []) → (AreScans 1 kinds → others ≡ [])
    → NamedFirst (kind ∷ kinds) (input_in kind shape ++ others)
named_first (In name) shape kinds others order first none last = let f = first order in (f.0, ap (λ list. name ∷ list) f.1)
named_first (Out name) shape kinds others order first none last =
    (name ∷ area_names kinds, ap (λ list. names_of list ++ (name ∷ area_names kinds)) (sym (none order)))
named_first (Scan found) shape kinds others order first none last =
    (area_names kinds, ap (λ list. names_of list ++ area_names kinds) (sym (last order.1)))

inputs_first : (areas : List Area) → AreInOrder (kinds_of areas) → NamedFirst (kinds_of areas) (inputs areas)
inputs_first [] order = ([], refl)
inputs_first (area ∷ areas) order =
    named_first area.kind area.shape (kinds_of areas) (inputs areas) order (inputs_first areas) (no_inputs_in_outs areas)
    (no_inputs_in_scans 1 areas)

front_differs : (front behind : List (List ℕ)) → AllPairs (λ one other. one ≢ other) (front ++ behind)
    → AllPairs (λ one other. one ≢ other) front
front_differs front behind all = λ i j d before within.
    let first : i < length front = omega (arith, before, within) in
    rw (get_or_append_left front behind d i first, get_or_append_left front behind d j within)
    at (all i j d before (omega (arith, within, length-append front behind)))

pub inputs_differ : (areas : List Area) → AreAreas areas → AllPairs (λ one other. one ≢ other) (map (λ array. array.name) (inputs areas))
inputs_differ areas are =
    let first = inputs_first areas are.in_order in
    front_differs (names_of (inputs areas)) first.0 (subst (λ list. AllPairs (λ one other. one ≢ other) list) first.1 are.differ)

-- each area ends before the block does
pub ends_within : (start limit : ℕ) (areas : List Area) → ArePacked start areas → start + sum_by (λ area. total area.shape) areas ≤ limit
    → All (λ area. area.start + total area.shape ≤ limit) areas
ends_within start limit [] packed room = All-nil (λ area. area.start + total area.shape ≤ limit)
ends_within start limit (area ∷ areas) packed room =
    let whole = sum_by-cons (λ area. total area.shape) area areas in
    All-cons (λ area. area.start + total area.shape ≤ limit) area areas (omega (arith, packed.0, whole))
    (ends_within (start + total area.shape) limit areas packed.1 (omega (arith, whole)))
