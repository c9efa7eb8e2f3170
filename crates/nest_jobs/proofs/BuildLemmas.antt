-- What a nest asks of its form follows from what the form of a job keeps, loads and reaches.
use Rattle.std.specs.Prelude.{◌≡◌, ◌≢◌, ℕ, ◌<◌, pos, List, [], ◌∷◌, map, slice_get, unsigned_abs}
use Rattle.std.specs.List.{AllByRecursion}
use Rattle.std.specs.declared.option.Option.TheVariants.{Some}
use Rattle.std.proofs.Common.{ap, arith, le_refl}
use Rattle.shapes_core.specs.Limits.{greatest_extent}
use Rattle.shapes_core.specs.declared.area.Area.{Area}
use Rattle.shapes_core.specs.Gamma.{IsIndex, gamma}
use Rattle.shapes_core.specs.Shape.{total}
use Rattle.normal_form.specs.Assignments.{Assignment, assigned, places}
use Rattle.normal_form.specs.Forms.{Element, Lit, Index, Get, Un, Bin, Case, Fold, Let, Normal}
use Rattle.normal_form.specs.Kept.{IsBox, IsEntry, IsInBox, IsKept}
use Rattle.normal_form.specs.Meaning.{Reached}
use Rattle.normal_form.specs.Stands.{AreIndex, IsFine}
use Rattle.psi_rules.specs.Loads.{LoadsFrom}
use Rattle.stride_form.specs.Accesses.{access_of, place_of}
use Rattle.stride_form.specs.Operational.{operational}
use Rattle.nest_build.specs.Gives.{IsReachedWithin}
use Rattle.nest_build.specs.Parts.{accesses, entries}
use Rattle.nest_jobs.proofs.ListLemmas.{each-append, mapped-at}

-- ---- the region

-- where no extent is 0, the whole of a shape is a box
pub whole-box : (shape : List ℕ) → AllByRecursion (λ n. 0 < n) shape → IsBox (map (λ n. (0, n)) shape) shape
whole-box [] h = tt
whole-box (n ∷ shape) h = ((h.0, le_refl n), whole-box shape h.1)

pub whole-index : (index shape : List ℕ) → IsInBox index (map (λ n. (0, n)) shape) → IsIndex index shape
whole-index [] [] h = tt
whole-index [] (n ∷ shape) h = absurd h
whole-index (k ∷ index) [] h = absurd h
whole-index (k ∷ index) (n ∷ shape) h = (h.0.1, whole-index index shape h.1)

pub index-whole : (index shape : List ℕ) → IsIndex index shape → IsInBox index (map (λ n. (0, n)) shape)
index-whole [] [] h = tt
index-whole [] (n ∷ shape) h = absurd h
index-whole (k ∷ index) [] h = absurd h
index-whole (k ∷ index) (n ∷ shape) h = ((omega arith, h.0), index-whole index shape h.1)

-- ---- what is kept

pub small-entries : (own : ℕ) (known : List ℕ) (form : Normal) → IsKept own known form
    → AllByRecursion (λ entry. IsEntry known entry greatest_extent) (entries (operational form))
small-entries own known (Lit value) h = tt
small-entries own known (Index entry) h = (h, tt)
small-entries own known (Get load) h = tt
small-entries own known (Un op of) h = small-entries own known of h
small-entries own known (Bin op left right) h =
    each-append (λ entry. IsEntry known entry greatest_extent) (entries (operational left)) (entries (operational right))
    (small-entries own known left h.0) (small-entries own known right h.1)
small-entries own known (Case entry below first second) h = tt
small-entries own known (Fold op var low high of) h = tt
small-entries own known (Let var bind of) h = tt

pub other-areas : (own : ℕ) (known : List ℕ) (form : Normal) → IsKept own known form
    → AllByRecursion (λ access. access.area ≢ own) (accesses (operational form))
other-areas own known (Lit value) h = tt
other-areas own known (Index entry) h = tt
other-areas own known (Get load) h = (h.0, tt)
other-areas own known (Un op of) h = other-areas own known of h
other-areas own known (Bin op left right) h =
    each-append (λ access. access.area ≢ own) (accesses (operational left)) (accesses (operational right))
    (other-areas own known left h.0) (other-areas own known right h.1)
other-areas own known (Case entry below first second) h = tt
other-areas own known (Fold op var low high of) h = tt
other-areas own known (Let var bind of) h = tt

-- ---- what is reached

-- the place of an access is the offset of its load's entries, below the total of its area's shape
abbrev pub OffsetLaw : Type 0
OffsetLaw = (m : Assignment) (element : Element) → AreIndex m element.at element.shape
    → place_of m (access_of element) ≡ pos (gamma (places m element.at) element.shape)

abbrev pub BelowLaw : Type 0
BelowLaw = (m : Assignment) (element : Element) → AreIndex m element.at element.shape
    → unsigned_abs (place_of m (access_of element)) < total element.shape

module _ (offset : OffsetLaw) (within : BelowLaw) (areas : List Area) (index : List ℕ) where
  load-reached : (load : Element) → AreIndex (assigned index) load.at load.shape
      → slice_get (map (λ area. area.shape) areas) load.area ≡ Some load.shape → IsReachedWithin areas index (access_of load)
  load-reached load fine stored =
      let found = mapped-at (λ area. area.shape) areas load.area load.shape stored in
      let place = gamma (places (assigned index) load.at) load.shape in
      let same = offset (assigned index) load fine in
      let below = within (assigned index) load fine in
      let at : unsigned_abs (place_of (assigned index) (access_of load)) ≡ place = ap unsigned_abs same in
      let size : total found.0.shape ≡ total load.shape = ap total found.2 in
      record {
        area = found.0;
        there = found.1;
        place = place;
        same = same;
        below = omega (arith, below, at, size);
      }

  pub each-reached : (form : Normal) → LoadsFrom (map (λ area. area.shape) areas) form → Reached IsFine (assigned index) form
      → AllByRecursion (IsReachedWithin areas index) (accesses (operational form))
  each-reached (Lit value) loads fine = tt
  each-reached (Index entry) loads fine = tt
  each-reached (Get load) loads fine = (load-reached load fine loads, tt)
  each-reached (Un op of) loads fine = each-reached of loads fine
  each-reached (Bin op left right) loads fine =
      each-append (IsReachedWithin areas index) (accesses (operational left)) (accesses (operational right))
      (each-reached left loads.0 fine.0) (each-reached right loads.1 fine.1)
  each-reached (Case entry below first second) loads fine = tt
  each-reached (Fold op var low high of) loads fine = tt
  each-reached (Let var bind of) loads fine = tt
