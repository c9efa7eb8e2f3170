-- What a nest is to do: give the values of its job on the region, change no other word, and stay inside the areas. This project's own.
use Rattle.std.specs.Prelude.{◌≡◌, ◌≢◌, ℕ, ◌+◌, ◌<◌, ◌≤◌, ℤ, pos, List, ◌++◌, length, slice_get, slice_index_or, Some, true}
use Rattle.std.specs.List.{AllByRecursion}
use Rattle.shapes_core.specs.Limits.{greatest_extent}
use Rattle.shapes_core.specs.declared.area.Area.{Area}
use Rattle.shapes_core.specs.Gamma.{gamma}
use Rattle.shapes_core.specs.Shape.{IsShape, total}
use Rattle.normal_form.specs.Assignments.{assigned}
use Rattle.normal_form.specs.Kept.{IsBox, IsEntry, IsInBox, job_variables}
use Rattle.normal_form.specs.Meaning.{Store, meaning}
use Rattle.stride_form.specs.declared.access.Access.{Access}
use Rattle.stride_form.specs.Accesses.{access_value, place_of}
use Rattle.stride_form.specs.Operational.{Operational}
use Rattle.loop_ir.specs.Inside.{IsInside, IsWordOf}
use Rattle.loop_ir.specs.Running.{Access as Touch}
use Rattle.nest_build.specs.Nests.{start_of}
use Rattle.nest_build.specs.Parts.{accesses, entries, is_straight}

-- ---- what is asked

-- each area lies in so many words, and no word is of two areas
pub record AreLaidOut (areas : List Area) (words : ℕ) : Type 0 where
  pub within : (number : ℕ) (area : Area) → slice_get areas number ≡ Some area → area.start + total area.shape ≤ words
  pub apart : (number other : ℕ) (word : ℤ) → IsWordOf areas number word → IsWordOf areas other word → number ≡ other

-- the place of an access is one of its area, at an index vector of the job
pub record IsReachedWithin (areas : List Area) (index : List ℕ) (access : Access) : Type 0 where
  pub area : Area
  pub there : slice_get areas access.area ≡ Some area
  pub place : ℕ
  pub same : place_of (assigned index) access ≡ pos place
  pub below : place < total area.shape

-- a straight form of an output's job on a region of its shape, which takes the numbers of small entries, reads no element of the job's own area,
-- and stays in the areas that it reads
pub record IsBuildable (areas : List Area) (own : ℕ) (shape : List ℕ) (region : List (ℕ × ℕ)) (form : Operational) : Type 0 where
  pub straight : is_straight form ≡ true
  pub area : Area
  pub there : slice_get areas own ≡ Some area
  pub shaped : area.shape ≡ shape
  pub within : IsShape shape
  pub box : IsBox region shape
  pub small : AllByRecursion (λ entry. IsEntry (job_variables shape) entry greatest_extent) (entries form)
  pub others : AllByRecursion (λ access. access.area ≢ own) (accesses form)
  pub reached : (index : List ℕ) → IsInBox index region → AllByRecursion (IsReachedWithin areas index) (accesses form)

-- ---- what is given

-- the areas that words hold
abbrev pub store_of : List Area → List ℤ → Store
store_of areas words area place = slice_index_or words (start_of areas area + place) (pos 0)

-- the job's values stand at the elements of its region, and every other word is as it was
pub record Gives (areas : List Area) (own : ℕ) (shape : List ℕ) (region : List (ℕ × ℕ)) (form : Operational) (before after : List ℤ) : Type 0 where
  pub sized : length after ≡ length before
  pub values : (index : List ℕ) → IsInBox index region
      → slice_index_or after (start_of areas own + gamma index shape) (pos 0) ≡ meaning (access_value (store_of areas before)) (assigned index) form
  pub others : (word : ℕ) → ((index : List ℕ) → IsInBox index region → word ≢ start_of areas own + gamma index shape)
      → slice_index_or after word (pos 0) ≡ slice_index_or before word (pos 0)

-- the accesses behind those that were made before are inside their areas
pub record AddsInside (areas : List Area) (before after : List Touch) : Type 0 where
  pub more : List Touch
  pub same : after ≡ more ++ before
  pub inside : AllByRecursion (IsInside areas) more
