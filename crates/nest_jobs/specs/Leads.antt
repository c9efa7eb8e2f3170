-- To what the nests of a program's jobs lead, one after another. This project's own.
use Rattle.std.specs.Prelude.{◌≡◌, ℕ, ◌+◌, ℤ, pos, List, [], ◌∷◌, length, map, slice_get, slice_index_or}
use Rattle.std.specs.List.{range_with_len}
use Rattle.std.specs.declared.option.Option.{Option}
use Rattle.std.specs.declared.option.Option.TheVariants.{None, Some}
use Rattle.shapes_core.specs.declared.area.Area.{Area}
use Rattle.shapes_core.specs.declared.area.AreaKind.TheVariants as area
use Rattle.shapes_core.specs.Shape.{total}
use Rattle.moa_tree.specs.Denotation.{Store as Lists}
use Rattle.moa_tree.specs.Expr.{Item}
use Rattle.moa_tree.specs.ShapeOf.{beside}
use Rattle.shape_check.specs.Jobs.{TreeJob, jobs}
use Rattle.shape_check.specs.Layout.{areas}
use Rattle.normal_form.specs.Forms.{Normal}
use Rattle.psi_rules.specs.Areas.{area_lists}
use Rattle.psi_rules.specs.Jobs.{forms}
use Rattle.psi_rules.specs.Scopes.{job_shapes}
use Rattle.stride_form.specs.Rules.{operational_on}
use Rattle.loop_ir.specs.Running.{State}
use Rattle.loop_ir.specs.Steps.{Steps, End}
use Rattle.nest_build.specs.Gives.{AddsInside}
use Rattle.nest_build.specs.Nests.{nest_of}

-- ---- nests

-- the nest of a job in this area, with an array of this shape: on all index vectors of the array, and none where the job has no form
abbrev pub nest_at : List Area → ℕ → List ℕ → Option Normal → Steps
nest_at areas own shape None = End
nest_at areas own shape (Some form) =
    let region : List (ℕ × ℕ) = map (λ n. (0, n)) shape in
    nest_of areas own shape region (operational_on region form)

-- those of these jobs, with the shapes of their arrays and their forms
abbrev pub nests_of : List Area → List TreeJob → List (List ℕ) → List (Option Normal) → List Steps
nests_of areas [] shapes forms = []
nests_of areas (tree_job ∷ jobs) [] forms = []
nests_of areas (tree_job ∷ jobs) (shape ∷ shapes) [] = []
nests_of areas (tree_job ∷ jobs) (shape ∷ shapes) (form ∷ forms) =
    nest_at areas tree_job.job.area shape form ∷ nests_of areas jobs shapes forms

-- those of all jobs of a program, in order
abbrev pub nests : List Item → List Steps
nests items = nests_of (areas items) (jobs items) (job_shapes items) (forms items)

-- ---- words

-- the words of an area, in order
abbrev pub area_values : List ℤ → Area → List ℤ
area_values words area = map (λ k. slice_index_or words (area.start + k) (pos 0)) (range_with_len 0 (total area.shape))

-- the area of each input holds its list
abbrev pub HoldInputs : Lists → List Item → List ℤ → Type 0
HoldInputs inputs items words =
    (number : ℕ) (array : Area) (name : List ℕ) → slice_get (areas items) number ≡ Some array → array.kind ≡ area.In name
    → area_values words array ≡ beside [] inputs name

-- each area holds its list: of an input, of what an output denotes, of a scan
abbrev pub HoldLists : Lists → List Item → List ℤ → Type 0
HoldLists inputs items words =
    (number : ℕ) (area : Area) → slice_get (areas items) number ≡ Some area
    → area_values words area ≡ slice_index_or (area_lists inputs items) number []

-- in as many words as before each area holds its list, and what was read and written was inside the areas
pub record Leads (inputs : Lists) (items : List Item) (before after : State) : Type 0 where
  pub sized : length after.words ≡ length before.words
  pub holds : HoldLists inputs items after.words
  pub inside : AddsInside (areas items) before.trace after.trace
