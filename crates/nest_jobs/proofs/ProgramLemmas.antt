-- What a nest asks of its form holds of each job's form.
use Rattle.std.specs.Prelude.{◌≡◌, ℕ, ◌<◌, true, List, [], All, map, slice_get}
use Rattle.std.specs.List.{AllByRecursion, fold}
use Rattle.std.specs.declared.option.Option.TheVariants.{Some}
use Rattle.std.proofs.Common.{ap, sym, subst, ◌∙◌}
use Rattle.std.proofs.lemmas.List.Elements.{recursion_from_All}
use Rattle.shapes_core.specs.Shape.{IsShape, total}
use Rattle.moa_tree.specs.Denotation.{Store as Lists}
use Rattle.moa_tree.specs.Expr.{Item}
use Rattle.moa_tree.specs.ShapeOf.{Shapes, shape_of}
use Rattle.shape_check.specs.Jobs.{TreeJob, jobs}
use Rattle.shape_check.specs.Layout.{areas, shapes_after}
use Rattle.normal_form.specs.Forms.{Normal}
use Rattle.normal_form.specs.Kept.{IsKept, job_variables}
use Rattle.psi_rules.specs.Agrees.{AreFormsOf, IsFormOf}
use Rattle.psi_rules.specs.Areas.{Given, given, store}
use Rattle.psi_rules.specs.Jobs.{forms}
use Rattle.psi_rules.specs.Loads.{LoadsFrom}
use Rattle.stride_form.specs.Operational.{operational}
use Rattle.nest_build.specs.Gives.{IsBuildable}
use Rattle.nest_build.specs.Parts.{is_straight}
use Rattle.nest_jobs.specs.BlockLaws.{BlockLaws}
use Rattle.nest_jobs.specs.Outputs.{array_of, dues}
use Rattle.nest_jobs.specs.Plain.{ArePlain}
use Rattle.nest_jobs.proofs.BuildLemmas.{BelowLaw, OffsetLaw, each-reached, other-areas, small-entries, whole-box, whole-index}
use Rattle.nest_jobs.proofs.ListLemmas.{each-at, mapped-at, mapped-same, zip-at}
use Rattle.nest_jobs.proofs.OutputLemmas.{arrays-due, job-due}
use Rattle.nest_jobs.proofs.ShapeLemmas.{AreShapes, IsShaped, dues-shaped, shape_at}

-- the names of an accepted program have shapes
pub all-shapes : (items : List Item) (shapes : Shapes) → shapes ≡ fold shapes_after [] items → All (λ entry. IsShape entry.1) shapes
    → AreShapes (fold shapes_after [] items)
all-shapes items shapes same each = subst AreShapes same (recursion_from_All (λ entry. IsShape entry.1) shapes each)

-- a form of this area and shape, which keeps what forms keep
buildable : OffsetLaw → BelowLaw → (inputs : Lists) (items : List Item) (own : ℕ) (array : Given) (form : Normal)
    → is_straight (operational form) ≡ true → IsKept own (job_variables array.shape) form
    → LoadsFrom (map (λ area. area.shape) (areas items)) form → IsFormOf (store inputs items) (Some form) array
    → AllByRecursion (λ n. 0 < n) array.shape → IsShape array.shape
    → slice_get (map (λ area. area.shape) (areas items)) own ≡ Some array.shape
    → IsBuildable (areas items) own array.shape (map (λ n. (0, n)) array.shape) (operational form)
buildable offset below inputs items own array form straight kept loads gives some shaped there =
    let found = mapped-at (λ area. area.shape) (areas items) own array.shape there in
    record {
      straight = straight;
      area = found.0;
      there = found.1;
      shaped = found.2;
      within = shaped;
      box = whole-box array.shape some;
      small = small-entries own (job_variables array.shape) form kept;
      others = other-areas own (job_variables array.shape) form kept;
      reached = λ index inside.
          each-reached offset below (areas items) index form loads (gives.1 index (whole-index index array.shape inside)).fine;
    }

pub form-buildable : BlockLaws → OffsetLaw → BelowLaw → ((shape : List ℕ) → 0 < total shape → AllByRecursion (λ n. 0 < n) shape)
    → (inputs : Lists) (items : List Item) (shapes : Shapes) (number : ℕ) (tree_job : TreeJob) (array : Given) (form : Normal)
    → ArePlain items
    → is_straight (operational form) ≡ true → IsKept tree_job.job.area (job_variables array.shape) form
    → LoadsFrom (map (λ area. area.shape) (areas items)) form → AreFormsOf (store inputs items) (forms items) (given inputs items)
    → shapes ≡ fold shapes_after [] items → All (λ entry. IsShape entry.1) shapes
    → slice_get (jobs items) number ≡ Some tree_job → slice_get (given inputs items) number ≡ Some array
    → slice_get (forms items) number ≡ Some (Some form)
    → IsBuildable (areas items) tree_job.job.area array.shape (map (λ n. (0, n)) array.shape) (operational form)
form-buildable block offset below full inputs items shapes number tree_job array form plain straight kept loads gives known each job at made =
    let found = job-due inputs items number tree_job plain job in
    let due = found.0 in
    let shape = each-at (IsShaped (map (λ area. area.shape) (areas items))) (dues inputs items)
    (dues-shaped block inputs items (all-shapes items shapes known each)) number due found.1 in
    let same = mapped-same array_of (dues inputs items) (given inputs items) number due array (arrays-due inputs items plain) found.1 at in
    let given = zip-at (IsFormOf (store inputs items)) (forms items) (given inputs items) gives number (Some form) array made at in
    let extents : shape_at due ≡ array.shape = sym (ap (λ s. shape_of s due.of) shape.alike.0) ∙ ap (λ g. g.shape) same in
    buildable offset below inputs items tree_job.job.area array form straight kept loads given (full array.shape given.0)
    (subst IsShape extents shape.shaped)
    (subst (λ own. slice_get (map (λ area. area.shape) (areas items)) own ≡ Some array.shape) (ap (λ j. j.job.area) found.2)
    (shape.there ∙ ap (λ s. Some s) extents))
