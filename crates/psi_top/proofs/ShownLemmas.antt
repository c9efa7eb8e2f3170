-- The lines of jobs, one after another.
use Rattle.std.proofs.Common.{◌≡◌, ℕ, zero, suc, ◌+◌, ◌≤◌, List, [], ◌∷◌, ◌++◌, length, map, min, slice_get, Option, None, Some, refl, sym, ap, ◌∙◌, arith}
use Rattle.std.proofs.lemmas.List.{length-map, take_all}
use Rattle.std.proofs.lemmas.Option.{slice_get-map}
use Rattle.std.proofs.lemmas.Slice.Zip.{length-zip}
use Rattle.std.specs.List.{zip}
use Rattle.std.specs.Option.{option_map}
use Rattle.shapes_core.specs.declared.area.Area.{Area}
use Rattle.moa_tree.specs.Pools.{walk}
use Rattle.shape_check.specs.Jobs.{TreeJob, jobs}
use Rattle.shape_check.specs.Judged.{items_in}
use Rattle.shape_check.specs.Kept.{Checking, IsChecked, pooled}
use Rattle.shape_check.specs.Layout.{areas}
use Rattle.normal_form.specs.Forms.{Normal}
use Rattle.normal_form.specs.Kept.{Parts, form_in}
use Rattle.psi_rules.specs.Jobs.{forms}
use Rattle.psi_rules.specs.Reduced.{IsReduced}
use Rattle.psi_rules.specs.Scopes.{job_shapes}
use Rattle.stride_form.specs.Operational.{Operational}
use Rattle.stride_form.specs.Rules.{operational_on}
use Rattle.psi_top.proofs.ReportLemmas.{pair-more}
use Rattle.form_text.specs.Spelling.{operational_line}
use Rattle.form_text.specs.NestSpelling.{nest_lines}
use Rattle.loop_ir.specs.Pool.{tree}
use Rattle.loop_ir.specs.declared.step.Step.{Step}
use Rattle.moa_tree.specs.declared.tree.Job.{Job}
use Rattle.nest_jobs.specs.Leads.{nests}
use Rattle.psi_top.specs.Shown.{formed, nest, nest_first, nest_rows, shown, shown_first, spelled_all, spelled_as, strided_line}
use Rattle.psi_top.specs.declared.forms.FormKind.{FormKind}
use Rattle.psi_top.specs.declared.forms.FormKind.TheVariants as kind

-- the pair of this number
pair-at : {X Y : Type 0} (xs : List X) (ys : List Y) (n : ℕ) (x : X) (y : Y)
    → slice_get xs n ≡ Some x → slice_get ys n ≡ Some y → slice_get (zip xs ys) n ≡ Some (x, y)
pair-at [] ys n x y p q = absurd (cc)
pair-at (a ∷ xs) [] n x y p q = absurd (cc)
pair-at (a ∷ xs) (b ∷ ys) zero x y p q = let one : a ≡ x = cc in let two : b ≡ y = cc in rw (one, two) refl
pair-at (a ∷ xs) (b ∷ ys) (suc n) x y p q = pair-at xs ys n x y p q

-- what a mapped element comes from
mapped-from : {X Y : Type 0} (f : X → Y) (o : Option X) (y : Y) → option_map f o ≡ Some y → (x : X) × (o ≡ Some x) × (f x ≡ y)
mapped-from f None y e = absurd (cc)
mapped-from f (Some x) y e = (x, refl, cc)

-- a line shows no node of a job
same-line : (of : FormKind) (among : List Area) (nodes : List ℕ) (tree_job : TreeJob) (shape : List ℕ) (form : Option Normal)
    → spelled_as of among tree_job.job shape form ≡ spelled_as of among (pooled nodes tree_job) shape form
same-line kind.Normal among nodes tree_job shape form = refl
same-line kind.Operational among nodes tree_job shape form = refl

-- the line of what is made of a form on the whole of its array
pub same-strided : (among : List Area) (parts : Parts) (job : Job) (shape : List ℕ) (made : Option Operational) → job ≡ parts.job
    → shape ≡ parts.shape → made ≡ option_map (operational_on parts.region) (form_in parts.terms)
    → parts.region ≡ map (λ n. (0, n)) parts.shape
    → operational_line among job shape made ≡ strided_line among parts.job parts.shape (form_in parts.terms)
same-strided among parts job shape made jobs shapes tree whole =
    ap (λ (one : Job). operational_line among one shape made) jobs
    ∙ ap (λ (extents : List ℕ). operational_line among parts.job extents made) shapes
    ∙ ap (operational_line among parts.job parts.shape)
    (tree ∙ ap (λ (region : List (ℕ × ℕ)). option_map (operational_on region) (form_in parts.terms)) whole)

-- the lines before a job, and its own
pub line-more : (of : FormKind) (checking : Checking) (number : ℕ) (parts : Parts) → IsChecked checking → IsReduced checking number parts
    → shown_first of (items_in checking.pools) (number + 1)
    ≡ shown_first of (items_in checking.pools) number ++ spelled_as of (areas (items_in checking.pools)) parts.job parts.shape (form_in parts.terms)
line-more of checking number parts checked reduced =
    let items = items_in checking.pools in
    let nodes = walk checking.pools in
    let there : option_map (pooled nodes) (slice_get (jobs items) number) ≡ Some parts.job =
    sym (slice_get-map (pooled nodes) (jobs items) number) ∙ ap (λ list. slice_get list number) (sym checked.jobs_in_order) ∙ reduced.job in
    let from = mapped-from (pooled nodes) (slice_get (jobs items) number) parts.job there in
    let form = form_in parts.terms in
    let others = zip (job_shapes items) (forms items) in
    let other : slice_get others number ≡ Some (parts.shape, form) =
    pair-at (job_shapes items) (forms items) number parts.shape form reduced.shape reduced.form in
    pair-more (λ job. spelled_as of (areas items) job.0.job job.1.0 job.1.1) (jobs items) others number from.0 (parts.shape, form) from.1 other
    ∙ ap (λ line. shown_first of items number ++ line)
    (same-line of (areas items) nodes from.0 parts.shape form ∙ ap (λ job. spelled_as of (areas items) job parts.shape form) from.2)

-- those of all jobs
pub lines-all : (of : FormKind) (checking : Checking) (count : ℕ) → IsChecked checking → length checking.jobs ≤ count
    → shown_first of (items_in checking.pools) count ≡ shown of (items_in checking.pools)
lines-all of checking count checked all =
    let items = items_in checking.pools in
    let long : length checking.jobs ≡ length (jobs items) = ap length checked.jobs_in_order ∙ length-map (jobs items) (pooled (walk checking.pools)) in
    let short : length (formed items) ≤ count = omega (arith, long, length-zip (jobs items) (zip (job_shapes items) (forms items)), all) in
    ap (spelled_all (spelled_as of) items) (take_all count (formed items) short)

-- ---- nests

-- the lines of the nests before a job, and those of its own
pub nest-more : (checking : Checking) (number : ℕ) (job : Job) (made : List (List (List Step))) (nest : List (List Step)) → IsChecked checking
    → slice_get checking.jobs number ≡ Some job → map tree made ≡ nests (items_in checking.pools) → slice_get made number ≡ Some nest
    → nest_first (items_in checking.pools) (number + 1)
    ≡ nest_first (items_in checking.pools) number ++ nest_lines (areas (items_in checking.pools)) job (tree nest)
nest-more checking number job made nest checked there all at =
    let items = items_in checking.pools in
    let nodes = walk checking.pools in
    let one : option_map (pooled nodes) (slice_get (jobs items) number) ≡ Some job =
    sym (slice_get-map (pooled nodes) (jobs items) number) ∙ ap (λ list. slice_get list number) (sym checked.jobs_in_order) ∙ there in
    let from = mapped-from (pooled nodes) (slice_get (jobs items) number) job one in
    let other : slice_get (nests items) number ≡ Some (tree nest) =
    ap (λ list. slice_get list number) (sym all) ∙ slice_get-map tree made number ∙ ap (option_map tree) at in
    pair-more (λ job. nest_lines (areas items) job.0.job job.1) (jobs items) (nests items) number from.0 (tree nest) from.1 other
    ∙ ap (λ (job : Job). nest_first items number ++ nest_lines (areas items) job (tree nest)) from.2

-- the lines of as many nests as there are of jobs and of nests are those of all
pub nests-all : (checking : Checking) (count : ℕ) (made : List (List (List Step))) → IsChecked checking
    → map tree made ≡ nests (items_in checking.pools) → min (length checking.jobs) (length made) ≤ count
    → nest_first (items_in checking.pools) count ≡ nest (items_in checking.pools)
nests-all checking count made checked all enough =
    let items = items_in checking.pools in
    let some = length-zip (jobs items) (nests items) in
    let jobs_there : length checking.jobs ≡ length (jobs items) = ap length checked.jobs_in_order ∙ length-map (jobs items) (pooled (walk checking.pools)) in
    let nests_there : length made ≡ length (nests items) = sym (length-map made tree) ∙ ap length all in
    let enough_pairs : length (zip (jobs items) (nests items)) ≤ count = grind (arith, enough, jobs_there, nests_there, some) in
    ap (nest_rows (areas items)) (take_all count (zip (jobs items) (nests items)) enough_pairs)
