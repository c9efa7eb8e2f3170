-- The nests of jobs and their homes, one after another.
use Rattle.std.proofs.Common.{◌≡◌, ℕ, zero, suc, ◌+◌, ◌≤◌, ◌<◌, List, [], ◌∷◌, ◌++◌, length, map, take, get_or, refl, ap, sym, ◌∙◌, subst}
use Rattle.std.proofs.Common.{arith, None, Some}
use Rattle.std.specs.Prelude.{IfOk, Option, Result, slice_get}
use Rattle.std.specs.List.{AllByRecursion, AllZip}
use Rattle.std.specs.Option.{option_map}
use Rattle.std.proofs.lemmas.List.{length-map, map-append, take_all, take_more}
use Rattle.std.proofs.lemmas.Option.{get_or_from_slice_get, none-some, same_Some, slice_get-map, slice_get_within}
use Rattle.std.proofs.lemmas.Result.{IfOk-weaker}
use Rattle.shapes_core.specs.declared.area.Area.{Area}
use Rattle.moa_tree.specs.declared.tree.Job.{Job}
use Rattle.moa_tree.specs.Pools.{walk}
use Rattle.shape_check.specs.Jobs.{TreeJob, jobs}
use Rattle.shape_check.specs.Judged.{items_in}
use Rattle.shape_check.specs.Kept.{Checking, IsChecked, pooled}
use Rattle.shape_check.specs.Layout.{areas as areas_of}
use Rattle.normal_form.specs.Forms.{Normal}
use Rattle.normal_form.specs.Kept.{Parts, form_in}
use Rattle.psi_rules.specs.Jobs.{forms}
use Rattle.psi_rules.specs.Reduced.{IsReduced}
use Rattle.psi_rules.specs.Scopes.{job_shapes}
use Rattle.stride_form.specs.Operational.{Operational}
use Rattle.stride_form.specs.Rules.{operational_on}
use Rattle.nest_build.specs.Nests.{nest_of as built}
use Rattle.nest_jobs.specs.Leads.{nest_at, nests, nests_of}
use Rattle.loop_ir.specs.declared.step.Step.{Step}
use Rattle.loop_ir.specs.Pool.{tree}
use Rattle.loop_ir.specs.Steps.{Steps, End}
use Rattle.register_map.specs.Homes.{Given}
use Rattle.psi_compile.specs.Assigned.{AreAssigned, IsAssigned}

-- what a mapped element comes from
mapped-from : {X Y : Type 0} (f : X → Y) (o : Option X) (y : Y) → option_map f o ≡ Some y → (x : X) × (o ≡ Some x) × (f x ≡ y)
mapped-from f None y e = absurd (none-some y e)
mapped-from f (Some x) y e = (x, refl, same_Some (f x) y e)

-- ---- the nest of a job

nest-there : (areas : List Area) (jobs : List TreeJob) (shapes : List (List ℕ)) (forms : List (Option Normal)) (k : ℕ)
    (job : TreeJob) (shape : List ℕ) (form : Option Normal)
    → slice_get jobs k ≡ Some job → slice_get shapes k ≡ Some shape → slice_get forms k ≡ Some form
    → slice_get (nests_of areas jobs shapes forms) k ≡ Some (nest_at areas job.job.area shape form)
nest-there areas [] shapes forms k job shape form p q r = absurd (none-some job p)
nest-there areas (j ∷ jobs) [] forms k job shape form p q r = absurd (none-some shape q)
nest-there areas (j ∷ jobs) (s ∷ shapes) [] k job shape form p q r = absurd (none-some form r)
nest-there areas (j ∷ jobs) (s ∷ shapes) (f ∷ forms) zero job shape form p q r =
    ap (λ (one : TreeJob). Some (nest_at areas one.job.area s f)) (same_Some j job p)
    ∙ ap (λ one. Some (nest_at areas job.job.area one f)) (same_Some s shape q)
    ∙ ap (λ one. Some (nest_at areas job.job.area shape one)) (same_Some f form r)
nest-there areas (j ∷ jobs) (s ∷ shapes) (f ∷ forms) (suc k) job shape form p q r =
    nest-there areas jobs shapes forms k job shape form p q r

-- what is built of an operational form, if there is one
pub built-for : {E : Type 0} (r : Result (List (List Step)) E) (areas : List Area) (own : ℕ) (shape : List ℕ) (region : List (ℕ × ℕ))
    (o : Option Operational)
    (form : Option Normal) → region ≡ map (λ n. (0, n)) shape → o ≡ option_map (operational_on region) form
    → ((of : Operational) → o ≡ Some of → IfOk r (λ nest. tree nest ≡ built areas own shape region of))
    → (o ≡ None → IfOk r (λ nest. tree nest ≡ End)) → IfOk r (λ nest. tree nest ≡ nest_at areas own shape form)
built-for r areas own shape region o None whole same straight empty = empty same
built-for r areas own shape region o (Some form) whole same straight empty =
    IfOk-weaker r (λ nest. tree nest ≡ built areas own shape region (operational_on region form))
    (λ nest. tree nest ≡ nest_at areas own shape (Some form))
    (λ nest e. e ∙ ap (λ (box : List (ℕ × ℕ)). built areas own shape box (operational_on box form)) whole)
    (straight (operational_on region form) same)

-- it is the nest of the job of this number
pub nest-of-job : (checking : Checking) (number : ℕ) (parts : Parts) → IsChecked checking → IsReduced checking number parts
    → (areas : List Area) → areas ≡ checking.areas → (own : ℕ) → own ≡ parts.job.area → (shape : List ℕ) → shape ≡ parts.shape
    → (nest : Steps)
    → nest ≡ nest_at areas own shape (form_in parts.terms) → slice_get (nests (items_in checking.pools)) number ≡ Some nest
nest-of-job checking number parts checked reduced areas laid own owned shape shaped nest e =
    let items = items_in checking.pools in
    let nodes = walk checking.pools in
    let form = form_in parts.terms in
    let there : option_map (pooled nodes) (slice_get (jobs items) number) ≡ Some parts.job =
    sym (slice_get-map (pooled nodes) (jobs items) number) ∙ ap (λ list. slice_get list number) (sym checked.jobs_in_order) ∙ reduced.job in
    let from = mapped-from (pooled nodes) (slice_get (jobs items) number) parts.job there in
    let area : from.0.job.area ≡ own = ap (λ (job : Job). job.area) from.2 ∙ sym owned in
    nest-there (areas_of items) (jobs items) (job_shapes items) (forms items) number
    from.0 parts.shape form from.1 reduced.shape reduced.form
    ∙ ap (λ n. Some (nest_at (areas_of items) n parts.shape form)) area
    ∙ ap (λ s. Some (nest_at (areas_of items) own s form)) (sym shaped)
    ∙ ap (λ a. Some (nest_at a own shape form)) (sym (laid ∙ checked.laid_out))
    ∙ ap (λ (steps : Steps). Some steps) (sym e)

-- ---- all nests

take-next : {X : Type 0} (xs : List X) (k : ℕ) (x : X) → slice_get xs k ≡ Some x → take (k + 1) xs ≡ take k xs ++ x ∷ []
take-next xs k x e =
    take_more xs k x (slice_get_within xs k x e) ∙ ap (λ y. take k xs ++ y ∷ []) (get_or_from_slice_get xs k x x e)

pub one-more : {X Y : Type 0} (f : X → Y) (made more : List X) (x : X) (all : List Y) (k : ℕ) → map f made ≡ take k all
    → more ≡ made ++ x ∷ []
    → slice_get all k ≡ Some (f x) → map f more ≡ take (k + 1) all
one-more f made more x all k before added there =
    ap (map f) added ∙ map-append f made (x ∷ []) ∙ ap (λ l. l ++ f x ∷ []) before ∙ sym (take-next all k (f x) there)

short : (areas : List Area) (jobs : List TreeJob) (shapes : List (List ℕ)) (forms : List (Option Normal))
    → length (nests_of areas jobs shapes forms) ≤ length jobs
short areas [] shapes forms = omega arith
short areas (j ∷ jobs) [] forms = omega arith
short areas (j ∷ jobs) (s ∷ shapes) [] = omega arith
short areas (j ∷ jobs) (s ∷ shapes) (f ∷ forms) = omega (arith, short areas jobs shapes forms)

pub all-made : (checking : Checking) (count : ℕ) → IsChecked checking → length checking.jobs ≤ count
    → take count (nests (items_in checking.pools)) ≡ nests (items_in checking.pools)
all-made checking count checked all =
    let items = items_in checking.pools in
    let long : length checking.jobs ≡ length (jobs items) =
    ap length checked.jobs_in_order ∙ length-map (jobs items) (pooled (walk checking.pools)) in
    take_all count (nests items) (omega (arith, long, short (areas_of items) (jobs items) (job_shapes items) (forms items), all))

-- ---- homes

zip-more : {X Y : Type 0} (P : X → Y → Type 0) (xs : List X) (ys : List Y) (x : X) (y : Y) → AllZip P xs ys → P x y
    → AllZip P (xs ++ x ∷ []) (ys ++ y ∷ [])
zip-more P [] [] x y h p = (p, tt)
zip-more P (a ∷ xs) [] x y h p = elim h [ ]
zip-more P [] (b ∷ ys) x y h p = elim h [ ]
zip-more P (a ∷ xs) (b ∷ ys) x y h p = (h.0, zip-more P xs ys x y h.1 p)

pub zip-length : {X Y : Type 0} (P : X → Y → Type 0) (xs : List X) (ys : List Y) → AllZip P xs ys → length xs ≡ length ys
zip-length P [] [] h = refl
zip-length P (a ∷ xs) [] h = elim h [ ]
zip-length P [] (b ∷ ys) h = elim h [ ]
zip-length P (a ∷ xs) (b ∷ ys) h = ap suc (zip-length P xs ys h.1)

-- what holds of each tree holds of the tree at a place
pub tree-at : (P : Steps → Type 0) (items : List (List (List Step))) (i : ℕ) (d : List (List Step)) → i < length items
    → AllByRecursion P (map tree items) → P (tree (get_or items i d))
tree-at P [] i d within h = absurd (omega (arith, within))
tree-at P (nest ∷ items) zero d within h = h.0
tree-at P (nest ∷ items) (suc i) d within h = tree-at P items i d (omega (arith, within)) h.1

-- homes of one nest more
pub home-more : (items : List (List (List Step))) (i : ℕ) (nest : List (List Step)) → nest ≡ get_or items i nest → i < length items
    → (made more : List Given) (given : Given) → AreAssigned (map tree (take i items)) made → more ≡ made ++ given ∷ []
    → IsAssigned (tree nest) given → AreAssigned (map tree (take (i + 1) items)) more
home-more items i nest is within made more given before added assigned =
    let nests-here : map tree (take (i + 1) items) ≡ map tree (take i items) ++ tree nest ∷ [] =
    ap (map tree) (take_more items i nest within ∙ ap (λ n. take i items ++ n ∷ []) (sym is))
    ∙ map-append tree (take i items) (nest ∷ []) in
    subst (λ l. AreAssigned (map tree (take (i + 1) items)) l) (sym added)
    (subst (λ l. AreAssigned l (made ++ given ∷ [])) (sym nests-here)
    (zip-more IsAssigned (map tree (take i items)) made (tree nest) given before assigned))
