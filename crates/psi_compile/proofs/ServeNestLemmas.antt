-- The nests of a program one after another: with homes they do the same, and they write no area of an input.
use Rattle.std.specs.Prelude.{◌≡◌, ℕ, suc, ◌+◌, ◌≤◌, List, [], ◌∷◌, ◌++◌, length, map, reverse, None, Some, Option}
use Rattle.std.specs.List.{AllByRecursion, zip}
use Rattle.std.proofs.Common.{refl, ap, sym, ◌∙◌, arith}
use Rattle.std.proofs.lemmas.List.{append_assoc}
use Rattle.shapes_core.specs.declared.area.Area.{Area}
use Rattle.moa_tree.specs.Denotation.{scans_of}
use Rattle.moa_tree.specs.Expr.{Expr, Scan, Item, Input, Let, Output}
use Rattle.moa_tree.specs.Subexpressions.{subexpressions_of}
use Rattle.normal_form.specs.Forms.{Normal}
use Rattle.shape_check.specs.Jobs.{TreeJob, jobs_from, output_jobs, scan_jobs}
use Rattle.stride_form.specs.Operational.{Operational}
use Rattle.stride_form.specs.Rules.{operational_on}
use Rattle.loop_ir.specs.Running.{Access as Touch, ReadsWord, State, WritesWord, run, run_all}
use Rattle.loop_ir.specs.Steps.{Steps}
use Rattle.nest_build.specs.Bounds.{AddsOwn, IsOwnWrite}
use Rattle.nest_build.specs.Nests.{nest_of}
use Rattle.nest_jobs.specs.Leads.{nest_at, nests_of}
use Rattle.register_map.specs.Homes.{Given}
use Rattle.rv_emit.specs.Simulating.{run_each}
use Rattle.psi_compile.specs.Assigned.{AreAssigned}
use Rattle.psi_compile.proofs.ServeListLemmas.{each-append, each-follows, each-reverse}

-- ---- nests with homes

pub zip-runs : (nests : List Steps) (homes : List Given) (state : State) → AreAssigned nests homes
    → run_each (zip nests homes) state ≡ run_all nests state
zip-runs [] [] state h = refl
zip-runs [] (given ∷ homes) state h = absurd h
zip-runs (nest ∷ nests) [] state h = absurd h
zip-runs (nest ∷ nests) (given ∷ homes) state h = zip-runs nests homes (run nest state) h.1

-- ---- what is written

-- a write is of an area from this one on
abbrev pub IsLowWrite : ℕ → Touch → Type 0
IsLowWrite low (ReadsWord area word) = Unit {0}
IsLowWrite low (WritesWord area word) = low ≤ area

-- so is each access behind those that were made before
pub record AddsLow (low : ℕ) (before after : List Touch) : Type 0 where
  pub more : List Touch
  pub same : after ≡ more ++ before
  pub each : AllByRecursion (IsLowWrite low) more

low-none : (low : ℕ) (trace : List Touch) → AddsLow low trace trace
low-none low trace = record { more = []; same = refl; each = tt }

low-both : (low : ℕ) (before middle after : List Touch) → AddsLow low before middle → AddsLow low middle after → AddsLow low before after
low-both low before middle after one other = record {
  more = other.more ++ one.more;
  same = other.same ∙ ap (λ l. other.more ++ l) one.same ∙ sym (append_assoc other.more one.more before);
  each = each-append (IsLowWrite low) other.more one.more other.each one.each;
}

low-write : (low own : ℕ) → low ≤ own → (touch : Touch) → IsOwnWrite own touch → IsLowWrite low touch
low-write low own from (ReadsWord area word) h = tt
low-write low own from (WritesWord area word) h = omega (arith, from, h)

-- a nest writes its own area alone
abbrev pub WritesOwn : Type 0
WritesOwn =
    (areas : List Area) (own : ℕ) (shape : List ℕ) (region : List (ℕ × ℕ)) (form : Operational) (state : State)
    → AddsOwn own state.trace (run (nest_of areas own shape region form) state).trace

low-one : WritesOwn → (low : ℕ) (areas : List Area) (own : ℕ) (shape : List ℕ) (form : Option Normal) (state : State) → low ≤ own
    → AddsLow low state.trace (run (nest_at areas own shape form) state).trace
low-one law low areas own shape None state from = low-none low state.trace
low-one law low areas own shape (Some form) state from =
    let region : List (ℕ × ℕ) = map (λ n. (0, n)) shape in
    let h = law areas own shape region (operational_on region form) state in
    record { more = h.more; same = h.same; each = each-follows (IsOwnWrite own) (IsLowWrite low) (low-write low own from) h.more h.each }

abbrev pub IsFrom : ℕ → TreeJob → Type 0
IsFrom low tree_job = low ≤ tree_job.job.area

pub low-all : WritesOwn → (low : ℕ) (areas : List Area) (jobs : List TreeJob) (shapes : List (List ℕ)) (forms : List (Option Normal))
    (state : State) → AllByRecursion (IsFrom low) jobs → AddsLow low state.trace (run_all (nests_of areas jobs shapes forms) state).trace
low-all law low areas [] shapes forms state each = low-none low state.trace
low-all law low areas (job ∷ jobs) [] forms state each = low-none low state.trace
low-all law low areas (job ∷ jobs) (shape ∷ shapes) [] state each = low-none low state.trace
low-all law low areas (job ∷ jobs) (shape ∷ shapes) (form ∷ forms) state each =
    let middle = run (nest_at areas job.job.area shape form) state in
    low-both low state.trace middle.trace (run_all (nests_of areas jobs shapes forms) middle).trace
    (low-one law low areas job.job.area shape form state each.0) (low-all law low areas jobs shapes forms middle each.1)

-- ---- the areas of jobs

scan-low : (low area node : ℕ) (exprs : List Expr) → low ≤ area → AllByRecursion (IsFrom low) (scan_jobs area node exprs)
scan-low low area node [] from = tt
scan-low low area node (Scan fold of ∷ others) from = (from, scan-low low (suc area) (suc node) others (omega (arith, from)))
scan-low low area node (_ ∷ others) from = scan-low low area (suc node) others from

output-low : (low area node : ℕ) (item : Item) → low ≤ area → AllByRecursion (IsFrom low) (output_jobs area node item)
output-low low area node (Input name extents) from = tt
output-low low area node (Let name of) from = tt
output-low low area node (Output name of) from = (from, tt)

pub jobs-low : (low output scan node : ℕ) (items : List Item) → low ≤ output → low ≤ scan
    → AllByRecursion (IsFrom low) (jobs_from output scan node items)
jobs-low low output scan node [] o s = tt
jobs-low low output scan node (item ∷ items) o s =
    let scans = scan_jobs scan node (subexpressions_of item) in
    let outputs = output_jobs output node item in
    let o' : low ≤ output + length outputs = omega (arith, o) in
    let s' : low ≤ scan + length (scans_of item) = omega (arith, s) in
    each-append (IsFrom low) (reverse scans ++ outputs)
    (jobs_from (output + length outputs) (scan + length (scans_of item)) (node + length (subexpressions_of item)) items)
    (each-append (IsFrom low) (reverse scans) outputs (each-reverse (IsFrom low) scans (scan-low low scan node (subexpressions_of item) s))
    (output-low low output node item o))
    (jobs-low low (output + length outputs) (scan + length (scans_of item)) (node + length (subexpressions_of item)) items o' s')
