-- The forms of a statement's tasks keep it, each for the area of its job.
use Rattle.std.specs.Prelude.{◌≡◌, ◌==◌, ℕ, zero, suc, ◌+◌, ◌*◌, ◌<◌, ◌≤◌, Bool, true, false, List, [], ◌∷◌, ◌++◌, length, map, if◌then◌else◌}
use Rattle.std.specs.List.{AllByRecursion, AllZip, Contains, flat_map, range_with_len, sum_by}
use Rattle.std.specs.declared.option.Option.TheVariants.{None, Some}
use Rattle.std.proofs.Common.{refl, sym, subst, arith}
use Rattle.std.proofs.Math.Nat.{mul-le-mul_right}
use Rattle.std.proofs.lemmas.Bool.{eqb-false}
use Rattle.std.proofs.lemmas.List.FromFn.{get_or-range_with_len, length-range_with_len}
use Rattle.std.proofs.lemmas.List.Sums.{sum_by-cons}
use Rattle.shapes_core.specs.Limits.{greatest_extent, greatest_size}
use Rattle.shapes_core.specs.Shape.{total}
use Rattle.moa_tree.specs.Canonical.{IsBuilt}
use Rattle.moa_tree.specs.declared.operator.Op.{Op}
use Rattle.moa_tree.specs.Expr.{Expr, Number, Use, Iota, One, Two, Psi, Take, Drop, Reverse, Rotate, Transpose, Permute, Cat, Reshape, Ravel, Outer, Inner, Reduce, Scan}
use Rattle.moa_tree.specs.Subexpressions.{if_scan, subexpressions}
use Rattle.shape_check.specs.Costs.{Prices, job_size, nodes}
use Rattle.shape_check.specs.Jobs.{TreeJob, scan_jobs}
use Rattle.normal_form.specs.Formers.{Former}
use Rattle.normal_form.specs.Cutting.{Scope, carried}
use Rattle.normal_form.specs.Keeps.{AreEarlier, AreWithin, Keeps, variables_in}
use Rattle.normal_form.specs.Kept.{IsKept, job_variables}
use Rattle.normal_form.specs.Moves.{variable, variables}
use Rattle.psi_rules.specs.Areas.{Given}
use Rattle.psi_rules.specs.Jobs.{Task, job_form, scanned}
use Rattle.psi_rules.specs.Keeping.{AreKeptNamed, HasRoom, IsKeptForm, KeepExpressions}
use Rattle.psi_rules.specs.Operands.{IsAccepted, OperandsMove}
use Rattle.psi_rules.specs.Rules.{Names, form, shape_in, shapes_of}
use Rattle.psi_rules.proofs.ListLemmas.{each-append, each-follows}
use Rattle.psi_rules.proofs.RoomLemmas.{resting, resting-carries, resting-variables, roomy-agrees}

-- ---- the variables of a job

variables-earlier : (start count next : ℕ) → start + count ≤ next → AreEarlier next (resting (range_with_len start count))
variables-earlier start zero next h = tt
variables-earlier start (suc count) next h = (omega (arith, h), variables-earlier (start + 1) count next (omega (arith, h)))

pub variables-within : (scope : Scope) (start : ℕ) (shape : List ℕ) → ((var : ℕ) → carried scope var ≡ 0)
    → ((k : ℕ) → k < length shape → Contains (variables_in scope) (start + k))
    → AllByRecursion (λ n. 0 < n) shape → AreWithin 0 scope (map variable (range_with_len start (length shape))) shape
variables-within scope start [] rests each some = tt
variables-within scope start (n ∷ shape) rests each some =
    let known = variables_in scope in
    let rest = rests start in
    let here : start + 0 ≡ start = omega arith in
    let next = λ (k : ℕ) (below : k < length shape). let e : start + suc k ≡ start + 1 + k = omega arith in
    subst (Contains known) e (each (suc k) (omega (arith, below))) in
    ((some.0, subst (Contains known) here (each 0 (omega arith)), omega (arith, rest)), variables-within scope (start + 1) shape rests next some.1)

pub in-range : (count k : ℕ) → k < count → Contains (range_with_len 0 count) (0 + k)
in-range count k below = (k, omega (arith, below, length-range_with_len 0 count), get_or-range_with_len 0 count k (0 + k) below)

-- the variables of a job are entries of its shape, which carry nothing
pub job-within : (shape : List ℕ) → AllByRecursion (λ n. 0 < n) shape → AreWithin 0 (resting (job_variables shape)) (variables (length shape)) shape
job-within shape some =
    let vars = job_variables shape in
    variables-within (resting vars) 0 shape (resting-carries vars)
    (λ k below. subst (λ known. Contains known (0 + k)) (sym (resting-variables vars)) (in-range (length shape) k below)) some

-- extents whose product is not 0
abbrev pub NoneEmpty : Type 0
NoneEmpty = (shape : List ℕ) → 0 < total shape → AllByRecursion (λ n. 0 < n) shape

chosen-kept : NoneEmpty → (tree_job : TreeJob) (array : Given) (test : Bool) (former : Former) (shape : List ℕ) → array.shape ≡ shape
    → (total shape == 0) ≡ test → Keeps tree_job.job.area 0 former shape
    → IsKeptForm tree_job array (if test then None else Some (former (variables (length shape)) (length shape)).0)
chosen-kept full tree_job array true former shape same e h = tt
chosen-kept full tree_job array false former shape same e h =
    let axes = length shape in
    let some : 0 < total shape = omega (arith, eqb-false (total shape) 0 e) in
    let scope = resting (job_variables shape) in
    let made = (former (variables axes) axes).0 in
    let keeps = h.keeps scope axes (variables axes) (variables-earlier 0 axes axes (omega arith)) (job-within shape (full shape some)) in
    subst (λ s. IsKeptForm tree_job (record { shape = s; at = array.at }) (Some made)) (sym same) (record {
      kept = subst (λ vars. IsKept tree_job.job.area vars made) (resting-variables (job_variables shape)) keeps.kept;
      varying = keeps.varying;
      roomy = roomy-agrees made scope [] (resting-carries (job_variables shape)) keeps.roomy;
    })

pub job-is-kept : NoneEmpty → (tree_job : TreeJob) (array : Given) (former : Former) (shape : List ℕ) → array.shape ≡ shape
    → Keeps tree_job.job.area 0 former shape → IsKeptForm tree_job array (job_form shape former)
job-is-kept full tree_job array former shape same h = chosen-kept full tree_job array (total shape == 0) former shape same refl h

-- ---- costs

sum-each : {X : Type 0} (f : X → ℕ) (xs : List X) (most : ℕ) → sum_by f xs ≤ most → AllByRecursion (λ x. f x ≤ most) xs
sum-each f [] most h = tt
sum-each f (x ∷ xs) most h =
    (omega (arith, h, sum_by-cons f x xs), sum-each f xs most (omega (arith, h, sum_by-cons f x xs)))

-- the expression of a job has no more nodes than a program may
abbrev pub IsCheap : Prices → TreeJob → Type 0
IsCheap prices tree_job = nodes prices tree_job.of ≤ greatest_size

pub jobs-cheap : (prices : Prices) (jobs : List TreeJob) → sum_by (job_size prices) jobs ≤ greatest_size → AllByRecursion (IsCheap prices) jobs
jobs-cheap prices jobs h =
    each-follows (λ j. job_size prices j ≤ greatest_size) (IsCheap prices) (λ j cheap. omega (arith, cheap)) jobs
    (sum-each (job_size prices) jobs greatest_size h)

pub cheap-room : (n : ℕ) → n ≤ greatest_size → HasRoom 0 n
cheap-room n h = let e : n * greatest_extent ≤ greatest_size * greatest_extent = mul-le-mul_right greatest_extent h in omega (arith, e)

-- a task of a job, whose form keeps it for the job's area
abbrev pub IsTaskOf : Names → TreeJob → Task → Type 0
IsTaskOf names tree_job task = Keeps tree_job.job.area 0 (form names task.1 task.0) (shape_in names task.0)

-- areas for which the names keep it
abbrev pub AreFree : Names → Prices → ℕ → ℕ → Type 0
AreFree names prices scan count = (k : ℕ) → k < count → AreKeptNamed (scan + k) names prices

-- ---- the subexpressions of an accepted expression

module _ (names : Names) (operand : OperandsMove (shapes_of names)) where
  -- an accepted expression that folds by operators that fold
  abbrev pub IsGood : Expr → Type 0
  IsGood expr = IsAccepted (shapes_of names) expr × (levels : ℕ) × IsBuilt levels expr

  abbrev pub AreGood : List Expr → Type 0
  AreGood exprs = AllByRecursion IsGood exprs

  both-good : (left right : Expr) → AreGood (subexpressions left) → AreGood (subexpressions right)
      → AreGood (subexpressions left ++ subexpressions right)
  both-good left right h k = each-append IsGood (subexpressions left) (subexpressions right) h k

  pub all-good : (levels : ℕ) (expr : Expr) → IsBuilt levels expr → IsAccepted (shapes_of names) expr → AreGood (subexpressions expr)
  all-good zero expr built h = absurd built
  all-good (suc levels) (Number value) built h = ((h, suc levels, built), tt)
  all-good (suc levels) (Use name) built h = ((h, suc levels, built), tt)
  all-good (suc levels) (Iota extent) built h = ((h, suc levels, built), tt)
  all-good (suc levels) (One op of) built h = ((h, suc levels, built), all-good levels of built (operand.one op of h))
  all-good (suc levels) (Two op left right) built h =
      let k = operand.two op left right h in
      ((h, suc levels, built), both-good left right (all-good levels left built.0 k.0) (all-good levels right built.1 k.1))
  all-good (suc levels) (Psi list of) built h = ((h, suc levels, built), all-good levels of built (operand.psi list of h).0)
  all-good (suc levels) (Take list of) built h = ((h, suc levels, built), all-good levels of built (operand.takes list of h).0)
  all-good (suc levels) (Drop list of) built h = ((h, suc levels, built), all-good levels of built (operand.drops list of h).0)
  all-good (suc levels) (Reverse of) built h = ((h, suc levels, built), all-good levels of built (operand.reverses of h).0)
  all-good (suc levels) (Rotate by of) built h = ((h, suc levels, built), all-good levels of built (operand.rotates by of h).0)
  all-good (suc levels) (Transpose of) built h = ((h, suc levels, built), all-good levels of built (operand.transposes of h).0)
  all-good (suc levels) (Permute list of) built h = ((h, suc levels, built), all-good levels of built (operand.permutes list of h).0)
  all-good (suc levels) (Cat left right) built h =
      let k = operand.cat left right h in
      ((h, suc levels, built), both-good left right (all-good levels left built.0 k.0) (all-good levels right built.1 k.1))
  all-good (suc levels) (Reshape list of) built h = ((h, suc levels, built), all-good levels of built (operand.reshapes list of h).0)
  all-good (suc levels) (Ravel of) built h = ((h, suc levels, built), all-good levels of built (operand.ravels of h))
  all-good (suc levels) (Outer op left right) built h =
      let k = operand.outer op left right h in
      ((h, suc levels, built), both-good left right (all-good levels left built.0 k.0) (all-good levels right built.1 k.1))
  all-good (suc levels) (Inner fold op left right) built h =
      let k = operand.inner fold op left right h in
      ((h, suc levels, built), both-good left right (all-good levels left built.1 k.0) (all-good levels right built.2 k.1))
  all-good (suc levels) (Reduce fold of) built h = ((h, suc levels, built), all-good levels of built.1 (operand.reduces fold of h).0)
  all-good (suc levels) (Scan fold of) built h = ((h, suc levels, built), all-good levels of built.1 (operand.scans fold of h))

  -- ---- tasks

  module _ (prices : Prices) (keep : KeepExpressions names prices) where
    built-operand : (levels : ℕ) (fold : Op) (of : Expr) → IsBuilt levels (Scan fold of) → (below : ℕ) × IsBuilt below of
    built-operand zero fold of h = absurd h
    built-operand (suc levels) fold of h = (levels, h.1)

    scan-kept : (scan : ℕ) (fold : Op) (of : Expr) → IsGood (Scan fold of) → AreKeptNamed scan names prices → nodes prices of ≤ greatest_size
        → Keeps scan 0 (form names (suc scan) of) (shape_in names of)
    scan-kept scan fold of good agree cheap =
        let built = built-operand good.1 fold of good.2 in
        keep scan 0 (suc scan) built.0 of agree built.1 (λ k below e. omega (arith, e)) (operand.scans fold of good.0)
        (cheap-room (nodes prices of) cheap)

    pub scans-kept : (scan node area number : ℕ) (exprs : List Expr) → AreGood exprs
        → AreFree names prices scan (length (flat_map if_scan exprs))
        → AllByRecursion (IsCheap prices) (scan_jobs area number exprs)
        → AllZip (IsTaskOf names) (scan_jobs scan node exprs) (scanned scan exprs)
    scans-kept scan node area number [] good free cheap = tt
    scans-kept scan node area number (Scan fold of ∷ others) good free cheap =
        let here : scan + 0 ≡ scan = omega arith in
        let later = λ (k : ℕ) (below : k < length (flat_map if_scan others)). let e : scan + suc k ≡ suc scan + k = omega arith in
        subst (λ n. AreKeptNamed n names prices) e (free (suc k) (omega (arith, below))) in (
          scan-kept scan fold of good.0 (subst (λ n. AreKeptNamed n names prices) here (free 0 (omega arith))) cheap.0,
          scans-kept (suc scan) (suc node) (suc area) (suc number) others good.1 later cheap.1,
        )
    scans-kept scan node area number (other ∷ others) good free cheap = scans-kept scan (suc node) area
        (suc number) others good.1 free cheap
