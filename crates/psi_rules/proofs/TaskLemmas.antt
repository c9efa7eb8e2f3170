-- The form of a job gives its array, and the tasks of an expression's scans are accepted expressions whose scans have areas of their own.
use Rattle.std.specs.Prelude.{◌≡◌, ◌==◌, ℕ, zero, suc, ◌+◌, ◌<◌, Bool, true, false, ℤ, pos, List, [], ◌∷◌, ◌++◌, length, map, slice_index_or, if◌then◌else◌}
use Rattle.std.specs.List.{AllByRecursion, flat_map, range_with_len}
use Rattle.std.specs.declared.option.Option.TheVariants.{None, Some}
use Rattle.std.proofs.Common.{refl, ap, sym, subst, ◌∙◌, arith}
use Rattle.std.proofs.lemmas.Bool.{eqb-false, eqb-true}
use Rattle.std.proofs.lemmas.Int.{ints}
use Rattle.std.proofs.lemmas.List.Elements.{length_all_zip}
use Rattle.shapes_core.specs.Gamma.{IsIndex}
use Rattle.shapes_core.specs.Shape.{total}
use Rattle.moa_tree.specs.Expr.{Expr, Number, Use, Iota, One, Two, Psi, Take, Drop, Reverse, Rotate, Transpose, Permute, Cat, Reshape, Ravel, Outer, Inner, Reduce, Scan}
use Rattle.moa_tree.specs.Subexpressions.{if_scan, scans_in, subexpressions}
use Rattle.moa_tree.specs.Values.{Env, shape_in, shapes_of, value}
use Rattle.normal_form.specs.Assignments.{assigned, number}
use Rattle.normal_form.specs.Formers.{Former}
use Rattle.normal_form.specs.Meaning.{Store}
use Rattle.normal_form.specs.Moves.{variable, variables}
use Rattle.normal_form.specs.Stands.{AreBelow, Gives, Represents, StandFor}
use Rattle.psi_rules.specs.Agrees.{HoldEach, IsFormOf}
use Rattle.psi_rules.specs.Jobs.{Task, job_form, scanned}
use Rattle.psi_rules.specs.Operands.{IsAccepted, OperandsMove}
use Rattle.psi_rules.specs.Rules.{Names, form, scan_behind}
use Rattle.psi_rules.proofs.FormLemmas.{held-both}
use Rattle.psi_rules.proofs.ListLemmas.{each-append}

-- ---- the variables of a job

length-index : (index shape : List ℕ) → IsIndex index shape → length index ≡ length shape
length-index index shape h = length_all_zip (λ k n. k < n) index shape h

variables-below : (next start count : ℕ) → start + count ≡ next → AreBelow next (map variable (range_with_len start count))
variables-below next start zero e = tt
variables-below next start (suc count) e = (omega (arith, e), variables-below next (start + 1) count (omega (arith, e)))

-- the items of a list behind its front, one by one
variables-stand : (index : List ℕ) (start : ℕ) (rest : List ℕ) → ((k : ℕ) → slice_index_or index (start + k) 0 ≡ slice_index_or rest k 0)
    → StandFor (assigned index) (map variable (range_with_len start (length rest))) rest
variables-stand index start [] same = refl
variables-stand index start (place ∷ rest) same =
    let here : start + 0 ≡ start = omega arith in
    let first : slice_index_or index start 0 ≡ place = subst (λ k. slice_index_or index k 0 ≡ place) here (same 0) in
    let later = λ (k : ℕ). let e : start + suc k ≡ start + 1 + k = omega arith in
    subst (λ n. slice_index_or index n 0 ≡ slice_index_or rest k 0) e (same (suc k)) in
    let head : number (assigned index) (variable start) ≡ pos place = omega (arith, ints, first) in
    ap (λ z. z ∷ map (number (assigned index)) (map variable (range_with_len (start + 1) (length rest)))) head
    ∙ ap (λ numbers. pos place ∷ numbers) (variables-stand index (start + 1) rest later)

job-gives : (store : Store) (former : Former) (shape : List ℕ) (at : List ℕ → ℤ) → Represents store former shape at
    → (index : List ℕ) → IsIndex index shape → Gives store (assigned index) (former (variables (length shape)) (length shape)).0 (at index)
job-gives store former shape at h index inside =
    let long : length index ≡ length shape = length-index index shape inside in
    h.gives (assigned index) (variables (length shape)) (length shape) index (variables-below (length shape) 0 (length shape) (omega arith))
    (subst (λ n. StandFor (assigned index) (variables n) index) long
    (variables-stand index 0 index (λ k. ap (λ n. slice_index_or index n 0) (omega arith)))) inside

chosen-form : (store : Store) (test : Bool) (former : Former) (shape : List ℕ) (at : List ℕ → ℤ) → (total shape == 0) ≡ test
    → Represents store former shape at
    → IsFormOf store (if test then None else Some (former (variables (length shape)) (length shape)).0) (record { shape = shape; at = at })
chosen-form store true former shape at e h = eqb-true (total shape) 0 e
chosen-form store false former shape at e h =
    let some : 0 < total shape = omega (arith, eqb-false (total shape) 0 e) in (some, job-gives store former shape at h)

pub job-is-form : (store : Store) (former : Former) (shape : List ℕ) (at : List ℕ → ℤ) → Represents store former shape at
    → IsFormOf store (job_form shape former) (record { shape = shape; at = at })
job-is-form store former shape at h = chosen-form store (total shape == 0) former shape at refl h

-- ---- the tasks of scans

scanned-append : (scan : ℕ) (front back : List Expr)
    → scanned scan (front ++ back) ≡ scanned scan front ++ scanned (scan + length (flat_map if_scan front)) back
scanned-append scan [] back = ap (λ n. scanned n back) (omega arith)
scanned-append scan (Scan fold of ∷ front) back =
    let e : suc scan + length (flat_map if_scan front) ≡ scan + suc (length (flat_map if_scan front)) = omega arith in
    ap (λ tasks. (of, suc scan) ∷ tasks) (scanned-append (suc scan) front back ∙ ap (λ n. scanned (suc scan) front ++ scanned n back) e)
scanned-append scan (other ∷ front) back = scanned-append scan front back

-- what holds of the tasks of two operands' scans holds of those of both
pub tasks-both : (P : Task → Type 0) (scan : ℕ) (left right : Expr) → AllByRecursion P (scanned scan (subexpressions left))
    → AllByRecursion P (scanned (scan_behind scan left) (subexpressions right))
    → AllByRecursion P (scanned scan (subexpressions left ++ subexpressions right))
tasks-both P scan left right h k =
    subst (AllByRecursion P) (sym (scanned-append scan (subexpressions left) (subexpressions right)))
    (each-append P (scanned scan (subexpressions left)) (scanned (scan_behind scan left) (subexpressions right)) h k)

-- what the rules make of a task's expression gives its array
abbrev pub IsGiven : Store → Names → Env → Task → Type 0
IsGiven store names env task = Represents store (form names task.1 task.0) (shape_in env task.0) (value env task.0)

-- the same of each accepted expression whose scans are held
abbrev pub GivesAll : Store → Names → Env → Type 0
GivesAll store names env =
    (scan : ℕ) (expr : Expr) → HoldEach store env scan (scans_in expr) → IsAccepted (shapes_of env) expr → IsGiven store names env (expr, scan)

module _ (store : Store) (names : Names) (env : Env) (gives : GivesAll store names env) (operand : OperandsMove (shapes_of env)) where
  abbrev pub AreGiven : List Task → Type 0
  AreGiven tasks = AllByRecursion (IsGiven store names env) tasks

  both-given : (scan : ℕ) (left right : Expr) → AreGiven (scanned scan (subexpressions left))
      → AreGiven (scanned (scan_behind scan left) (subexpressions right))
      → AreGiven (scanned scan (subexpressions left ++ subexpressions right))
  both-given scan left right h k = tasks-both (IsGiven store names env) scan left right h k

  pub scans-given : (scan : ℕ) (expr : Expr) → HoldEach store env scan (scans_in expr) → IsAccepted (shapes_of env) expr
      → AreGiven (scanned scan (subexpressions expr))
  scans-given scan (Number value) held h = tt
  scans-given scan (Use name) held h = tt
  scans-given scan (Iota extent) held h = tt
  scans-given scan (One op of) held h = scans-given scan of held (operand.one op of h)
  scans-given scan (Two op left right) held h =
      let both = held-both store env scan left right held in
      let k = operand.two op left right h in
      both-given scan left right (scans-given scan left both.0 k.0) (scans-given (scan_behind scan left) right both.1 k.1)
  scans-given scan (Psi list of) held h = scans-given scan of held (operand.psi list of h).0
  scans-given scan (Take list of) held h = scans-given scan of held (operand.takes list of h).0
  scans-given scan (Drop list of) held h = scans-given scan of held (operand.drops list of h).0
  scans-given scan (Reverse of) held h = scans-given scan of held (operand.reverses of h).0
  scans-given scan (Rotate by of) held h = scans-given scan of held (operand.rotates by of h).0
  scans-given scan (Transpose of) held h = scans-given scan of held (operand.transposes of h).0
  scans-given scan (Permute list of) held h = scans-given scan of held (operand.permutes list of h).0
  scans-given scan (Cat left right) held h =
      let both = held-both store env scan left right held in
      let k = operand.cat left right h in
      both-given scan left right (scans-given scan left both.0 k.0) (scans-given (scan_behind scan left) right both.1 k.1)
  scans-given scan (Reshape list of) held h = scans-given scan of held (operand.reshapes list of h).0
  scans-given scan (Ravel of) held h = scans-given scan of held (operand.ravels of h)
  scans-given scan (Outer op left right) held h =
      let both = held-both store env scan left right held in
      let k = operand.outer op left right h in
      both-given scan left right (scans-given scan left both.0 k.0) (scans-given (scan_behind scan left) right both.1 k.1)
  scans-given scan (Inner fold op left right) held h =
      let both = held-both store env scan left right held in
      let k = operand.inner fold op left right h in
      both-given scan left right (scans-given scan left both.0 k.0) (scans-given (scan_behind scan left) right both.1 k.1)
  scans-given scan (Reduce fold of) held h = scans-given scan of held (operand.reduces fold of h).0
  scans-given scan (Scan fold of) held h =
      let k = operand.scans fold of h in
      (gives (suc scan) of held.1 k, scans-given (suc scan) of held.1 k)
