-- The walked sum where one variable moves: it moves by the stride along that variable.
use Rattle.std.specs.Prelude.{◌≡◌, ℕ, zero, suc, ◌+◌, ◌==◌, ℤ, pos, negsuc, ◌+ℤ◌, ◌-ℤ◌, ◌*ℤ◌, Bool, true, false, [], ◌∷◌, if◌then◌else◌}
use Rattle.std.proofs.Common.{refl, ap, sym, subst, ◌∙◌, arith}
use Rattle.std.proofs.Math.IntN.{*ℤ_comm, pred_ℤ, pred_ℤ-*ℤ, suc_ℤ-*ℤ, zero-*ℤ}
use Rattle.std.proofs.lemmas.Bool.{cond-false, cond-true, eq-eqb, eqb-true, ne_eqb}
use Rattle.std.proofs.lemmas.Int.{ints}
use Rattle.normal_form.specs.Assignments.{Assignment, bound}
use Rattle.stride_form.specs.Accesses.{Steps, walked}
use Rattle.nest_build.specs.Nests.{stride_along}

-- ---- a variable that is bound

pub bound-here : (m : Assignment) (var k : ℕ) → bound m var k var ≡ k
bound-here m var k = cond-true (var == var) k (m var) (eq-eqb var var refl)

pub bound-other : (m : Assignment) (var k other : ℕ) → (other ≡ var → ⊥) → bound m var k other ≡ m other
bound-other m var k other ne = cond-false (other == var) k (m other) (ne_eqb other var ne)

bound-choice : (m : Assignment) (var other : ℕ) (same : Bool) → (same ≡ true → other ≡ var) → (if same then m var else m other) ≡ m other
bound-choice m var other true h = ap m (sym (h refl))
bound-choice m var other false h = refl

-- a variable that is bound to its own number
pub bound-own : (m : Assignment) (var k : ℕ) → m var ≡ k → bound m var k ≡ m
bound-own m var k e =
    let own : bound m var (m var) ≡ m = λ i other. bound-choice m var other (other == var) (eqb-true other var) i in
    subst (λ n. bound m var n ≡ m) e own

-- ---- numbers

pub once : (x : ℤ) → pos 1 *ℤ x ≡ x
once x = let e : pos 1 *ℤ x ≡ pos 0 *ℤ x +ℤ x = suc_ℤ-*ℤ (pos 0) x in e ∙ omega (arith, ints, zero-*ℤ x)

pub times-suc : (t : ℕ) (x : ℤ) → pos (suc t) *ℤ x ≡ pos t *ℤ x +ℤ x
times-suc t x = suc_ℤ-*ℤ (pos t) x

minus-suc : (t : ℕ) → pos 0 -ℤ pos (suc t) ≡ negsuc t
minus-suc t = omega (arith, ints)

minus-next : (t : ℕ) → pos 0 -ℤ pos (suc t) ≡ pred_ℤ (pos 0 -ℤ pos t)
minus-next zero = refl
minus-next (suc t) = minus-suc (suc t) ∙ sym (ap pred_ℤ (minus-suc t))

pub minus-times : (t : ℕ) (x : ℤ) → (pos 0 -ℤ pos t) *ℤ x ≡ pos 0 -ℤ pos t *ℤ x
minus-times zero x =
    let e : pos 0 -ℤ pos 0 ≡ pos 0 = omega (arith, ints) in
    ap (λ z. z *ℤ x) e ∙ omega (arith, ints, zero-*ℤ x)
minus-times (suc t) x =
    ap (λ z. z *ℤ x) (minus-next t) ∙ pred_ℤ-*ℤ (pos 0 -ℤ pos t) x ∙ omega (arith, ints, minus-times t x, times-suc t x)

-- ---- walks

next-choice : (same : Bool) (s : ℤ) (old k : ℕ) (before after along : ℤ) → after ≡ before +ℤ along
    → s *ℤ pos (if same then suc k else old) +ℤ after
    ≡ (s *ℤ pos (if same then k else old) +ℤ before) +ℤ (if same then s +ℤ along else along)
next-choice true s old k before after along e =
    omega (arith, ints, e, times-suc k s, *ℤ_comm s (pos k), *ℤ_comm s (pos (suc k)))
next-choice false s old k before after along e = omega (arith, ints, e)

pub walked-next : (m : Assignment) (var k : ℕ) (steps : Steps)
    → walked (bound m var (suc k)) steps ≡ walked (bound m var k) steps +ℤ stride_along steps var
walked-next m var k [] = omega (arith, ints)
walked-next m var k (first ∷ others) =
    next-choice (first.0 == var) first.1 (m first.0) k (walked (bound m var k) others) (walked (bound m var (suc k)) others)
    (stride_along others var) (walked-next m var k others)

pub walked-far : (m : Assignment) (var l t : ℕ) (steps : Steps)
    → walked (bound m var (l + t)) steps ≡ walked (bound m var l) steps +ℤ pos t *ℤ stride_along steps var
walked-far m var l zero steps =
    let e : l + 0 ≡ l = omega arith in
    ap (λ k. walked (bound m var k) steps) e ∙ omega (arith, ints, zero-*ℤ (stride_along steps var))
walked-far m var l (suc t) steps =
    let e : l + suc t ≡ suc (l + t) = omega arith in
    ap (λ k. walked (bound m var k) steps) e ∙ walked-next m var (l + t) steps
    ∙ omega (arith, ints, walked-far m var l t steps, times-suc t (stride_along steps var))

-- one turn on
pub walked-on : (m : Assignment) (var k : ℕ) (steps : Steps)
    → walked (bound m var k) steps +ℤ pos 1 *ℤ stride_along steps var ≡ walked (bound m var (suc k)) steps
walked-on m var k steps = omega (arith, ints, once (stride_along steps var), walked-next m var k steps)

-- and all turns back
pub walked-back : (m : Assignment) (var l t : ℕ) (steps : Steps) → m var ≡ l
    → walked (bound m var (l + t)) steps +ℤ (pos 0 -ℤ pos t) *ℤ stride_along steps var ≡ walked m steps
walked-back m var l t steps e =
    let same : walked (bound m var l) steps ≡ walked m steps = ap (λ n. walked n steps) (bound-own m var l e) in
    omega (arith, ints, walked-far m var l t steps, minus-times t (stride_along steps var), same)
