-- Runs of steps: one list behind another, what a step leaves as it was, and accesses that are inside the areas.
use Rattle.std.specs.Prelude.{◌≡◌, ℕ, suc, ◌+◌, ◌<◌, ◌==◌, ℤ, List, [], ◌∷◌, ◌++◌, length, ⊤}
use Rattle.std.specs.List.{AllByRecursion}
use Rattle.std.proofs.Common.{refl, ap, sym, subst, ◌∙◌, append_assoc, arith}
use Rattle.std.proofs.lemmas.Bool.{cond-false, cond-true, eq-eqb, ne_eqb}
use Rattle.shapes_core.specs.declared.area.Area.{Area}
use Rattle.loop_ir.specs.Inside.{IsInside}
use Rattle.loop_ir.specs.Running.{Access as Touch, Register, State, acted, holding, run}
use Rattle.loop_ir.specs.Steps.{Action, Steps, joined}
use Rattle.nest_build.specs.Gives.{AddsInside}
use Rattle.nest_build.specs.Nests.{listed}

-- one list of steps behind another does the one and then the other
abbrev pub RunsJoin : Type 0
RunsJoin = (first second : Steps) (state : State) → run (joined first second) state ≡ run second (run first state)

pub run-append : (first second : List Action) (state : State)
    → run (listed (first ++ second)) state ≡ run (listed second) (run (listed first) state)
run-append [] second state = refl
run-append (action ∷ first) second state = run-append first second (acted action state)

-- ---- what is held

pub held-same : (r : ℕ) (value : ℤ) (state : State) → (holding (Register r) value state).held (Register r) ≡ value
held-same r value state = cond-true (r == r) value (state.held (Register r)) (eq-eqb r r refl)

pub held-below : (r free : ℕ) (value : ℤ) (state : State) → r < free
    → (holding (Register free) value state).held (Register r) ≡ state.held (Register r)
held-below r free value state below =
    cond-false (r == free) value (state.held (Register r)) (ne_eqb r free (λ e. omega (arith, e, below)))

-- ---- accesses inside the areas

pub adds-none : (areas : List Area) (trace : List Touch) → AddsInside areas trace trace
adds-none areas trace = record { more = []; same = refl; inside = tt }

pub all-both : {X : Type 0} (P : X → Type 0) (xs ys : List X) → AllByRecursion P xs → AllByRecursion P ys → AllByRecursion P (xs ++ ys)
all-both P [] ys h k = k
all-both P (x ∷ xs) ys h k = (h.0, all-both P xs ys h.1 k)

pub all-parts : {X : Type 0} (P : X → Type 0) (xs ys : List X) → AllByRecursion P (xs ++ ys) → AllByRecursion P xs × AllByRecursion P ys
all-parts P [] ys h = (tt, h)
all-parts P (x ∷ xs) ys h = let rest = all-parts P xs ys h.1 in ((h.0, rest.0), rest.1)

pub adds-on : (areas : List Area) (first second third : List Touch) → AddsInside areas first second → AddsInside areas second third
    → AddsInside areas first third
adds-on areas first second third a b = record {
  more = b.more ++ a.more;
  same = b.same ∙ ap (λ trace. b.more ++ trace) a.same ∙ sym (append_assoc b.more a.more first);
  inside = all-both (IsInside areas) b.more a.more b.inside a.inside;
}

pub adds-one : (areas : List Area) (touch : Touch) (trace : List Touch) → IsInside areas touch → AddsInside areas trace (touch ∷ trace)
adds-one areas touch trace inside = record { more = touch ∷ []; same = refl; inside = (inside, tt) }

-- ---- items that are numbered

-- so is each item with its number, from this one on
abbrev pub Numbered : {X : Type 0} → (ℕ → X → Type 0) → ℕ → List X → Type 0
Numbered P n [] = ⊤
Numbered P n (x ∷ xs) = P n x × Numbered P (suc n) xs

pub numbered-parts : {X : Type 0} (P : ℕ → X → Type 0) (n : ℕ) (xs ys : List X) → Numbered P n (xs ++ ys)
    → Numbered P n xs × Numbered P (n + length xs) ys
numbered-parts P n [] ys h = let e : n ≡ n + 0 = omega arith in (tt, subst (λ k. Numbered P k ys) e h)
numbered-parts P n (x ∷ xs) ys h =
    let rest = numbered-parts P (suc n) xs ys h.1 in
    let e : suc n + length xs ≡ n + suc (length xs) = omega arith in
    ((h.0, rest.0), subst (λ k. Numbered P k ys) e rest.1)
