-- A list that is renumbered in place, step by step.
use Rattle.std.specs.Prelude.{◌≡◌, ℕ, zero, suc, ◌+◌, ◌<◌, ◌≤◌, List, [], ◌∷◌, ◌++◌, length, map, get_or, set, take, ⊤}
use Rattle.std.specs.List.{AllByRecursion, flat_map}
use Rattle.std.proofs.Common.{refl, ap, sym, ◌∙◌, arith, add-one, subst}
use Rattle.std.proofs.Math.Seq.{take-append_seam}
use Rattle.loop_ir.specs.declared.step.Step.{Step}
use Rattle.loop_ir.specs.Pool.{inner_lists, renumbered}

-- a list whose first steps are done, with the others renumbered
abbrev pub half_renumbered : ℕ → ℕ → List Step → List Step
half_renumbered count zero steps = map (renumbered count) steps
half_renumbered count (suc done) [] = []
half_renumbered count (suc done) (step ∷ steps) = step ∷ half_renumbered count done steps

-- the steps that are not done name lists below the count
abbrev pub NameBelow : ℕ → ℕ → List Step → Type 0
NameBelow count zero steps = AllByRecursion (λ inner. inner < count) (flat_map inner_lists steps)
NameBelow count (suc done) [] = ⊤
NameBelow count (suc done) (step ∷ steps) = NameBelow count done steps

pub record IsHalfway (count done : ℕ) (steps whole : List Step) : Type 0 where
  pub whole_is : half_renumbered count done steps ≡ whole
  pub below : NameBelow count done steps

all-front : (P : ℕ → Type 0) (front rest : List ℕ) → AllByRecursion P (front ++ rest) → AllByRecursion P front
all-front P [] rest h = tt
all-front P (first ∷ front) rest h = (h.0, all-front P front rest h.1)

all-back : (P : ℕ → Type 0) (front rest : List ℕ) → AllByRecursion P (front ++ rest) → AllByRecursion P rest
all-back P [] rest h = h
all-back P (first ∷ front) rest h = all-back P front rest h.1

step-below : (count done : ℕ) (steps : List Step) (d : Step) → done < length steps → NameBelow count done steps
    → AllByRecursion (λ inner. inner < count) (inner_lists (get_or steps done d))
step-below count done [] d within below = absurd (omega (arith, within))
step-below count zero (step ∷ steps) d within below =
    all-front (λ inner. inner < count) (inner_lists step) (flat_map inner_lists steps) below
step-below count (suc done) (step ∷ steps) d within below = step-below count done steps d (omega (arith, within)) below

next-below : (count done : ℕ) (steps : List Step) (new : Step) → done < length steps → NameBelow count done steps
    → NameBelow count (suc done) (set steps done new)
next-below count done [] new within below = absurd (omega (arith, within))
next-below count zero (step ∷ steps) new within below =
    all-back (λ inner. inner < count) (inner_lists step) (flat_map inner_lists steps) below
next-below count (suc done) (step ∷ steps) new within below = next-below count done steps new (omega (arith, within)) below

next-whole : (count done : ℕ) (steps : List Step) (d : Step) → done < length steps
    → half_renumbered count (suc done) (set steps done (renumbered count (get_or steps done d))) ≡ half_renumbered count done steps
next-whole count done [] d within = absurd (omega (arith, within))
next-whole count zero (step ∷ steps) d within = refl
next-whole count (suc done) (step ∷ steps) d within = ap (λ t. step ∷ t) (next-whole count done steps d (omega (arith, within)))

whole-done : (count done : ℕ) (steps : List Step) → length steps ≤ done → half_renumbered count done steps ≡ steps
whole-done count zero [] within = refl
whole-done count zero (step ∷ steps) within = absurd (omega (arith, within))
whole-done count (suc done) [] within = refl
whole-done count (suc done) (step ∷ steps) within = ap (λ t. step ∷ t) (whole-done count done steps (omega (arith, within)))

-- the step that is next names lists below the count
pub halfway-below : (count done : ℕ) (steps whole : List Step) (d : Step) → done < length steps → IsHalfway count done steps whole
    → AllByRecursion (λ inner. inner < count) (inner_lists (get_or steps done d))
halfway-below count done steps whole d within h = step-below count done steps d within h.below

-- that step is renumbered
pub halfway-next : (count done : ℕ) (steps whole : List Step) (d : Step) → done < length steps → IsHalfway count done steps whole
    → IsHalfway count (done + 1) (set steps done (renumbered count (get_or steps done d))) whole
halfway-next count done steps whole d within h =
    subst (λ n. IsHalfway count n (set steps done (renumbered count (get_or steps done d))) whole) (sym (add-one done)) record {
      whole_is = next-whole count done steps d within ∙ h.whole_is;
      below = next-below count done steps (renumbered count (get_or steps done d)) within h.below;
    }

pub halfway-ends : (count done len : ℕ) (steps rest whole : List Step) → len ≡ length steps → length steps ≤ done
    → IsHalfway count done steps whole → take len (steps ++ rest) ≡ whole
halfway-ends count done len steps rest whole same within h =
    ap (λ n. take n (steps ++ rest)) same ∙ take-append_seam steps rest ∙ sym (whole-done count done steps within) ∙ h.whole_is
