-- Lines of steps, one behind the other.
use Rattle.std.specs.Prelude.{◌≡◌, ℕ, zero, suc, ◌+◌, ◌<◌, List, [], ◌∷◌, ◌++◌, codes, length, take}
use Rattle.std.specs.List.{AllByRecursion, flat_map}
use Rattle.std.proofs.Common.{refl, ap, sym, ◌∙◌, arith, append_assoc, get_or}
use Rattle.std.proofs.lemmas.List.{take_more}
use Rattle.shapes_core.specs.declared.area.Area.{Area}
use Rattle.loop_ir.specs.declared.step.Step.{Step}
use Rattle.loop_ir.specs.declared.step.Step.TheVariants as step
use Rattle.loop_ir.specs.Pool.{inner_lists, steps_of}
use Rattle.loop_ir.specs.Steps.{Set, Copy, One, Two, Place, Spot, Walk, Read, Write, Steps}
use Rattle.form_text.specs.NestSpelling.{action_text, for_text, if_text, margin, row, step_lines}

-- ---- margins

margin-last : (depth : ℕ) → margin depth ++ codes "  " ≡ margin (suc depth)
margin-last zero = refl
margin-last (suc depth) = ap (λ text. codes "  " ++ text) (margin-last depth)

-- two more blanks
pub margin-more : (out now : List ℕ) (depth : ℕ) → now ≡ out ++ margin depth → now ++ codes "  " ≡ out ++ margin (depth + 1)
margin-more out now depth e =
    let next : suc depth ≡ depth + 1 = omega arith in
    ap (λ text. text ++ codes "  ") e ∙ append_assoc out (margin depth) (codes "  ")
    ∙ ap (λ text. out ++ text) (margin-last depth ∙ ap margin next)

-- ---- lines of two lists of steps

regroup : (text b c : List ℕ) {a : List ℕ} → a ≡ b ++ c → text ++ a ≡ (text ++ b) ++ c
regroup text b c e = ap (λ list. text ++ list) e ∙ sym (append_assoc text b c)

module _ (areas : List Area) (depth : ℕ) (inner : ℕ → Steps) where
  abbrev lines : List Step → List ℕ
  lines steps = step_lines areas depth (steps_of inner steps)

  -- behind one more line, or the lines of a list
  behind : (text : List ℕ) (first second : List Step) → lines (first ++ second) ≡ lines first ++ lines second
      → text ++ lines (first ++ second) ≡ (text ++ lines first) ++ lines second
  behind text first second e = regroup text (lines first) (lines second) e

  lines-join : (first second : List Step) → lines (first ++ second) ≡ lines first ++ lines second
  lines-join [] second = refl
  lines-join (step.Set to value ∷ rest) second =
      behind (row depth (action_text areas (Set to value))) rest second (lines-join rest second)
  lines-join (step.Copy to from ∷ rest) second =
      behind (row depth (action_text areas (Copy to from))) rest second (lines-join rest second)
  lines-join (step.One op to from ∷ rest) second =
      behind (row depth (action_text areas (One op to from))) rest second (lines-join rest second)
  lines-join (step.Two op to left right ∷ rest) second =
      behind (row depth (action_text areas (Two op to left right))) rest second (lines-join rest second)
  lines-join (step.Place to word ∷ rest) second =
      behind (row depth (action_text areas (Place to word))) rest second (lines-join rest second)
  lines-join (step.Spot to word by ∷ rest) second =
      behind (row depth (action_text areas (Spot to word by))) rest second (lines-join rest second)
  lines-join (step.Walk place words ∷ rest) second =
      behind (row depth (action_text areas (Walk place words))) rest second (lines-join rest second)
  lines-join (step.Read to area place ∷ rest) second =
      behind (row depth (action_text areas (Read to area place))) rest second (lines-join rest second)
  lines-join (step.Write area place from ∷ rest) second =
      behind (row depth (action_text areas (Write area place from))) rest second (lines-join rest second)
  lines-join (step.For counter turns body ∷ rest) second =
      let ended = row depth (codes "end") in
      let within = step_lines areas (suc depth) (inner body) in
      regroup (row depth (for_text counter turns)) (within ++ (ended ++ lines rest)) (lines second)
      (regroup within (ended ++ lines rest) (lines second) (behind ended rest second (lines-join rest second)))
  lines-join (step.If left below one other ∷ rest) second =
      let ended = row depth (codes "end") in
      let turned = row depth (codes "else") in
      let yes = step_lines areas (suc depth) (inner one) in
      let no = step_lines areas (suc depth) (inner other) in
      regroup (row depth (if_text left below)) (yes ++ (turned ++ (no ++ (ended ++ lines rest)))) (lines second)
      (regroup yes (turned ++ (no ++ (ended ++ lines rest))) (lines second)
      (regroup turned (no ++ (ended ++ lines rest)) (lines second)
      (regroup no (ended ++ lines rest) (lines second) (behind ended rest second (lines-join rest second)))))

  -- one more step
  pub lines-more : (steps : List Step) (i : ℕ) (d : Step) (out now more : List ℕ) → i < length steps
      → now ≡ out ++ step_lines areas depth (steps_of inner (take i steps))
      → more ≡ now ++ step_lines areas depth (steps_of inner (get_or steps i d ∷ []))
      → more ≡ out ++ step_lines areas depth (steps_of inner (take (i + 1) steps))
  lines-more steps i d out now more below before put =
      let one = get_or steps i d ∷ [] in
      put ∙ ap (λ text. text ++ lines one) before
      ∙ append_assoc out (lines (take i steps)) (lines one)
      ∙ ap (λ text. out ++ text) (sym (lines-join (take i steps) one))
      ∙ ap (λ list. out ++ lines list) (sym (take_more steps i d below))

-- ---- the lists that a step names

all-split : {X : Type 0} (P : X → Type 0) (xs ys : List X) → AllByRecursion P (xs ++ ys) → AllByRecursion P xs × AllByRecursion P ys
all-split P [] ys h = (tt, h)
all-split P (x ∷ xs) ys h = let rest = all-split P xs ys h.1 in ((h.0, rest.0), rest.1)

inner-at : (P : ℕ → Type 0) (list : List Step) (i : ℕ) (d : Step) → i < length list → AllByRecursion P (flat_map inner_lists list)
    → AllByRecursion P (inner_lists (get_or list i d))
inner-at P [] i d below h = absurd (omega (arith, below))
inner-at P (one ∷ list) zero d below h = (all-split P (inner_lists one) (flat_map inner_lists list) h).0
inner-at P (one ∷ list) (suc i) d below h =
    inner-at P list i d (omega (arith, below)) (all-split P (inner_lists one) (flat_map inner_lists list) h).1

deeper : (depth number count : ℕ) → depth < suc number → (named : List ℕ) → AllByRecursion (λ inner. (number < inner) × (inner < count)) named
    → AllByRecursion (λ inner. (depth < inner) × (inner < count)) named
deeper depth number count deep [] h = tt
deeper depth number count deep (inner ∷ named) h = ((omega (arith, deep, h.0.0), h.0.1), deeper depth number count deep named h.1)

-- they have numbers above the depth of the list that has the step
pub named-deeper : (depth number count : ℕ) → depth < suc number → (list : List Step) (i : ℕ) (d : Step) → i < length list
    → AllByRecursion (λ inner. (number < inner) × (inner < count)) (flat_map inner_lists list)
    → AllByRecursion (λ inner. (depth < inner) × (inner < count)) (inner_lists (get_or list i d))
named-deeper depth number count deep list i d below h =
    inner-at (λ inner. (depth < inner) × (inner < count)) list i d below (deeper depth number count deep (flat_map inner_lists list) h)
