-- Codes that have weights: what is added to what is there, one list of codes behind another.
use Rattle.std.specs.Prelude.{◌≡◌, ℕ, ◌+◌, ◌<◌, ◌==◌, ◌||◌, Bool, true, false, List, [], ◌∷◌, ◌++◌, length, map, take}
use Rattle.std.proofs.Common.{refl, ap, sym, ◌∙◌, subst, append_assoc, append-nil, get_or}
use Rattle.std.proofs.lemmas.List.{take_more}
use Rattle.std.proofs.lemmas.List.Folds.{list_any-append}
use Rattle.loop_ir.specs.declared.step.Step.{Step}
use Rattle.loop_ir.specs.declared.step.Step.TheVariants as step
use Rattle.loop_ir.specs.Costs.{named}
use Rattle.loop_ir.specs.Pool.{steps_of}
use Rattle.loop_ir.specs.Running.{Register}
use Rattle.loop_ir.specs.Steps.{Set, Copy, One, Two, Place, Spot, Walk, Read, Write, Steps}
use Rattle.register_map.specs.Codes.{Weighs, codes_of, has_weight, is_among}
use Rattle.register_map.specs.Homes.{code}

or-turned : (a b c : Bool) → (b || (a || c)) ≡ ((a || b) || c)
or-turned true true c = refl
or-turned true false c = refl
or-turned false true c = refl
or-turned false false c = refl

pub weighs-join : (first second : List ℕ) (old mid new : List (ℕ × ℕ)) → Weighs first old mid → Weighs second mid new
    → Weighs (first ++ second) old new
weighs-join first second old mid new one two code =
    two code ∙ ap (λ b. is_among second code || b) (one code)
    ∙ or-turned (is_among first code) (is_among second code) (has_weight old code)
    ∙ sym (ap (λ b. b || has_weight old code) (list_any-append (λ other. other == code) first second))

-- one more code
pub weighs-more : (codes : List ℕ) (i : ℕ) (old mid new : List (ℕ × ℕ)) → i < length codes → Weighs (take i codes) old mid
    → Weighs (get_or codes i 0 ∷ []) mid new → Weighs (take (i + 1) codes) old new
weighs-more codes i old mid new below one two =
    subst (λ list. Weighs list old new) (sym (take_more codes i 0 below)) (weighs-join (take i codes) (get_or codes i 0 ∷ []) old mid new one two)

regroup : (codes b c : List ℕ) {a : List ℕ} → a ≡ b ++ c → codes ++ a ≡ (codes ++ b) ++ c
regroup codes b c e = ap (λ list. codes ++ list) e ∙ sym (append_assoc codes b c)

-- the codes of two lists of steps, one behind the other
abbrev pub Join : (ℕ → Steps) → List Step → List Step → Type 0
Join inner first second = codes_of (steps_of inner (first ++ second)) ≡ codes_of (steps_of inner first) ++ codes_of (steps_of inner second)

-- and behind more codes
behind : (codes : List ℕ) (inner : ℕ → Steps) (first second : List Step) → Join inner first second
    → codes ++ codes_of (steps_of inner (first ++ second)) ≡ (codes ++ codes_of (steps_of inner first)) ++ codes_of (steps_of inner second)
behind codes inner first second e = regroup codes (codes_of (steps_of inner first)) (codes_of (steps_of inner second)) e

pub codes-join : (inner : ℕ → Steps) (first second : List Step) → Join inner first second
codes-join inner [] second = refl
codes-join inner (step.Set to value ∷ rest) second =
    behind (map code (named (Set to value))) inner rest second (codes-join inner rest second)
codes-join inner (step.Copy to from ∷ rest) second =
    behind (map code (named (Copy to from))) inner rest second (codes-join inner rest second)
codes-join inner (step.One op to from ∷ rest) second =
    behind (map code (named (One op to from))) inner rest second (codes-join inner rest second)
codes-join inner (step.Two op to left right ∷ rest) second =
    behind (map code (named (Two op to left right))) inner rest second (codes-join inner rest second)
codes-join inner (step.Place to word ∷ rest) second =
    behind (map code (named (Place to word))) inner rest second (codes-join inner rest second)
codes-join inner (step.Spot to word by ∷ rest) second =
    behind (map code (named (Spot to word by))) inner rest second (codes-join inner rest second)
codes-join inner (step.Walk place words ∷ rest) second =
    behind (map code (named (Walk place words))) inner rest second (codes-join inner rest second)
codes-join inner (step.Read to area place ∷ rest) second =
    behind (map code (named (Read to area place))) inner rest second (codes-join inner rest second)
codes-join inner (step.Write area place from ∷ rest) second =
    behind (map code (named (Write area place from))) inner rest second (codes-join inner rest second)
codes-join inner (step.For counter turns body ∷ rest) second =
    ap (λ list. code (Register counter) ∷ list) (behind (codes_of (inner body)) inner rest second (codes-join inner rest second))
codes-join inner (step.If left below one other ∷ rest) second =
    let later = behind (codes_of (inner other)) inner rest second (codes-join inner rest second) in
    ap (λ list. code (Register left) ∷ list)
    (regroup (codes_of (inner one)) (codes_of (inner other) ++ codes_of (steps_of inner rest)) (codes_of (steps_of inner second)) later)

-- a choice
pub choice-weighs : (left : ℕ) (one other : List ℕ) (old first second new : List (ℕ × ℕ)) → Weighs (left ∷ []) old first → Weighs one first second
    → Weighs other second new → Weighs (left ∷ (one ++ (other ++ []))) old new
choice-weighs left one other old first second new a b c =
    weighs-join (left ∷ []) (one ++ (other ++ [])) old first new a (weighs-join one (other ++ []) first second new b
    (subst (λ codes. Weighs codes second new) (sym (append-nil other)) c))

-- one more step
pub steps-more : (inner : ℕ → Steps) (steps : List Step) (i : ℕ) (d : Step) (old mid new : List (ℕ × ℕ)) → i < length steps
    → Weighs (codes_of (steps_of inner (take i steps))) old mid → Weighs (codes_of (steps_of inner (get_or steps i d ∷ []))) mid new
    → Weighs (codes_of (steps_of inner (take (i + 1) steps))) old new
steps-more inner steps i d old mid new below one two =
    subst (λ list. Weighs list old new)
    (sym (ap (λ list. codes_of (steps_of inner list)) (take_more steps i d below) ∙ codes-join inner (take i steps) (get_or steps i d ∷ [])))
    (weighs-join (codes_of (steps_of inner (take i steps))) (codes_of (steps_of inner (get_or steps i d ∷ []))) old mid new one two)
