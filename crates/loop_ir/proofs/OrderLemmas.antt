-- A nest in the order of its lists: the tree of each is over the trees of the lists that it names, which are behind it.
use Rattle.std.specs.Prelude.{◌≡◌, ℕ, zero, suc, ◌+◌, ◌-◌, ◌<◌, List, [], ◌∷◌, Some, length, slice_get}
use Rattle.std.specs.List.{AllByRecursion, flat_map}
use Rattle.std.proofs.Common.{refl, ap, ◌∙◌, subst, arith}
use Rattle.std.proofs.lemmas.Option.{slice_get_within}
use Rattle.loop_ir.specs.declared.step.Step.{Step}
use Rattle.loop_ir.specs.declared.step.Step.TheVariants as step
use Rattle.loop_ir.specs.Kept.{AreBehind, IsNest}
use Rattle.loop_ir.specs.Pool.{inner_lists, steps_of, tree_at, trees_from}
use Rattle.loop_ir.specs.Steps.{Set, Copy, One, Two, Place, Spot, Walk, Read, Write, Steps, Then, For, If}

all-weaker : {X : Type 0} {P Q : X → Type 0} → ((x : X) → P x → Q x) → (xs : List X) → AllByRecursion P xs → AllByRecursion Q xs
all-weaker f [] h = tt
all-weaker f (x ∷ xs) h = (f x h.0, all-weaker f xs h.1)

-- two numberings of trees that agree on the lists that are named
steps-same : (inner other : ℕ → Steps) (list : List Step) → AllByRecursion (λ n. inner n ≡ other n) (flat_map inner_lists list)
    → steps_of inner list ≡ steps_of other list
steps-same inner other [] h = refl
steps-same inner other (step.Set to value ∷ rest) h = ap (Then (Set to value)) (steps-same inner other rest h)
steps-same inner other (step.Copy to from ∷ rest) h = ap (Then (Copy to from)) (steps-same inner other rest h)
steps-same inner other (step.One op to from ∷ rest) h = ap (Then (One op to from)) (steps-same inner other rest h)
steps-same inner other (step.Two op to left right ∷ rest) h = ap (Then (Two op to left right)) (steps-same inner other rest h)
steps-same inner other (step.Place to word ∷ rest) h = ap (Then (Place to word)) (steps-same inner other rest h)
steps-same inner other (step.Spot to word by ∷ rest) h = ap (Then (Spot to word by)) (steps-same inner other rest h)
steps-same inner other (step.Walk place words ∷ rest) h = ap (Then (Walk place words)) (steps-same inner other rest h)
steps-same inner other (step.Read to area place ∷ rest) h = ap (Then (Read to area place)) (steps-same inner other rest h)
steps-same inner other (step.Write area place from ∷ rest) h = ap (Then (Write area place from)) (steps-same inner other rest h)
steps-same inner other (step.For counter turns body ∷ rest) h =
    ap (λ tree. For counter turns tree (steps_of inner rest)) h.0 ∙ ap (For counter turns (other body)) (steps-same inner other rest h.1)
steps-same inner other (step.If left below one two ∷ rest) h =
    ap (λ tree. If left below tree (inner two) (steps_of inner rest)) h.0
    ∙ ap (λ tree. If left below (other one) tree (steps_of inner rest)) h.1.0
    ∙ ap (If left below (other one) (other two)) (steps-same inner other rest h.1.1)

same-inside : {X : Type 0} {x y : X} → Some x ≡ Some y → x ≡ y
same-inside e = cc

-- what a list names is behind it, and there
behind-at : (first count : ℕ) (lists : List (List Step)) (number : ℕ) (list : List Step) → slice_get lists number ≡ Some list
    → AreBehind first count lists → AllByRecursion (λ inner. (first + number < inner) × (inner < count)) (flat_map inner_lists list)
behind-at first count [] number list e h = absurd (omega (arith, slice_get_within [] number list e))
behind-at first count (one ∷ lists) zero list e h =
    subst (λ named. AllByRecursion (λ inner. (first + 0 < inner) × (inner < count)) (flat_map inner_lists named)) (same-inside e)
    (all-weaker (λ inner below. (omega (arith, below), below.1)) (flat_map inner_lists one) h.0)
behind-at first count (one ∷ lists) (suc number) list e h =
    all-weaker (λ inner below. (omega (arith, below), below.1)) (flat_map inner_lists list) (behind-at (suc first) count lists number list e h.1)

-- trees behind one more, where only later lists are named
one-further : (one : Steps) (behind : List Steps) (first : ℕ) (list : List Step)
    → AllByRecursion (λ inner. first < inner) (flat_map inner_lists list)
    → steps_of (λ inner. tree_at behind (inner - suc first)) list ≡ steps_of (λ inner. tree_at (one ∷ behind) (inner - first)) list
one-further one behind first list h =
    steps-same (λ inner. tree_at behind (inner - suc first)) (λ inner. tree_at (one ∷ behind) (inner - first)) list
    (all-weaker (λ inner below. let next : suc (inner - suc first) ≡ inner - first = omega (arith, below) in ap (λ n. tree_at (one ∷ behind) n) next)
    (flat_map inner_lists list) h)

tree-from : (first count : ℕ) (lists : List (List Step)) (number : ℕ) (list : List Step) → slice_get lists number ≡ Some list
    → AreBehind first count lists
    → tree_at (trees_from first lists) number ≡ steps_of (λ inner. tree_at (trees_from first lists) (inner - first)) list
tree-from first count [] number list e h = absurd (omega (arith, slice_get_within [] number list e))
tree-from first count (one ∷ lists) zero list e h =
    let behind = trees_from (suc first) lists in
    let top = steps_of (λ inner. tree_at behind (inner - suc first)) one in
    one-further top behind first one (all-weaker (λ inner below. below.0) (flat_map inner_lists one) h.0)
    ∙ ap (λ list. steps_of (λ inner. tree_at (top ∷ behind) (inner - first)) list) (same-inside e)
tree-from first count (one ∷ lists) (suc number) list e h =
    let behind = trees_from (suc first) lists in
    let top = steps_of (λ inner. tree_at behind (inner - suc first)) one in
    tree-from (suc first) count lists number list e h.1
    ∙ one-further top behind first list
    (all-weaker (λ inner below. omega (arith, below.0)) (flat_map inner_lists list) (behind-at (suc first) count lists number list e h.1))

-- the tree of a list is over the trees of the lists that it names
pub tree-of : (lists : List (List Step)) (number : ℕ) (list : List Step) → IsNest lists → slice_get lists number ≡ Some list
    → tree_at (trees_from 0 lists) number ≡ steps_of (tree_at (trees_from 0 lists)) list
tree-of lists number list nest e =
    tree-from 0 (length lists) lists number list e nest.behind
    ∙ steps-same (λ inner. tree_at (trees_from 0 lists) (inner - 0)) (tree_at (trees_from 0 lists)) list
    (all-weaker (λ inner below. let none : inner - 0 ≡ inner = omega arith in ap (λ n. tree_at (trees_from 0 lists) n) none)
    (flat_map inner_lists list) (behind-at 0 (length lists) lists number list e nest.behind))

-- and these have greater numbers
pub named-behind : (lists : List (List Step)) (number : ℕ) (list : List Step) → IsNest lists → slice_get lists number ≡ Some list
    → AllByRecursion (λ inner. (number < inner) × (inner < length lists)) (flat_map inner_lists list)
named-behind lists number list nest e =
    all-weaker (λ inner below. (omega (arith, below.0), below.1)) (flat_map inner_lists list)
    (behind-at 0 (length lists) lists number list e nest.behind)
