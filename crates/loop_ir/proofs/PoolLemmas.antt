-- A nest in the making, turned round: its trees are those of the making the other way round, and each list names lists behind it.
use mathlib.Core.List.{reverse_aux}
use Rattle.std.specs.Prelude.{◌≡◌, ℕ, suc, ◌+◌, ◌-◌, ◌<◌, ◌≤◌, List, [], ◌∷◌, ◌++◌, length, map, reverse}
use Rattle.std.specs.List.{AllByRecursion, flat_map}
use Rattle.std.proofs.Common.{refl, ap, sym, ◌∙◌, subst, arith, append_assoc, length-append}
use Rattle.std.proofs.lemmas.List.{get_or-reverse, length-map, length-reverse, map-append, reverse-append}
use Rattle.shapes_core.specs.Limits.{most_items}
use Rattle.loop_ir.specs.declared.step.Step.{Step}
use Rattle.loop_ir.specs.declared.step.Step.TheVariants as step
use Rattle.loop_ir.specs.Kept.{AreBefore, AreBehind, IsMaking, IsNest, KeepsCounters}
use Rattle.loop_ir.specs.Pool.{inner_lists, renumbered, steps_of, tree, tree_at, trees, trees_after, trees_from, turned}
use Rattle.loop_ir.specs.Steps.{Steps, End}

-- lists under the numbers that they have among so many the other way round
abbrev pub all_renumbered : ℕ → List (List Step) → List (List Step)
all_renumbered count lists = map (map (renumbered count)) lists

-- ---- the tree of a list that is renumbered

-- two numberings of trees that agree on the lists that are named
abbrev Agree : ℕ → (ℕ → Steps) → (ℕ → Steps) → ℕ → Type 0
Agree count inner other number = inner (count - suc number) ≡ other number

renumbered-tree : (count : ℕ) (inner other : ℕ → Steps) (list : List Step) → AllByRecursion (Agree count inner other) (flat_map inner_lists list)
    → steps_of inner (map (renumbered count) list) ≡ steps_of other list
renumbered-tree count inner other [] h = refl
renumbered-tree count inner other (step.For counter turns body ∷ others) h = rw (h.0, renumbered-tree count inner other others h.1)
renumbered-tree count inner other (step.If left below one two ∷ others) h = rw (h.0, h.1.0, renumbered-tree count inner other others h.1.1)
renumbered-tree count inner other (_ ∷ others) h = rw (renumbered-tree count inner other others h)

-- a tree, found from the end
tree-turned : (before : List Steps) (number k : ℕ) → number < length before → k + suc number ≡ length before
    → tree_at (reverse before) k ≡ tree_at before number
tree-turned before number k within place =
    let inside : k < length before = omega (arith, place) in
    let same : length before - 1 - k ≡ number = omega (arith, place) in
    get_or-reverse before k End inside ∙ ap (λ n. tree_at before n) same

all-weaker : {P Q : ℕ → Type 0} (f : (n : ℕ) → P n → Q n) (numbers : List ℕ) → AllByRecursion P numbers → AllByRecursion Q numbers
all-weaker f [] h = tt
all-weaker f (number ∷ numbers) h = (f number h.0, all-weaker f numbers h.1)

-- ---- the trees of a nest

-- the trees behind a list, by the numbers of a nest
abbrev behind_at : ℕ → List Steps → ℕ → Steps
behind_at count before number = tree_at (reverse before) (number - suc (count - suc (length before)))

-- a list is put in front of those that are turned round already
tree-put : (count : ℕ) (before : List Steps) (done : List (List Step)) (list : List Step) → length before < count
    → trees_from (count - length before) (all_renumbered count done) ≡ reverse before
    → AllByRecursion (λ inner. inner < length before) (flat_map inner_lists list)
    → trees_from (count - suc (length before)) (all_renumbered count (list ∷ done)) ≡ reverse (before ++ steps_of (tree_at before) list ∷ [])
tree-put count before done list room same named =
    let next : suc (count - suc (length before)) ≡ count - length before = omega (arith, room) in
    let behind : trees_from (suc (count - suc (length before))) (all_renumbered count done) ≡ reverse before =
    ap (λ n. trees_from n (all_renumbered count done)) next ∙ same in
    let agree : AllByRecursion (Agree count (behind_at count before) (tree_at before)) (flat_map inner_lists list) =
    all-weaker (λ inner below. tree-turned before inner (count - suc inner - suc (count - suc (length before))) below (omega (arith, below, room)))
    (flat_map inner_lists list) named in
    ap (λ (t : List Steps). steps_of (λ number. tree_at t (number - suc (count - suc (length before)))) (map (renumbered count) list) ∷ t) behind
    ∙ ap (λ t. t ∷ reverse before) (renumbered-tree count (behind_at count before) (tree_at before) list agree)
    ∙ sym (reverse-append before (steps_of (tree_at before) list ∷ []))

trees-turned : (count : ℕ) (before : List Steps) (done lists : List (List Step)) → length before + length lists ≤ count
    → trees_from (count - length before) (all_renumbered count done) ≡ reverse before → AreBefore (length before) lists
    → trees_from (count - (length before + length lists)) (all_renumbered count (reverse_aux lists done)) ≡ reverse (trees_after before lists)
trees-turned count before done [] room same named =
    let none : length before + 0 ≡ length before = omega arith in
    ap (λ n. trees_from (count - n) (all_renumbered count done)) none ∙ same
trees-turned count before done (list ∷ lists) room same named =
    let longer : List Steps = before ++ steps_of (tree_at before) list ∷ [] in
    let one : length longer ≡ suc (length before) = length-append before (steps_of (tree_at before) list ∷ []) ∙ omega arith in
    let fits : length before < count = omega (arith, room) in
    let sum : length longer + length lists ≡ length before + suc (length lists) = omega (arith, one) in
    ap (λ n. trees_from (count - n) (all_renumbered count (reverse_aux lists (list ∷ done)))) (sym sum)
    ∙ trees-turned count longer (list ∷ done) lists (omega (arith, sum, room))
    (ap (λ n. trees_from (count - n) (all_renumbered count (list ∷ done))) one ∙ tree-put count before done list fits same named.0)
    (subst (λ n. AreBefore n lists) (sym one) named.1)

trees-length : (before : List Steps) (lists : List (List Step)) → length (trees_after before lists) ≡ length before + length lists
trees-length before [] = omega arith
trees-length before (list ∷ lists) =
    trees-length (before ++ steps_of (tree_at before) list ∷ []) lists
    ∙ omega (arith, length-append before (steps_of (tree_at before) list ∷ []))

-- the whole of a nest is the last list of the making
tree-of-turned : (lists : List (List Step)) → 0 < length lists → AreBefore 0 lists
    → tree (turned lists) ≡ tree_at (trees lists) (length lists - 1)
tree-of-turned lists some named =
    let none : length lists - (0 + length lists) ≡ 0 = omega arith in
    let counted : length (trees lists) ≡ length lists = trees-length [] lists ∙ omega arith in
    ap (λ t. tree_at t 0)
    (ap (λ n. trees_from n (turned lists)) (sym none) ∙ trees-turned (length lists) [] [] lists (omega arith) refl named)
    ∙ tree-turned (trees lists) (length lists - 1) 0 (omega (arith, counted, some)) (omega (arith, counted, some))

-- ---- what is behind

renumbered-inner : (P : ℕ → Type 0) (count : ℕ) (list : List Step) → AllByRecursion (λ inner. P (count - suc inner)) (flat_map inner_lists list)
    → AllByRecursion P (flat_map inner_lists (map (renumbered count) list))
renumbered-inner P count [] h = tt
renumbered-inner P count (step.For counter turns body ∷ others) h = (h.0, renumbered-inner P count others h.1)
renumbered-inner P count (step.If left below one two ∷ others) h = (h.0, (h.1.0, renumbered-inner P count others h.1.1))
renumbered-inner P count (_ ∷ others) h = renumbered-inner P count others h

turned-behind : (count k : ℕ) (done lists : List (List Step)) → k + length lists ≤ count → AreBehind (count - k) count (all_renumbered count done)
    → AreBefore k lists → AreBehind (count - (k + length lists)) count (all_renumbered count (reverse_aux lists done))
turned-behind count k done [] room behind named =
    let none : k ≡ k + 0 = omega arith in
    subst (λ n. AreBehind (count - n) count (all_renumbered count done)) none behind
turned-behind count k done (list ∷ lists) room behind named =
    let sum : suc k + length lists ≡ k + suc (length lists) = omega arith in
    let next : count - k ≡ suc (count - suc k) = omega (arith, room) in
    subst (λ n. AreBehind (count - n) count (all_renumbered count (reverse_aux lists (list ∷ done)))) sum
    (turned-behind count (suc k) (list ∷ done) lists (omega (arith, room)) (
      renumbered-inner (λ inner. (count - suc k < inner) × (inner < count)) count list
          (all-weaker (λ inner below. (omega (arith, below, room), omega (arith, below, room))) (flat_map inner_lists list) named.0),
      subst (λ n. AreBehind n count (all_renumbered count done)) next behind,
    )
    named.1)

turned-length : (lists : List (List Step)) → length (turned lists) ≡ length lists
turned-length lists = length-map (reverse lists) (map (renumbered (length lists))) ∙ length-reverse lists

-- what is made of lists is a nest
turned-nest : (lists : List (List Step)) → 0 < length lists → IsMaking lists → KeepsCounters (tree_at (trees lists) (length lists - 1))
    → IsNest (turned lists)
turned-nest lists some making counters =
    let none : length lists - (0 + length lists) ≡ 0 = omega arith in
    let same : length (turned lists) ≡ length lists = turned-length lists in
    record {
      some = omega (arith, same, some);
      few = omega (arith, same, making.few);
      behind = subst (λ n. AreBehind 0 n (turned lists)) (sym same)
          (subst (λ n. AreBehind n (length lists) (turned lists)) none
          (turned-behind (length lists) 0 [] lists (omega arith) tt making.before));
      counters = subst KeepsCounters (sym (tree-of-turned lists some making.before)) counters;
    }

-- ---- what is added and taken

before-put : (k : ℕ) (lists : List (List Step)) (list : List Step) → AreBefore k lists
    → AllByRecursion (λ inner. inner < k + length lists) (flat_map inner_lists list) → AreBefore k (lists ++ list ∷ [])
before-put k [] list h named =
    let none : k + 0 ≡ k = omega arith in (subst (λ n. AllByRecursion (λ inner. inner < n) (flat_map inner_lists list)) none named, tt)
before-put k (first ∷ lists) list h named =
    let sum : k + suc (length lists) ≡ suc k + length lists = omega arith in
    (h.0, before-put (suc k) lists list h.1 (subst (λ n. AllByRecursion (λ inner. inner < n) (flat_map inner_lists list)) sum named))

-- what is left where the last list is taken, and that list
record IsTaken (k : ℕ) (lists : List (List Step)) (list : List Step) : Type 0 where
  pub rest : AreBefore k lists
  pub last : AllByRecursion (λ inner. inner < k + length lists) (flat_map inner_lists list)

before-taken : (k : ℕ) (lists : List (List Step)) (list : List Step) → AreBefore k (lists ++ list ∷ []) → IsTaken k lists list
before-taken k [] list h =
    let none : k ≡ k + 0 = omega arith in
    record { rest = tt; last = subst (λ n. AllByRecursion (λ inner. inner < n) (flat_map inner_lists list)) none h.0 }
before-taken k (first ∷ lists) list h =
    let sum : suc k + length lists ≡ k + suc (length lists) = omega arith in
    let taken : IsTaken (suc k) lists list = before-taken (suc k) lists list h.1 in
    record {
      rest = (h.0, taken.rest);
      last = subst (λ n. AllByRecursion (λ inner. inner < n) (flat_map inner_lists list)) sum taken.last;
    }

making-added : (lists : List (List Step)) (list : List Step) → IsMaking lists → length lists < most_items
    → AllByRecursion (λ inner. inner < length lists) (flat_map inner_lists list) → IsMaking (lists ++ list ∷ [])
making-added lists list making room named =
    let sum : length lists ≡ 0 + length lists = omega arith in
    record {
      few = omega (arith, length-append lists (list ∷ []), room);
      before = before-put 0 lists list making.before (subst (λ n. AllByRecursion (λ inner. inner < n) (flat_map inner_lists list)) sum named);
    }

-- what is left to turn round, and what is made of the rest
pub record IsTurning (count : ℕ) (left made whole : List (List Step)) : Type 0 where
  pub few : length left ≤ count
  pub before : AreBefore 0 left
  pub whole_is : made ++ all_renumbered count (reverse left) ≡ whole

-- the last list that is left names lists below the count
pub turning-named : (count : ℕ) (left made whole : List (List Step)) (list : List Step) → IsTurning count (left ++ list ∷ []) made whole
    → AllByRecursion (λ inner. inner < count) (flat_map inner_lists list)
turning-named count left made whole list h =
    all-weaker (λ inner below. omega (arith, below, h.few, length-append left (list ∷ []))) (flat_map inner_lists list)
    (before-taken 0 left list h.before).last

-- it goes behind those that are made
turning-goes-on : (count : ℕ) (left made whole : List (List Step)) (list : List Step) → IsTurning count (left ++ list ∷ []) made whole
    → IsTurning count left (made ++ map (renumbered count) list ∷ []) whole
turning-goes-on count left made whole list h = record {
  few = omega (arith, h.few, length-append left (list ∷ []));
  before = (before-taken 0 left list h.before).rest;
  whole_is =
      append_assoc made (map (renumbered count) list ∷ []) (all_renumbered count (reverse left))
      ∙ ap (λ t. made ++ t) (sym (ap (all_renumbered count) (reverse-append left (list ∷ [])))) ∙ h.whole_is;
}

-- ---- what holds the lists

module _ {X : Type 0} (steps : X → List Step) where
  -- a list is added
  pub added-making : (lists more : List X) (list : X) (self : List (List Step)) → more ≡ lists ++ list ∷ [] → map steps lists ≡ self
      → IsMaking (map steps lists) → length lists < most_items → AllByRecursion (λ inner. inner < length self) (flat_map inner_lists (steps list))
      → IsMaking (map steps more)
  added-making lists more list self added same making room named =
      let counted : length (map steps lists) ≡ length lists = length-map lists steps in
      let below : AllByRecursion (λ inner. inner < length (map steps lists)) (flat_map inner_lists (steps list)) =
      subst (λ l. AllByRecursion (λ inner. inner < length l) (flat_map inner_lists (steps list))) (sym same) named in
      subst IsMaking (sym (ap (map steps) added ∙ map-append steps lists (list ∷ [])))
      (making-added (map steps lists) (steps list) making (omega (arith, counted, room)) below)

  -- the last list is taken
  pub turning-taken : (count : ℕ) (left rest : List X) (list : X) (made whole : List (List Step)) → left ≡ rest ++ list ∷ []
      → IsTurning count (map steps left) made whole → IsTurning count (map steps rest ++ steps list ∷ []) made whole
  turning-taken count left rest list made whole taken h =
      subst (λ t. IsTurning count t made whole) (ap (map steps) taken ∙ map-append steps rest (list ∷ [])) h

  -- and put behind those that are made
  pub turning-put : (count : ℕ) (left rest : List X) (list : X) (made more : List X) (next : X) (whole : List (List Step))
      → left ≡ rest ++ list ∷ [] → more ≡ made ++ next ∷ [] → steps next ≡ map (renumbered count) (steps list)
      → IsTurning count (map steps left) (map steps made) whole → IsTurning count (map steps rest) (map steps more) whole
  turning-put count left rest list made more next whole taken put same h =
      subst (λ t. IsTurning count (map steps rest) t whole)
      (sym (ap (map steps) put ∙ map-append steps made (next ∷ []) ∙ ap (λ t. map steps made ++ t ∷ []) same))
      (turning-goes-on count (map steps rest) (map steps made) whole (steps list)
      (turning-taken count left rest list (map steps made) whole taken h))

-- a nest is made of the lists that are held, and its tree is that of the last one
pub made-nest : (lists self made : List (List Step)) → lists ≡ self → made ≡ turned lists → IsMaking lists → 0 < length self
    → KeepsCounters (tree_at (trees self) (length self - 1)) → IsNest made
made-nest lists self made same is_turned making some counters =
    subst IsNest (sym (is_turned ∙ ap turned same)) (turned-nest self some (subst IsMaking same making) counters)

pub made-tree : (lists self made : List (List Step)) → lists ≡ self → made ≡ turned lists → IsMaking lists → 0 < length self
    → tree made ≡ tree_at (trees self) (length self - 1)
made-tree lists self made same is_turned making some =
    ap tree (is_turned ∙ ap turned same) ∙ tree-of-turned self some (subst IsMaking same making).before
