-- Steps in the making: what is put behind them, and their trees where lists are added.
use Rattle.std.specs.Prelude.{◌≡◌, ℕ, pos, ◌+◌, ◌-ℤ◌, ◌-◌, ◌<◌, List, [], ◌∷◌, ◌++◌, length}
use Rattle.std.specs.List.{AllByRecursion, flat_map}
use Rattle.std.proofs.Common.{refl, ap, sym, ◌∙◌, subst, arith, length-append}
use Rattle.std.proofs.Math.Seq.{get_or-append_seam}
use Rattle.std.proofs.lemmas.List.{append-nil}
use Rattle.loop_ir.specs.declared.step.Step.{Step}
use Rattle.loop_ir.specs.declared.step.Step.TheVariants as step
use Rattle.loop_ir.specs.Pool.{inner_lists, steps_of, tree_at, trees, trees_after}
use Rattle.loop_ir.specs.Steps.{Action, Set, Copy, One, Two, Place, Spot, Walk, Read, Write, Steps, End, Then, For, If, joined}
use Rattle.nest_build.specs.Coding.{plain}
use Rattle.nest_build.specs.Nests.{Spot as ASpot, inner_loops, listed, walks}
use Rattle.nest_build.specs.Parts.{Loop}
use Rattle.nest_build.specs.Standing.{Stands, tree_in}

-- ---- plain steps

-- plain steps before others
pub plain-before : (inner : ℕ → Steps) (actions : List Action) (rest : List Step)
    → steps_of inner (plain actions ++ rest) ≡ joined (listed actions) (steps_of inner rest)
plain-before inner [] rest = refl
plain-before inner (Set to value ∷ actions) rest = ap (Then (Set to value)) (plain-before inner actions rest)
plain-before inner (Copy to from ∷ actions) rest = ap (Then (Copy to from)) (plain-before inner actions rest)
plain-before inner (One op to from ∷ actions) rest = ap (Then (One op to from)) (plain-before inner actions rest)
plain-before inner (Two op to left right ∷ actions) rest = ap (Then (Two op to left right)) (plain-before inner actions rest)
plain-before inner (Place to word ∷ actions) rest = ap (Then (Place to word)) (plain-before inner actions rest)
plain-before inner (Spot to word by ∷ actions) rest = ap (Then (Spot to word by)) (plain-before inner actions rest)
plain-before inner (Walk place words ∷ actions) rest = ap (Then (Walk place words)) (plain-before inner actions rest)
plain-before inner (Read to area place ∷ actions) rest = ap (Then (Read to area place)) (plain-before inner actions rest)
plain-before inner (Write area place from ∷ actions) rest = ap (Then (Write area place from)) (plain-before inner actions rest)

joined-end : (actions : List Action) → joined (listed actions) End ≡ listed actions
joined-end [] = refl
joined-end (action ∷ actions) = ap (Then action) (joined-end actions)

pub plain-tree : (inner : ℕ → Steps) (actions : List Action) → steps_of inner (plain actions) ≡ listed actions
plain-tree inner actions =
    ap (steps_of inner) (sym (append-nil (plain actions))) ∙ plain-before inner actions [] ∙ joined-end actions

-- steps before others
pub steps-before : (inner : ℕ → Steps) (list rest : List Step) → steps_of inner (list ++ rest) ≡ joined (steps_of inner list) (steps_of inner rest)
steps-before inner [] rest = refl
steps-before inner (step.Set to value ∷ list) rest = ap (Then (Set to value)) (steps-before inner list rest)
steps-before inner (step.Copy to from ∷ list) rest = ap (Then (Copy to from)) (steps-before inner list rest)
steps-before inner (step.One op to from ∷ list) rest = ap (Then (One op to from)) (steps-before inner list rest)
steps-before inner (step.Two op to left right ∷ list) rest = ap (Then (Two op to left right)) (steps-before inner list rest)
steps-before inner (step.Place to word ∷ list) rest = ap (Then (Place to word)) (steps-before inner list rest)
steps-before inner (step.Spot to word by ∷ list) rest = ap (Then (Spot to word by)) (steps-before inner list rest)
steps-before inner (step.Walk place words ∷ list) rest = ap (Then (Walk place words)) (steps-before inner list rest)
steps-before inner (step.Read to area place ∷ list) rest = ap (Then (Read to area place)) (steps-before inner list rest)
steps-before inner (step.Write area place from ∷ list) rest = ap (Then (Write area place from)) (steps-before inner list rest)
steps-before inner (step.For counter turns body ∷ list) rest = ap (For counter turns (inner body)) (steps-before inner list rest)
steps-before inner (step.If left below one other ∷ list) rest = ap (If left below (inner one) (inner other)) (steps-before inner list rest)

-- plain steps name no list
pub plain-before-named : (P : ℕ → Type 0) (actions : List Action) (rest : List Step) → AllByRecursion P (flat_map inner_lists rest)
    → AllByRecursion P (flat_map inner_lists (plain actions ++ rest))
plain-before-named P [] rest h = h
plain-before-named P (Set to value ∷ actions) rest h = plain-before-named P actions rest h
plain-before-named P (Copy to from ∷ actions) rest h = plain-before-named P actions rest h
plain-before-named P (One op to from ∷ actions) rest h = plain-before-named P actions rest h
plain-before-named P (Two op to left right ∷ actions) rest h = plain-before-named P actions rest h
plain-before-named P (Place to word ∷ actions) rest h = plain-before-named P actions rest h
plain-before-named P (Spot to word by ∷ actions) rest h = plain-before-named P actions rest h
plain-before-named P (Walk place words ∷ actions) rest h = plain-before-named P actions rest h
plain-before-named P (Read to area place ∷ actions) rest h = plain-before-named P actions rest h
plain-before-named P (Write area place from ∷ actions) rest h = plain-before-named P actions rest h

pub plain-named : (P : ℕ → Type 0) (actions : List Action) → AllByRecursion P (flat_map inner_lists (plain actions))
plain-named P actions =
    subst (λ l. AllByRecursion P (flat_map inner_lists l)) (append-nil (plain actions)) (plain-before-named P actions [] tt)

pub steps-before-named : (P : ℕ → Type 0) (list rest : List Step) → AllByRecursion P (flat_map inner_lists list)
    → AllByRecursion P (flat_map inner_lists rest) → AllByRecursion P (flat_map inner_lists (list ++ rest))
steps-before-named P [] rest h g = g
steps-before-named P (step.For counter turns body ∷ list) rest h g = (h.0, steps-before-named P list rest h.1 g)
steps-before-named P (step.If left below one other ∷ list) rest h g = (h.0, (h.1.0, steps-before-named P list rest h.1.1 g))
steps-before-named P (_ ∷ list) rest h g = steps-before-named P list rest h g

-- ---- lists that are added

trees-put : (before : List Steps) (lists : List (List Step)) (list : List Step)
    → trees_after before (lists ++ list ∷ []) ≡ trees_after before lists ++ steps_of (tree_at (trees_after before lists)) list ∷ []
trees-put before [] list = refl
trees-put before (first ∷ lists) list = trees-put (before ++ steps_of (tree_at before) first ∷ []) lists list

trees-length : (before : List Steps) (lists : List (List Step)) → length (trees_after before lists) ≡ length before + length lists
trees-length before [] = omega arith
trees-length before (first ∷ lists) =
    trees-length (before ++ steps_of (tree_at before) first ∷ []) lists
    ∙ omega (arith, length-append before (steps_of (tree_at before) first ∷ []))

-- the tree of a list that is added
pub added-tree : (lists : List (List Step)) (list : List Step) → tree_at (trees (lists ++ list ∷ [])) (length lists) ≡ tree_in lists list
added-tree lists list =
    let counted : length (trees lists) ≡ length lists = trees-length [] lists ∙ omega arith in
    ap (λ t. tree_at t (length lists)) (trees-put [] lists list)
    ∙ ap (tree_at (trees lists ++ tree_in lists list ∷ [])) (sym counted)
    ∙ get_or-append_seam (trees lists) (tree_in lists list) [] End

-- ---- what the code does

-- plain steps put behind others
pub walked-behind : (lists : List (List Step)) (steps more : List Step) (actions : List Action) (tree : Steps) → more ≡ steps ++ plain actions
    → Stands lists steps tree → Stands lists more (joined tree (listed actions))
walked-behind lists steps more actions tree put h =
    subst (λ l. Stands lists l (joined tree (listed actions))) (sym put) (record {
      named = steps-before-named (λ inner. inner < length lists) steps (plain actions) h.named (plain-named (λ inner. inner < length lists) actions);
      same = steps-before (tree_at (trees lists)) steps (plain actions)
          ∙ ap (λ t. joined t (steps_of (tree_at (trees lists)) (plain actions))) h.same
          ∙ ap (joined tree) (plain-tree (tree_at (trees lists)) actions);
    })

-- a loop over a list that is added
pub looped : (lists more : List (List Step)) (list steps : List Step) (counter turns body : ℕ) (tree : Steps) → body ≡ length lists
    → more ≡ lists ++ list ∷ [] → steps ≡ step.For counter turns body ∷ [] → tree_in lists list ≡ tree
    → Stands more steps (For counter turns tree End)
looped lists more list steps counter turns body tree numbered added made same =
    rw (made, added, numbered) (record {
      named = (omega (arith, length-append lists (list ∷ [])), tt);
      same = ap (λ t. For counter turns t End) (added-tree lists list ∙ same);
    })

-- a loop within another one, behind which its places are brought back
pub inner-next : (lists : List (List Step)) (steps more : List Step) (spots : List ASpot) (loop : Loop) (loops : List Loop) (body inside : Steps)
    → more ≡ steps ++ plain (walks spots loop.var (pos 0 -ℤ pos loop.turns)) → inside ≡ inner_loops spots loops body
    → Stands lists steps (For loop.counter loop.turns (joined inside (listed (walks spots loop.var (pos 1)))) End)
    → Stands lists more (inner_loops spots (loop ∷ loops) body)
inner-next lists steps more spots loop loops body inside put same h =
    let tree : Steps = For loop.counter loop.turns (joined inside (listed (walks spots loop.var (pos 1)))) End in
    subst (λ t. Stands lists more (For loop.counter loop.turns (joined t (listed (walks spots loop.var (pos 1))))
    (listed (walks spots loop.var (pos 0 -ℤ pos loop.turns))))) same
    (walked-behind lists steps more (walks spots loop.var (pos 0 -ℤ pos loop.turns)) tree put h)

-- plain steps before others that stand for a tree
pub led-by : (lists : List (List Step)) (actions : List Action) (steps : List Step) (tree : Steps) → Stands lists steps tree
    → Stands lists (plain actions ++ steps) (joined (listed actions) tree)
led-by lists actions steps tree h = record {
  named = plain-before-named (λ inner. inner < length lists) actions steps h.named;
  same = plain-before (tree_at (trees lists)) actions steps ∙ ap (joined (listed actions)) h.same;
}

-- the tree of the list that was added last
pub last-tree : (lists more : List (List Step)) (list : List Step) → more ≡ lists ++ list ∷ []
    → tree_at (trees more) (length more - 1) ≡ tree_in lists list
last-tree lists more list added =
    let counted : length (lists ++ list ∷ []) - 1 ≡ length lists = omega (arith, length-append lists (list ∷ [])) in
    ap (λ l. tree_at (trees l) (length l - 1)) added
    ∙ ap (tree_at (trees (lists ++ list ∷ []))) counted ∙ added-tree lists list
