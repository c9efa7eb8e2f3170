-- Lists of steps by their numbers, and the trees for which they stand. This project's own.
use Rattle.std.specs.Prelude.{ℕ, suc, ◌-◌, List, [], ◌∷◌, ◌++◌, length, map, reverse, slice_index_or}
use Rattle.loop_ir.specs.declared.step.Step.{Step}
use Rattle.loop_ir.specs.declared.step.Step.TheVariants as step
use Rattle.loop_ir.specs.Steps.{Set, Copy, One, Two, Place, Spot, Walk, Read, Write, Steps, End, Then, For, If}

-- the tree of a list, over the trees of the lists that it names
abbrev pub steps_of : (ℕ → Steps) → List Step → Steps
steps_of inner [] = End
steps_of inner (step.Set to value ∷ others) = Then (Set to value) (steps_of inner others)
steps_of inner (step.Copy to from ∷ others) = Then (Copy to from) (steps_of inner others)
steps_of inner (step.One op to from ∷ others) = Then (One op to from) (steps_of inner others)
steps_of inner (step.Two op to left right ∷ others) = Then (Two op to left right) (steps_of inner others)
steps_of inner (step.Place to word ∷ others) = Then (Place to word) (steps_of inner others)
steps_of inner (step.Spot to word by ∷ others) = Then (Spot to word by) (steps_of inner others)
steps_of inner (step.Walk place words ∷ others) = Then (Walk place words) (steps_of inner others)
steps_of inner (step.Read to area place ∷ others) = Then (Read to area place) (steps_of inner others)
steps_of inner (step.Write area place from ∷ others) = Then (Write area place from) (steps_of inner others)
steps_of inner (step.For counter turns body ∷ others) = For counter turns (inner body) (steps_of inner others)
steps_of inner (step.If left below one other ∷ others) = If left below (inner one) (inner other) (steps_of inner others)

abbrev pub tree_at : List Steps → ℕ → Steps
tree_at trees number = slice_index_or trees number End

-- the lists that a step names
abbrev pub inner_lists : Step → List ℕ
inner_lists (step.For counter turns body) = body ∷ []
inner_lists (step.If left below one other) = one ∷ other ∷ []
inner_lists _ = []

-- ---- a nest: each list stands before those that it names

-- the trees of lists, the first of which has this number
abbrev pub trees_from : ℕ → List (List Step) → List Steps
trees_from first [] = []
trees_from first (list ∷ lists) =
    let behind = trees_from (suc first) lists in steps_of (λ number. tree_at behind (number - suc first)) list ∷ behind

-- list 0 is the whole
abbrev pub tree : List (List Step) → Steps
tree lists = tree_at (trees_from 0 lists) 0

-- ---- a nest in the making: each list stands behind those that it names

-- the trees of some lists behind those that have theirs
abbrev pub trees_after : List Steps → List (List Step) → List Steps
trees_after before [] = before
trees_after before (list ∷ lists) = trees_after (before ++ steps_of (tree_at before) list ∷ []) lists

abbrev pub trees : List (List Step) → List Steps
trees lists = trees_after [] lists

-- ---- a nest that is made: its lists the other way round, under the numbers that they then have

abbrev pub renumbered : ℕ → Step → Step
renumbered count (step.For counter turns body) = step.For counter turns (count - suc body)
renumbered count (step.If left below one other) = step.If left below (count - suc one) (count - suc other)
renumbered count plain = plain

abbrev pub turned : List (List Step) → List (List Step)
turned lists = map (map (renumbered (length lists))) (reverse lists)
