-- Programs of nests: what they are made of, and lines that come behind others. This project's own.
use Rattle.std.specs.Prelude.{◌≡◌, ◌<◌, ◌+◌, ◌^◌, ℕ, ◌==◌, ◌||◌, max, Bool, List, [], ◌∷◌, ◌++◌, length, map, IsSome, Some, true}
use Rattle.std.specs.BTreeMap.{is_at}
use Rattle.std.specs.List.{list_any, zip}
use Rattle.std.specs.Ordering.{nat_cmp}
use Rattle.loop_ir.specs.declared.step.Step.{Step}
use Rattle.loop_ir.specs.declared.step.Step.TheVariants as step
use Rattle.loop_ir.specs.Kept.{EachNamed}
use Rattle.loop_ir.specs.Pool.{tree, tree_at, trees_from}
use Rattle.loop_ir.specs.Needed.{reads}
use Rattle.loop_ir.specs.Running.{Key, Pointer, Register}
use Rattle.loop_ir.specs.Steps.{Action, Set, Copy, One, Two, Place, Spot, Walk, Read, Write, Steps, End, Then, For, If}
use Rattle.register_map.specs.declared.home.Home.TheVariants as home
use Rattle.register_map.specs.Homes.{Given, home_of, is_given}
use Rattle.rv_line.specs.declared.line.Line.{Line}
use Rattle.rv_emit.specs.Emitting.{Piece, Plan, action_lines, plan_of}
use Rattle.rv_emit.specs.Walks.{Owed}

-- the greatest number of spill words, or 0 where there are no homes
abbrev pub most_spill : List Given → ℕ
most_spill [] = 0
most_spill (given ∷ others) = max given.spill (most_spill others)

-- the trees of nests, each with its homes
abbrev pub pairs : List (List (List Step)) → List Given → List (Steps × Given)
pairs nests homes = zip (map tree nests) homes

-- a nest with its homes, in a block with so many spill words
pub record Site : Type 0 where
  pub spill : ℕ
  pub lists : List (List Step)
  pub homes : Given

abbrev pub plan_at : Site → Plan
plan_at site = plan_of site.spill (tree site.lists, site.homes)

-- the tree of one of its lists
abbrev pub list_tree : Site → ℕ → Steps
list_tree site number = tree_at (trees_from 0 site.lists) number

-- each register and place that steps name has a home
abbrev pub HaveHomes : Given → Steps → Type 0
HaveHomes homes steps = EachNamed (λ key. IsSome (home_of homes key)) steps

-- the machine registers of homes are those that are given
abbrev pub HasRegisters : Given → Type 0
HasRegisters homes = (key : Key) (number : ℕ) → home_of homes key ≡ Some (home.Register number) → is_given number ≡ true

-- the lines of an action come behind others, where this is owed
abbrev pub Pushes : Plan → Action → Owed → List Line → List Line → Type 0
Pushes plan action owed before after = after ≡ before ++ action_lines plan (length before) owed action

-- the lines of a step that does no list
abbrev pub step_lines : Plan → ℕ → Owed → Step → List Line
step_lines plan at owed (step.Set to value) = action_lines plan at owed (Set to value)
step_lines plan at owed (step.Copy to from) = action_lines plan at owed (Copy to from)
step_lines plan at owed (step.One op to from) = action_lines plan at owed (One op to from)
step_lines plan at owed (step.Two op to left right) = action_lines plan at owed (Two op to left right)
step_lines plan at owed (step.Place to word) = action_lines plan at owed (Place to word)
step_lines plan at owed (step.Spot to word by) = action_lines plan at owed (Spot to word by)
step_lines plan at owed (step.Walk place words) = action_lines plan at owed (Walk place words)
step_lines plan at owed (step.Read to area place) = action_lines plan at owed (Read to area place)
step_lines plan at owed (step.Write area place from) = action_lines plan at owed (Write area place from)
step_lines plan at owed _ = []

-- lines come behind others, and the steps that they make are these
abbrev pub Emits : (ℕ → Piece) → List Line → List Line → ℕ → Type 0
Emits piece before after steps =
    (after ≡ before ++ (piece (length before)).lines) × (steps ≡ (piece (length before)).steps)

-- a piece may come behind lines: 32 bits number them then, and 64 bits count its steps
abbrev pub MayCome : (ℕ → Piece) → List Line → Type 0
MayCome piece before =
    (length before + length (piece (length before)).lines < 2 ^ 32) × ((piece (length before)).steps < 2 ^ 64)

-- ---- the registers that steps read

abbrev pub registers : List Key → List ℕ
registers [] = []
registers (Register number ∷ keys) = number ∷ registers keys
registers (Pointer number ∷ keys) = registers keys

-- those that they read more than once stand more than once
abbrev pub read_by : Steps → List ℕ
read_by End = []
read_by (Then action rest) = registers (reads action) ++ read_by rest
read_by (For counter turns body rest) = read_by body ++ read_by rest
read_by (If left below one other rest) = left ∷ (read_by one ++ (read_by other ++ read_by rest))

-- whether a number is among others, and among the keys of a set
abbrev pub is_among : List ℕ → ℕ → Bool
is_among numbers number = list_any (λ other. number == other) numbers

abbrev pub holds : List ℕ → ℕ → Bool
holds keys number = list_any (is_at (nat_cmp number)) keys

-- a set takes these numbers too
abbrev pub Takes : List ℕ → List ℕ → List ℕ → Type 0
Takes numbers old new = (number : ℕ) → holds new number ≡ (is_among numbers number || holds old number)
