-- What nests keep. This project's own.
use Rattle.std.specs.Prelude.{◌≡◌, ℕ, suc, ◌^◌, ◌<◌, ◌≤◌, false, ◌||◌, List, [], ◌∷◌, length, ⊤}
use Rattle.std.specs.List.{AllByRecursion, flat_map}
use Rattle.shapes_core.specs.Limits.{most_items}
use Rattle.loop_ir.specs.declared.step.Step.{Step}
use Rattle.loop_ir.specs.Costs.{named}
use Rattle.loop_ir.specs.Needed.{Keys, among, none, sets}
use Rattle.loop_ir.specs.Pool.{inner_lists, tree}
use Rattle.loop_ir.specs.Running.{Key, Register, is_key}
use Rattle.loop_ir.specs.Steps.{Steps, End, Then, For, If}

-- the registers and places that steps may set
abbrev pub may_set : Steps → Keys
may_set End = none
may_set (Then action rest) = λ key. among (sets action) key || may_set rest key
may_set (For counter turns body rest) = λ key. is_key key (Register counter) || (may_set body key || may_set rest key)
may_set (If left below one other rest) = λ key. may_set one key || (may_set other key || may_set rest key)

-- no body sets the counter of its loop, and each loop turns less than 2 ^ 63 times, so that a counter fits 64 signed bits
abbrev pub KeepsCounters : Steps → Type 0
KeepsCounters End = ⊤
KeepsCounters (Then action rest) = KeepsCounters rest
KeepsCounters (For counter turns body rest) =
    ((may_set body (Register counter) ≡ false) × (turns < 2 ^ 63)) × (KeepsCounters body × KeepsCounters rest)
KeepsCounters (If left below one other rest) = KeepsCounters one × (KeepsCounters other × KeepsCounters rest)

-- so is each register and place that steps name
abbrev pub EachNamed : (Key → Type 0) → Steps → Type 0
EachNamed P End = ⊤
EachNamed P (Then action rest) = AllByRecursion P (named action) × EachNamed P rest
EachNamed P (For counter turns body rest) = P (Register counter) × (EachNamed P body × EachNamed P rest)
EachNamed P (If left below one other rest) = P (Register left) × (EachNamed P one × (EachNamed P other × EachNamed P rest))

-- each list, the first of which has this number, names lists behind it that are there
abbrev pub AreBehind : ℕ → ℕ → List (List Step) → Type 0
AreBehind number count [] = ⊤
AreBehind number count (list ∷ lists) =
    AllByRecursion (λ inner. (number < inner) × (inner < count)) (flat_map inner_lists list) × AreBehind (suc number) count lists

-- a list for the whole is there, and each of its inner lists has a greater number
pub record IsNest (lists : List (List Step)) : Type 0 where
  pub some : 0 < length lists
  pub few : length lists ≤ most_items
  pub behind : AreBehind 0 (length lists) lists
  pub counters : KeepsCounters (tree lists)

-- each list of a nest in the making names lists before it
abbrev pub AreBefore : ℕ → List (List Step) → Type 0
AreBefore number [] = ⊤
AreBefore number (list ∷ lists) = AllByRecursion (λ inner. inner < number) (flat_map inner_lists list) × AreBefore (suc number) lists

-- and they are few
pub record IsMaking (lists : List (List Step)) : Type 0 where
  pub few : length lists ≤ most_items
  pub before : AreBefore 0 lists
