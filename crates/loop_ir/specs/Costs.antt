-- What the steps of nests cost as lines of a machine, and as steps of it. This project's own.
use Rattle.std.specs.Prelude.{ℕ, ◌+◌, ◌*◌, max, ℤ, pos, List, [], ◌∷◌, ◌++◌}
use Rattle.std.specs.List.{sum_by}
use Rattle.loop_ir.specs.Needed.{reads, sets}
use Rattle.loop_ir.specs.Running.{Key, Register}
use Rattle.loop_ir.specs.Steps.{Action, Set, Place, Spot, Walk, Steps, End, Then, For, If}

-- how many lines a machine takes to hold a number, and how many more where it fetches or puts a register or a place
pub record Prices : Type 0 where
  pub lines : ℤ → ℕ
  pub width : Key → ℕ

-- the number that stands in an action, where one does
abbrev pub numbers : Action → List ℤ
numbers (Set to value) = value ∷ []
numbers (Place to word) = word ∷ []
numbers (Spot to word by) = word ∷ []
numbers (Walk place words) = words ∷ []
numbers _ = []

-- the registers and places that an action names
abbrev pub named : Action → List Key
named (Walk place words) = reads (Walk place words)
named action = sets action ++ reads action

abbrev pub own_cost : Prices → List ℤ → List Key → ℕ
own_cost prices numbers keys = 8 + sum_by prices.lines numbers + 2 * sum_by prices.width keys

abbrev pub action_cost : Prices → Action → ℕ
action_cost prices action = own_cost prices (numbers action) (named action)

-- a loop names its counter four times
abbrev pub loop_cost : Prices → ℕ → ℕ → ℕ
loop_cost prices counter turns =
    own_cost prices (pos turns ∷ []) (Register counter ∷ Register counter ∷ Register counter ∷ Register counter ∷ [])

abbrev pub choice_cost : Prices → ℕ → ℤ → ℕ
choice_cost prices left below = own_cost prices (below ∷ []) (Register left ∷ [])

-- a bound on the lines of steps
abbrev pub cost : Prices → Steps → ℕ
cost prices End = 0
cost prices (Then action rest) = action_cost prices action + cost prices rest
cost prices (For counter turns body rest) = loop_cost prices counter turns + cost prices body + cost prices rest
cost prices (If left below one other rest) = choice_cost prices left below + cost prices one + cost prices other + cost prices rest

-- a bound on the steps that a machine makes for them
abbrev pub time : Prices → Steps → ℕ
time prices End = 0
time prices (Then action rest) = action_cost prices action + time prices rest
time prices (For counter turns body rest) =
    loop_cost prices counter turns + turns * (loop_cost prices counter turns + time prices body) + time prices rest
time prices (If left below one other rest) = choice_cost prices left below + max (time prices one) (time prices other) + time prices rest
