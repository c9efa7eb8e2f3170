-- What steps cost on this machine, as lines and as steps. This project's own.
use Rattle.std.specs.Prelude.{ℕ, ◌+◌, Bool, true, false, ◌&&◌, List, length, if◌then◌else◌}
use Rattle.std.specs.List.{sum_by}
use Rattle.std.specs.declared.option.Option.{Option}
use Rattle.std.specs.declared.option.Option.TheVariants.{None, Some}
use Rattle.loop_ir.specs.Costs.{Prices, cost, time}
use Rattle.loop_ir.specs.Steps.{Action, Two, Steps, End, Then, For, If}
use Rattle.moa_tree.specs.declared.operator.Op.{Op}
use Rattle.moa_tree.specs.declared.operator.Op.TheVariants.{Mul, Quot, Rem}
use Rattle.register_map.specs.declared.home.Home.{Home}
use Rattle.register_map.specs.declared.home.Home.TheVariants as home
use Rattle.register_map.specs.Homes.{Given, home_of}
use Rattle.rv_steps.specs.Constants.{constant_lines}
use Rattle.rv_emit.specs.Moving.{is_near}

-- a machine register takes no line more, a near spill word one, and a far one three
abbrev pub width_of : Option Home → ℕ
width_of None = 0
width_of (Some (home.Register number)) = 0
width_of (Some (home.Spill word)) = if is_near word then 1 else 3

abbrev pub prices_of : Given → Prices
prices_of given = record { lines = λ value. length (constant_lines 31 value); width = λ key. width_of (home_of given key) }

-- nests one after another, and the return
abbrev pub total_cost : List (Steps × Given) → ℕ
total_cost nests = 1 + sum_by (λ nest. cost (prices_of nest.1) nest.0) nests

abbrev pub total_time : List (Steps × Given) → ℕ
total_time nests = 1 + sum_by (λ nest. time (prices_of nest.1) nest.0) nests

-- no product, no quotient and no remainder is computed
abbrev pub is_base_op : Op → Bool
is_base_op Mul = false
is_base_op Quot = false
is_base_op Rem = false
is_base_op _ = true

abbrev pub is_base_action : Action → Bool
is_base_action (Two op to left right) = is_base_op op
is_base_action _ = true

abbrev pub are_base : Steps → Bool
are_base End = true
are_base (Then action rest) = is_base_action action && are_base rest
are_base (For counter turns body rest) = are_base body && are_base rest
are_base (If left below one other rest) = are_base one && (are_base other && are_base rest)
