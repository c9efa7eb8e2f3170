-- The first node of a program whose expression is not built. This project's own.
use Rattle.std.specs.Prelude.{ℕ, List, [], ◌∷◌, if◌then◌else◌}
use Rattle.std.specs.declared.option.Option.{Option}
use Rattle.std.specs.declared.option.Option.TheVariants.{None, Some}
use Rattle.moa_tree.specs.Pools.{Pools}
use Rattle.shape_check.specs.Judged.{node_tree}
use Rattle.nest_jobs.specs.Plain.{is_plain}

-- the first of these nodes
abbrev pub first_in : Pools → List ℕ → Option ℕ
first_in pools [] = None
first_in pools (number ∷ numbers) = if is_plain (node_tree pools number) then first_in pools numbers else Some number
