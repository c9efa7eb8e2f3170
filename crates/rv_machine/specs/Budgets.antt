-- An end as it is counted from an earlier configuration: this project's own.
use Rattle.std.specs.Prelude.{ℕ, ◌+◌}
use Rattle.rv_steps.specs.Stops.{End, Done, Budget, Stopped}

-- the end of a run with so many steps more in front
abbrev pub end_after : ℕ → End → End
end_after more (Done steps) = Done (more + steps)
end_after more Budget = Budget
end_after more (Stopped stop) = Stopped stop
