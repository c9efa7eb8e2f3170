-- Small nests and homes that examples compute on. This project's own.
use Rattle.std.specs.Prelude.{ℕ, pos, [], ◌∷◌}
use Rattle.loop_ir.specs.Steps.{Steps, End, Then, Set, Copy}
use Rattle.register_map.specs.declared.home.Home.TheVariants as home
use Rattle.register_map.specs.Homes.{Given}

-- one register is set
abbrev pub one_set : Steps
one_set = Then (Set 0 (pos 1)) End

-- two registers are set before each is copied
abbrev pub two_copied : Steps
two_copied = Then (Set 0 (pos 1)) (Then (Set 1 (pos 2)) (Then (Copy 2 0) (Then (Copy 2 1) End)))

-- they lie in these machine registers
abbrev pub one_in : ℕ → Given
one_in first = record { homes = (0, home.Register first) ∷ []; spill = 0 }

abbrev pub two_in : ℕ → ℕ → Given
two_in first second = record { homes = (0, home.Register first) ∷ (2, home.Register second) ∷ []; spill = 0 }
