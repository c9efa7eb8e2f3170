-- Nests and homes that examples compute on. This project's own.
use Rattle.std.specs.Prelude.{List, [], ◌∷◌}
use Rattle.loop_ir.specs.NestExamples.{sum_tree}
use Rattle.loop_ir.specs.Steps.{Steps}
use Rattle.register_map.specs.declared.home.Home.TheVariants as home
use Rattle.register_map.specs.Homes.{Given}

-- the registers and places of the sum of two vectors, each in a machine register
abbrev pub sum_homes : Given
sum_homes = record {
  homes = (0, home.Register 5) ∷ (2, home.Register 6) ∷ (4, home.Register 7) ∷ (7, home.Register 11) ∷ (9, home.Register 12)
      ∷ (11, home.Register 13) ∷ [];
  spill = 0;
}

abbrev pub sum_nests : List (Steps × Given)
sum_nests = (sum_tree, sum_homes) ∷ []

-- the same with the sum and the place of the first vector in spill words, of which the second one is far
abbrev pub spilled_homes : Given
spilled_homes = record {
  homes = (0, home.Register 5) ∷ (2, home.Spill 3) ∷ (4, home.Register 7) ∷ (7, home.Spill 300) ∷ (9, home.Register 12)
      ∷ (11, home.Register 13) ∷ [];
  spill = 301;
}
