-- Homes that are given to the nests of a program. This project's own.
use Rattle.std.specs.Prelude.{ℕ, List}
use Rattle.std.specs.List.{AllZip, Contains}
use Rattle.loop_ir.specs.Kept.{EachNamed}
use Rattle.loop_ir.specs.Steps.{Steps}
use Rattle.register_map.specs.Fits.{IsFit, IsRanked}
use Rattle.register_map.specs.Homes.{Given, IsGiven, code}

-- homes that fit a nest, of which a spill word is at most the number of smaller codes among any that has all that the nest names
pub record IsAssigned (nest : Steps) (given : Given) : Type 0 where
  pub homes : IsGiven given
  pub fit : IsFit nest given
  pub ranked : (codes : List ℕ) → EachNamed (λ key. Contains codes (code key)) nest → IsRanked codes given

abbrev pub AreAssigned : List Steps → List Given → Type 0
AreAssigned nests homes = AllZip IsAssigned nests homes
