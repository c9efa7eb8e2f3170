-- What a compiled text is good for. This project's own.
use Rattle.std.specs.Prelude.{◌≡◌, ℕ, List, ℤ}
use Rattle.shapes_core.specs.declared.area.Area.{Area}
use Rattle.rv_steps.specs.Good.{IsStart, Serves}
use Rattle.rv_steps.specs.Machine.{Config}
use Rattle.rv_line.specs.Parts.{Parts}
use Rattle.rv_line.specs.Spells.{Spells}

-- The text spells exactly one program, which has these areas, and serves its caller from any start: it ends within the printed steps,
-- with the outputs holding what is demanded of the inputs, and touches nothing else.
pub record IsGood (text : List ℕ) (areas : List Area) (demand : List (List ℤ) → List (List ℤ)) : Type 0 where
  pub program : Parts
  pub spelled : Spells text program
  pub only : (other : Parts) → Spells text other → other ≡ program
  pub layout : program.areas ≡ areas
  pub serves : (base : ℕ) (c : Config) → IsStart program.header program.areas program.lines base c → Serves program.header program.areas program.lines demand base c
