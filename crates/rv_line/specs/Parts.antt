-- What a program is to every contract: the parts that `Spells` has of a text, and how many words the block has. This project's own.
use Rattle.std.specs.Prelude.{ℕ, ◌+◌, List, sum_by}
use Rattle.shapes_core.specs.Shape.{total}
use Rattle.shapes_core.specs.declared.area.Area.{Area}
use Rattle.rv_line.specs.declared.assembly.Header.{Header}
use Rattle.rv_line.specs.declared.line.Line.{Line}

-- a program: its header, the areas of its block, its instructions, and for each of these the line of a text where it stands, counted from 1
pub record Parts : Type 0 where
  pub header : Header
  pub areas : List Area
  pub lines : List Line
  pub places : List ℕ

-- the words of the block: the spill words, and then those of the areas
abbrev pub block_words : Header → List Area → ℕ
block_words header areas = header.spill + sum_by (λ area. total area.shape) areas
