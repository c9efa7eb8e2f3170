-- What the layout of a block keeps, whatever the program is. This project's own.
use Rattle.std.specs.Prelude.{◌≡◌, ◌≢◌, ℕ, ◌+◌, ◌≤◌, List, [], ◌∷◌, ◌++◌, length, map, AllPairs}
use Rattle.std.specs.List.{range_with_len, sum_by}
use Rattle.shapes_core.specs.Limits.{most_items, most_words}
use Rattle.shapes_core.specs.Shape.{total}
use Rattle.shapes_core.specs.declared.area.Area.{Area}
use Rattle.shapes_core.specs.declared.area.AreaKind.TheVariants as area
use Rattle.shape_check.specs.Layout.{Array}

-- the first area starts at this word, and each next one where the one before ends
abbrev pub ArePacked : ℕ → List Area → Type 0
ArePacked start [] = Unit {0}
ArePacked start (area ∷ areas) = (area.start ≡ start) × ArePacked (start + total area.shape) areas

abbrev pub words_of : List Area → ℕ
words_of areas = sum_by (λ area. total area.shape) areas

-- Inputs, outputs and then scans from 0 on; names that differ; one area behind the other from 0 on; and few areas and words
pub record IsLayout (areas : List Area) : Type 0 where
  pub inputs : List (List ℕ)
  pub outputs : List (List ℕ)
  pub scans : ℕ
  pub in_order : map (λ area. area.kind) areas ≡ map area.In inputs ++ map area.Out outputs ++ map area.Scan (range_with_len 0 scans)
  pub differ : AllPairs (λ one other. one ≢ other) (inputs ++ outputs)
  pub packed : ArePacked 0 areas
  pub few : length areas ≤ most_items
  pub small : words_of areas ≤ most_words

-- the words of arrays, as far as 64 bits go
abbrev pub array_words : List Array → ℕ
array_words arrays = sum_by (λ array. total array.1) arrays
