-- What is kept beside the areas so far. This project's own.
use Rattle.std.specs.Prelude.{◌≡◌, ◌+◌, ◌≤◌, ◌*◌, ℕ, List, [], ◌∷◌, length}
use Rattle.std.specs.List.{last_or}
use Rattle.std.specs.declared.option.Option.TheVariants.{None}
use Rattle.shapes_core.specs.Limits.{greatest_extent}
use Rattle.shapes_core.specs.declared.area.Area.{Area}
use Rattle.shapes_core.specs.declared.area.AreaKind.{AreaKind}
use Rattle.shapes_core.specs.declared.area.AreaKind.TheVariants.{In, Out, Scan}
use Rattle.rv_line.specs.Fits.{area_names}
use Rattle.rv_reader.specs.AreaRows.{kinds, words_of}
use Rattle.rv_reader.specs.Kinds.{next_number}

-- their names, their words, and the number that the next scan has
pub record IsTracked (areas : List Area) (known : List (List ℕ)) (words next : ℕ) : Type 0 where
  pub names_are : known ≡ area_names (kinds areas)
  pub words_are : words ≡ words_of areas
  pub next_is : next ≡ next_number (last_or None (kinds areas))
  pub next_small : next ≤ length areas
  pub words_small : words ≤ greatest_extent * length areas

-- the name of an input or an output
abbrev pub name_in : AreaKind → List (List ℕ)
name_in (In name) = name ∷ []
name_in (Out name) = name ∷ []
name_in (Scan number) = []

-- the number of the scan behind an area of this kind, where the area itself has the number `next` if it is one
abbrev pub next_behind : ℕ → AreaKind → ℕ
next_behind next (Scan number) = next + 1
next_behind next _ = 0
