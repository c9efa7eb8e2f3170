-- The rows of a text, which say what the areas of the block are: which lines are taken for rows, and what each spells. This project's own.
use Rattle.std.specs.Prelude.{ℕ, ◌+◌, ◌≡◌, Bool, ◌||◌, nat_eq, List, [], ◌∷◌, ◌++◌, codes}
use Rattle.std.specs.List.{flat_map, starts_with}
use Rattle.shapes_core.specs.declared.area.Area.{Area}
use Rattle.shapes_core.specs.declared.area.AreaKind.{AreaKind}
use Rattle.shapes_core.specs.declared.area.AreaKind.TheVariants.{In, Out, Scan}
use Rattle.rv_line.specs.Numbers.{IsNumber, AreNumbers}

-- a line that is taken for an area's row, if it stands in their run
abbrev pub is_row : List ℕ → Bool
is_row line = starts_with nat_eq line (codes "# in ") || starts_with nat_eq line (codes "# out ") || starts_with nat_eq line (codes "# scan ")

-- the front of a row: what the area is
abbrev pub SpellsKind : List ℕ → AreaKind → Type 0
SpellsKind front (In name) = front ≡ codes "# in " ++ name
SpellsKind front (Out name) = front ≡ codes "# out " ++ name
SpellsKind front (Scan number) = (digits : List ℕ) × (front ≡ codes "# scan " ++ digits) × IsNumber digits number

-- parts, with a blank before each
abbrev pub spaced : List (List ℕ) → List ℕ
spaced texts = flat_map (λ text. codes " " ++ text) texts

-- a row of an area that begins at this word of the block
pub record SpellsRow (row : List ℕ) (word : ℕ) (area : Area) : Type 0 where
  pub front : List ℕ
  pub offset : List ℕ
  pub extents : List (List ℕ)
  pub spelled : row ≡ front ++ codes " " ++ offset ++ spaced extents
  pub kind : SpellsKind front area.kind
  pub begins : IsNumber offset word
  pub shape : AreNumbers extents area.shape

-- a row for each area, behind so many spill words
abbrev pub SpellRows : List (List ℕ) → ℕ → List Area → Type 0
SpellRows [] spill [] = Unit {0}
SpellRows [] spill (area ∷ areas) = ⊥
SpellRows (row ∷ rows) spill [] = ⊥
SpellRows (row ∷ rows) spill (area ∷ areas) = SpellsRow row (spill + area.start) area × SpellRows rows spill areas
