-- What is read of the rows of areas so far. This project's own.
use Rattle.std.specs.Prelude.{◌≡◌, ◌+◌, ℕ, not, List, [], ◌++◌, length}
use Rattle.std.specs.declared.option.Option.TheVariants.{None}
use Rattle.shapes_core.specs.declared.area.Area.{Area}
use Rattle.rv_line.specs.Rows.{is_row}
use Rattle.rv_reader.specs.Cuts.{until, since}
use Rattle.rv_reader.specs.Refusals.{areas_of, rows_refusal}

-- the rows with which texts begin, and what stands behind them
abbrev pub front_rows : List (List ℕ) → List (List ℕ)
front_rows texts = until (λ text. not (is_row text)) texts

abbrev pub behind_rows : List (List ℕ) → List (List ℕ)
behind_rows texts = since (λ text. not (is_row text)) texts

-- texts that begin with no row
pub record IsNoRow (texts : List (List ℕ)) : Type 0 where
  pub front : front_rows texts ≡ []
  pub behind : behind_rows texts ≡ texts

-- These areas are read of the rows in front; these texts are left, of which the first has the number `place`.
pub record IsRowsSoFar (spill : ℕ) (all : List (List ℕ)) (place : ℕ) (areas : List Area) (texts : List (List ℕ)) : Type 0 where
  pub refusal : rows_refusal spill 4 [] (front_rows all) ≡ rows_refusal spill place areas (front_rows texts)
  pub areas_are : areas_of spill [] (front_rows all) ≡ areas ++ areas_of spill areas (front_rows texts)
  pub body_is : behind_rows all ≡ behind_rows texts
  pub place_is : length (front_rows all) + 4 ≡ place + length (front_rows texts)

-- all rows are read, and these texts stand behind them
pub record AreRowsOf (spill : ℕ) (all : List (List ℕ)) (place : ℕ) (areas : List Area) (texts : List (List ℕ)) : Type 0 where
  pub fine : rows_refusal spill 4 [] (front_rows all) ≡ None
  pub areas_are : areas_of spill [] (front_rows all) ≡ areas
  pub body_is : behind_rows all ≡ texts
  pub place_is : length (front_rows all) + 4 ≡ place
