-- What is read of the rows of areas so far, with a row more.
use Rattle.std.proofs.Common.{◌≡◌, ℕ, ◌+◌, ◌≤◌, List, [], ◌∷◌, ◌++◌, length, refl, sym, ap, ◌∙◌, arith, append_assoc}
use Rattle.std.specs.Prelude.{true, false, not, cond}
use Rattle.std.specs.declared.option.Option.TheVariants.{None}
use Rattle.std.specs.declared.result.Result.{Result}
use Rattle.std.specs.declared.result.Result.TheVariants.{Ok, Err}
use Rattle.std.proofs.lemmas.List.{append-nil}
use Rattle.shapes_core.specs.declared.area.Area.{Area}
use Rattle.rv_line.specs.Rows.{is_row}
use Rattle.rv_line.specs.Fits.{area_names}
use Rattle.std.specs.List.{last_or}
use Rattle.rv_reader.specs.AreaRows.{area_of, is_repeated, kinds, may_follow, row_of, words_of}
use Rattle.rv_reader.proofs.AreaLemmas.{checked_back}
use Rattle.rv_reader.specs.Bodies.{IsLineRefusal}
use Rattle.rv_reader.specs.Errors.{IsRefusal}
use Rattle.rv_reader.specs.Refusals.{area_in, areas_of, cause_in, refused_or, rows_refusal}
use Rattle.rv_reader.specs.RowsSoFar.{AreRowsOf, IsNoRow, IsRowsSoFar, behind_rows, front_rows}
use Rattle.rv_reader.specs.declared.error.AsmError.{AsmError}
use Rattle.rv_reader.proofs.StepLemmas.{first_refused}

pub rows_start : (spill : ℕ) (all : List (List ℕ)) → IsRowsSoFar spill all 4 [] all
rows_start spill all = record { refusal = refl; areas_are = refl; body_is = refl; place_is = omega arith }

front_row : (row : List ℕ) (texts : List (List ℕ)) → is_row row ≡ true → front_rows (row ∷ texts) ≡ row ∷ front_rows texts
front_row row texts is = ap (λ b. cond (not b) [] (row ∷ front_rows texts)) is

behind_row : (row : List ℕ) (texts : List (List ℕ)) → is_row row ≡ true → behind_rows (row ∷ texts) ≡ behind_rows texts
behind_row row texts is = ap (λ b. cond (not b) (row ∷ texts) (behind_rows texts)) is

-- a row is read
pub rows_step : (spill : ℕ) (all : List (List ℕ)) (place : ℕ) (areas new : List Area) (row : List ℕ) (texts : List (List ℕ)) → IsRowsSoFar spill all place areas (row ∷ texts) → is_row row ≡ true → cause_in (row_of spill areas row) ≡ None → new ≡ areas ++ area_in (row_of spill areas row) → IsRowsSoFar spill all (place + 1) new texts
rows_step spill all place areas new row texts so_far is fine added =
    let found = area_in (row_of spill areas row) in
    let long = ap length (front_row row texts is) in
    let placed = so_far.place_is in
    record {
      refusal =
          so_far.refusal
          ∙ ap (rows_refusal spill place areas) (front_row row texts is)
          ∙ ap (λ cause. refused_or place cause (rows_refusal spill (place + 1) (areas ++ found) (front_rows texts))) fine
          ∙ ap (λ l. rows_refusal spill (place + 1) l (front_rows texts)) (sym added);
      areas_are =
          so_far.areas_are
          ∙ ap (λ t. areas ++ areas_of spill areas t) (front_row row texts is)
          ∙ sym (append_assoc areas found (areas_of spill (areas ++ found) (front_rows texts)))
          ∙ ap (λ l. l ++ areas_of spill l (front_rows texts)) (sym added);
      body_is = so_far.body_is ∙ behind_row row texts is;
      place_is = omega (arith, long, placed);
    }

-- the rows end
pub rows_end : (spill : ℕ) (all : List (List ℕ)) (place : ℕ) (areas : List Area) (texts : List (List ℕ)) → IsNoRow texts → IsRowsSoFar spill all place areas texts → AreRowsOf spill all place areas texts
rows_end spill all place areas texts none so_far =
    let long = ap length none.front in
    let placed = so_far.place_is in
    record {
      fine = so_far.refusal ∙ ap (rows_refusal spill place areas) none.front;
      areas_are = so_far.areas_are ∙ ap (λ t. areas ++ areas_of spill areas t) none.front ∙ append-nil areas;
      body_is = so_far.body_is ∙ none.behind;
      place_is = omega (arith, long, placed);
    }

-- with the text
pub no_row_left : (texts : List (List ℕ)) → texts ≡ [] → IsNoRow texts
no_row_left texts none = record { front = ap front_rows none; behind = ap behind_rows none ∙ sym none }

-- or before a line that is none
pub no_row_next : (texts : List (List ℕ)) (row : List ℕ) (others : List (List ℕ)) → texts ≡ row ∷ others → is_row row ≡ false → IsNoRow texts
no_row_next texts row others split is = record {
  front = ap front_rows split ∙ ap (λ b. cond (not b) [] (row ∷ front_rows others)) is;
  behind = ap behind_rows split ∙ ap (λ b. cond (not b) (row ∷ others) (behind_rows others)) is ∙ sym split;
}

-- a row that is refused is the first
pub rows_refused : (spill : ℕ) (all : List (List ℕ)) (place : ℕ) (areas : List Area) (row : List ℕ) (texts : List (List ℕ)) (error : AsmError) → IsRowsSoFar spill all place areas (row ∷ texts) → is_row row ≡ true → IsLineRefusal error place (cause_in (row_of spill areas row)) → IsRefusal error (rows_refusal spill 4 [] (front_rows all))
rows_refused spill all place areas row texts error so_far is refused =
    first_refused error place (cause_in (row_of spill areas row)) (rows_refusal spill (place + 1) (areas ++ area_in (row_of spill areas row)) (front_rows texts)) _
    (so_far.refusal ∙ ap (rows_refusal spill place areas) (front_row row texts is)) refused

-- what is known of a row that is read
pub row_follows : (spill : ℕ) (before : List Area) (row : List ℕ) (area : Area) → row_of spill before row ≡ Ok area → may_follow (last_or None (kinds before)) area.kind ≡ true
row_follows spill before row area is = (checked_back before (area_of spill (words_of before) row) area is).follows

pub row_new : (spill : ℕ) (before : List Area) (row : List ℕ) (area : Area) → row_of spill before row ≡ Ok area → is_repeated (area_names (kinds before)) area.kind ≡ false
row_new spill before row area is = (checked_back before (area_of spill (words_of before) row) area is).new

pub row_cause : (spill : ℕ) (before : List Area) (row : List ℕ) (area : Area) → row_of spill before row ≡ Ok area → cause_in (row_of spill before row) ≡ None
row_cause spill before row area is = ap cause_in is

pub row_area : (spill : ℕ) (before : List Area) (row : List ℕ) (area : Area) → row_of spill before row ≡ Ok area → area ∷ [] ≡ area_in (row_of spill before row)
row_area spill before row area is = sym (ap area_in is)

-- at most one
pub one_area : (found : Result Area ℕ) → length (area_in found) ≤ 1
one_area (Ok area) = omega arith
one_area (Err cause) = omega arith
