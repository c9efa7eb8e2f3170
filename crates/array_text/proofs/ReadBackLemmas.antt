-- The printed form of an array reads back as that array.
use Rattle.std.proofs.Common.{◌≡◌, ◌≢◌, ℕ, zero, suc, ◌+◌, ◌-◌, ◌*◌, ◌/◌, ◌<◌, ◌^◌, ℤ, pos, Bool, true, false, List, [], ◌∷◌, ◌++◌, length, take, drop, codes, refl, sym, ap, ◌∙◌, arith, append_assoc, FitsSigned, mul_assoc, length-drop, length-append}
use Rattle.std.proofs.lemmas.List.{append-nil, take-append-drop}
use Rattle.std.specs.Fmt.{decimal, signed_decimal}
use Rattle.std.specs.Int.{w64}
use Rattle.std.specs.List.{All, AllByRecursion, flat_map, list_all}
use Rattle.std.specs.Str.{bytes_eq}
use Rattle.std.proofs.lemmas.Bool.{leb-true}
use Rattle.std.proofs.Math.Nat.{mul-div_cancel, zero-div}
use Rattle.std.specs.Prelude.{◌&&◌, nat_le, slice_get, unwrap_or, if◌then◌else◌}
use Rattle.std.specs.declared.option.Option.TheVariants.{None, Some}
use Rattle.shapes_core.specs.Limits.{greatest_extent}
use Rattle.shapes_core.specs.declared.area.Declared.{Declared}
use Rattle.shapes_core.specs.Name.{IsName}
use Rattle.shapes_core.specs.Shape.{IsShape, total}
use Rattle.text_tokens.specs.declared.token.Position.{Position}
use Rattle.text_tokens.specs.declared.token.Token.{Token}
use Rattle.text_tokens.specs.declared.token.Token.TheVariants as token
use Rattle.text_tokens.specs.Separators.{begins_in_run}
use Rattle.text_tokens.specs.Tokens.{along, start, tokens}
use Rattle.array_text.specs.Lines.{lined}
use Rattle.array_text.specs.Outcome.{Came, Head, Outcome, Want, behind_head, filled, head_at, head_of, is_on, outcome_along, outcome_of, step}
use Rattle.array_text.specs.Printed.{head_line, printed, row_count, row_length, row_line, row_lines}
use Rattle.array_text.proofs.BytesLemmas.{bytes_same, number_differs, only_place}
use Rattle.array_text.proofs.PassLemmas.{begun, extent_stands, off_the_line}
use Rattle.array_text.proofs.PrintLemmas.{joined}

abbrev pub NumberLaw : Type 0
NumberLaw = (position : Position) (z : ℤ) (rest : List ℕ) → FitsSigned w64 z → begins_in_run rest ≡ false
    → tokens position (signed_decimal z ++ rest) ≡ (token.Number z, position) ∷ tokens (along position (length (signed_decimal z))) rest

abbrev pub NameLaw : Type 0
NameLaw = (position : Position) (name rest : List ℕ) → IsName name → begins_in_run rest ≡ false
    → tokens position (name ++ rest) ≡ (token.Word name, position) ∷ tokens (along position (length name)) rest

abbrev pub Fits : ℤ → Type 0
Fits value = FitsSigned w64 value

-- what becomes of a text, at a position and behind what was read
abbrev along_text : List Declared → Outcome → Position → List ℕ → Outcome
along_text declared before position text = outcome_along declared before (lined (tokens position text))

-- This text, in front of the rest, leads from what was read to what is read by then. The rest begins on this line.
record Leads (declared : List Declared) (before : Outcome) (position : Position) (text rest : List ℕ) (after : Outcome) (line : ℕ) : Type 0 where
  past : Position
  on : past.line ≡ line
  same : along_text declared before position (text ++ rest) ≡ along_text declared after past rest

then_leads : (declared : List Declared) (before between after : Outcome) (position : Position) (first second rest : List ℕ) (line next : ℕ)
    → (lead : Leads declared before position first (second ++ rest) between line) → Leads declared between lead.past second rest after next
    → Leads declared before position (first ++ second) rest after next
then_leads declared before between after position first second rest line next lead follow = record {
  past = follow.past;
  on = follow.on;
  same = ap (along_text declared before position) (append_assoc first second rest) ∙ lead.same ∙ follow.same;
}

module _ (number_law : NumberLaw) where
  number_leads : (declared : List Declared) (before : Outcome) (position : Position) (value : ℤ) (rest : List ℕ) → Fits value → begins_in_run rest ≡ false
      → Leads declared before position (signed_decimal value) rest (step declared before (token.Number value, position.line)) position.line
  number_leads declared before position value rest fits ends = record {
    past = along position (length (signed_decimal value));
    on = refl;
    same = ap (λ list. outcome_along declared before (lined list)) (number_law position value rest fits ends);
  }

  extent_begins : (shape : List ℕ) (rest : List ℕ) → begins_in_run rest ≡ false → begins_in_run (flat_map (λ extent. 32 ∷ decimal extent) shape ++ rest) ≡ false
  extent_begins [] rest ends = ends
  extent_begins (extent ∷ shape) rest ends = refl

  value_begins : (values : List ℤ) (rest : List ℕ) → begins_in_run rest ≡ false → begins_in_run (flat_map (λ value. 32 ∷ signed_decimal value) values ++ rest) ≡ false
  value_begins [] rest ends = ends
  value_begins (value ∷ values) rest ends = refl

  extents_lead : (declared : List Declared) (came : Came) (line : ℕ) (name done shape rest : List ℕ) (position : Position) → position.line ≡ line
      → AllByRecursion (λ extent. Fits (pos extent)) shape → begins_in_run rest ≡ false
      → Leads declared (Outcome.Goes came (Want.AnExtent line name (Some done))) position (flat_map (λ extent. 32 ∷ decimal extent) shape) rest
      (Outcome.Goes came (Want.AnExtent line name (Some (done ++ shape)))) line
  extents_lead declared came line name done [] rest position on fits ends = record {
    past = position;
    on = on;
    same = ap (λ shape. along_text declared (Outcome.Goes came (Want.AnExtent line name (Some shape))) position rest) (sym (append-nil done));
  }
  extents_lead declared came line name done (extent ∷ shape) rest position on fits ends =
      let more = flat_map (λ extent. 32 ∷ decimal extent) shape in
      let number = number_leads declared (Outcome.Goes came (Want.AnExtent line name (Some done))) (along position 1) (pos extent) (more ++ rest) fits.0
      (extent_begins shape rest ends) in
      let follow = extents_lead declared came line name (done ++ extent ∷ []) shape rest number.past (number.on ∙ on) fits.1 ends in
      record {
        past = follow.past;
        on = follow.on;
        same = ap (λ text. along_text declared (Outcome.Goes came (Want.AnExtent line name (Some done))) (along position 1) text) (append_assoc (decimal extent) more rest)
            ∙ number.same
            ∙ ap (λ outcome. along_text declared outcome number.past (more ++ rest)) (extent_stands declared came line name done extent position.line on)
            ∙ follow.same
            ∙ ap (λ those. along_text declared (Outcome.Goes came (Want.AnExtent line name (Some those))) follow.past rest) (append_assoc done (extent ∷ []) shape);
      }

  values_lead : (declared : List Declared) (came : Came) (place more wanted : ℕ) (done values : List ℤ) (rest : List ℕ) (position : Position)
      → wanted ≡ length values + more → AllByRecursion Fits values → begins_in_run rest ≡ false
      → Leads declared (filled came place done wanted) position (flat_map (λ value. 32 ∷ signed_decimal value) values) rest (filled came place (done ++ values) more) position.line
  values_lead declared came place more wanted done [] rest position e fits ends = record {
    past = position;
    on = refl;
    same = ap (λ count. along_text declared (filled came place done count) position rest) (let h : wanted ≡ more = omega (arith, e) in h)
        ∙ ap (λ values. along_text declared (filled came place values more) position rest) (sym (append-nil done));
  }
  values_lead declared came place more wanted done (value ∷ values) rest position e fits ends =
      let text = flat_map (λ value. 32 ∷ signed_decimal value) values in
      let left : wanted ≡ suc (length values + more) = omega (arith, e) in
      let number = number_leads declared (filled came place done wanted) (along position 1) value (text ++ rest) fits.0 (value_begins values rest ends) in
      let follow = values_lead declared came place more (length values + more) (done ++ value ∷ []) values rest number.past refl fits.1 ends in
      record {
        past = follow.past;
        on = follow.on ∙ number.on;
        same = ap (λ those. along_text declared (filled came place done wanted) (along position 1) those) (append_assoc (signed_decimal value) text rest)
            ∙ number.same
            ∙ ap (λ count. along_text declared (step declared (filled came place done count) (token.Number value, position.line)) number.past (text ++ rest)) left
            ∙ follow.same
            ∙ ap (λ those. along_text declared (filled came place those more) follow.past rest) (append_assoc done (value ∷ []) values);
      }

  row_text : (value : ℤ) (values : List ℤ) (rest : List ℕ)
      → row_line (value ∷ values) ++ rest ≡ signed_decimal value ++ (flat_map (λ value. 32 ∷ signed_decimal value) values ++ 10 ∷ rest)
  row_text value values rest =
      ap (λ text. (text ++ codes "\n") ++ rest) (joined (signed_decimal value) values)
      ∙ append_assoc (signed_decimal value ++ flat_map (λ value. 32 ∷ signed_decimal value) values) (codes "\n") rest
      ∙ append_assoc (signed_decimal value) (flat_map (λ value. 32 ∷ signed_decimal value) values) (10 ∷ rest)

  row_leads : (declared : List Declared) (came : Came) (place more wanted : ℕ) (done : List ℤ) (value : ℤ) (values : List ℤ) (rest : List ℕ) (position : Position)
      → wanted ≡ suc (length values + more) → Fits value → AllByRecursion Fits values
      → Leads declared (filled came place done wanted) position (row_line (value ∷ values)) rest (filled came place (done ++ value ∷ values) more) (position.line + 1)
  row_leads declared came place more wanted done value values rest position e fits others =
      let text = flat_map (λ value. 32 ∷ signed_decimal value) values in
      let number = number_leads declared (filled came place done wanted) position value (text ++ 10 ∷ rest) fits (value_begins values (10 ∷ rest) refl) in
      let follow = values_lead declared came place more (length values + more) (done ++ value ∷ []) values (10 ∷ rest) number.past refl others refl in
      record {
        past = record { line = follow.past.line + 1; column = 1 };
        on = ap (λ line. line + 1) (follow.on ∙ number.on);
        same = ap (along_text declared (filled came place done wanted) position) (row_text value values rest)
            ∙ number.same
            ∙ ap (λ count. along_text declared (step declared (filled came place done count) (token.Number value, position.line)) number.past (text ++ 10 ∷ rest)) e
            ∙ follow.same
            ∙ ap (λ those. along_text declared (filled came place those more) follow.past (10 ∷ rest)) (append_assoc done (value ∷ []) values);
      }

  take_fits : (count : ℕ) (values : List ℤ) → AllByRecursion Fits values → AllByRecursion Fits (take count values)
  take_fits zero values fits = tt
  take_fits (suc count) [] fits = tt
  take_fits (suc count) (value ∷ values) fits = (fits.0, take_fits count values fits.1)

  drop_fits : (count : ℕ) (values : List ℤ) → AllByRecursion Fits values → AllByRecursion Fits (drop count values)
  drop_fits zero values fits = fits
  drop_fits (suc count) [] fits = tt
  drop_fits (suc count) (value ∷ values) fits = drop_fits count values fits.1

  -- rows of this length, behind which no value is wanted
  rows_lead : (declared : List Declared) (came : Came) (place count width : ℕ) (done values : List ℤ) (position : Position)
      → length values ≡ count * suc width → AllByRecursion Fits values
      → (past : Position) × (along_text declared (filled came place done (length values)) position (row_lines count (suc width) values)
      ≡ along_text declared (filled came place (done ++ values) 0) past [])
  rows_lead declared came place zero width done [] position e fits =
      (position, ap (λ those. along_text declared (filled came place those 0) position []) (sym (append-nil done)))
  rows_lead declared came place zero width done (value ∷ values) position e fits = absurd (omega (arith, e))
  rows_lead declared came place (suc count) width done [] position e fits = absurd (omega (arith, e))
  rows_lead declared came place (suc count) width done (value ∷ values) position e fits =
      let e-all : suc (length values) ≡ count * suc width + suc width = e ∙ (omega arith) in
      let left : length (drop width values) ≡ count * suc width = omega (arith, length-drop width values, e-all) in
      let wanted : length (value ∷ values) ≡ suc (length (take width values) + length (drop width values)) =
      omega (arith, ap length (take-append-drop width values), length-append (take width values) (drop width values)) in
      let row = row_leads declared came place (length (drop width values)) (length (value ∷ values)) done value (take width values)
      (row_lines count (suc width) (drop width values)) position wanted fits.0 (take_fits width values fits.1) in
      let follow = rows_lead declared came place count width (done ++ value ∷ take width values) (drop width values) row.past left (drop_fits width values fits.1) in (
        follow.0,
        row.same ∙ follow.1
            ∙ ap (λ those. along_text declared (filled came place those 0) follow.0 []) (append_assoc done (value ∷ take width values) (drop width values)
            ∙ ap (λ those. done ++ value ∷ those) (take-append-drop width values)),
      )

  -- the head of the only declared array
  only_head : (array : Declared) → head_of (array ∷ []) (None ∷ []) array.name (Some array.shape) ≡ Head.Begins 0 (total array.shape)
  only_head array =
      ap (head_at (array ∷ []) (None ∷ []) array.shape) (only_place (λ other. bytes_eq other.name array.name) array (bytes_same array.name))
      ∙ ap (λ test. if test then Head.Begins 0 (total array.shape) else Head.Fails 7) (bytes_same array.shape)

  -- a token on a later line than the head
  behind_line : (array : Declared) (next : Token) (line : ℕ) → is_on 1 next line ≡ false
      → step (array ∷ []) (Outcome.Goes (None ∷ []) (Want.AnExtent 1 array.name (Some array.shape))) (next, line)
      ≡ step (array ∷ []) (filled (None ∷ []) 0 [] (total array.shape)) (next, line)
  behind_line array next line off =
      off_the_line (array ∷ []) (None ∷ []) 1 array.name (Some array.shape) next line off
      ∙ ap (λ head. behind_head (None ∷ []) head 1 next line) (only_head array)
      ∙ begun (array ∷ []) (None ∷ []) 0 (total array.shape) 1 next line

  -- the only declared array has no values
  body_empty : (array : Declared) (position : Position) → total array.shape ≡ 0
      → along_text (array ∷ []) (Outcome.Goes (None ∷ []) (Want.AnExtent 1 array.name (Some array.shape))) position [] ≡ Outcome.Accepted ([] ∷ [])
  body_empty array position e =
      behind_line array token.End position.line refl
      ∙ ap (λ count. step (array ∷ []) (filled (None ∷ []) 0 [] count) (token.End, position.line)) e

  first_value : (declared : List Declared) (before : Outcome) (position : Position) (value : ℤ) (values : List ℤ) (rest : List ℕ) → Fits value
      → along_text declared before position (row_line (value ∷ values) ++ rest)
      ≡ along_text declared (step declared before (token.Number value, position.line)) (along position (length (signed_decimal value)))
      (flat_map (λ value. 32 ∷ signed_decimal value) values ++ 10 ∷ rest)
  first_value declared before position value values rest fits =
      ap (along_text declared before position) (row_text value values rest)
      ∙ ap (λ list. outcome_along declared before (lined list))
      (number_law position value (flat_map (λ value. 32 ∷ signed_decimal value) values ++ 10 ∷ rest) fits (value_begins values (10 ∷ rest) refl))

  -- the rows of the only declared array, below its head
  body_values : (array : Declared) (value : ℤ) (values : List ℤ) (position : Position) (count width : ℕ) → position.line ≢ 1
      → total array.shape ≡ length (value ∷ values) → length (value ∷ values) ≡ suc count * suc width → AllByRecursion Fits (value ∷ values)
      → along_text (array ∷ []) (Outcome.Goes (None ∷ []) (Want.AnExtent 1 array.name (Some array.shape))) position
      (row_lines (suc count) (suc width) (value ∷ values))
      ≡ Outcome.Accepted ((value ∷ values) ∷ [])
  body_values array value values position count width below e counted fits =
      let before = Outcome.Goes (None ∷ []) (Want.AnExtent 1 array.name (Some array.shape)) in
      let rest = row_lines count (suc width) (drop width values) in
      let row = take width values in
      let rows = rows_lead (array ∷ []) (None ∷ []) 0 (suc count) width [] (value ∷ values) position counted fits in
      first_value (array ∷ []) before position value row rest fits.0
      ∙ ap (λ outcome. along_text (array ∷ []) outcome (along position (length (signed_decimal value)))
      (flat_map (λ value. 32 ∷ signed_decimal value) row ++ 10 ∷ rest))
      (behind_line array (token.Number value) position.line (number_differs position.line 1 below))
      ∙ sym (first_value (array ∷ []) (filled (None ∷ []) 0 [] (total array.shape)) position value row rest fits.0)
      ∙ ap (λ count. along_text (array ∷ []) (filled (None ∷ []) 0 [] count) position (row_line (value ∷ row) ++ rest)) e
      ∙ rows.1

both_true : (a b : Bool) → (a && b) ≡ true → (a ≡ true) × (b ≡ true)
both_true true b h = (refl, h)
both_true false b h = absurd (cc h)

small_fits : (extent : ℕ) → nat_le extent greatest_extent ≡ true → Fits (pos extent)
small_fits extent h = let below : extent < 2 ^ 63 = omega (arith, leb-true extent greatest_extent h) in record { sfits = below }

all_fit : (extents : List ℕ) → list_all (λ extent. nat_le extent greatest_extent) extents ≡ true → AllByRecursion (λ extent. Fits (pos extent)) extents
all_fit [] h = tt
all_fit (extent ∷ extents) h =
    let parts = both_true (nat_le extent greatest_extent) _ h in (small_fits extent parts.0, all_fit extents parts.1)

shape_fits : (shape : List ℕ) → IsShape shape → AllByRecursion (λ extent. Fits (pos extent)) shape
shape_fits shape h =
    let parts = both_true (nat_le (length shape) 6) _ h in
    let small = both_true (list_all (λ extent. nat_le extent greatest_extent) shape) _ parts.1 in
    all_fit shape small.0

values_fit : (values : List ℤ) → All Fits values → AllByRecursion Fits values
values_fit [] fits = tt
values_fit (value ∷ values) fits = (fits 0 value (omega arith), values_fit values (λ k other below. fits (suc k) other (omega (arith, below))))

-- the rows of the last axis cover an array
rows_cover : (shape : List ℕ) → (count : ℕ) × (total shape ≡ count * row_length shape)
rows_cover [] = (1, refl)
rows_cover (extent ∷ []) = (1, omega arith)
rows_cover (extent ∷ next ∷ shape) =
    let cover = rows_cover (next ∷ shape) in
    (extent * cover.0, ap (λ n. extent * n) cover.1 ∙ sym (mul_assoc extent cover.0 (row_length (next ∷ shape))) ∙ ap (λ n. (extent * cover.0) * n) (sym (same_length extent next shape)))
  where
    same_length : (extent next : ℕ) (shape : List ℕ) → row_length (extent ∷ next ∷ shape) ≡ row_length (next ∷ shape)
    same_length extent next shape =
        let last : suc (suc (length shape)) - 1 ≡ suc (length shape) = omega arith in
        let before : suc (length shape) - 1 ≡ length shape = omega arith in
        ap (λ place. unwrap_or (slice_get (extent ∷ next ∷ shape) place) 1) last ∙ ap (λ place. unwrap_or (slice_get (next ∷ shape) place) 1) (sym before)

divided : (whole count width : ℕ) → whole ≡ count * width → 0 < whole → whole / width * width ≡ whole
divided whole count zero e some = absurd (omega (arith, e, some))
divided whole count (suc width) e some =
    ap (λ n. n / suc width * suc width) e ∙ ap (λ n. n * suc width) (mul-div_cancel count (omega arith)) ∙ sym e

module _ (number_law : NumberLaw) (name_law : NameLaw) where
  -- a head and the line end behind it
  head_reads : (array : Declared) (rows : List ℕ) → IsName array.name → AllByRecursion (λ extent. Fits (pos extent)) array.shape
      → (past : Position) × (past.line ≡ 2) × (outcome_of (array ∷ []) (head_line array ++ rows)
      ≡ along_text (array ∷ []) (Outcome.Goes (None ∷ []) (Want.AnExtent 1 array.name (Some array.shape))) past rows)
  head_reads array rows named fits =
      let extents = flat_map (λ extent. 32 ∷ decimal extent) array.shape in
      let text = (array.name ++ (extents ++ codes "\n")) ++ rows in
      let position = along (along start 5) 1 in
      let lead = extents_lead number_law (array ∷ []) (None ∷ []) 1 array.name [] array.shape (10 ∷ rows) (along position (length array.name)) refl fits refl in (
        record { line = lead.past.line + 1; column = 1 },
        ap (λ line. line + 1) lead.on,
        ap (λ list. outcome_along (array ∷ []) (Outcome.Goes (None ∷ []) Want.AnArray) (lined list)) (name_law start (codes "array") (32 ∷ text) refl refl)
            ∙ ap (along_text (array ∷ []) (Outcome.Goes (None ∷ []) (Want.AName 1)) position)
            (append_assoc array.name (extents ++ codes "\n") rows ∙ ap (λ those. array.name ++ those) (append_assoc extents (codes "\n") rows))
            ∙ ap (λ list. outcome_along (array ∷ []) (Outcome.Goes (None ∷ []) (Want.AName 1)) (lined list))
            (name_law position array.name (extents ++ 10 ∷ rows) named (extent_begins number_law array.shape (10 ∷ rows) refl))
            ∙ lead.same,
      )

  covered : (shape : List ℕ) → 0 < total shape → row_count shape * row_length shape ≡ total shape
  covered shape some = let cover = rows_cover shape in divided (total shape) cover.0 (row_length shape) cover.1 some

  rows_read : (array : Declared) (values : List ℤ) (position : Position) → position.line ≡ 2 → AllByRecursion Fits values → length values ≡ total array.shape
      → along_text (array ∷ []) (Outcome.Goes (None ∷ []) (Want.AnExtent 1 array.name (Some array.shape))) position
      (row_lines (row_count array.shape) (row_length array.shape) values)
      ≡ Outcome.Accepted (values ∷ [])
  rows_read array [] position on fits counted =
      let none : row_count array.shape ≡ 0 = ap (λ n. n / row_length array.shape) (sym counted) ∙ zero-div (row_length array.shape) in
      ap (λ count. along_text (array ∷ []) (Outcome.Goes (None ∷ []) (Want.AnExtent 1 array.name (Some array.shape))) position (row_lines count (row_length array.shape) [])) none
      ∙ body_empty number_law array position (sym counted)
  rows_read array (value ∷ values) position on fits counted =
      by_parts (row_count array.shape) (row_length array.shape) refl refl (covered array.shape (omega (arith, counted)))
    where
      by_parts : (count width : ℕ) → row_count array.shape ≡ count → row_length array.shape ≡ width → row_count array.shape * row_length array.shape ≡ total array.shape
          → along_text (array ∷ []) (Outcome.Goes (None ∷ []) (Want.AnExtent 1 array.name (Some array.shape))) position
          (row_lines (row_count array.shape) (row_length array.shape) (value ∷ values))
          ≡ Outcome.Accepted ((value ∷ values) ∷ [])
      by_parts zero width e g h = absurd (let k : zero * width ≡ suc (length values) = ap (λ n. n * width) (sym e) ∙ ap (λ n. row_count array.shape * n) (sym g) ∙ h ∙ sym counted in omega arith)
      by_parts (suc count) zero e g h = absurd (let k : suc count * zero ≡ suc (length values) = ap (λ n. n * zero) (sym e) ∙ ap (λ n. row_count array.shape * n) (sym g) ∙ h ∙ sym counted in omega arith)
      by_parts (suc count) (suc width) e g h =
          ap (λ n. along_text (array ∷ []) (Outcome.Goes (None ∷ []) (Want.AnExtent 1 array.name (Some array.shape))) position (row_lines n (row_length array.shape) (value ∷ values))) e
          ∙ ap (λ n. along_text (array ∷ []) (Outcome.Goes (None ∷ []) (Want.AnExtent 1 array.name (Some array.shape))) position (row_lines (suc count) n (value ∷ values))) g
          ∙ body_values number_law array value values position count width (omega (arith, on)) (sym counted)
          (counted ∙ sym h ∙ ap (λ n. n * row_length array.shape) e ∙ ap (λ n. suc count * n) g) fits

  pub read_back : (array : Declared) (values : List ℤ) → IsName array.name → IsShape array.shape → All Fits values → length values ≡ total array.shape
      → outcome_of (array ∷ []) (printed array values) ≡ Outcome.Accepted (values ∷ [])
  read_back array values named shaped fits counted =
      let head = head_reads array (row_lines (row_count array.shape) (row_length array.shape) values) named (shape_fits array.shape shaped) in
      head.2 ∙ rows_read array values head.0 head.1 (values_fit values fits) counted
