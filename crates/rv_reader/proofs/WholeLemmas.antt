-- The refusal and the parts of a text, by those of its header, its rows, its body and its targets.
use Rattle.std.proofs.Common.{◌≡◌, ℕ, ◌+◌, List, [], ◌∷◌, length, drop, refl, sym, ap, subst, ◌∙◌}
use Rattle.std.specs.Prelude.{map, IfErr, IfOk, MatchResult}
use Rattle.std.specs.Option.{option_or, unwrap_or}
use Rattle.std.specs.declared.option.Option.TheVariants.{None, Some}
use Rattle.std.specs.declared.result.Result.{Result}
use Rattle.std.specs.declared.result.Result.TheVariants.{Ok, Err}
use Rattle.std.proofs.lemmas.List.{length-append, length-map}
use Rattle.shapes_core.specs.declared.area.Area.{Area}
use Rattle.rv_line.specs.Parts.{Parts}
use Rattle.rv_line.specs.Spells.{Spells}
use Rattle.rv_line.specs.declared.assembly.Header.{Header}
use Rattle.rv_line.specs.declared.line.Line.{Line}
use Rattle.rv_reader.specs.Bodies.{IsBodyOf}
use Rattle.rv_reader.specs.BodyLines.{Draft, reading_of}
use Rattle.rv_reader.specs.Errors.{IsRefusal}
use Rattle.rv_reader.specs.Refusals.{areas_of, body_in, body_place, body_refusal, draft_in, drafts_of, header_refusal, labels_of, parts_in, places_of, refusal, refusal_of, rows_in, rows_refusal, settled, spill_of, spill_words, steps_of, targets_refusal, Refusal}
use Rattle.rv_reader.proofs.OperandLemmas.{none_not_some}
use Rattle.rv_reader.specs.RowsSoFar.{AreRowsOf, behind_rows, front_rows}
use Rattle.rv_reader.specs.declared.error.AsmError.{AsmError}
use Rattle.rv_reader.specs.declared.error.AsmError.TheVariants as asm

places_count : (first : ℕ) (texts : List (List ℕ)) → length (places_of first texts) ≡ length (drafts_of texts)
places_count first [] = refl
places_count first (text ∷ texts) =
    let drafts = draft_in (reading_of text) in
    length-append (map (λ draft. first) drafts) (places_of (first + 1) texts)
    ∙ ap (λ n. n + length (places_of (first + 1) texts)) (length-map drafts (λ draft. first))
    ∙ ap (λ n. length drafts + n) (places_count (first + 1) texts)
    ∙ sym (length-append drafts (drafts_of texts))

-- there are as many places as instructions
pub same_count : (first : ℕ) (texts : List (List ℕ)) (labels : List (List ℕ × ℕ)) (drafts : List Draft) (places : List ℕ) → IsBodyOf first texts labels drafts places → length places ≡ length drafts
same_count first texts labels drafts places is = sym (ap length is.places_are) ∙ places_count first texts ∙ ap length is.drafts_are

-- what stands behind the header is read so far
record AreIn (texts : List (List ℕ)) (spill place : ℕ) (areas : List Area) (behind : List (List ℕ)) : Type 0 where
  header : header_refusal texts ≡ None
  rows : rows_refusal (spill_words texts) 4 [] (rows_in texts) ≡ None
  spill_is : spill_words texts ≡ spill
  areas_are : areas_of (spill_words texts) [] (rows_in texts) ≡ areas
  body_is : body_in texts ≡ behind
  place_is : body_place texts ≡ place

rows_same : (texts rest : List (List ℕ)) (spill : ℕ) → spill_of texts ≡ Some spill → rest ≡ drop 3 texts → rows_refusal (spill_words texts) 4 [] (rows_in texts) ≡ rows_refusal spill 4 [] (front_rows rest)
rows_same texts rest spill is behind =
    ap (λ s. rows_refusal (unwrap_or s 0) 4 [] (rows_in texts)) is ∙ ap (λ t. rows_refusal spill 4 [] (front_rows t)) (sym behind)

are_in : (texts rest : List (List ℕ)) (spill place : ℕ) (areas : List Area) (behind : List (List ℕ)) → header_refusal texts ≡ None → spill_of texts ≡ Some spill → rest ≡ drop 3 texts → AreRowsOf spill rest place areas behind → AreIn texts spill place areas behind
are_in texts rest spill place areas behind header is next rows = record {
  header = header;
  rows = rows_same texts rest spill is next ∙ rows.fine;
  spill_is = ap (λ s. unwrap_or s 0) is;
  areas_are = ap (λ s. areas_of (unwrap_or s 0) [] (rows_in texts)) is ∙ ap (λ t. areas_of spill [] (front_rows t)) (sym next) ∙ rows.areas_are;
  body_is = ap behind_rows (sym next) ∙ rows.body_is;
  place_is = ap (λ t. length (front_rows t) + 4) (sym next) ∙ rows.place_is;
}

-- the refusals behind those of the header, the rows and the body
abbrev from_targets : List (List ℕ) → Refusal
from_targets texts = targets_refusal (labels_of 0 (body_in texts)) 0 (drafts_of (body_in texts)) (places_of (body_place texts) (body_in texts))

abbrev from_body : List (List ℕ) → Refusal
from_body texts = option_or (body_refusal (body_place texts) [] (body_in texts)) (from_targets texts)

abbrev from_rows : List (List ℕ) → Refusal
from_rows texts = option_or (rows_refusal (spill_words texts) 4 [] (rows_in texts)) (from_body texts)

behind_none : (first other : Refusal) → first ≡ None → option_or first other ≡ other
behind_none first other none = ap (λ r. option_or r other) none

first_refused : (error : AsmError) (first other : Refusal) → IsRefusal error first → IsRefusal error (option_or first other)
first_refused (asm.Text line cause) first other is = ap (λ r. option_or r other) is
first_refused asm.Memory first other is = tt

pub header_refused : (error : AsmError) (texts : List (List ℕ)) → IsRefusal error (header_refusal texts) → IsRefusal error (refusal_of texts)
header_refused error texts is = first_refused error (header_refusal texts) (from_rows texts) is

pub area_refused : (error : AsmError) (texts rest : List (List ℕ)) (spill : ℕ) → header_refusal texts ≡ None → spill_of texts ≡ Some spill → rest ≡ drop 3 texts → IsRefusal error (rows_refusal spill 4 [] (front_rows rest)) → IsRefusal error (refusal_of texts)
area_refused error texts rest spill header is next refused =
    subst (IsRefusal error) (sym (behind_none (header_refusal texts) (from_rows texts) header))
    (first_refused error (rows_refusal (spill_words texts) 4 [] (rows_in texts)) (from_body texts) (subst (IsRefusal error) (sym (rows_same texts rest spill is next)) refused))

behind_areas : (texts : List (List ℕ)) (spill place : ℕ) (areas : List Area) (behind : List (List ℕ)) → AreIn texts spill place areas behind → refusal_of texts ≡ from_body texts
behind_areas texts spill place areas behind in_text =
    behind_none (header_refusal texts) (from_rows texts) in_text.header ∙ behind_none (rows_refusal (spill_words texts) 4 [] (rows_in texts)) (from_body texts) in_text.rows

body_same : (texts : List (List ℕ)) (spill place : ℕ) (areas : List Area) (behind : List (List ℕ)) → AreIn texts spill place areas behind → body_refusal (body_place texts) [] (body_in texts) ≡ body_refusal place [] behind
body_same texts spill place areas behind in_text =
    ap (λ p. body_refusal p [] (body_in texts)) in_text.place_is ∙ ap (body_refusal place []) in_text.body_is

pub body_refused : (error : AsmError) (texts rest : List (List ℕ)) (spill place : ℕ) (areas : List Area) (behind : List (List ℕ)) → header_refusal texts ≡ None → spill_of texts ≡ Some spill → rest ≡ drop 3 texts → AreRowsOf spill rest place areas behind
    → IsRefusal error (body_refusal place [] behind) → IsRefusal error (refusal_of texts)
body_refused error texts rest spill place areas behind header is next rows refused =
    let in_text = are_in texts rest spill place areas behind header is next rows in
    subst (IsRefusal error) (sym (behind_areas texts spill place areas behind in_text))
    (first_refused error (body_refusal (body_place texts) [] (body_in texts)) (from_targets texts) (subst (IsRefusal error) (sym (body_same texts spill place areas behind in_text)) refused))

-- the body's labels, instructions and places
record IsBodyIn (texts : List (List ℕ)) (labels : List (List ℕ × ℕ)) (drafts : List Draft) (places : List ℕ) : Type 0 where
  labels_are : labels_of 0 (body_in texts) ≡ labels
  drafts_are : drafts_of (body_in texts) ≡ drafts
  places_are : places_of (body_place texts) (body_in texts) ≡ places
  refusal_is : refusal_of texts ≡ targets_refusal labels 0 drafts places

body_is_in : (texts : List (List ℕ)) (spill place : ℕ) (areas : List Area) (behind : List (List ℕ)) (labels : List (List ℕ × ℕ)) (drafts : List Draft) (places : List ℕ) → AreIn texts spill place areas behind → IsBodyOf place behind labels drafts places → IsBodyIn texts labels drafts places
body_is_in texts spill place areas behind labels drafts places in_text body =
    let l = ap (labels_of 0) in_text.body_is ∙ body.labels_are in
    let d = ap drafts_of in_text.body_is ∙ body.drafts_are in
    let p = ap (λ n. places_of n (body_in texts)) in_text.place_is ∙ ap (places_of place) in_text.body_is ∙ body.places_are in
    record {
      labels_are = l;
      drafts_are = d;
      places_are = p;
      refusal_is =
          behind_areas texts spill place areas behind in_text
          ∙ behind_none (body_refusal (body_place texts) [] (body_in texts)) (from_targets texts) (body_same texts spill place areas behind in_text ∙ body.fine)
          ∙ ap (λ x. targets_refusal x 0 (drafts_of (body_in texts)) (places_of (body_place texts) (body_in texts))) l
          ∙ ap (λ x. targets_refusal labels 0 x (places_of (body_place texts) (body_in texts))) d
          ∙ ap (λ x. targets_refusal labels 0 drafts x) p;
    }

-- the refusal of what has a body is that of its targets
pub targets_left : (texts rest : List (List ℕ)) (spill place : ℕ) (areas : List Area) (behind : List (List ℕ)) (labels : List (List ℕ × ℕ)) (drafts : List Draft) (places : List ℕ) → header_refusal texts ≡ None → spill_of texts ≡ Some spill → rest ≡ drop 3 texts
    → AreRowsOf spill rest place areas behind → IsBodyOf place behind labels drafts places → refusal_of texts ≡ targets_refusal labels 0 drafts places
targets_left texts rest spill place areas behind labels drafts places header is next rows body =
    (body_is_in texts spill place areas behind labels drafts places (are_in texts rest spill place areas behind header is next rows) body).refusal_is

same_parts : (header other_header : Header) (areas other_areas : List Area) (lines other_lines : List Line) (places other_places : List ℕ) → header ≡ other_header → areas ≡ other_areas → lines ≡ other_lines → places ≡ other_places
    → ◌≡◌ {A = Parts} (record { header = header; areas = areas; lines = lines; places = places }) (record { header = other_header; areas = other_areas; lines = other_lines; places = other_places })
same_parts header other_header areas other_areas lines other_lines places other_places h a l p =
    ap (λ x. record { header = x; areas = areas; lines = lines; places = places }) h
    ∙ ap (λ x. record { header = other_header; areas = x; lines = lines; places = places }) a
    ∙ ap (λ x. record { header = other_header; areas = other_areas; lines = x; places = places }) l
    ∙ ap (λ x. record { header = other_header; areas = other_areas; lines = other_lines; places = x }) p

-- the parts are those that are read
pub parts_are : (texts rest : List (List ℕ)) (header : Header) (place : ℕ) (areas : List Area) (behind : List (List ℕ)) (labels : List (List ℕ × ℕ)) (drafts : List Draft) (lines : List Line) (places : List ℕ) → header_refusal texts ≡ None → steps_of texts ≡ Some header.steps → spill_of texts ≡ Some header.spill
    → rest ≡ drop 3 texts → AreRowsOf header.spill rest place areas behind → IsBodyOf place behind labels drafts places → lines ≡ map (settled labels) drafts → parts_in texts ≡ record { header = header; areas = areas; lines = lines; places = places }
parts_are texts rest header place areas behind labels drafts lines places fine steps spill next rows body settles =
    let in_text = are_in texts rest header.spill place areas behind fine spill next rows in
    let body_in_text = body_is_in texts header.spill place areas behind labels drafts places in_text body in
    let steps_are = ap (λ s. unwrap_or s 0) steps in
    same_parts
    (record { steps = unwrap_or (steps_of texts) 0; spill = spill_words texts }) header
    (areas_of (spill_words texts) [] (rows_in texts)) areas
    (map (settled (labels_of 0 (body_in texts))) (drafts_of (body_in texts))) lines
    (places_of (body_place texts) (body_in texts)) places
    (ap (λ s. record { steps = s; spill = spill_words texts }) steps_are ∙ ap (λ s. record { steps = header.steps; spill = s }) in_text.spill_is)
    in_text.areas_are
    (ap (λ l. map (settled l) (drafts_of (body_in texts))) body_in_text.labels_are ∙ ap (map (settled labels)) body_in_text.drafts_are ∙ sym settles)
    body_in_text.places_are

-- a text that spells parts gives no others
pub no_others : (text : List ℕ) (result : Result Parts AsmError) (parts : Parts) → ((other : List ℕ) (p q : Parts) → Spells other p → Spells other q → p ≡ q) → refusal text ≡ None → IfOk result (λ found. Spells text found) → IfErr result (λ e. IsRefusal e (refusal text)) → Spells text parts
    → MatchResult result (λ found. found ≡ parts) (λ e. e ≡ asm.Memory)
no_others text (Ok found) parts one none read refused spells = one text found parts read spells
no_others text (Err (asm.Text line cause)) parts one none read refused spells = absurd (none_not_some (sym none ∙ refused))
no_others text (Err asm.Memory) parts one none read refused spells = refl
