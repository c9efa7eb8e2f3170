-- A text spells at most one program: its header, areas and instructions, and where these stand, are found in the text.
use Rattle.std.proofs.Common.{◌≡◌, ℕ, ◌+◌, List, [], length, get_or, drop, refl, sym, ap, ◌∙◌}
use Rattle.std.specs.Prelude.{not}
use Rattle.std.specs.Str.Lines.{lines}
use Rattle.std.specs.Str.Parse.{digits_value}
use Rattle.rv_line.specs.Parts.{Parts}
use Rattle.rv_line.specs.Rows.{is_row}
use Rattle.rv_line.specs.Spells.{Spells}
use Rattle.shapes_core.specs.declared.area.Area.{Area}
use Rattle.rv_line.specs.declared.assembly.Header.{Header}
use Rattle.rv_line.specs.declared.line.Line.{Line}
use Rattle.rv_line.proofs.BodyReadingLemmas.{labels_of, lines_of, places_of, BodyRead, body_read, labels_named}
use Rattle.rv_line.proofs.CutLemmas.{until, since}
use Rattle.rv_line.proofs.LineReadingLemmas.{AreTextLabels}
use Rattle.rv_line.proofs.RowReadingLemmas.{areas_at, rows_read, rows_until, body_since}

-- the number behind the 8 bytes of a word of the header
abbrev number_in : ℕ → List ℕ → ℕ
number_in place text = digits_value 10 (drop 8 (get_or (lines text) place []))

steps_read : (text : List ℕ) (parts : Parts) → Spells text parts → number_in 1 text ≡ parts.header.steps
steps_read text parts spells = ap (λ texts. digits_value 10 (drop 8 (get_or texts 1 []))) spells.split ∙ spells.steps_number.value

spill_read : (text : List ℕ) (parts : Parts) → Spells text parts → number_in 2 text ≡ parts.header.spill
spill_read text parts spells = ap (λ texts. digits_value 10 (drop 8 (get_or texts 2 []))) spells.split ∙ spells.spill_number.value

header_same : (header other : Header) → header.steps ≡ other.steps → header.spill ≡ other.spill → header ≡ other
header_same header other steps spill = same header.steps other.steps header.spill other.spill steps spill
  where
    same : (a b c d : ℕ) → a ≡ b → c ≡ d → ◌≡◌ {A = Header} (record { steps = a; spill = c }) (record { steps = b; spill = d })
    same a b c d e f = rw (e, f) refl

one_header : (text : List ℕ) (p q : Parts) → Spells text p → Spells text q → p.header ≡ q.header
one_header text p q one other =
    header_same p.header q.header (sym (steps_read text p one) ∙ steps_read text q other) (sym (spill_read text p one) ∙ spill_read text q other)

-- the lines of a text that are rows, and those behind them
abbrev rows_in : List ℕ → List (List ℕ)
rows_in text = until (λ row. not (is_row row)) (drop 3 (lines text))

abbrev body_in : List ℕ → List (List ℕ)
body_in text = since (λ row. not (is_row row)) (drop 3 (lines text))

rows_are : (text : List ℕ) (parts : Parts) (spells : Spells text parts) → rows_in text ≡ spells.rows
rows_are text parts spells =
    ap (λ texts. until (λ row. not (is_row row)) (drop 3 texts)) spells.split
    ∙ rows_until spells.rows spells.body parts.header.spill parts.areas spells.rows_spell spells.rows_end

areas_read : (text : List ℕ) (parts : Parts) → Spells text parts → areas_at (number_in 2 text) (rows_in text) ≡ parts.areas
areas_read text parts spells =
    ap (λ spill. areas_at spill (rows_in text)) (spill_read text parts spells)
    ∙ ap (areas_at parts.header.spill) (rows_are text parts spells)
    ∙ rows_read spells.rows parts.header.spill parts.areas spells.areas.each spells.rows_spell

one_areas : (text : List ℕ) (p q : Parts) → Spells text p → Spells text q → p.areas ≡ q.areas
one_areas text p q one other = sym (areas_read text p one) ∙ areas_read text q other

body_is : (text : List ℕ) (parts : Parts) (spells : Spells text parts) → body_in text ≡ spells.body
body_is text parts spells =
    ap (λ texts. since (λ row. not (is_row row)) (drop 3 texts)) spells.split
    ∙ body_since spells.rows spells.body parts.header.spill parts.areas spells.rows_spell spells.rows_end

whole_body : (text : List ℕ) (parts : Parts) (spells : Spells text parts) → BodyRead spells.labels spells.body (length spells.rows + 4) 0 parts.lines parts.places spells.labels
whole_body text parts spells =
    let are : AreTextLabels spells.labels = record { named = labels_named spells.labels spells.body_spells; differ = spells.labels_differ } in
    body_read spells.labels (length parts.lines) are spells.body_spells spells.lines_fit

lines_read : (text : List ℕ) (parts : Parts) → Spells text parts → lines_of (labels_of (body_in text) 0) (body_in text) ≡ parts.lines
lines_read text parts spells =
    let read = whole_body text parts spells in
    ap (λ body. lines_of (labels_of body 0) body) (body_is text parts spells)
    ∙ ap (λ labels. lines_of labels spells.body) read.labels_are
    ∙ read.lines_are

one_lines : (text : List ℕ) (p q : Parts) → Spells text p → Spells text q → p.lines ≡ q.lines
one_lines text p q one other = sym (lines_read text p one) ∙ lines_read text q other

places_read : (text : List ℕ) (parts : Parts) → Spells text parts → places_of (body_in text) (length (rows_in text) + 4) ≡ parts.places
places_read text parts spells =
    ap (λ body. places_of body (length (rows_in text) + 4)) (body_is text parts spells)
    ∙ ap (λ rows. places_of spells.body (length rows + 4)) (rows_are text parts spells)
    ∙ (whole_body text parts spells).places_are

one_places : (text : List ℕ) (p q : Parts) → Spells text p → Spells text q → p.places ≡ q.places
one_places text p q one other = sym (places_read text p one) ∙ places_read text q other

parts_same : (header other : Header) (areas rest : List Area) (lines more : List Line) (places others : List ℕ) → header ≡ other → areas ≡ rest → lines ≡ more → places ≡ others → ◌≡◌ {A = Parts} (record { header = header; areas = areas; lines = lines; places = places }) (record { header = other; areas = rest; lines = more; places = others })
parts_same header other areas rest lines more places others h a l p = rw (h, a, l, p) refl

-- a text spells one program
pub one_program : (text : List ℕ) (p q : Parts) → Spells text p → Spells text q → p ≡ q
one_program text p q one other =
    parts_same p.header q.header p.areas q.areas p.lines q.lines p.places q.places
    (one_header text p q one other) (one_areas text p q one other) (one_lines text p q one other) (one_places text p q one other)
