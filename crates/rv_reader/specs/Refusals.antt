-- Which assembly texts are refused, on which line and with which cause, and what the others spell. Lines are tried in order for the causes
-- 1 to 9 and 12; where no line has one of these, for a label that is not defined, 10, and a target that is too far, 11. This project's own.
use Rattle.std.specs.Prelude.{ℕ, ◌+◌, ◌-◌, ◌*◌, ◌^◌, Bool, not, ◌&&◌, nat_eq, nat_le, List, [], ◌∷◌, ◌++◌, length, map, drop, codes, slice_index_or, if◌then◌else◌}
use Rattle.std.specs.List.{find, list_any, starts_with}
use Rattle.std.specs.Option.{option_map, option_or, unwrap_or}
use Rattle.std.specs.Str.Lines.{lines}
use Rattle.std.specs.declared.option.Option.{Option}
use Rattle.std.specs.declared.option.Option.TheVariants.{None, Some}
use Rattle.std.specs.declared.result.Result.{Result}
use Rattle.std.specs.declared.result.Result.TheVariants.{Ok, Err}
use Rattle.shapes_core.specs.Limits.{most_words}
use Rattle.shapes_core.specs.declared.area.Area.{Area}
use Rattle.rv_line.specs.Parts.{Parts}
use Rattle.rv_line.specs.Rows.{is_row}
use Rattle.rv_line.specs.declared.line.Line.{Line}
use Rattle.rv_line.specs.declared.line.Line.TheVariants.{Branch as BranchLine, Jal}
use Rattle.rv_reader.specs.AreaRows.{row_of}
use Rattle.rv_reader.specs.BodyLines.{Draft, Reading, reading_of}
use Rattle.rv_reader.specs.BodyLines.Draft.{Whole, ToBranch, ToJump}
use Rattle.rv_reader.specs.BodyLines.Reading.{Defines, Codes}
use Rattle.rv_reader.specs.Cuts.{same, until, since}
use Rattle.rv_reader.specs.Operands.{number_of}

-- a line's number, counted from 1, and a cause
abbrev pub Refusal : Type 0
Refusal = Option (ℕ × ℕ)

-- refused on this line with this cause, if there is one, or else so
abbrev pub refused_or : ℕ → Option ℕ → Refusal → Refusal
refused_or place None other = other
refused_or place (Some cause) other = Some (place, cause)

-- a line of the text, or nothing where it ends before
abbrev pub line_at : List (List ℕ) → ℕ → List ℕ
line_at texts place = slice_index_or texts place []

-- the number behind a front of a line, if it is one and is at most `most`
abbrev pub at_most : ℕ → Option ℕ → Option ℕ
at_most most None = None
at_most most (Some number) = if nat_le number most then Some number else None

abbrev pub number_behind : List ℕ → ℕ → List ℕ → Option ℕ
number_behind front most text = if starts_with nat_eq text front then at_most most (number_of (drop (length front) text)) else None

-- the steps of line 2, and the spill words of line 3
abbrev pub steps_of : List (List ℕ) → Option ℕ
steps_of texts = number_behind (codes "# steps ") (2 ^ 63 - 1) (line_at texts 1)

abbrev pub spill_of : List (List ℕ) → Option ℕ
spill_of texts = number_behind (codes "# spill ") most_words (line_at texts 2)

abbrev pub cause_unless : Bool → ℕ → Option ℕ
cause_unless holds cause = if holds then None else Some cause

-- the cause on each of the first three lines is its number
abbrev pub cause_without : ℕ → Option ℕ → Option ℕ
cause_without cause None = Some cause
cause_without cause (Some number) = None

abbrev pub header_refusal : List (List ℕ) → Refusal
header_refusal texts =
    refused_or 1 (cause_unless (same (line_at texts 0) (codes "# psi 1")) 1) (
    refused_or 2 (cause_without 2 (steps_of texts)) (
    refused_or 3 (cause_without 3 (spill_of texts)) None))

-- the longest run of rows behind these, and the lines behind it
abbrev pub rows_in : List (List ℕ) → List (List ℕ)
rows_in texts = until (λ text. not (is_row text)) (drop 3 texts)

abbrev pub body_in : List (List ℕ) → List (List ℕ)
body_in texts = since (λ text. not (is_row text)) (drop 3 texts)

abbrev pub cause_in : {A : Type 0} → Result A ℕ → Option ℕ
cause_in (Ok found) = None
cause_in (Err cause) = Some cause

-- one area, or none
abbrev pub area_in : Result Area ℕ → List Area
area_in (Ok area) = area ∷ []
area_in (Err cause) = []

-- the first row with a cause, behind these areas, where the first row is this line
abbrev pub rows_refusal : ℕ → ℕ → List Area → List (List ℕ) → Refusal
rows_refusal spill place before [] = None
rows_refusal spill place before (row ∷ rows) =
    let found = row_of spill before row in
    refused_or place (cause_in found) (rows_refusal spill (place + 1) (before ++ area_in found) rows)

-- the areas of rows, behind these
abbrev pub areas_of : ℕ → List Area → List (List ℕ) → List Area
areas_of spill before [] = []
areas_of spill before (row ∷ rows) =
    let found = area_in (row_of spill before row) in
    found ++ areas_of spill (before ++ found) rows

-- the label that a line defines, if any
abbrev pub label_in : Result Reading ℕ → List (List ℕ)
label_in (Ok (Defines label)) = label ∷ []
label_in _ = []

-- the instruction on a line, if any
abbrev pub draft_in : Result Reading ℕ → List Draft
draft_in (Ok (Codes draft)) = draft ∷ []
draft_in _ = []

-- the cause on a line behind which these labels are defined: its own, or 9 where it defines one of them
abbrev pub line_cause : List (List ℕ) → Result Reading ℕ → Option ℕ
line_cause before (Err cause) = Some cause
line_cause before (Ok (Defines label)) = if list_any (same label) before then Some 9 else None
line_cause before (Ok _) = None

-- the first line of the body with one of the causes 6 to 9, behind these labels, where the first of these texts is this line
abbrev pub body_refusal : ℕ → List (List ℕ) → List (List ℕ) → Refusal
body_refusal place before [] = None
body_refusal place before (text ∷ texts) =
    let found = reading_of text in
    refused_or place (line_cause before found) (body_refusal (place + 1) (before ++ label_in found) texts)

-- the number of the next instruction behind a line
abbrev pub number_behind_line : ℕ → Result Reading ℕ → ℕ
number_behind_line at (Ok (Codes draft)) = at + 1
number_behind_line at _ = at

-- the labels, each with the number of the instruction that comes next, where so many stand before these texts
abbrev pub labels_of : ℕ → List (List ℕ) → List (List ℕ × ℕ)
labels_of at [] = []
labels_of at (text ∷ texts) =
    let found = reading_of text in
    map (λ label. (label, at)) (label_in found) ++ labels_of (number_behind_line at found) texts

-- the instructions, and the lines where they stand
abbrev pub drafts_of : List (List ℕ) → List Draft
drafts_of [] = []
drafts_of (text ∷ texts) = draft_in (reading_of text) ++ drafts_of texts

abbrev pub places_of : ℕ → List (List ℕ) → List ℕ
places_of place [] = []
places_of place (text ∷ texts) = map (λ draft. place) (draft_in (reading_of text)) ++ places_of (place + 1) texts

-- the number for which a label stands, if it is defined
abbrev pub stands_for : List (List ℕ × ℕ) → List ℕ → Option ℕ
stands_for labels name = option_map (λ label. label.1) (find (λ label. same name label.0) labels)

-- instructions have 4 bytes: a target lies at most `low` bytes before the instruction, or `high` bytes behind it
abbrev pub reach_cause : ℕ → ℕ → ℕ → Option ℕ → Option ℕ
reach_cause low high at None = Some 10
reach_cause low high at (Some target) = cause_unless (nat_le (4 * at) (4 * target + low) && nat_le (4 * target) (4 * at + high)) 11

-- the cause of an instruction of this number, among these labels
abbrev pub target_cause : List (List ℕ × ℕ) → ℕ → Draft → Option ℕ
target_cause labels at (Whole line) = None
target_cause labels at (ToBranch code left right label) = reach_cause 4096 4094 at (stands_for labels label)
target_cause labels at (ToJump to label) = reach_cause 1048576 1048574 at (stands_for labels label)

-- the first instruction with one of the causes 10 and 11, from this number on
abbrev pub targets_refusal : List (List ℕ × ℕ) → ℕ → List Draft → List ℕ → Refusal
targets_refusal labels at [] places = None
targets_refusal labels at (draft ∷ drafts) [] = None
targets_refusal labels at (draft ∷ drafts) (place ∷ places) =
    refused_or place (target_cause labels at draft) (targets_refusal labels (at + 1) drafts places)

-- the instruction with its target
abbrev pub settled : List (List ℕ × ℕ) → Draft → Line
settled labels (Whole line) = line
settled labels (ToBranch code left right label) = BranchLine code left right (unwrap_or (stands_for labels label) 0)
settled labels (ToJump to label) = Jal to (unwrap_or (stands_for labels label) 0)

-- behind the three lines of the header stand the rows, and then the body
abbrev pub body_place : List (List ℕ) → ℕ
body_place texts = length (rows_in texts) + 4

abbrev pub spill_words : List (List ℕ) → ℕ
spill_words texts = unwrap_or (spill_of texts) 0

abbrev pub refusal_of : List (List ℕ) → Refusal
refusal_of texts =
    option_or (header_refusal texts) (
    option_or (rows_refusal (spill_words texts) 4 [] (rows_in texts)) (
    option_or (body_refusal (body_place texts) [] (body_in texts)) (
    targets_refusal (labels_of 0 (body_in texts)) 0 (drafts_of (body_in texts)) (places_of (body_place texts) (body_in texts)))))

-- the line and the cause with which a text is refused, if it is
abbrev pub refusal : List ℕ → Refusal
refusal text = refusal_of (lines text)

-- what lines that are not refused spell
abbrev pub parts_in : List (List ℕ) → Parts
parts_in texts = record {
  header = record { steps = unwrap_or (steps_of texts) 0; spill = spill_words texts };
  areas = areas_of (spill_words texts) [] (rows_in texts);
  lines = map (settled (labels_of 0 (body_in texts))) (drafts_of (body_in texts));
  places = places_of (body_place texts) (body_in texts);
}

abbrev pub parts_of : List ℕ → Parts
parts_of text = parts_in (lines text)
