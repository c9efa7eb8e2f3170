-- Which bytes are a text of which program: what a text means, whoever wrote it. It is said line by line what stands there, and what the
-- program has of it. Blanks, comments, the names of labels and leading zeros are the writer's choice, so that a program has many texts, and
-- yet a text has at most one program. This project's own, but for the instructions (`Instructions`).
use Rattle.std.specs.Prelude.{ℕ, ◌+◌, ◌<◌, ◌≤◌, ◌≡◌, ◌≢◌, ◌^◌, false, List, [], ◌∷◌, ◌++◌, length, map, codes, AllPairs}
use Rattle.std.specs.Str.Lines.{lines}
use Rattle.shapes_core.specs.Limits.{most_words}
use Rattle.rv_line.specs.Fits.{AreAreas, FitLines}
use Rattle.rv_line.specs.Instructions.{Says, IsLabel, IsGlobal, SpellsLine}
use Rattle.rv_line.specs.Numbers.{IsNumber}
use Rattle.rv_line.specs.Parts.{Parts}
use Rattle.rv_line.specs.Rows.{is_row, SpellRows}
use Rattle.rv_line.specs.declared.line.Line.{Line}

-- a line of the text that means nothing
pub data SaysNothing : List ℕ → Type 0 where
  empty : {text : List ℕ} → Says text [] → SaysNothing text
  section : {text : List ℕ} → Says text (codes ".text") → SaysNothing text
  global : {text : List ℕ} (core : List ℕ) → Says text core → IsGlobal core → SaysNothing text

-- lines of a text, of which the first is line `place` of the whole; the number of the next instruction, the instructions from it on, the
-- places where these stand, and the labels that these lines define. `labels` are those of the whole body
pub data SpellLines (labels : List (List ℕ × ℕ)) : List (List ℕ) → ℕ → ℕ → List Line → List ℕ → List (List ℕ × ℕ) → Type 0 where
  end : {place at : ℕ} → SpellLines labels [] place at [] [] []
  skip : {text : List ℕ} {texts : List (List ℕ)} {place at : ℕ} {program : List Line} {places : List ℕ} {defined : List (List ℕ × ℕ)} →
      SaysNothing text → SpellLines labels texts (place + 1) at program places defined →
      SpellLines labels (text ∷ texts) place at program places defined
  label : {text : List ℕ} {texts : List (List ℕ)} {place at : ℕ} {program : List Line} {places : List ℕ} {defined : List (List ℕ × ℕ)} (name : List ℕ) →
      Says text (name ++ codes ":") → IsLabel name → SpellLines labels texts (place + 1) at program places defined →
      SpellLines labels (text ∷ texts) place at program places ((name, at) ∷ defined)
  instruction : {text : List ℕ} {texts : List (List ℕ)} {place at : ℕ} {line : Line} {program : List Line} {places : List ℕ} {defined : List (List ℕ × ℕ)} (core : List ℕ) →
      Says text core → SpellsLine labels core line → SpellLines labels texts (place + 1) (at + 1) program places defined →
      SpellLines labels (text ∷ texts) place at (line ∷ program) (place ∷ places) defined

-- the areas' rows end where a line of the text begins otherwise
abbrev pub EndsRows : List (List ℕ) → Type 0
EndsRows [] = Unit {0}
EndsRows (text ∷ texts) = is_row text ≡ false

-- the bytes are an assembly text with this header, these areas and these instructions, which stand on these lines of it
pub record Spells (text : List ℕ) (parts : Parts) : Type 0 where
  pub steps : List ℕ
  pub spill : List ℕ
  pub rows : List (List ℕ)
  pub body : List (List ℕ)
  pub labels : List (List ℕ × ℕ)
  pub split : lines text ≡ codes "# psi 1" ∷ (codes "# steps " ++ steps) ∷ (codes "# spill " ++ spill) ∷ (rows ++ body)
  pub steps_number : IsNumber steps parts.header.steps
  pub steps_small : parts.header.steps < 2 ^ 63
  pub spill_number : IsNumber spill parts.header.spill
  pub spill_small : parts.header.spill ≤ most_words
  pub rows_spell : SpellRows rows parts.header.spill parts.areas
  pub rows_end : EndsRows body
  pub areas : AreAreas parts.areas
  pub body_spells : SpellLines labels body (length rows + 4) 0 parts.lines parts.places labels
  pub labels_differ : AllPairs (λ one other. one ≢ other) (map (λ label. label.0) labels)
  pub lines_fit : FitLines (length parts.lines) 0 parts.lines
