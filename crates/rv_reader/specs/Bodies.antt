-- What is read of the lines of a body so far. This project's own.
use Rattle.std.specs.Prelude.{◌≡◌, ℕ, List, [], ◌++◌, map}
use Rattle.std.specs.declared.option.Option.{Option}
use Rattle.std.specs.declared.option.Option.TheVariants.{None}
use Rattle.rv_reader.specs.Errors.{IsRefusal}
use Rattle.rv_reader.specs.BodyLines.{Draft}
use Rattle.rv_reader.specs.Refusals.{body_refusal, drafts_of, labels_of, places_of, refused_or}
use Rattle.rv_reader.specs.declared.error.AsmError.{AsmError}

-- the names of labels
abbrev pub names_of : List (List ℕ × ℕ) → List (List ℕ)
names_of labels = map (λ label. label.0) labels

-- an error is that of a line with this cause
abbrev pub IsLineRefusal : AsmError → ℕ → Option ℕ → Type 0
IsLineRefusal error place cause = IsRefusal error (refused_or place cause None)

-- These are read of lines, the first of which has this number: the labels, the instructions and their lines; what is left has these texts, of
-- which the first has the number `place`, and `number` instructions stand before.
pub record IsSoFar (first : ℕ) (all : List (List ℕ)) (place number : ℕ) (labels : List (List ℕ × ℕ)) (drafts : List Draft) (places : List ℕ) (texts : List (List ℕ)) : Type 0 where
  pub refusal : body_refusal first [] all ≡ body_refusal place (names_of labels) texts
  pub labels_are : labels_of 0 all ≡ labels ++ labels_of number texts
  pub drafts_are : drafts_of all ≡ drafts ++ drafts_of texts
  pub places_are : places_of first all ≡ places ++ places_of place texts

-- what is read of lines that are not refused
pub record IsBodyOf (first : ℕ) (all : List (List ℕ)) (labels : List (List ℕ × ℕ)) (drafts : List Draft) (places : List ℕ) : Type 0 where
  pub fine : body_refusal first [] all ≡ None
  pub labels_are : labels_of 0 all ≡ labels
  pub drafts_are : drafts_of all ≡ drafts
  pub places_are : places_of first all ≡ places
