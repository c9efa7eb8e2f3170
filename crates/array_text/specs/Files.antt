-- The grammar of array files: arrays one after the other, each a head on one line and then its values in row-major order.
-- This project's own.
use Rattle.std.specs.Prelude.{◌≡◌, ◌≢◌, ◌⊎◌, ℕ, ℤ, pos, List, [], ◌∷◌, ◌++◌, length, map, codes, Contains}
use Rattle.std.specs.List.{AllByRecursion, zip}
use Rattle.shapes_core.specs.declared.area.Declared.{Declared}
use Rattle.shapes_core.specs.Shape.{total}
use Rattle.text_tokens.specs.declared.token.Token.TheVariants as token
use Rattle.text_tokens.specs.Tokens.{inner_tokens, start}
use Rattle.array_text.specs.Lines.{Lined, lined}

-- the word `array`, a name and the extents, all on one line
abbrev pub head : ℕ → Declared → List Lined
head line array = map (λ t. (t, line))
    (token.Word (codes "array") ∷ token.Word array.name ∷ map (λ extent. token.Number (pos extent)) array.shape)

-- values, each on a line of its own choice
abbrev pub spread : List (ℤ × ℕ) → List Lined
spread values = map (λ value. (token.Number value.0, value.1)) values

-- a line ends before these tokens: the first of them, if any, stands on another line
abbrev pub EndsBefore : ℕ → List Lined → Type 0
EndsBefore line [] = Unit {0}
EndsBefore line (first ∷ others) = first.1 ≢ line

-- an array with its values
abbrev pub Valued : Type 0
Valued = Declared × List ℤ

-- the tokens of a file that has these arrays, in this order
pub data IsFile : List Valued → List Lined → Type 0 where
  nothing : IsFile [] []
  one_more : (array : Declared) (values : List (ℤ × ℕ)) (line : ℕ) (arrays : List Valued) (behind : List Lined)
      → length values ≡ total array.shape → EndsBefore line (spread values ++ behind) → IsFile arrays behind
      → IsFile ((array, map (λ value. value.0) values) ∷ arrays) (head line array ++ (spread values ++ behind))

-- an array stands among these
abbrev pub Stands : Valued → List Valued → Type 0
Stands array [] = ⊥
Stands array (first ∷ others) = (first ≡ array) ⊎ Stands array others

-- none of these has the name
abbrev pub NoneNamed : List ℕ → List Valued → Type 0
NoneNamed name arrays = AllByRecursion (λ array. array.0.name ≢ name) arrays

-- no name stands twice
abbrev pub Differ : List Valued → Type 0
Differ [] = Unit {0}
Differ (first ∷ others) = NoneNamed first.0.name others × Differ others

-- a file that gives the declared arrays these values: each stands in it exactly once, in any order
pub record IsAccepted (declared : List Declared) (arrays : List (List ℤ)) (text : List ℕ) : Type 0 where
  pub found : List Valued
  pub file : IsFile found (lined (inner_tokens start text))
  pub given : AllByRecursion (λ array. Contains declared array.0) found
  pub once : Differ found
  pub there : AllByRecursion (λ array. Stands array found) (zip declared arrays)
  pub each : length arrays ≡ length declared
