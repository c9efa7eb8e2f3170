-- What becomes of an array file, by one pass from the left over its tokens. A refusal has the number of a line and a cause: 1 no token,
-- 2 a number out of range, 3 `array` or a name is wanted, 4 an extent is none, 5 the name is not declared, 6 it came before, 7 the shape is
-- another, 8 a value is wanted, 9 a declared array is missing. This project's own.
use Rattle.std.specs.Prelude.{◌≡◌, ℕ, zero, suc, ℤ, pos, Bool, false, ◌==◌, if◌then◌else◌, List, [], ◌∷◌, ◌++◌, length, codes, replicate}
use Rattle.std.specs.Prelude.{position, is_some, slice_set, slice_index_or, option_map}
use Rattle.std.specs.declared.option.Option.{Option}
use Rattle.std.specs.declared.option.Option.TheVariants.{None, Some}
use Rattle.std.specs.List.{fold}
use Rattle.std.specs.Str.{bytes_eq}
use Rattle.shapes_core.specs.declared.area.Declared.{Declared}
use Rattle.shapes_core.specs.Shape.{total}
use Rattle.text_tokens.specs.declared.token.Token.{Token}
use Rattle.text_tokens.specs.declared.token.Token.TheVariants as token
use Rattle.array_text.specs.Lines.{Lined, lined_tokens}

-- the values of the declared arrays, of those that came
abbrev pub Came : Type 0
Came = List (Option (List ℤ))

-- what is wanted next: `array` or the end; a name on this line; an extent of the head on this line, or the end of it, behind
-- these extents, if each so far is one; a value of the array at this place, behind these and before so many more
pub data Want : Type 0 where
  AnArray : Want
  AName : (line : ℕ) → Want
  AnExtent : (line : ℕ) (name : List ℕ) (shape : Option (List ℕ)) → Want
  AValue : (place : ℕ) (values : List ℤ) (more : ℕ) → Want

pub data Outcome : Type 0 where
  Goes : (came : Came) (want : Want) → Outcome
  Accepted : (arrays : List (List ℤ)) → Outcome
  Refused : (line cause : ℕ) → Outcome

-- the cause of a refusal at a token: what the token is, or that something else is wanted there
abbrev pub cause_or : Token → ℕ → ℕ
cause_or (token.Sign sign) wanted = 1
cause_or token.Malformed wanted = 1
cause_or token.OutOfRange wanted = 2
cause_or _ wanted = wanted

-- all arrays, if each came
abbrev pub all_of : Came → Option (List (List ℤ))
all_of [] = Some []
all_of (None ∷ others) = None
all_of (Some values ∷ others) = option_map (λ arrays. values ∷ arrays) (all_of others)

-- the end of a file stands where an array may begin
abbrev pub at_end : Option (List (List ℤ)) → ℕ → Outcome
at_end (Some arrays) line = Outcome.Accepted arrays
at_end None line = Outcome.Refused line 9

abbrev pub at_array : Came → Token → ℕ → Outcome
at_array came (token.Word word) line =
    if bytes_eq word (codes "array") then Outcome.Goes came (Want.AName line) else Outcome.Refused line 3
at_array came token.End line = at_end (all_of came) line
at_array came other line = Outcome.Refused line (cause_or other 3)

abbrev pub at_name : Came → ℕ → Token → ℕ → Outcome
at_name came first (token.Word name) line =
    if line == first then Outcome.Goes came (Want.AnExtent first name (Some [])) else Outcome.Refused line 3
at_name came first other line = Outcome.Refused line (cause_or other 3)

-- after these values of an array, so many more are wanted
abbrev pub filled : Came → ℕ → List ℤ → ℕ → Outcome
filled came place values zero = Outcome.Goes (slice_set came place (Some values)) Want.AnArray
filled came place values (suc more) = Outcome.Goes came (Want.AValue place values more)

abbrev pub at_value : Came → ℕ → List ℤ → ℕ → Token → ℕ → Outcome
at_value came place values more (token.Number value) line = filled came place (values ++ value ∷ []) more
at_value came place values more other line = Outcome.Refused line (cause_or other 8)

-- the extents with one more, if each is a number that is not negative
abbrev pub with_extent : Option (List ℕ) → Token → Option (List ℕ)
with_extent (Some shape) (token.Number (pos extent)) = Some (shape ++ extent ∷ [])
with_extent _ _ = None

-- the place of the declared array of a name
abbrev pub place_of : List Declared → List ℕ → Option ℕ
place_of declared name = position (λ array. bytes_eq array.name name) declared

-- whether the array at a place has this shape
abbrev pub has_shape : List Declared → ℕ → List ℕ → Bool
has_shape declared place shape =
    bytes_eq shape (slice_index_or declared place (record { name = []; shape = [] })).shape

-- a head begins an array of so many values at a place, or is refused with a cause
pub data Head : Type 0 where
  Begins : (place count : ℕ) → Head
  Fails : (cause : ℕ) → Head

abbrev pub head_at : List Declared → Came → List ℕ → Option ℕ → Head
head_at declared came shape None = Head.Fails 5
head_at declared came shape (Some place) =
    if is_some (slice_index_or came place None) then Head.Fails 6
    else (if has_shape declared place shape then Head.Begins place (total shape)
    else Head.Fails 7)

abbrev pub head_of : List Declared → Came → List ℕ → Option (List ℕ) → Head
head_of declared came name None = Head.Fails 4
head_of declared came name (Some shape) = head_at declared came shape (place_of declared name)

-- the first token behind a head's line
abbrev pub behind_head : Came → Head → ℕ → Token → ℕ → Outcome
behind_head came (Head.Fails cause) first token line = Outcome.Refused first cause
behind_head came (Head.Begins place zero) first token line = at_array (slice_set came place (Some [])) token line
behind_head came (Head.Begins place (suc more)) first token line = at_value came place [] more token line

-- a token stands on this line; the end of the file is on no line
abbrev pub is_on : ℕ → Token → ℕ → Bool
is_on first token.End line = false
is_on first other line = line == first

-- a token on the line of a head, behind its name
abbrev pub at_extent : Came → ℕ → List ℕ → Option (List ℕ) → Token → Outcome
at_extent came first name shape (token.Sign sign) = Outcome.Refused first 1
at_extent came first name shape token.Malformed = Outcome.Refused first 1
at_extent came first name shape token.OutOfRange = Outcome.Refused first 2
at_extent came first name shape other = Outcome.Goes came (Want.AnExtent first name (with_extent shape other))

abbrev pub at_want : List Declared → Came → Want → Token → ℕ → Outcome
at_want declared came Want.AnArray token line = at_array came token line
at_want declared came (Want.AName first) token line = at_name came first token line
at_want declared came (Want.AnExtent first name shape) token line =
    if is_on first token line then at_extent came first name shape token
    else behind_head came (head_of declared came name shape) first token line
at_want declared came (Want.AValue place values more) token line = at_value came place values more token line

abbrev pub step : List Declared → Outcome → Lined → Outcome
step declared (Outcome.Goes came want) next = at_want declared came want next.0 next.1
step declared ended next = ended

-- what becomes of these tokens behind what was read
abbrev pub outcome_along : List Declared → Outcome → List Lined → Outcome
outcome_along declared outcome tokens = fold (step declared) outcome tokens

-- where a file begins: no array came
abbrev pub at_start : List Declared → Outcome
at_start declared = Outcome.Goes (replicate (length declared) None) Want.AnArray

abbrev pub outcome_of : List Declared → List ℕ → Outcome
outcome_of declared text = outcome_along declared (at_start declared) (lined_tokens text)

-- a file is refused at a line with a cause
abbrev pub IsRefused : List Declared → List ℕ → ℕ → ℕ → Type 0
IsRefused declared text line cause = outcome_of declared text ≡ Outcome.Refused line cause

-- an array or the end, or a value, is wanted next
abbrev pub IsBetweenHeads : Want → Type 0
IsBetweenHeads Want.AnArray = Unit {0}
IsBetweenHeads (Want.AValue place values more) = Unit {0}
IsBetweenHeads _ = ⊥
