-- What becomes of tokens, one after the other.
use Rattle.std.proofs.Common.{◌≡◌, ◌≢◌, ℕ, zero, suc, ◌+◌, ◌-◌, ◌<◌, ℤ, pos, Bool, true, false, List, [], ◌∷◌, ◌++◌, refl, sym, subst, ap, ◌∙◌, arith}
use Rattle.array_text.proofs.BytesLemmas.{number_same}
use Rattle.std.specs.Prelude.{◌==◌, if◌then◌else◌}
use Rattle.std.specs.declared.option.Option.{Option}
use Rattle.std.specs.declared.option.Option.TheVariants.{None, Some}
use Rattle.text_tokens.specs.declared.token.Token.{Token}
use Rattle.text_tokens.specs.declared.token.Token.TheVariants as token
use Rattle.shapes_core.specs.declared.area.Declared.{Declared}
use Rattle.array_text.specs.declared.error.DataError.{DataError}
use Rattle.array_text.specs.Lines.{Lined}
use Rattle.array_text.specs.Outcome.{Came, Head, Outcome, Want, all_of, at_array, at_end, at_extent, at_want, behind_head, cause_or, filled, head_of, is_on, outcome_along, step}
use Rattle.array_text.specs.Sources.{Ahead, BeginsArray, all, Explains, IsRefusedWith, Passes}

pub stays_refused : (declared : List Declared) (tokens : List Lined) (line cause : ℕ)
    → outcome_along declared (Outcome.Refused line cause) tokens ≡ Outcome.Refused line cause
stays_refused declared [] line cause = refl
stays_refused declared (first ∷ others) line cause = stays_refused declared others line cause

pub stays_accepted : (declared : List Declared) (tokens : List Lined) (arrays : List (List ℤ))
    → outcome_along declared (Outcome.Accepted arrays) tokens ≡ Outcome.Accepted arrays
stays_accepted declared [] arrays = refl
stays_accepted declared (first ∷ others) arrays = stays_accepted declared others arrays

-- what is refused stays so
pub refused_along : (declared : List Declared) (outcome : Outcome) (tokens : List Lined) (error : DataError)
    → Explains outcome error → Explains (outcome_along declared outcome tokens) error
refused_along declared outcome tokens (DataError.Text line cause) h = rw h (stays_refused declared tokens line cause)
refused_along declared outcome tokens DataError.Memory h = h

-- what is refused at the token that comes next is refused
pub refused_next : (declared : List Declared) (before : Outcome) (ahead : Ahead) (error : DataError)
    → Explains (step declared before (ahead.token, ahead.line)) error → IsRefusedWith declared before ahead error
refused_next declared before ahead error h = refused_along declared (step declared before (ahead.token, ahead.line)) ahead.behind error h

-- what passes to what is refused is refused
pub passed_refused : (declared : List Declared) (before after : Outcome) (old new : Ahead) (error : DataError)
    → Passes declared before old after new → IsRefusedWith declared after new error → IsRefusedWith declared before old error
passed_refused declared before after old new error passes refused =
    let P : Outcome → Type 0 = λ outcome. Explains outcome error in subst P (sym passes) refused

chosen : {X : Type 0} (test : Bool) (first second : X) → test ≡ true → (if test then first else second) ≡ first
chosen true first second h = refl
chosen false first second h = absurd (cc h)

other : {X : Type 0} (test : Bool) (first second : X) → test ≡ false → (if test then first else second) ≡ second
other true first second h = absurd (cc h)
other false first second h = refl

-- a token on the line of a head
pub on_the_line : (declared : List Declared) (came : Came) (first : ℕ) (name : List ℕ) (shape : Option (List ℕ)) (next : Token) (line : ℕ)
    → is_on first next line ≡ true → at_want declared came (Want.AnExtent first name shape) next line ≡ at_extent came first name shape next
on_the_line declared came first name shape next line h = chosen (is_on first next line) _ _ h

-- a token behind the line of a head
pub off_the_line : (declared : List Declared) (came : Came) (first : ℕ) (name : List ℕ) (shape : Option (List ℕ)) (next : Token) (line : ℕ)
    → is_on first next line ≡ false
    → at_want declared came (Want.AnExtent first name shape) next line ≡ behind_head came (head_of declared came name shape) first next line
off_the_line declared came first name shape next line h = other (is_on first next line) _ _ h

-- behind a head, as behind the values of an array of which all are wanted
pub begun : (declared : List Declared) (came : Came) (place count first : ℕ) (next : Token) (line : ℕ)
    → behind_head came (Head.Begins place count) first next line ≡ step declared (filled came place [] count) (next, line)
begun declared came place zero first next line = refl
begun declared came place (suc count) first next line = refl

-- one value more is wanted
pub more_filled : (came : Came) (place : ℕ) (values : List ℤ) (count index : ℕ) → index < count
    → filled came place values (count - index) ≡ Outcome.Goes came (Want.AValue place values (count - (index + 1)))
more_filled came place values count index there =
    let e : count - index ≡ suc (count - (index + 1)) = omega arith in rw e refl

-- the word `array` is passed over
pub array_begun : (declared : List Declared) (came : Came) (old new : Ahead) (first : ℕ) → BeginsArray old → first ≡ old.line → all new ≡ old.behind
    → Passes declared (Outcome.Goes came Want.AnArray) old (Outcome.Goes came (Want.AName first)) new
array_begun declared came old new first begins there advanced =
    ap (λ outcome. outcome_along declared outcome old.behind) (begins came)
    ∙ ap (λ line. outcome_along declared (Outcome.Goes came (Want.AName line)) old.behind) (sym there)
    ∙ ap (outcome_along declared (Outcome.Goes came (Want.AName first))) (sym advanced)

-- the end of a file is no array
pub begins_no_end : (ahead : Ahead) → BeginsArray ahead → ahead.token ≢ token.End
begins_no_end ahead begins e =
    let P : Token → Type 0 = λ next. at_array [] next ahead.line ≡ Outcome.Goes [] (Want.AName ahead.line) in
    let h : Outcome.Accepted [] ≡ Outcome.Goes [] (Want.AName ahead.line) = subst P e (begins []) in
    absurd (cc h)

-- what becomes of tokens explains an error if what it is equal to does
pub explained : (outcome same : Outcome) (error : DataError) → outcome ≡ same → Explains same error → Explains outcome error
explained outcome same error e explains = let P : Outcome → Type 0 = λ other. Explains other error in subst P (sym e) explains

-- the file ends, and each array came
pub ends_accepted : (declared : List Declared) (came : Came) (ahead : Ahead) (arrays : List (List ℤ)) → ahead.token ≡ token.End → all_of came ≡ Some arrays
    → outcome_along declared (Outcome.Goes came Want.AnArray) (all ahead) ≡ Outcome.Accepted arrays
ends_accepted declared came ahead arrays e whole =
    ap (λ next. outcome_along declared (at_array came next ahead.line) ahead.behind) e
    ∙ ap (λ all. outcome_along declared (at_end all ahead.line) ahead.behind) whole
    ∙ stays_accepted declared ahead.behind arrays

-- the file ends, and an array is missing
pub ends_refused : (declared : List Declared) (came : Came) (ahead : Ahead) (error : DataError) → ahead.token ≡ token.End → all_of came ≡ None
    → error ≡ DataError.Text ahead.line (cause_or ahead.token 9)
    → IsRefusedWith declared (Outcome.Goes came Want.AnArray) ahead error
ends_refused declared came ahead error e missing given =
    let same : error ≡ DataError.Text ahead.line 9 = given ∙ ap (λ next. DataError.Text ahead.line (cause_or next 9)) e in
    rw same (ap (λ next. outcome_along declared (at_array came next ahead.line) ahead.behind) e
    ∙ ap (λ all. outcome_along declared (at_end all ahead.line) ahead.behind) missing
    ∙ stays_refused declared ahead.behind ahead.line 9)

-- an extent that comes next on the line of a head
pub extent_stands : (declared : List Declared) (came : Came) (line : ℕ) (name shape : List ℕ) (extent here : ℕ) → here ≡ line
    → at_want declared came (Want.AnExtent line name (Some shape)) (token.Number (pos extent)) here
    ≡ Outcome.Goes came (Want.AnExtent line name (Some (shape ++ extent ∷ [])))
extent_stands declared came line name shape extent here e =
    on_the_line declared came line name (Some shape) (token.Number (pos extent)) here (ap (λ n. n == line) e ∙ number_same line)
