-- The values of an array, one after the other.
use Rattle.std.proofs.Common.{◌≡◌, ℕ, ◌+◌, ◌-◌, ◌<◌, ◌≤◌, ℤ, List, [], ◌∷◌, ◌++◌, length, sym, ap, ◌∙◌, arith}
use Rattle.std.proofs.Common.{length-append}
use Rattle.std.specs.Prelude.{Some, slice_set}
use Rattle.text_tokens.specs.declared.token.Position.{Position}
use Rattle.text_tokens.specs.declared.token.Token.TheVariants as token
use Rattle.text_tokens.specs.Tokens.{GivesNext, Remaining, remaining_tokens}
use Rattle.shapes_core.specs.declared.area.Declared.{Declared}
use Rattle.array_text.specs.declared.error.DataError.{DataError}
use Rattle.array_text.specs.Lines.{Lined, lined}
use Rattle.array_text.specs.Outcome.{Came, Outcome, Want, at_value, filled, outcome_along}
use Rattle.array_text.specs.Sources.{Ahead, Explains, Fills, IsRefusedWith, Passes, all}
use Rattle.array_text.proofs.PassLemmas.{more_filled, passed_refused, refused_next}

pub fills_none : (count : ℕ) (values : List ℤ) (old new : List Lined) → old ≡ new → Fills count values old values new
fills_none count values old new same = record {
  passes = λ declared came place. ap (outcome_along declared (filled came place values (count - length values))) same;
  no_longer = omega (arith, ap length same);
  no_fewer = omega arith;
}

pub fills_on : (count : ℕ) (first second third : List ℤ) (old middle new : List Lined) → Fills count first old second middle
    → Fills count second middle third new
    → Fills count first old third new
fills_on count first second third old middle new before behind = record {
  passes = λ declared came place. before.passes declared came place ∙ behind.passes declared came place;
  no_longer = omega (arith, before.no_longer, behind.no_longer);
  no_fewer = omega (arith, before.no_fewer, behind.no_fewer);
}

-- so many values, and one more
one_more : (values after : List ℤ) (value : ℤ) → after ≡ values ++ value ∷ [] → length after ≡ length values + 1
one_more values after value added = ap length added ∙ length-append values (value ∷ [])

-- a number that stands first is a value
pub fills_one : (count : ℕ) (values after : List ℤ) (value : ℤ) (line : ℕ) (behind : List Lined) → length values < count
    → after ≡ values ++ value ∷ []
    → Fills count values ((token.Number value, line) ∷ behind) after behind
fills_one count values after value line behind wanted added =
    let counted = one_more values after value added in
    record {
      passes = λ declared came place.
          ap (λ before. outcome_along declared before ((token.Number value, line) ∷ behind))
          (more_filled came place values count (length values) wanted)
          ∙ ap (λ list. outcome_along declared (filled came place list (count - (length values + 1))) behind) (sym added)
          ∙ ap (λ n. outcome_along declared (filled came place after (count - n)) behind) (sym counted);
      no_longer = omega arith;
      no_fewer = omega (arith, counted);
    }

pub fills_next : (count : ℕ) (values after : List ℤ) (value : ℤ) (position : Position) (old new : Remaining) → length values < count
    → after ≡ values ++ value ∷ [] → GivesNext old (token.Number value, position) new
    → Fills count values (lined (remaining_tokens old)) after (lined (remaining_tokens new))
fills_next count values after value position old new wanted added gives =
    let first : lined (remaining_tokens old) ≡ (token.Number value, position.line) ∷ lined (remaining_tokens new) = ap lined gives.next in
    rw first (fills_one count values after value position.line (lined (remaining_tokens new)) wanted added)

-- what is refused where a value is wanted
pub refused_value : (declared : List Declared) (came : Came) (place : ℕ) (values : List ℤ) (count : ℕ) (ahead : Ahead) (error : DataError)
    → length values < count
    → Explains (at_value came place values (count - (length values + 1)) ahead.token ahead.line) error
    → IsRefusedWith declared (filled came place values (count - length values)) ahead error
refused_value declared came place values count ahead error wanted explains =
    passed_refused declared (filled came place values (count - length values))
    (Outcome.Goes came (Want.AValue place values (count - (length values + 1)))) ahead ahead error
    (ap (λ before. outcome_along declared before (all ahead)) (more_filled came place values count (length values) wanted))
    (refused_next declared (Outcome.Goes came (Want.AValue place values (count - (length values + 1)))) ahead error explains)

-- a value, and those behind it
pub fills_more : (count : ℕ) (values middle after : List ℤ) (value : ℤ) (old new : Ahead) → length values < count
    → old.token ≡ token.Number value
    → middle ≡ values ++ value ∷ [] → Fills count middle old.behind after (all new)
    → Fills count values (all old) after (all new) × (length values < length after)
fills_more count values middle after value old new wanted first added behind =
    let one : Fills count values ((token.Number value, old.line) ∷ old.behind) middle old.behind = fills_one count values middle value
    old.line old.behind wanted added in (
      fills_on count values middle after (all old) old.behind (all new) (rw first one) behind,
      omega
          (arith, one_more values middle value added, behind.no_fewer),
    )

-- no value yet
from_none : (count : ℕ) (values : List ℤ) (old new : Ahead) (declared : List Declared) (came : Came) (place : ℕ)
    → Fills count [] (all old) values (all new)
    → Passes declared (filled came place [] count) old (filled came place values (count - length values)) new
from_none count values old new declared came place fills =
    let whole : count ≡ count - 0 = omega arith in
    ap (λ more. outcome_along declared (filled came place [] more) (all old)) whole ∙ fills.passes declared came place

-- no value more is wanted
pub fills_all : (count : ℕ) (values : List ℤ) (old new : Ahead) (declared : List Declared) (came : Came) (place : ℕ)
    → Fills count [] (all old) values (all new)
    → count ≤ length values
    → Passes declared (filled came place [] count) old (Outcome.Goes (slice_set came place (Some values)) Want.AnArray) new
fills_all count values old new declared came place fills whole =
    let none : count - length values ≡ 0 = omega arith in
    from_none count values old new declared came place fills ∙ ap (λ more. outcome_along declared (filled came place values more) (all new))
    none

-- what is refused behind values is refused
pub fills_refused : (count : ℕ) (values : List ℤ) (old new : Ahead) (declared : List Declared) (came : Came) (place : ℕ) (error : DataError)
    → Fills count [] (all old) values (all new) → IsRefusedWith declared (filled came place values (count - length values)) new error
    → IsRefusedWith declared (filled came place [] count) old error
fills_refused count values old new declared came place error fills refused =
    passed_refused declared (filled came place [] count) (filled came place values (count - length values)) old new error
    (from_none count values old new declared came place fills) refused
