-- What is not refused between two heads begins an accepted file.
use Rattle.std.proofs.Common.{◌≡◌, ◌≢◌, ℕ, zero, suc, ◌+◌, ◌-◌, ◌<◌, ◌≤◌, ℤ, pos, Bool, true, false, List, [], ◌∷◌, ◌++◌, length, map, get_or, set, replicate, codes, refl, subst, ap, ◌∙◌, arith, inl, inr}
use Rattle.std.proofs.lemmas.Bool.{cases_eq}
use Rattle.std.proofs.lemmas.List.{get_or-set_other, get_or-set_same, length-replicate, length-set}
use Rattle.std.specs.Prelude.{◌==◌, if◌then◌else◌, is_some, option_map, AllPairs}
use Rattle.std.specs.Str.{bytes_eq}
use Rattle.std.specs.declared.option.Option.{Option}
use Rattle.std.specs.declared.option.Option.TheVariants.{None, Some}
use Rattle.shapes_core.specs.declared.area.Declared.{Declared}
use Rattle.shapes_core.specs.Shape.{total}
use Rattle.text_tokens.specs.declared.token.Token.{Token}
use Rattle.text_tokens.specs.declared.token.Token.TheVariants as token
use Rattle.array_text.specs.Files.{head, spread}
use Rattle.array_text.specs.Lines.{Lined}
use Rattle.array_text.specs.Outcome.{Came, Head, IsBetweenHeads, Outcome, Want, all_of, at_array, at_end, at_extent, at_name, at_start, at_value, behind_head, filled, head_of, is_on, outcome_along, step}
use Rattle.array_text.proofs.BytesLemmas.{number_differs}
use Rattle.array_text.proofs.EndLemmas.{along_append}
use Rattle.array_text.proofs.FileLemmas.{IsOff, head_begins, head_passed, line_passed, values_passed}
use Rattle.array_text.proofs.PlaceLemmas.{Distinct, distinct, nameless}

-- so many places are kept
abbrev Sized : ℕ → Outcome → Type 0
Sized count (Outcome.Goes came want) = length came ≡ count
Sized count (Outcome.Accepted arrays) = Unit {0}
Sized count (Outcome.Refused line cause) = Unit {0}

sized_if : (count : ℕ) (test : Bool) (one other : Outcome) → Sized count one → Sized count other → Sized count (if test then one else other)
sized_if count true one other first second = first
sized_if count false one other first second = second

sized_array : (count : ℕ) (came : Came) (next : Token) (line : ℕ) → length came ≡ count → Sized count (at_array came next line)
sized_array count came token.End line h = by (all_of came)
  where
    by : (all : Option (List (List ℤ))) → Sized count (at_end all line)
    by None = tt
    by (Some arrays) = tt
sized_array count came (token.Word name) line h = sized_if count (bytes_eq name (codes "array")) (Outcome.Goes came (Want.AName line)) (Outcome.Refused line 3) h tt
sized_array count came token.LongWord line h = tt
sized_array count came (token.Number value) line h = tt
sized_array count came token.OutOfRange line h = tt
sized_array count came (token.Sign sign) line h = tt
sized_array count came token.Malformed line h = tt

sized_name : (count : ℕ) (came : Came) (first : ℕ) (next : Token) (line : ℕ) → length came ≡ count → Sized count (at_name came first next line)
sized_name count came first token.End line h = tt
sized_name count came first (token.Word name) line h = sized_if count (line == first) (Outcome.Goes came (Want.AnExtent first name (Some []))) (Outcome.Refused line 3) h tt
sized_name count came first token.LongWord line h = tt
sized_name count came first (token.Number value) line h = tt
sized_name count came first token.OutOfRange line h = tt
sized_name count came first (token.Sign sign) line h = tt
sized_name count came first token.Malformed line h = tt

sized_filled : (count : ℕ) (came : Came) (place : ℕ) (values : List ℤ) (more : ℕ) → length came ≡ count → Sized count (filled came place values more)
sized_filled count came place values zero h = length-set came place (Some values) ∙ h
sized_filled count came place values (suc more) h = h

sized_value : (count : ℕ) (came : Came) (place : ℕ) (values : List ℤ) (more : ℕ) (next : Token) (line : ℕ) → length came ≡ count
    → Sized count (at_value came place values more next line)
sized_value count came place values more token.End line h = tt
sized_value count came place values more (token.Word name) line h = tt
sized_value count came place values more token.LongWord line h = tt
sized_value count came place values more (token.Number value) line h = sized_filled count came place (values ++ value ∷ []) more h
sized_value count came place values more token.OutOfRange line h = tt
sized_value count came place values more (token.Sign sign) line h = tt
sized_value count came place values more token.Malformed line h = tt

sized_extent : (count : ℕ) (came : Came) (first : ℕ) (name : List ℕ) (shape : Option (List ℕ)) (next : Token) → length came ≡ count
    → Sized count (at_extent came first name shape next)
sized_extent count came first name shape token.End h = h
sized_extent count came first name shape (token.Word word) h = h
sized_extent count came first name shape token.LongWord h = h
sized_extent count came first name shape (token.Number value) h = h
sized_extent count came first name shape token.OutOfRange h = tt
sized_extent count came first name shape (token.Sign sign) h = tt
sized_extent count came first name shape token.Malformed h = tt

sized_head : (count : ℕ) (came : Came) (verdict : Head) (first : ℕ) (next : Token) (line : ℕ) → length came ≡ count
    → Sized count (behind_head came verdict first next line)
sized_head count came (Head.Fails cause) first next line h = tt
sized_head count came (Head.Begins place zero) first next line h = sized_array count (set came place (Some [])) next line (length-set came place (Some []) ∙ h)
sized_head count came (Head.Begins place (suc more)) first next line h = sized_value count came place [] more next line h

sized_step : (declared : List Declared) (count : ℕ) (outcome : Outcome) (next : Lined) → Sized count outcome → Sized count (step declared outcome next)
sized_step declared count (Outcome.Goes came Want.AnArray) next h = sized_array count came next.0 next.1 h
sized_step declared count (Outcome.Goes came (Want.AName first)) next h = sized_name count came first next.0 next.1 h
sized_step declared count (Outcome.Goes came (Want.AnExtent first name shape)) next h =
    sized_if count (is_on first next.0 next.1) _ _ (sized_extent count came first name shape next.0 h)
    (sized_head count came (head_of declared came name shape) first next.0 next.1 h)
sized_step declared count (Outcome.Goes came (Want.AValue place values more)) next h = sized_value count came place values more next.0 next.1 h
sized_step declared count (Outcome.Accepted arrays) next h = tt
sized_step declared count (Outcome.Refused line cause) next h = tt

sized_along : (declared : List Declared) (count : ℕ) (outcome : Outcome) (those : List Lined) → Sized count outcome → Sized count (outcome_along declared outcome those)
sized_along declared count outcome [] h = h
sized_along declared count outcome (first ∷ others) h = sized_along declared count (step declared outcome first) others (sized_step declared count outcome first h)

-- each place has come
whole_of : (came : Came) → ((place : ℕ) → place < length came → is_some (get_or came place None) ≡ true) → (arrays : List (List ℤ)) × (all_of came ≡ Some arrays)
whole_of [] each = ([], refl)
whole_of (None ∷ came) each = absurd (cc (each 0 (omega arith)))
whole_of (Some values ∷ came) each =
    let rest = whole_of came (λ place within. each (suc place) (omega (arith, within))) in
    (values ∷ rest.0, ap (option_map (λ arrays. values ∷ arrays)) rest.1)

-- so many values of 0 on a line
abbrev zeros : ℕ → ℕ → List (ℤ × ℕ)
zeros line count = replicate count (pos 0, line)

-- tokens from this line on with which a file is accepted
pub record GoesOn (declared : List Declared) (came : Came) (line : ℕ) : Type 0 where
  pub behind : List Lined
  pub arrays : List (List ℤ)
  pub off : (first : ℕ) → first < line → IsOff first behind
  pub accepted : outcome_along declared (Outcome.Goes came Want.AnArray) behind ≡ Outcome.Accepted arrays

zeros_off : (first line count : ℕ) (behind : List Lined) → first < line → IsOff first behind → IsOff first (spread (zeros line count) ++ behind)
zeros_off first line zero behind before off = off
zeros_off first line (suc count) behind before off = number_differs line first (λ e. absurd (omega (arith, e, before)))

-- an array of zeros at a place, and then the rest
array_more : (declared : List Declared) (came : Came) (line place : ℕ) → Distinct declared → place < length declared → get_or came place None ≡ None
    → GoesOn declared (set came place (Some (map (λ value. value.0) (zeros (suc line) (total (get_or declared place nameless).shape))))) (suc (suc line))
    → GoesOn declared came line
array_more declared came line place differ within none rest =
    let array = get_or declared place nameless in
    let values = zeros (suc line) (total array.shape) in
    record {
      behind = head line array ++ (spread values ++ rest.behind);
      arrays = rest.arrays;
      off = λ first before. number_differs line first (λ e. absurd (omega (arith, e, before)));
      accepted = head_passed declared came line array (spread values ++ rest.behind)
          ∙ line_passed declared came line place (total array.shape) array.name array.shape (spread values ++ rest.behind)
          (zeros_off line (suc line) (total array.shape) rest.behind (omega arith) (rest.off line (omega arith)))
          (head_begins declared came array place differ within refl none)
          ∙ values_passed declared came place (total array.shape) [] values rest.behind (length-replicate (total array.shape) (pos 0, suc line))
          ∙ rest.accepted;
    }

-- what is missing from a place on can be given
pub go_on : (declared : List Declared) (left : ℕ) (came : Came) (line : ℕ) → Distinct declared → length came ≡ length declared → left ≤ length declared
    → ((place : ℕ) → place + left < length declared → is_some (get_or came place None) ≡ true) → GoesOn declared came line
go_on declared zero came line differ counted within each =
    let whole = whole_of came (λ place inside. each place (omega (arith, inside, counted))) in
    record {
      behind = (token.End, line) ∷ [];
      arrays = whole.0;
      off = λ first before. refl;
      accepted = ap (λ all. at_end all line) whole.1;
    }
go_on declared (suc left) came line differ counted within each =
    by (get_or came (length declared - suc left) None) refl
    (λ later next same given. go_on declared left later next differ same (omega (arith, within)) given)
  where
    earlier : (place : ℕ) → place + left < length declared → (place ≡ length declared - suc left → ⊥) → place + suc left < length declared
    earlier place inside other = let differs : place ≢ length declared - suc left = other in omega (arith, inside, within, differs)

    inside_all : length declared - suc left < length declared
    inside_all = omega (arith, within)

    by : (here : Option (List ℤ)) → get_or came (length declared - suc left) None ≡ here
        → ((later : Came) (next : ℕ) → length later ≡ length declared
        → ((place : ℕ) → place + left < length declared → is_some (get_or later place None) ≡ true) → GoesOn declared later next)
        → GoesOn declared came line
    by (Some held) e rest =
        rest came line counted (λ place inside. elim (cases_eq place (length declared - suc left)) [
          | inl same ↦ ap (λ n. is_some (get_or came n None)) same ∙ ap is_some e
          | inr other ↦ each place (earlier place inside other)
        ])
    by None e rest =
        let place = length declared - suc left in
        let values = map (λ (value : ℤ × ℕ). value.0) (zeros (suc line) (total (get_or declared place nameless).shape)) in
        array_more declared came line place differ inside_all e
        (rest (set came place (Some values)) (suc (suc line)) (length-set came place (Some values) ∙ counted)
        (λ other inside. elim (cases_eq other place) [
          | inl same ↦ ap (λ n. is_some (get_or (set came place (Some values)) n None)) same
              ∙ ap is_some (get_or-set_same came place (Some values) None (omega (arith, counted, inside_all)))
          | inr differs ↦ ap is_some (get_or-set_other came place other (Some values) None differs) ∙ each other (earlier other inside differs)
        ]))

pub front_goes : (declared : List Declared) (front : List Lined) (came : Came) (want : Want) (line : ℕ) → AllPairs (λ one other. one ≢ other) (map (λ array. array.name) declared)
    → outcome_along declared (at_start declared) front ≡ Outcome.Goes came want → IsBetweenHeads want
    → (behind : List Lined) × (arrays : List (List ℤ)) × (outcome_along declared (at_start declared) (front ++ behind) ≡ Outcome.Accepted arrays)
front_goes declared front came want line differ h between = by want h between
  where
    counted : (wanted : Want) → outcome_along declared (at_start declared) front ≡ Outcome.Goes came wanted → length came ≡ length declared
    counted wanted e = let P : Outcome → Type 0 = Sized (length declared) in
        subst P e (sized_along declared (length declared) (at_start declared) front (length-replicate (length declared) None))

    by : (wanted : Want) → outcome_along declared (at_start declared) front ≡ Outcome.Goes came wanted → IsBetweenHeads wanted
        → (behind : List Lined) × (arrays : List (List ℤ)) × (outcome_along declared (at_start declared) (front ++ behind) ≡ Outcome.Accepted arrays)
    by Want.AnArray e between =
        let rest = go_on declared (length declared) came line (distinct declared differ) (counted Want.AnArray e) (omega arith) (λ place inside. absurd (omega (arith, inside))) in (
          rest.behind,
          rest.arrays,
          along_append declared (at_start declared) front rest.behind
              ∙ ap (λ outcome. outcome_along declared outcome rest.behind) e ∙ rest.accepted,
        )
    by (Want.AName first) e between = absurd between
    by (Want.AnExtent first name shape) e between = absurd between
    by (Want.AValue place values more) e between =
        let those = zeros line (suc more) in
        let later = set came place (Some (values ++ map (λ value. value.0) those)) in
        let rest = go_on declared (length declared) later (suc line) (distinct declared differ)
        (length-set came place (Some (values ++ map (λ value. value.0) those)) ∙ counted (Want.AValue place values more) e) (omega arith) (λ place inside. absurd (omega (arith, inside))) in (
          spread those ++ rest.behind,
          rest.arrays,
          along_append declared (at_start declared) front (spread those ++ rest.behind)
              ∙ ap (λ outcome. outcome_along declared outcome (spread those ++ rest.behind)) e
              ∙ values_passed declared came place (suc more) values those rest.behind (length-replicate (suc more) (pos 0, line))
              ∙ rest.accepted,
        )
