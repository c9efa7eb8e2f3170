-- What gives the declared arrays their values is a file of the grammar.
use Rattle.std.proofs.Common.{◌≡◌, ◌≢◌, ℕ, zero, suc, ◌+◌, ◌<◌, ℤ, pos, negsuc, Bool, true, false, List, [], ◌∷◌, ◌++◌, length, map, get_or, set, codes, refl, sym, subst, ap, ◌∙◌, arith, append_assoc, zero-add}
use Rattle.std.proofs.lemmas.List.{append-nil, length-append, length-set, map-append}
use Rattle.std.proofs.lemmas.List.Quantifiers.{position-Some}
use Rattle.std.proofs.Common.{inl, inr}
use Rattle.std.proofs.lemmas.Bool.{eqb-true}
use Rattle.std.specs.Prelude.{◌==◌, if◌then◌else◌, is_some, ◌⊎◌}
use Rattle.std.specs.List.{AllByRecursion}
use Rattle.std.specs.Str.{bytes_eq}
use Rattle.std.specs.declared.option.Option.{Option}
use Rattle.std.specs.declared.option.Option.TheVariants.{None, Some}
use Rattle.shapes_core.specs.declared.area.Declared.{Declared}
use Rattle.shapes_core.specs.Shape.{total}
use Rattle.text_tokens.specs.declared.token.Token.{Token}
use Rattle.text_tokens.specs.declared.token.Token.TheVariants as token
use Rattle.array_text.specs.Files.{EndsBefore, IsFile, Valued, head, spread}
use Rattle.array_text.specs.Lines.{Lined}
use Rattle.array_text.specs.Outcome.{Came, Head, Outcome, Want, all_of, at_array, at_end, at_extent, at_name, at_value, at_want, behind_head, filled, has_shape, head_at, head_of, is_on, outcome_along, place_of}
use Rattle.array_text.proofs.BytesLemmas.{bytes_found, number_same}
use Rattle.array_text.proofs.FileLemmas.{extents_of, on_line}
use Rattle.array_text.proofs.PassLemmas.{off_the_line, on_the_line, stays_refused}
use Rattle.array_text.proofs.PlaceLemmas.{Distinct, Holds, ends_holds, nameless, put_back}

-- no token is the end
abbrev pub NoEnd : List Lined → Type 0
NoEnd those = AllByRecursion (λ t. t.0 ≢ token.End) those

-- what is refused is not accepted
never : (declared : List Declared) (those : List Lined) (line cause : ℕ) (arrays : List (List ℤ)) (outcome : Outcome) → outcome ≡ Outcome.Refused line cause
    → outcome_along declared outcome those ≡ Outcome.Accepted arrays → ⊥
never declared those line cause arrays outcome e h =
    let k : Outcome.Refused line cause ≡ Outcome.Accepted arrays =
    sym (stays_refused declared those line cause) ∙ ap (λ o. outcome_along declared o those) (sym e) ∙ h in
    absurd (cc k)

-- what a token is where `array` is wanted
data ArrayStep (came : Came) : Token → ℕ → Type 0 where
  its_array : (line : ℕ) → ArrayStep came (token.Word (codes "array")) line
  its_end : (line : ℕ) → ArrayStep came token.End line
  no_array : (next : Token) (line cause : ℕ) → at_array came next line ≡ Outcome.Refused line cause → ArrayStep came next line

array_step : (came : Came) (next : Token) (line : ℕ) → ArrayStep came next line
array_step came token.End line = ArrayStep.its_end line
array_step came (token.Word name) line = by (bytes_eq name (codes "array")) refl
  where
    by : (test : Bool) → bytes_eq name (codes "array") ≡ test → ArrayStep came (token.Word name) line
    by true e = let P : List ℕ → Type 0 = λ n. ArrayStep came (token.Word n) line in subst P (sym (bytes_found name (codes "array") e)) (ArrayStep.its_array line)
    by false e = ArrayStep.no_array (token.Word name) line 3
        (ap (λ test. if test then Outcome.Goes came (Want.AName line) else Outcome.Refused line 3) e)
array_step came token.LongWord line = ArrayStep.no_array token.LongWord line 3 refl
array_step came (token.Number value) line = ArrayStep.no_array (token.Number value) line 3 refl
array_step came token.OutOfRange line = ArrayStep.no_array token.OutOfRange line 2 refl
array_step came (token.Sign sign) line = ArrayStep.no_array (token.Sign sign) line 1 refl
array_step came token.Malformed line = ArrayStep.no_array token.Malformed line 1 refl

-- what a token is where a name is wanted
data NameStep (came : Came) (first : ℕ) : Token → ℕ → Type 0 where
  its_name : (word : List ℕ) → NameStep came first (token.Word word) first
  no_name : (next : Token) (line cause : ℕ) → at_name came first next line ≡ Outcome.Refused line cause → NameStep came first next line

name_step : (came : Came) (first : ℕ) (next : Token) (line : ℕ) → NameStep came first next line
name_step came first token.End line = NameStep.no_name token.End line 3 refl
name_step came first (token.Word word) line = by (line == first) refl
  where
    by : (test : Bool) → (line == first) ≡ test → NameStep came first (token.Word word) line
    by true e = let P : ℕ → Type 0 = λ n. NameStep came first (token.Word word) n in subst P (sym (eqb-true line first e)) (NameStep.its_name word)
    by false e = NameStep.no_name (token.Word word) line 3
        (ap (λ test. if test then Outcome.Goes came (Want.AnExtent first word (Some [])) else Outcome.Refused line 3) e)
name_step came first token.LongWord line = NameStep.no_name token.LongWord line 3 refl
name_step came first (token.Number value) line = NameStep.no_name (token.Number value) line 3 refl
name_step came first token.OutOfRange line = NameStep.no_name token.OutOfRange line 2 refl
name_step came first (token.Sign sign) line = NameStep.no_name (token.Sign sign) line 1 refl
name_step came first token.Malformed line = NameStep.no_name token.Malformed line 1 refl

-- what a token is where a value is wanted
data ValueStep (came : Came) (place : ℕ) (done : List ℤ) (more : ℕ) : Token → ℕ → Type 0 where
  its_value : (number : ℤ) (line : ℕ) → ValueStep came place done more (token.Number number) line
  no_value : (next : Token) (line cause : ℕ) → at_value came place done more next line ≡ Outcome.Refused line cause → ValueStep came place done more next line

value_step : (came : Came) (place : ℕ) (done : List ℤ) (more : ℕ) (next : Token) (line : ℕ) → ValueStep came place done more next line
value_step came place done more token.End line = ValueStep.no_value token.End line 8 refl
value_step came place done more (token.Word word) line = ValueStep.no_value (token.Word word) line 8 refl
value_step came place done more token.LongWord line = ValueStep.no_value token.LongWord line 8 refl
value_step came place done more (token.Number number) line = ValueStep.its_value number line
value_step came place done more token.OutOfRange line = ValueStep.no_value token.OutOfRange line 2 refl
value_step came place done more (token.Sign sign) line = ValueStep.no_value (token.Sign sign) line 1 refl
value_step came place done more token.Malformed line = ValueStep.no_value token.Malformed line 1 refl

-- what a token is on the line of a head, behind its name
data ExtentStep (came : Came) (first : ℕ) (name shape : List ℕ) : Token → Type 0 where
  its_extent : (number : ℕ) → ExtentStep came first name shape (token.Number (pos number))
  no_extent : (next : Token) → at_extent came first name (Some shape) next ≡ Outcome.Goes came (Want.AnExtent first name None)
      → ExtentStep came first name shape next
  stray : (next : Token) (cause : ℕ) → at_extent came first name (Some shape) next ≡ Outcome.Refused first cause → ExtentStep came first name shape next

extent_step : (came : Came) (first : ℕ) (name shape : List ℕ) (next : Token) → ExtentStep came first name shape next
extent_step came first name shape token.End = ExtentStep.no_extent token.End refl
extent_step came first name shape (token.Word word) = ExtentStep.no_extent (token.Word word) refl
extent_step came first name shape token.LongWord = ExtentStep.no_extent token.LongWord refl
extent_step came first name shape (token.Number (pos number)) = ExtentStep.its_extent number
extent_step came first name shape (token.Number (negsuc number)) = ExtentStep.no_extent (token.Number (negsuc number)) refl
extent_step came first name shape token.OutOfRange = ExtentStep.stray token.OutOfRange 2 refl
extent_step came first name shape (token.Sign sign) = ExtentStep.stray (token.Sign sign) 1 refl
extent_step came first name shape token.Malformed = ExtentStep.stray token.Malformed 1 refl

-- what a head is, of which each extent is one
data HeadStep (declared : List Declared) (came : Came) (name shape : List ℕ) : Type 0 where
  begins : (place : ℕ) → place < length declared → get_or declared place nameless ≡ record { name = name; shape = shape } → get_or came place None ≡ None
      → head_of declared came name (Some shape) ≡ Head.Begins place (total shape) → HeadStep declared came name shape
  fails : (cause : ℕ) → head_of declared came name (Some shape) ≡ Head.Fails cause → HeadStep declared came name shape

same_array : (array : Declared) (name shape : List ℕ) → array.name ≡ name → array.shape ≡ shape → array ≡ record { name = name; shape = shape }
same_array array name shape e g =
    let P : List ℕ → List ℕ → Declared = λ n s. record { name = n; shape = s } in
    ap (λ n. P n array.shape) e ∙ ap (P name) g

head_step : (declared : List Declared) (came : Came) (name shape : List ℕ) → HeadStep declared came name shape
head_step declared came name shape = by (place_of declared name) refl
  where
    fit : (place : ℕ) → place < length declared → (get_or declared place nameless).name ≡ name → place_of declared name ≡ Some place → get_or came place None ≡ None
        → (test : Bool) → has_shape declared place shape ≡ test → HeadStep declared came name shape
    fit place within named e none true g =
        HeadStep.begins place within (same_array (get_or declared place nameless) name shape named (sym (bytes_found shape (get_or declared place nameless).shape g))) none
        (ap (head_at declared came shape) e
        ∙ ap (λ here. if is_some here then Head.Fails 6 else (if has_shape declared place shape then Head.Begins place (total shape) else Head.Fails 7)) none
        ∙ ap (λ test. if test then Head.Begins place (total shape) else Head.Fails 7) g)
    fit place within named e none false g =
        HeadStep.fails 7
        (ap (head_at declared came shape) e
        ∙ ap (λ here. if is_some here then Head.Fails 6 else (if has_shape declared place shape then Head.Begins place (total shape) else Head.Fails 7)) none
        ∙ ap (λ test. if test then Head.Begins place (total shape) else Head.Fails 7) g)

    free : (place : ℕ) → place < length declared → (get_or declared place nameless).name ≡ name → place_of declared name ≡ Some place
        → (here : Option (List ℤ)) → get_or came place None ≡ here → HeadStep declared came name shape
    free place within named e None g = fit place within named e g (has_shape declared place shape) refl
    free place within named e (Some held) g =
        HeadStep.fails 6 (ap (head_at declared came shape) e
        ∙ ap (λ here. if is_some here then Head.Fails 6 else (if has_shape declared place shape then Head.Begins place (total shape) else Head.Fails 7)) g)

    by : (found : Option ℕ) → place_of declared name ≡ found → HeadStep declared came name shape
    by None e = HeadStep.fails 5 (ap (head_at declared came shape) e)
    by (Some place) e =
        let known = position-Some (λ array. bytes_eq array.name name) declared place nameless e in
        free place known.0 (bytes_found (get_or declared place nameless).name name known.1) e (get_or came place None) refl

-- a head of which an extent is none is refused
no_shape : (declared : List Declared) (came : Came) (first : ℕ) (name : List ℕ) (those : List Lined) (arrays : List (List ℤ))
    → outcome_along declared (Outcome.Goes came (Want.AnExtent first name None)) those ≡ Outcome.Accepted arrays → ⊥
no_shape declared came first name [] arrays h = absurd (cc h)
no_shape declared came first name (next ∷ others) arrays h = by (is_on first next.0 next.1) refl (no_shape declared came first name others arrays)
  where
    none : (t : Token) → (at_extent came first name None t ≡ Outcome.Goes came (Want.AnExtent first name None)) ⊎ ((cause : ℕ) × (at_extent came first name None t ≡ Outcome.Refused first cause))
    none token.End = inl refl
    none (token.Word word) = inl refl
    none token.LongWord = inl refl
    none (token.Number value) = inl refl
    none token.OutOfRange = inr (2, refl)
    none (token.Sign sign) = inr (1, refl)
    none token.Malformed = inr (1, refl)

    by : (test : Bool) → is_on first next.0 next.1 ≡ test
        → (outcome_along declared (Outcome.Goes came (Want.AnExtent first name None)) others ≡ Outcome.Accepted arrays → ⊥) → ⊥
    by true e behind =
        elim (none next.0) [
          | inl g ↦ behind (ap (λ o. outcome_along declared o others) (sym (on_the_line declared came first name None next.0 next.1 e ∙ g)) ∙ h)
          | inr r ↦ never declared others first r.0 arrays (at_want declared came (Want.AnExtent first name None) next.0 next.1)
              (on_the_line declared came first name None next.0 next.1 e ∙ r.1) h
        ]
    by false e behind =
        never declared others first 4 arrays (at_want declared came (Want.AnExtent first name None) next.0 next.1) (off_the_line declared came first name None next.0 next.1 e) h

-- what was read of an array whose values are wanted
pub data Front (declared : List Declared) (came : Came) : Want → List Lined → Type 0 where
  front_array : Front declared came Want.AnArray []
  front_name : (line : ℕ) → Front declared came (Want.AName line) ((token.Word (codes "array"), line) ∷ [])
  front_extent : (line : ℕ) (word shape : List ℕ)
      → Front declared came (Want.AnExtent line word (Some shape)) (head line (record { name = word; shape = shape }))
  front_value : (line place : ℕ) (values : List (ℤ × ℕ)) (more : ℕ) → place < length declared → get_or came place None ≡ None
      → length values + suc more ≡ total (get_or declared place nameless).shape
      → ((behind : List Lined) → EndsBefore line (spread values ++ behind))
      → Front declared came (Want.AValue place (map (λ value. value.0) values) more) (head line (get_or declared place nameless) ++ spread values)

-- the arrays of these tokens, with those that came before
pub record Result (declared : List Declared) (arrays : List (List ℤ)) (came : Came) (those : List Lined) : Type 0 where
  pub found : List Valued
  pub file : IsFile found those
  pub holds : Holds declared arrays came found

result_of : (declared : List Declared) (arrays : List (List ℤ)) (came : Came) (one other : List Lined) → one ≡ other
    → Result declared arrays came one → Result declared arrays came other
result_of declared arrays came one other e result = let P : List Lined → Type 0 = Result declared arrays came in subst P e result

-- what these tokens come to, whatever was read before
abbrev pub Behind : List Declared → List (List ℤ) → ℕ → List Lined → Type 0
Behind declared arrays last those = (came : Came) → length came ≡ length declared → (want : Want) (front : List Lined) → Front declared came want front
    → outcome_along declared (Outcome.Goes came want) (those ++ (token.End, last) ∷ []) ≡ Outcome.Accepted arrays → Result declared arrays came (front ++ those)

-- an array whose values are read, in front of others
array_whole : (declared : List Declared) (arrays : List (List ℤ)) (came : Came) (line place : ℕ) (array : Declared) (values : List (ℤ × ℕ)) (those : List Lined)
    → Distinct declared → length came ≡ length declared → place < length declared → get_or declared place nameless ≡ array → get_or came place None ≡ None
    → length values ≡ total array.shape → EndsBefore line (spread values ++ those)
    → Result declared arrays (set came place (Some (map (λ value. value.0) values))) those
    → Result declared arrays came (head line array ++ (spread values ++ those))
array_whole declared arrays came line place array values those differ counted within e none whole ends result = record {
  found = (array, map (λ value. value.0) values) ∷ result.found;
  file = IsFile.one_more array values line result.found those whole ends result.file;
  holds = put_back declared arrays came array (map (λ value. value.0) values) result.found place differ counted within e none result.holds;
}

tokens_more : (front : List Lined) (values : List (ℤ × ℕ)) (number : ℤ) (line : ℕ) (those : List Lined)
    → front ++ (spread (values ++ (number, line) ∷ []) ++ those) ≡ (front ++ spread values) ++ (token.Number number, line) ∷ those
tokens_more front values number line those =
    ap (λ t. front ++ (t ++ those)) (map-append (λ value. (token.Number value.0, value.1)) values ((number, line) ∷ []))
    ∙ ap (λ t. front ++ t) (append_assoc (spread values) ((token.Number number, line) ∷ []) those)
    ∙ sym (append_assoc front (spread values) ((token.Number number, line) ∷ those))

-- a value is read
value_read : (declared : List Declared) (arrays : List (List ℤ)) (came : Came) (last line place : ℕ) (values : List (ℤ × ℕ)) (more : ℕ) (number : ℤ) (here : ℕ) (those : List Lined)
    → Distinct declared → Behind declared arrays last those → length came ≡ length declared → place < length declared → get_or came place None ≡ None
    → length values + suc more ≡ total (get_or declared place nameless).shape
    → ((behind : List Lined) → EndsBefore line (spread (values ++ (number, here) ∷ []) ++ behind))
    → outcome_along declared (filled came place (map (λ value. value.0) values ++ number ∷ []) more) (those ++ (token.End, last) ∷ []) ≡ Outcome.Accepted arrays
    → Result declared arrays came ((head line (get_or declared place nameless) ++ spread values) ++ (token.Number number, here) ∷ those)
value_read declared arrays came last line place values zero number here those differ behind counted within none whole ends h =
    let longer = values ++ (number, here) ∷ [] in
    let same : map (λ value. value.0) longer ≡ map (λ value. value.0) values ++ number ∷ [] = map-append (λ value. value.0) values ((number, here) ∷ []) in
    let rest = behind (set came place (Some (map (λ value. value.0) values ++ number ∷ [])))
    (length-set came place (Some (map (λ value. value.0) values ++ number ∷ [])) ∙ counted) Want.AnArray [] Front.front_array h in
    let P : List ℤ → Type 0 = λ done. Result declared arrays (set came place (Some done)) those in
    result_of declared arrays came _ _ (tokens_more (head line (get_or declared place nameless)) values number here those)
    (array_whole declared arrays came line place (get_or declared place nameless) longer those differ counted within refl none
    (omega (arith, whole, length-append values ((number, here) ∷ []))) (ends those) (subst P (sym same) rest))
value_read declared arrays came last line place values (suc more) number here those differ behind counted within none whole ends h =
    let longer = values ++ (number, here) ∷ [] in
    let same : map (λ value. value.0) longer ≡ map (λ value. value.0) values ++ number ∷ [] = map-append (λ value. value.0) values ((number, here) ∷ []) in
    let rest = behind came counted (Want.AValue place (map (λ value. value.0) longer) more) (head line (get_or declared place nameless) ++ spread longer)
    (Front.front_value line place longer more within none (omega (arith, whole, length-append values ((number, here) ∷ []))) ends)
    (ap (λ done. outcome_along declared (Outcome.Goes came (Want.AValue place done more)) (those ++ (token.End, last) ∷ [])) same ∙ h) in
    result_of declared arrays came _ _
    (append_assoc (head line (get_or declared place nameless)) (spread longer) those ∙ tokens_more (head line (get_or declared place nameless)) values number here those) rest

-- an array may begin
array_read : (declared : List Declared) (arrays : List (List ℤ)) (came : Came) (last : ℕ) (next : Token) (line : ℕ) (those : List Lined)
    → Behind declared arrays last those → length came ≡ length declared → next ≢ token.End
    → outcome_along declared (at_array came next line) (those ++ (token.End, last) ∷ []) ≡ Outcome.Accepted arrays
    → Result declared arrays came ((next, line) ∷ those)
array_read declared arrays came last next line those behind counted more h = by next line (array_step came next line) more h
  where
    by : (next : Token) (line : ℕ) → ArrayStep came next line → next ≢ token.End
        → outcome_along declared (at_array came next line) (those ++ (token.End, last) ∷ []) ≡ Outcome.Accepted arrays → Result declared arrays came ((next, line) ∷ those)
    by _ _ (ArrayStep.its_array line) more h = behind came counted (Want.AName line) ((token.Word (codes "array"), line) ∷ []) (Front.front_name line) h
    by _ _ (ArrayStep.its_end line) more h = absurd (more refl)
    by _ _ (ArrayStep.no_array next line cause e) more h = absurd (never declared (those ++ (token.End, last) ∷ []) line cause arrays (at_array came next line) e h)

not_on : (first line : ℕ) → (line == first) ≡ false → line ≢ first
not_on first line h e = let k : true ≡ false = sym (number_same line) ∙ ap (λ n. line == n) e ∙ h in absurd (cc k)

off_differs : (first line : ℕ) (next : Token) → is_on first next line ≡ false → next ≢ token.End → line ≢ first
off_differs first line token.End off more = absurd (more refl)
off_differs first line (token.Word word) off more = not_on first line off
off_differs first line token.LongWord off more = not_on first line off
off_differs first line (token.Number value) off more = not_on first line off
off_differs first line token.OutOfRange off more = not_on first line off
off_differs first line (token.Sign sign) off more = not_on first line off
off_differs first line token.Malformed off more = not_on first line off

-- the first token behind the line of a head, of an array that is declared at a place
body_read : (declared : List Declared) (arrays : List (List ℤ)) (came : Came) (last first place : ℕ) (word shape : List ℕ) (count : ℕ) (next : Token) (line : ℕ) (those : List Lined)
    → Distinct declared → Behind declared arrays last those → length came ≡ length declared → next ≢ token.End → line ≢ first → place < length declared
    → get_or declared place nameless ≡ record { name = word; shape = shape } → get_or came place None ≡ None → total shape ≡ count
    → outcome_along declared (behind_head came (Head.Begins place count) first next line) (those ++ (token.End, last) ∷ []) ≡ Outcome.Accepted arrays
    → Result declared arrays came (head first (record { name = word; shape = shape }) ++ (next, line) ∷ those)
body_read declared arrays came last first place word shape zero next line those differ behind counted more off within e none whole h =
    array_whole declared arrays came first place (record { name = word; shape = shape }) [] ((next, line) ∷ those) differ counted within e none (sym whole) off
    (array_read declared arrays (set came place (Some [])) last next line those behind (length-set came place (Some []) ∙ counted) more h)
body_read declared arrays came last first place word shape (suc count) next line those differ behind counted more off within e none whole h =
    by next line (value_step came place [] count next line) off h
  where
    by : (next : Token) (line : ℕ) → ValueStep came place [] count next line → line ≢ first
        → outcome_along declared (at_value came place [] count next line) (those ++ (token.End, last) ∷ []) ≡ Outcome.Accepted arrays
        → Result declared arrays came (head first (record { name = word; shape = shape }) ++ (next, line) ∷ those)
    by _ _ (ValueStep.its_value number line) off h =
        result_of declared arrays came _ _
        (ap (λ t. t ++ (token.Number number, line) ∷ those) (append-nil (head first (get_or declared place nameless)))
        ∙ ap (λ d. head first d ++ (token.Number number, line) ∷ those) e)
        (value_read declared arrays came last first place [] count number line those differ behind counted within none
        (zero-add (suc count) ∙ sym whole ∙ ap (λ d. total d.shape) (sym e)) (λ t. off) h)
    by _ _ (ValueStep.no_value next line cause g) off h =
        absurd (never declared (those ++ (token.End, last) ∷ []) line cause arrays (at_value came place [] count next line) g h)

on_same : (first : ℕ) (next : Token) (line : ℕ) → is_on first next line ≡ true → line ≡ first
on_same first token.End line e = absurd (cc e)
on_same first (token.Word word) line e = eqb-true line first e
on_same first token.LongWord line e = eqb-true line first e
on_same first (token.Number value) line e = eqb-true line first e
on_same first token.OutOfRange line e = eqb-true line first e
on_same first (token.Sign sign) line e = eqb-true line first e
on_same first token.Malformed line e = eqb-true line first e

extent_more : (first : ℕ) (word shape : List ℕ) (number line : ℕ) (those : List Lined) → line ≡ first
    → head first (record { name = word; shape = shape ++ number ∷ [] }) ++ those
    ≡ head first (record { name = word; shape = shape }) ++ (token.Number (pos number), line) ∷ those
extent_more first word shape number line those e =
    ap (λ t. (token.Word (codes "array"), first) ∷ (token.Word word, first) ∷ (on_line first t ++ those)) (map-append (λ extent. token.Number (pos extent)) shape (number ∷ []))
    ∙ ap (λ t. (token.Word (codes "array"), first) ∷ (token.Word word, first) ∷ (t ++ those)) (map-append (λ t. (t, first)) (extents_of shape) (token.Number (pos number) ∷ []))
    ∙ append_assoc (head first (record { name = word; shape = shape })) ((token.Number (pos number), first) ∷ []) those
    ∙ ap (λ n. head first (record { name = word; shape = shape }) ++ (token.Number (pos number), n) ∷ those) (sym e)

-- a token on the line of a head or behind it
head_read : (declared : List Declared) (arrays : List (List ℤ)) (came : Came) (last first : ℕ) (word shape : List ℕ) (next : Token) (line : ℕ) (those : List Lined)
    → Distinct declared → Behind declared arrays last those → length came ≡ length declared → next ≢ token.End
    → outcome_along declared (at_want declared came (Want.AnExtent first word (Some shape)) next line) (those ++ (token.End, last) ∷ []) ≡ Outcome.Accepted arrays
    → Result declared arrays came (head first (record { name = word; shape = shape }) ++ (next, line) ∷ those)
head_read declared arrays came last first word shape next line those differ behind counted more h = by (is_on first next line) refl
  where
    extents : (given : Token) → ExtentStep came first word shape given → line ≡ first
        → outcome_along declared (at_extent came first word (Some shape) given) (those ++ (token.End, last) ∷ []) ≡ Outcome.Accepted arrays
        → Result declared arrays came (head first (record { name = word; shape = shape }) ++ (given, line) ∷ those)
    extents _ (ExtentStep.its_extent number) on h =
        result_of declared arrays came _ _ (extent_more first word shape number line those on)
        (behind came counted (Want.AnExtent first word (Some (shape ++ number ∷ []))) (head first (record { name = word; shape = shape ++ number ∷ [] }))
        (Front.front_extent first word (shape ++ number ∷ [])) h)
    extents _ (ExtentStep.no_extent given e) on h =
        absurd (no_shape declared came first word (those ++ (token.End, last) ∷ []) arrays (ap (λ o. outcome_along declared o (those ++ (token.End, last) ∷ [])) (sym e) ∙ h))
    extents _ (ExtentStep.stray given cause e) on h =
        absurd (never declared (those ++ (token.End, last) ∷ []) first cause arrays (at_extent came first word (Some shape) given) e h)

    heads : is_on first next line ≡ false → HeadStep declared came word shape
        → Result declared arrays came (head first (record { name = word; shape = shape }) ++ (next, line) ∷ those)
    heads off (HeadStep.begins place within e none g) =
        body_read declared arrays came last first place word shape (total shape) next line those differ behind counted more (off_differs first line next off more) within e none refl
        (ap (λ o. outcome_along declared o (those ++ (token.End, last) ∷ []))
        (sym (off_the_line declared came first word (Some shape) next line off ∙ ap (λ verdict. behind_head came verdict first next line) g)) ∙ h)
    heads off (HeadStep.fails cause g) =
        absurd (never declared (those ++ (token.End, last) ∷ []) first cause arrays (at_want declared came (Want.AnExtent first word (Some shape)) next line)
        (off_the_line declared came first word (Some shape) next line off ∙ ap (λ verdict. behind_head came verdict first next line) g) h)

    by : (test : Bool) → is_on first next line ≡ test → Result declared arrays came (head first (record { name = word; shape = shape }) ++ (next, line) ∷ those)
    by true e = extents next (extent_step came first word shape next) (on_same first next line e)
        (ap (λ o. outcome_along declared o (those ++ (token.End, last) ∷ [])) (sym (on_the_line declared came first word (Some shape) next line e)) ∙ h)
    by false e = heads e (head_step declared came word shape)

more_ends : (line : ℕ) (values : List (ℤ × ℕ)) (number : ℤ) (here : ℕ) → ((behind : List Lined) → EndsBefore line (spread values ++ behind))
    → (behind : List Lined) → EndsBefore line (spread (values ++ (number, here) ∷ []) ++ behind)
more_ends line values number here ends behind =
    let P : List Lined → Type 0 = EndsBefore line in
    subst P (sym (ap (λ t. t ++ behind) (map-append (λ value. (token.Number value.0, value.1)) values ((number, here) ∷ [])) ∙ append_assoc (spread values) ((token.Number number, here) ∷ []) behind))
    (ends ((token.Number number, here) ∷ behind))

accepted_all : (came : Came) (last : ℕ) (arrays : List (List ℤ)) → at_end (all_of came) last ≡ Outcome.Accepted arrays → all_of came ≡ Some arrays
accepted_all came last arrays h = by (all_of came) h
  where
    by : (all : Option (List (List ℤ))) → at_end all last ≡ Outcome.Accepted arrays → all ≡ Some arrays
    by None h = absurd (cc h)
    by (Some lists) h = let e : lists ≡ arrays = cc h in ap Some e

-- the end of the file
end_read : (declared : List Declared) (arrays : List (List ℤ)) (last : ℕ) (came : Came) (want : Want) (front : List Lined) → Distinct declared → length came ≡ length declared
    → Front declared came want front → outcome_along declared (Outcome.Goes came want) ((token.End, last) ∷ []) ≡ Outcome.Accepted arrays
    → Result declared arrays came (front ++ [])
end_read declared arrays last came _ _ differ counted Front.front_array h =
    record { found = []; file = IsFile.nothing; holds = ends_holds declared arrays came counted (accepted_all came last arrays h) }
end_read declared arrays last came _ _ differ counted (Front.front_name line) h = absurd (cc h)
end_read declared arrays last came _ _ differ counted (Front.front_extent line word shape) h = by (head_step declared came word shape)
  where
    body : (place count : ℕ) → place < length declared → get_or declared place nameless ≡ record { name = word; shape = shape } → get_or came place None ≡ None → total shape ≡ count
        → behind_head came (Head.Begins place count) line token.End last ≡ Outcome.Accepted arrays
        → Result declared arrays came (head line (record { name = word; shape = shape }) ++ [])
    body place zero within e none whole h =
        array_whole declared arrays came line place (record { name = word; shape = shape }) [] [] differ counted within e none (sym whole) tt
        (record {
          found = [];
          file = IsFile.nothing;
          holds = ends_holds declared arrays (set came place (Some [])) (length-set came place (Some []) ∙ counted) (accepted_all (set came place (Some [])) last arrays h);
        })
    body place (suc count) within e none whole h = absurd (cc h)

    by : HeadStep declared came word shape → Result declared arrays came (head line (record { name = word; shape = shape }) ++ [])
    by (HeadStep.begins place within e none g) =
        body place (total shape) within e none refl (sym (ap (λ verdict. behind_head came verdict line token.End last) g) ∙ h)
    by (HeadStep.fails cause g) =
        let k : Outcome.Refused line cause ≡ Outcome.Accepted arrays = sym (ap (λ verdict. behind_head came verdict line token.End last) g) ∙ h in absurd (cc k)
end_read declared arrays last came _ _ differ counted (Front.front_value line place values more within none whole ends) h = absurd (cc h)

-- tokens that give the declared arrays their values are a file
pub sound : (declared : List Declared) (arrays : List (List ℤ)) (last : ℕ) (those : List Lined) → Distinct declared → NoEnd those → Behind declared arrays last those
sound declared arrays last [] differ more came counted want front shape h = end_read declared arrays last came want front differ counted shape h
sound declared arrays last (next ∷ others) differ more came counted _ _ Front.front_array h =
    array_read declared arrays came last next.0 next.1 others (sound declared arrays last others differ more.1) counted more.0 h
sound declared arrays last (next ∷ others) differ more came counted _ _ (Front.front_name line) h = by next.0 next.1 (name_step came line next.0 next.1) h (sound declared arrays last others differ more.1)
  where
    by : (given : Token) (here : ℕ) → NameStep came line given here
        → outcome_along declared (at_name came line given here) (others ++ (token.End, last) ∷ []) ≡ Outcome.Accepted arrays → Behind declared arrays last others
        → Result declared arrays came ((token.Word (codes "array"), line) ∷ (given, here) ∷ others)
    by _ _ (NameStep.its_name word) h behind =
        behind came counted (Want.AnExtent line word (Some [])) (head line (record { name = word; shape = [] })) (Front.front_extent line word [])
        (ap (λ test. outcome_along declared (if test then Outcome.Goes came (Want.AnExtent line word (Some [])) else Outcome.Refused line 3) (others ++ (token.End, last) ∷ [])) (sym (number_same line)) ∙ h)
    by _ _ (NameStep.no_name given here cause e) h behind = absurd (never declared (others ++ (token.End, last) ∷ []) here cause arrays (at_name came line given here) e h)
sound declared arrays last (next ∷ others) differ more came counted _ _ (Front.front_extent line word shape) h =
    head_read declared arrays came last line word shape next.0 next.1 others differ (sound declared arrays last others differ more.1) counted more.0 h
sound declared arrays last (next ∷ others) differ more came counted _ _ (Front.front_value line place values left within none whole ends) h =
    by next.0 next.1 (value_step came place (map (λ value. value.0) values) left next.0 next.1) h (sound declared arrays last others differ more.1)
  where
    by : (given : Token) (here : ℕ) → ValueStep came place (map (λ value. value.0) values) left given here
        → outcome_along declared (at_value came place (map (λ value. value.0) values) left given here) (others ++ (token.End, last) ∷ []) ≡ Outcome.Accepted arrays
        → Behind declared arrays last others
        → Result declared arrays came ((head line (get_or declared place nameless) ++ spread values) ++ (given, here) ∷ others)
    by _ _ (ValueStep.its_value number here) h behind =
        value_read declared arrays came last line place values left number here others differ behind counted within none whole (more_ends line values number here ends) h
    by _ _ (ValueStep.no_value given here cause e) h behind =
        absurd (never declared (others ++ (token.End, last) ∷ []) here cause arrays (at_value came place (map (λ value. value.0) values) left given here) e h)
