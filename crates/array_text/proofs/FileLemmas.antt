-- A file of the grammar gives the declared arrays their values.
use Rattle.std.proofs.Common.{◌≡◌, ◌≢◌, ℕ, ◌<◌, ℤ, pos, false, List, [], ◌∷◌, ◌++◌, length, map, get_or, set, refl, sym, subst, ap, ◌∙◌, arith, append_assoc}
use Rattle.std.proofs.lemmas.Bool.{lt-ltb}
use Rattle.std.proofs.lemmas.List.{append-nil}
use Rattle.std.proofs.lemmas.List.Sums.{position_or_len_is}
use Rattle.std.specs.Prelude.{if◌then◌else◌, is_some, nat_lt}
use Rattle.std.specs.List.{position_or_len}
use Rattle.std.specs.Str.{bytes_eq}
use Rattle.std.specs.declared.option.Option.TheVariants.{None, Some}
use Rattle.shapes_core.specs.declared.area.Declared.{Declared}
use Rattle.shapes_core.specs.Shape.{total}
use Rattle.text_tokens.specs.declared.token.Token.{Token}
use Rattle.text_tokens.specs.declared.token.Token.TheVariants as token
use Rattle.array_text.specs.Files.{EndsBefore, IsFile, Valued, head, spread}
use Rattle.array_text.specs.Lines.{Lined}
use Rattle.array_text.specs.Outcome.{Came, Head, Outcome, Want, at_end, behind_head, filled, has_shape, head_at, head_of, is_on, outcome_along, place_of}
use Rattle.array_text.proofs.BytesLemmas.{bytes_differ, bytes_same, number_differs, number_same}
use Rattle.array_text.proofs.PassLemmas.{begun, extent_stands, off_the_line}
use Rattle.array_text.proofs.PlaceLemmas.{Distinct, Holds, ends_all, nameless, taken_in}

-- tokens on one line
abbrev pub on_line : ℕ → List Token → List Lined
on_line line those = map (λ t. (t, line)) those

abbrev pub extents_of : List ℕ → List Token
extents_of shape = map (λ extent. token.Number (pos extent)) shape

extents_passed : (declared : List Declared) (came : Came) (line : ℕ) (name done shape : List ℕ) (behind : List Lined)
    → outcome_along declared (Outcome.Goes came (Want.AnExtent line name (Some done))) (on_line line (extents_of shape) ++ behind)
    ≡ outcome_along declared (Outcome.Goes came (Want.AnExtent line name (Some (done ++ shape)))) behind
extents_passed declared came line name done [] behind =
    ap (λ those. outcome_along declared (Outcome.Goes came (Want.AnExtent line name (Some those))) behind) (sym (append-nil done))
extents_passed declared came line name done (extent ∷ shape) behind =
    ap (λ outcome. outcome_along declared outcome (on_line line (extents_of shape) ++ behind)) (extent_stands declared came line name done extent line refl)
    ∙ extents_passed declared came line name (done ++ extent ∷ []) shape behind
    ∙ ap (λ those. outcome_along declared (Outcome.Goes came (Want.AnExtent line name (Some those))) behind) (append_assoc done (extent ∷ []) shape)

-- a head, up to the end of its line
pub head_passed : (declared : List Declared) (came : Came) (line : ℕ) (array : Declared) (behind : List Lined)
    → outcome_along declared (Outcome.Goes came Want.AnArray) (head line array ++ behind)
    ≡ outcome_along declared (Outcome.Goes came (Want.AnExtent line array.name (Some array.shape))) behind
head_passed declared came line array behind =
    ap (λ test. outcome_along declared (if test then Outcome.Goes came (Want.AnExtent line array.name (Some [])) else Outcome.Refused line 3)
    (on_line line (extents_of array.shape) ++ behind)) (number_same line)
    ∙ extents_passed declared came line array.name [] array.shape behind

-- the first of these tokens is on another line
abbrev pub IsOff : ℕ → List Lined → Type 0
IsOff line [] = ⊥
IsOff line (first ∷ others) = is_on line first.0 first.1 ≡ false

pub off_test : (line here : ℕ) (next : Token) → here ≢ line → is_on line next here ≡ false
off_test line here token.End differs = refl
off_test line here (token.Word name) differs = number_differs here line differs
off_test line here token.LongWord differs = number_differs here line differs
off_test line here (token.Number value) differs = number_differs here line differs
off_test line here token.OutOfRange differs = number_differs here line differs
off_test line here (token.Sign sign) differs = number_differs here line differs
off_test line here token.Malformed differs = number_differs here line differs

off_first : (line last : ℕ) (those : List Lined) → EndsBefore line those → IsOff line (those ++ (token.End, last) ∷ [])
off_first line last [] ends = refl
off_first line last (first ∷ others) ends = off_test line first.1 first.0 ends

pub line_passed : (declared : List Declared) (came : Came) (line place count : ℕ) (name shape : List ℕ) (behind : List Lined) → IsOff line behind
    → head_of declared came name (Some shape) ≡ Head.Begins place count
    → outcome_along declared (Outcome.Goes came (Want.AnExtent line name (Some shape))) behind ≡ outcome_along declared (filled came place [] count) behind
line_passed declared came line place count name shape [] off e = absurd off
line_passed declared came line place count name shape (first ∷ others) off e =
    ap (λ outcome. outcome_along declared outcome others)
    (off_the_line declared came line name (Some shape) first.0 first.1 off
    ∙ ap (λ verdict. behind_head came verdict line first.0 first.1) e ∙ begun declared came place count line first.0 first.1)

pub values_passed : (declared : List Declared) (came : Came) (place count : ℕ) (done : List ℤ) (values : List (ℤ × ℕ)) (behind : List Lined) → length values ≡ count
    → outcome_along declared (filled came place done count) (spread values ++ behind)
    ≡ outcome_along declared (filled came place (done ++ map (λ value. value.0) values) 0) behind
values_passed declared came place count done [] behind e =
    ap (λ n. outcome_along declared (filled came place done n) behind) (sym e)
    ∙ ap (λ those. outcome_along declared (filled came place those 0) behind) (sym (append-nil done))
values_passed declared came place count done (value ∷ values) behind e =
    ap (λ n. outcome_along declared (filled came place done n) (spread (value ∷ values) ++ behind)) (sym e)
    ∙ values_passed declared came place (length values) (done ++ value.0 ∷ []) values behind refl
    ∙ ap (λ those. outcome_along declared (filled came place those 0) behind) (append_assoc done (value.0 ∷ []) (map (λ v. v.0) values))

-- the head of an array that is declared at a place, where none came yet
pub place_found : (declared : List Declared) (array : Declared) (place : ℕ) → Distinct declared → place < length declared
    → get_or declared place nameless ≡ array → place_of declared array.name ≡ Some place
place_found declared array place differ within e =
    let test = λ (other : Declared). bytes_eq other.name array.name in
    let found : position_or_len test declared ≡ place = position_or_len_is test declared place nameless (omega (arith, within))
    (λ k below. bytes_differ (get_or declared k nameless).name array.name
    (λ same. let h : k ≡ place = differ k place (omega (arith, below, within)) within (same ∙ sym (ap (λ d. d.name) e)) in absurd (omega (arith, below, h))))
    (λ there. ap (λ d. bytes_eq d.name array.name) e ∙ bytes_same array.name) in
    ap (λ n. if nat_lt n (length declared) then Some n else None) found
    ∙ ap (λ b. if b then Some place else None) (lt-ltb place (length declared) within)

pub head_begins : (declared : List Declared) (came : Came) (array : Declared) (place : ℕ) → Distinct declared → place < length declared
    → get_or declared place nameless ≡ array → get_or came place None ≡ None
    → head_of declared came array.name (Some array.shape) ≡ Head.Begins place (total array.shape)
head_begins declared came array place differ within e none =
    ap (head_at declared came array.shape) (place_found declared array place differ within e)
    ∙ ap (λ here. if is_some here then Head.Fails 6 else (if has_shape declared place array.shape then Head.Begins place (total array.shape) else Head.Fails 7)) none
    ∙ ap (λ test. if test then Head.Begins place (total array.shape) else Head.Fails 7)
    (ap (λ d. bytes_eq array.shape d.shape) e ∙ bytes_same array.shape)

-- a file with these arrays gives the declared arrays their values
pub complete : (declared : List Declared) (arrays : List (List ℤ)) (found : List Valued) (those : List Lined) (came : Came) (last : ℕ)
    → Distinct declared → IsFile found those → Holds declared arrays came found
    → outcome_along declared (Outcome.Goes came Want.AnArray) (those ++ (token.End, last) ∷ []) ≡ Outcome.Accepted arrays
complete declared arrays found those came last differ IsFile.nothing holds = ap (λ all. at_end all last) (ends_all declared arrays came holds)
complete declared arrays found those came last differ (IsFile.one_more array values line others behind counted ends rest) holds =
    let place = taken_in declared arrays came array (map (λ value. value.0) values) others differ holds in
    let after = behind ++ (token.End, last) ∷ [] in
    let off = let P : List Lined → Type 0 = IsOff line in subst P (append_assoc (spread values) behind ((token.End, last) ∷ [])) (off_first line last (spread values ++ behind) ends) in
    ap (outcome_along declared (Outcome.Goes came Want.AnArray))
    (append_assoc (head line array) (spread values ++ behind) ((token.End, last) ∷ []) ∙ ap (λ t. head line array ++ t) (append_assoc (spread values) behind ((token.End, last) ∷ [])))
    ∙ head_passed declared came line array (spread values ++ after)
    ∙ line_passed declared came line place.0 (total array.shape) array.name array.shape (spread values ++ after) off
    (head_begins declared came array place.0 differ place.1 place.2 place.3)
    ∙ values_passed declared came place.0 (total array.shape) [] values after counted
    ∙ complete declared arrays others behind (set came place.0 (Some (map (λ value. value.0) values))) last differ rest place.4
