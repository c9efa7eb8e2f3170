-- What gives the declared arrays their values, and the grammar, for whole texts.
use Rattle.std.proofs.Common.{◌≡◌, ◌≢◌, ℕ, zero, suc, ◌<◌, ℤ, Bool, true, false, List, [], ◌∷◌, ◌++◌, length, map, get_or, replicate, refl, sym, subst, ap, ◌∙◌, arith}
use Rattle.std.proofs.lemmas.List.{length-replicate, map-append}
use Rattle.std.specs.Prelude.{◌==◌, if◌then◌else◌, AllPairs}
use Rattle.std.specs.List.{AllByRecursion, take_while, zip}
use Rattle.std.specs.declared.option.Option.{Option}
use Rattle.std.specs.declared.option.Option.TheVariants.{None}
use Rattle.shapes_core.specs.declared.area.Declared.{Declared}
use Rattle.shapes_core.specs.Name.{is_name}
use Rattle.text_tokens.specs.declared.token.Position.{Position}
use Rattle.text_tokens.specs.declared.token.Token.{Token}
use Rattle.text_tokens.specs.declared.token.Token.TheVariants as token
use Rattle.text_tokens.specs.Bytes.{is_run_byte, is_separator, token_of_byte}
use Rattle.text_tokens.specs.Runs.{is_in_range, is_numeral, is_word, number_value, token_of_run, unsigned_part}
use Rattle.text_tokens.specs.Tokens.{first_token, inner_tokens, joined_len, position_after, position_past, start, tokens_after}
use Rattle.array_text.specs.Files.{IsAccepted, Stands, Valued}
use Rattle.array_text.specs.Lines.{lined, lined_tokens}
use Rattle.array_text.specs.Outcome.{Outcome, Want, at_start, outcome_along, outcome_of}
use Rattle.array_text.proofs.FileLemmas.{complete}
use Rattle.array_text.proofs.FoundLemmas.{Front, NoEnd, sound}
use Rattle.array_text.proofs.PlaceLemmas.{distinct, nameless, placed_at}

abbrev IsNotEnd : Token → Type 0
IsNotEnd token.End = ⊥
IsNotEnd _ = Unit {0}

if_not_end : (test : Bool) (t u : Token) → IsNotEnd t → IsNotEnd u → IsNotEnd (if test then t else u)
if_not_end true t u first second = first
if_not_end false t u first second = second

run_not_end : (run : List ℕ) → IsNotEnd (token_of_run run)
run_not_end run = if_not_end (is_name run) _ _ tt (if_not_end (is_word run) _ _ tt
    (if_not_end (is_numeral (unsigned_part run)) _ _ (if_not_end (is_in_range (number_value run)) _ _ tt tt) tt))

byte_not_end : (byte : ℕ) → IsNotEnd (token_of_byte byte)
byte_not_end byte = if_not_end (byte == 60) _ _ tt (if_not_end (byte == 62) _ _ tt (if_not_end (byte == 40) _ _ tt
    (if_not_end (byte == 41) _ _ tt (if_not_end (byte == 61) _ _ tt tt))))

abbrev NoneEnds : List (Token × Position) → Type 0
NoneEnds placed = AllByRecursion (λ t. IsNotEnd t.0) placed

if_none_ends : (test : Bool) (those others : List (Token × Position)) → NoneEnds those → NoneEnds others → NoneEnds (if test then those else others)
if_none_ends true those others first second = first
if_none_ends false those others first second = second

none_ends_append : (those others : List (Token × Position)) → NoneEnds those → NoneEnds others → NoneEnds (those ++ others)
none_ends_append [] others first second = second
none_ends_append (t ∷ those) others first second = (first.0, none_ends_append those others first.1 second)

first_none_ends : (position : Position) (first : ℕ) (others : List ℕ) → NoneEnds (first_token position first others)
first_none_ends position first others =
    if_none_ends (is_separator first) [] _ tt
    (if_none_ends (is_run_byte first) ((token_of_run (first ∷ take_while is_run_byte others), position) ∷ []) ((token_of_byte first, position) ∷ [])
    (run_not_end (first ∷ take_while is_run_byte others), tt) (byte_not_end first, tt))

inner_none_ends : (joined : ℕ) (position : Position) (bytes : List ℕ) → NoneEnds (tokens_after joined position bytes)
inner_none_ends zero position [] = tt
inner_none_ends (suc joined) position [] = tt
inner_none_ends zero position (first ∷ others) =
    none_ends_append (first_token position first others) (tokens_after (joined_len first others) (position_after position first) others)
    (first_none_ends position first others) (inner_none_ends (joined_len first others) (position_after position first) others)
inner_none_ends (suc joined) position (first ∷ others) = inner_none_ends joined (position_after position first) others

differs_from_end : (t : Token) → IsNotEnd t → t ≢ token.End
differs_from_end t h e = subst IsNotEnd e h

lined_no_end : (placed : List (Token × Position)) → NoneEnds placed → NoEnd (lined placed)
lined_no_end [] h = tt
lined_no_end (t ∷ others) h = (differs_from_end t.0 h.0, lined_no_end others h.1)

-- the tokens of a text, and then its end
pub split : (text : List ℕ) → lined_tokens text ≡ lined (inner_tokens start text) ++ (token.End, (position_past start text).line) ∷ []
split text = map-append (λ t. (t.0, t.1.line)) (inner_tokens start text) ((token.End, position_past start text) ∷ [])

none_at : (count place : ℕ) → get_or (replicate {A = Option (List ℤ)} count None) place None ≡ None
none_at zero place = refl
none_at (suc count) zero = refl
none_at (suc count) (suc place) = none_at count place

standing_at : (declared : List Declared) (arrays : List (List ℤ)) (found : List Valued) → length arrays ≡ length declared
    → AllByRecursion (λ array. Stands array found) (zip declared arrays)
    → (place : ℕ) → place < length declared → Stands (get_or declared place nameless, get_or arrays place []) found
standing_at [] arrays found same there place within = absurd (omega (arith, within))
standing_at (array ∷ declared) [] found same there place within = absurd (omega (arith, same))
standing_at (array ∷ declared) (values ∷ arrays) found same there zero within = there.0
standing_at (array ∷ declared) (values ∷ arrays) found same there (suc place) within =
    standing_at declared arrays found (omega (arith, same)) there.1 place (omega (arith, within))

all_standing : (declared : List Declared) (arrays : List (List ℤ)) (found : List Valued) → length arrays ≡ length declared
    → ((place : ℕ) → place < length declared → Stands (get_or declared place nameless, get_or arrays place []) found)
    → AllByRecursion (λ array. Stands array found) (zip declared arrays)
all_standing [] arrays found same each = tt
all_standing (array ∷ declared) [] found same each = absurd (omega (arith, same))
all_standing (array ∷ declared) (values ∷ arrays) found same each =
    (each 0 (omega arith), all_standing declared arrays found (omega (arith, same)) (λ place within. each (suc place) (omega (arith, within))))

pub accepted_file : (declared : List Declared) (arrays : List (List ℤ)) (text : List ℕ) → AllPairs (λ one other. one ≢ other) (map (λ array. array.name) declared)
    → outcome_of declared text ≡ Outcome.Accepted arrays → IsAccepted declared arrays text
accepted_file declared arrays text differ h =
    let result = sound declared arrays (position_past start text).line (lined (inner_tokens start text)) (distinct declared differ)
    (lined_no_end (inner_tokens start text) (inner_none_ends 0 start text)) (replicate (length declared) None) (length-replicate (length declared) None)
    Want.AnArray [] Front.front_array (ap (outcome_along declared (at_start declared)) (sym (split text)) ∙ h) in
    record {
      found = result.found;
      file = result.file;
      given = result.holds.given;
      once = result.holds.once;
      there = all_standing declared arrays result.found result.holds.counted
          (λ place within. placed_at (get_or (replicate (length declared) None) place None) None (get_or declared place nameless) (get_or arrays place []) result.found
          (none_at (length declared) place) (result.holds.places place within));
      each = result.holds.counted;
    }

pub file_accepted : (declared : List Declared) (arrays : List (List ℤ)) (text : List ℕ) → AllPairs (λ one other. one ≢ other) (map (λ array. array.name) declared)
    → IsAccepted declared arrays text → outcome_of declared text ≡ Outcome.Accepted arrays
file_accepted declared arrays text differ accepted =
    ap (outcome_along declared (at_start declared)) (split text)
    ∙ complete declared arrays accepted.found (lined (inner_tokens start text)) (replicate (length declared) None) (position_past start text).line
    (distinct declared differ) accepted.file
    (record {
      counted = accepted.each;
      held = length-replicate (length declared) None;
      places = λ place within. placed_at None (get_or (replicate (length declared) None) place None) (get_or declared place nameless) (get_or arrays place []) accepted.found
          (sym (none_at (length declared) place)) (standing_at declared arrays accepted.found accepted.each accepted.there place within);
      given = accepted.given;
      once = accepted.once;
    })
