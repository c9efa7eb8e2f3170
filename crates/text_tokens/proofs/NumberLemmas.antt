-- The number that stands in front of a text.
use Rattle.std.proofs.Common.{refl, ◌≡◌, ℕ, zero, suc, ◌+◌, ◌-◌, ◌*◌, ◌<◌, ◌≤◌, Bool, true, false, List, [], ◌∷◌, ◌++◌, length, take, drop}
use Rattle.std.proofs.Common.{get_or, sym, ap, ◌∙◌, arith}
use Rattle.std.specs.Prelude.{◌==◌, cond, max, not, option_map, ℤ, pos, neg_ℤ, Some, None}
use Rattle.std.specs.declared.option.Option.{Option}
use Rattle.std.specs.List.{list_all, prefix_len, take_while}
use Rattle.std.specs.Str.Parse.{digits_value, starts_with_minus}
use Rattle.std.proofs.lemmas.Bool.Decides.{nat_tests}
use Rattle.std.proofs.lemmas.List.{length-drop, length-take-le, take-append-drop, take_at}
use Rattle.std.proofs.lemmas.List.Sums.{prefix_len-le-length}
use mir.Val.{bool_byte}
use Rattle.shapes_core.specs.Name.{is_digit, is_letter, is_name}
use Rattle.text_tokens.specs.declared.token.Position.{Position}
use Rattle.text_tokens.specs.declared.token.Token.{Token}
use Rattle.text_tokens.specs.declared.token.Sign.TheVariants.{Less, Greater, Open, Close, Equal}
use Rattle.text_tokens.specs.declared.token.Token.TheVariants.{Word, LongWord, Number, OutOfRange, Sign, Malformed, End}
use Rattle.text_tokens.specs.Bytes.{is_run_byte, is_separator, token_of_byte}
use Rattle.text_tokens.specs.Runs.{is_numeral, is_word, number_in_front, number_of, number_value, signed, token_of_number, token_of_run}
use Rattle.text_tokens.specs.Runs.{unsigned_part}
use Rattle.text_tokens.specs.Separators.{begins_in_run}
use Rattle.text_tokens.specs.Tokens.{GivesNext, Remaining, along, first_number, first_token, joined_len, position_after, position_past}
use Rattle.text_tokens.specs.Tokens.{remaining_tokens, tokens}
use Rattle.text_tokens.proofs.CutLemmas.{prefix_none}
use Rattle.text_tokens.proofs.TestLemmas.{both}
use Rattle.text_tokens.proofs.TokenLemmas.{run_len_cons, tokens_cons, tokens_run}

-- bytes that pass a test pass a wider one
pub all_wider : (test wider : ℕ → Bool) → ((byte : ℕ) → test byte ≡ true → wider byte ≡ true) → (list : List ℕ) → list_all test list ≡ true
    → list_all wider list ≡ true
all_wider test wider more [] h = refl
all_wider test wider more (first ∷ others) h =
    let parts = both (test first) (list_all test others) h in
    rw (more first parts.0) (all_wider test wider more others parts.1)

pub digit_in_run : (byte : ℕ) → is_digit byte ≡ true → is_run_byte byte ≡ true
digit_in_run byte h = grind (arith, nat_tests)

-- digits are no word and have no sign
digits_plain : (first : ℕ) → is_digit first ≡ true → (is_letter first ≡ false) × ((first == 45) ≡ false)
digits_plain first h = grind (arith, nat_tests)

numeral : (list : List ℕ) → 0 < length list → list_all is_digit list ≡ true → is_numeral list ≡ true
numeral [] h all = absurd (omega arith)
numeral (first ∷ others) h all = all

-- a run of digits, with or without a sign, is the token of its number
number_token : (run : List ℕ) (value : ℤ) → is_name run ≡ false → is_word run ≡ false → is_numeral (unsigned_part run) ≡ true
    → number_value run ≡ value → token_of_run run ≡ token_of_number value
number_token run value no_name no_word digits is = rw (no_name, no_word, digits, is) refl

pub token_of_digits : (list : List ℕ) → 0 < length list → list_all is_digit list ≡ true
    → token_of_run list ≡ token_of_number (pos (digits_value 10 list))
token_of_digits [] h all = absurd (omega arith)
token_of_digits (first ∷ others) h all =
    let plain = digits_plain first (both (is_digit first) (list_all is_digit others) all).0 in
    number_token (first ∷ others) (pos (digits_value 10 (first ∷ others))) (rw plain.0 refl) (rw plain.0 refl) (rw plain.1 all)
    (rw plain.1 refl)

pub token_of_minus : (list : List ℕ) → 0 < length list → list_all is_digit list ≡ true
    → token_of_run (45 ∷ list) ≡ token_of_number (neg_ℤ (pos (digits_value 10 list)))
token_of_minus list h all = number_token (45 ∷ list) (neg_ℤ (pos (digits_value 10 list))) refl refl (numeral list h all) refl

-- a number with the length of its run
abbrev pub with_len : ℕ → Option ℤ → Option (ℤ × ℕ)
with_len len found = option_map (λ value. (value, len)) found

-- `-`, if there is one
abbrev sign : Bool → List ℕ
sign minus = cond minus (45 ∷ []) []

sign_run : (minus : Bool) → list_all is_run_byte (sign minus) ≡ true
sign_run true = refl
sign_run false = refl

is_false : (test : Bool) → not test ≡ true → test ≡ false
is_false true h = absurd (cc h)
is_false false h = refl

is_true : (test : Bool) → not test ≡ false → test ≡ true
is_true true h = refl
is_true false h = absurd (cc h)

-- a front of a kind goes on with what follows
front_goes_on : (test : ℕ → Bool) (front back : List ℕ) → list_all test front ≡ true
    → prefix_len test (front ++ back) ≡ length front + prefix_len test back
front_goes_on test [] back all = omega arith
front_goes_on test (first ∷ others) back all =
    let parts = both (test first) (list_all test others) all in
    rw parts.0 (omega (arith, front_goes_on test others back parts.1))

-- a run in front of what does not go on with it
run_in_front : (run back : List ℕ) → list_all is_run_byte run ≡ true → begins_in_run back ≡ false
    → number_in_front (run ++ back) ≡ with_len (length run) (number_of (token_of_run run))
run_in_front run back all ends =
    let whole : prefix_len is_run_byte (run ++ back) ≡ length run =
    omega (arith, front_goes_on is_run_byte run back all, prefix_none back ends) in
    ap (λ n. with_len n (number_of (token_of_run (take n (run ++ back))))) whole
    ∙ ap (λ list. with_len (length run) (number_of (token_of_run list))) (take_at run back (length run) refl)

-- so many digits in front, with or without a sign, are the number
digits_in_front : (minus : Bool) (digits back : List ℕ) → 0 < length digits → list_all is_digit digits ≡ true → begins_in_run back ≡ false
    → number_in_front (sign minus ++ (digits ++ back)) ≡ with_len (cond minus 1 0 + length digits)
    (number_of (token_of_number (signed minus (digits_value 10 digits))))
digits_in_front false digits back some all ends =
    run_in_front digits back (all_wider is_digit is_run_byte digit_in_run digits all) ends
    ∙ ap (λ token. with_len (length digits) (number_of token)) (token_of_digits digits some all)
    ∙ ap (λ n. with_len n (number_of (token_of_number (pos (digits_value 10 digits))))) (omega arith)
digits_in_front true digits back some all ends =
    run_in_front (45 ∷ digits) back (all_wider is_digit is_run_byte digit_in_run digits all) ends
    ∙ ap (λ token. with_len (length (45 ∷ digits)) (number_of token)) (token_of_minus digits some all)
    ∙ ap (λ n. with_len n (number_of (token_of_number (neg_ℤ (pos (digits_value 10 digits)))))) (omega arith)

pub bool_count : (minus : Bool) → bool_byte minus ≡ cond minus 1 0
bool_count true = refl
bool_count false = refl

-- a text by its sign and what is behind it
sign_parts : (text : List ℕ) → sign (starts_with_minus text) ++ unsigned_part text ≡ text
sign_parts [] = refl
sign_parts (first ∷ others) = by (first == 45) refl
  where
    by : (minus : Bool) → (first == 45) ≡ minus → sign minus ++ cond minus others (first ∷ others) ≡ first ∷ others
    by false e = refl
    by true e = let same : first ≡ 45 = grind (arith, nat_tests) in ap (λ byte. byte ∷ others) (sym same)

-- the number in front, by so many digits that no run goes on behind
digits_first : (text : List ℕ) (count : ℕ) → 0 < count → count ≤ length (unsigned_part text)
    → list_all is_digit (take count (unsigned_part text)) ≡ true
    → begins_in_run (drop count (unsigned_part text)) ≡ false
    → number_in_front text ≡ with_len (cond (starts_with_minus text) 1 0 + count)
    (number_of (token_of_number (signed (starts_with_minus text) (digits_value 10 (take count (unsigned_part text))))))
digits_first text count some within all ends =
    let digits = take count (unsigned_part text) in
    let back = drop count (unsigned_part text) in
    let counted : length digits ≡ count = length-take-le count (unsigned_part text) within in
    ap number_in_front (sym (sign_parts text))
    ∙ ap (λ list. number_in_front (sign (starts_with_minus text) ++ list)) (sym (take-append-drop count (unsigned_part text)))
    ∙ digits_in_front (starts_with_minus text) digits back (omega (arith, counted, some)) all ends
    ∙ ap (λ n. with_len (cond (starts_with_minus text) 1 0 + n) (number_of
    (token_of_number (signed (starts_with_minus text) (digits_value 10 digits))))) counted

pub short_number : (text digits : List ℕ) (minus ends : Bool) (count magnitude signs : ℕ) (token : Token) (number : Option ℤ)
    → minus ≡ starts_with_minus text → digits ≡ unsigned_part text
    → 0 < count → count ≤ length digits → list_all is_digit (take count digits) ≡ true → ends ≡ not (begins_in_run (drop count digits))
    → ends ≡ true
    → magnitude ≡ digits_value 10 (take count digits) → token ≡ token_of_number (signed minus magnitude) → number ≡ number_of token
    → signs ≡ cond minus 1 0
    → with_len (signs + count) number ≡ number_in_front text
short_number text digits minus ends count magnitude signs token number m d some within all e ended is t n s =
    let no_more : begins_in_run (drop count digits) ≡ false = is_false (begins_in_run (drop count digits)) (sym e ∙ ended) in
    rw (s, n, t, is, m, d) (sym (digits_first text count some (rw d at within) (rw d at all) (rw d at no_more)))

-- so many digits are no more than the run, and fewer where it goes on
pub digits_in_run : (text digits : List ℕ) (count : ℕ) → digits ≡ unsigned_part text → count ≤ length digits
    → list_all is_digit (take count digits) ≡ true
    → count + prefix_len is_run_byte (drop count digits) ≤ prefix_len is_run_byte text
digits_in_run text digits count d within all =
    let back = drop count digits in
    let run = all_wider is_digit is_run_byte digit_in_run (take count digits) all in
    let counted : length (take count digits) ≡ count = length-take-le count digits within in
    let parts : take count digits ++ back ≡ digits = take-append-drop count digits in
    let far : prefix_len is_run_byte digits ≡ length (take count digits) + prefix_len is_run_byte back =
    ap (prefix_len is_run_byte) (sym parts) ∙ front_goes_on is_run_byte (take count digits) back run in
    let signed_far : prefix_len is_run_byte text ≡ length (sign (starts_with_minus text)) + prefix_len is_run_byte (unsigned_part text) =
    ap (prefix_len is_run_byte) (sym (sign_parts text)) ∙ front_goes_on is_run_byte (sign (starts_with_minus text)) (unsigned_part text)
    (sign_run (starts_with_minus text)) in
    let same : prefix_len is_run_byte digits ≡ prefix_len is_run_byte (unsigned_part text) = ap (prefix_len is_run_byte) d in
    omega (arith, counted, far, signed_far, same)

pub goes_on : (back : List ℕ) (ends : Bool) → ends ≡ not (begins_in_run back) → ends ≡ false → 0 < prefix_len is_run_byte back
goes_on [] ends e further = absurd (cc (e, further))
goes_on (first ∷ others) ends e further =
    let run : is_run_byte first ≡ true = is_true (is_run_byte first) (sym e ∙ further) in omega (arith, run_len_cons first others run)

-- what is no numeral is no number
no_numeral : (run : List ℕ) → is_numeral (unsigned_part run) ≡ false → number_of (token_of_run run) ≡ None
no_numeral run h = rw h (by (is_name run) (is_word run))
  where
    by : (name word : Bool) → number_of (cond name (Word run) (cond word LongWord Malformed)) ≡ None
    by true word = refl
    by false true = refl
    by false false = refl

front_no_numeral : (count : ℕ) (list : List ℕ) → prefix_len is_digit list ≡ 0 → is_numeral (take count list) ≡ false
front_no_numeral zero list h = refl
front_no_numeral (suc count) [] h = refl
front_no_numeral (suc count) (first ∷ others) h = by (is_digit first) refl
  where
    by : (digit : Bool) → is_digit first ≡ digit → is_numeral (first ∷ take count others) ≡ false
    by false e = rw e refl
    by true e = absurd (let more : 1 + prefix_len is_digit others ≡ 0 = rw e at h in omega (arith, more))

unsigned_no_numeral : (count : ℕ) (text : List ℕ) → prefix_len is_digit (unsigned_part text) ≡ 0
    → is_numeral (unsigned_part (take count text)) ≡ false
unsigned_no_numeral zero text h = refl
unsigned_no_numeral (suc count) [] h = refl
unsigned_no_numeral (suc count) (first ∷ others) h = by (first == 45) refl
  where
    by : (minus : Bool) → (first == 45) ≡ minus → is_numeral (unsigned_part (first ∷ take count others)) ≡ false
    by false e = rw e (front_no_numeral (suc count) (first ∷ others) (rw e at h))
    by true e = rw e (front_no_numeral count others (rw e at h))

-- where no digit stands first, no number does
pub no_digits : (text : List ℕ) → prefix_len is_digit (unsigned_part text) ≡ 0 → number_in_front text ≡ None
no_digits text h =
    ap (with_len (prefix_len is_run_byte text))
    (no_numeral (take_while is_run_byte text) (unsigned_no_numeral (prefix_len is_run_byte text) text h))

-- what a number in front is made of
some_parts : (found : Option ℤ) (count len : ℕ) (value : ℤ) → with_len count found ≡ Some (value, len)
    → (found ≡ Some value) × (count ≡ len)
some_parts None count len value h = absurd (cc h)
some_parts (Some other) count len value h =
    let one : ℤ × ℕ = (other, count) in
    let two : ℤ × ℕ = (value, len) in
    let e : one ≡ two = cc h in
    (ap (λ p. Some p.0) e, ap (λ p. p.1) e)

none_part : (found : Option ℤ) (count : ℕ) → with_len count found ≡ None → found ≡ None
none_part None count h = refl
none_part (Some other) count h = absurd (cc h)

number_is : (token : Token) (value : ℤ) → number_of token ≡ Some value → token ≡ Number value
number_is (Word n) value h = absurd (cc h)
number_is LongWord value h = absurd (cc h)
number_is (Number n) value h = cc h
number_is OutOfRange value h = absurd (cc h)
number_is (Sign s) value h = absurd (cc h)
number_is Malformed value h = absurd (cc h)
number_is End value h = absurd (cc h)

-- no run, no number
no_run : (bytes : List ℕ) → prefix_len is_run_byte bytes ≡ 0 → number_in_front bytes ≡ None
no_run bytes h = ap (λ n. with_len n (number_of (token_of_run (take n bytes)))) h

-- a number that stands in front is the first token, and the others stand behind it
pub record IsFirst (left : Remaining) (value : ℤ) (len : ℕ) : Type 0 where
  pub whole : len ≡ prefix_len is_run_byte left.bytes
  pub some : 0 < len
  pub within : len ≤ length left.bytes
  pub first : remaining_tokens left
      ≡ (Number value, left.position) ∷ remaining_tokens (record { position = along left.position len; bytes = drop len left.bytes })

pub stands_first : (seen left : Remaining) (found : Option (ℤ × ℕ)) (value : ℤ) (len : ℕ) → seen ≡ left → found ≡ number_in_front seen.bytes
    → found ≡ Some (value, len)
    → IsFirst left value len
stands_first seen left found value len same is e =
    stands left.position left.bytes (ap (λ rest. number_in_front rest.bytes) (sym same) ∙ sym is ∙ e)
  where
    stands : (position : Position) (bytes : List ℕ) → number_in_front bytes ≡ Some (value, len)
        → IsFirst (record { position = position; bytes = bytes }) value len
    stands position [] h = absurd (cc h)
    stands position (first ∷ others) h = by (is_run_byte first) refl
      where
        by : (run : Bool) → is_run_byte first ≡ run → IsFirst (record { position = position; bytes = first ∷ others }) value len
        by false e = absurd (let none = no_run (first ∷ others) (rw e refl) in cc (h, none))
        by true e =
            let bytes = first ∷ others in
            let parts = some_parts (number_of (token_of_run (take_while is_run_byte bytes))) (prefix_len is_run_byte bytes) len value h in
            let token = number_is (token_of_run (take_while is_run_byte bytes)) value parts.0 in
            record {
              whole = sym parts.1;
              some = omega (arith, parts.1, run_len_cons first others e);
              within = omega (arith, parts.1, prefix_len-le-length is_run_byte bytes);
              first = tokens_run (record { position = position; bytes = bytes }) (omega arith) e
                  ∙ ap (λ t. (t, position) ∷ tokens (along position (prefix_len is_run_byte bytes))
                  (drop (prefix_len is_run_byte bytes) bytes)) token
                  ∙ ap (λ n. (Number value, position) ∷ tokens (along position n) (drop n bytes)) parts.1;
            }

-- a byte by itself is no number
byte_no_number : (byte : ℕ) → number_of (token_of_byte byte) ≡ None
byte_no_number byte = by (byte == 60) (byte == 62) (byte == 40) (byte == 41) (byte == 61)
  where
    by : (a b c d e : Bool)
        → number_of (cond a (Sign Less) (cond b (Sign Greater) (cond c (Sign Open) (cond d (Sign Close) (cond e (Sign Equal) Malformed)))))
        ≡ None
    by true b c d e = refl
    by false true c d e = refl
    by false false true d e = refl
    by false false false true e = refl
    by false false false false true = refl
    by false false false false false = refl

-- where no number stands in front and no separator either, the first token is no number
pub no_number : (left : Remaining) → number_in_front left.bytes ≡ None
    → (0 < length left.bytes → is_separator (get_or left.bytes 0 0) ≡ false)
    → first_number (remaining_tokens left) ≡ None
no_number left = none left.position left.bytes
  where
    none : (position : Position) (bytes : List ℕ) → number_in_front bytes ≡ None
        → (0 < length bytes → is_separator (get_or bytes 0 0) ≡ false)
        → first_number (tokens position bytes) ≡ None
    none position [] h apart = refl
    none position (first ∷ others) h apart = by (is_run_byte first) refl
      where
        by : (run : Bool) → is_run_byte first ≡ run → first_number (tokens position (first ∷ others)) ≡ None
        by true e =
            ap first_number (tokens_run (record { position = position; bytes = first ∷ others }) (omega arith) e)
            ∙ none_part (number_of (token_of_run (take_while is_run_byte (first ∷ others)))) (prefix_len is_run_byte (first ∷ others)) h
        by false e =
            let separate : is_separator first ≡ false = apart (omega arith) in
            let alone : first_token position first others ≡ (token_of_byte first, position) ∷ [] = rw (separate, e) refl in
            ap first_number (tokens_cons position first others)
            ∙ ap (λ list. first_number
            (list ++ tokens (position_past (position_after position first) (take (joined_len first others) others))
            (drop (joined_len first others) others))) alone
            ∙ byte_no_number first

-- what is left behind a number that is taken
rest_len : (left new : Remaining) (len : ℕ) → new ≡ record { position = along left.position len; bytes = drop len left.bytes }
    → length new.bytes ≡ length left.bytes - len
rest_len left new len e = ap (λ r. length r.bytes) e ∙ length-drop len left.bytes

-- a number that is taken behind separators is the next token
pub gives_number : (old left new : Remaining) (value : ℤ) (len : ℕ) → remaining_tokens left ≡ remaining_tokens old
    → length left.bytes ≤ length old.bytes
    → IsFirst left value len → new ≡ record { position = along left.position len; bytes = drop len left.bytes }
    → GivesNext old (Number value, left.position) new
gives_number old left new value len same no_longer stands e = record {
  next = sym same ∙ stands.first ∙ ap (λ rest. (Number value, left.position) ∷ remaining_tokens rest) (sym e);
  again = λ ended. absurd (cc ended);
  takes = omega (arith, rest_len left new len e, no_longer, stands.within, stands.some);
}

-- ten looks for each of its bytes are enough
pub number_cost : (left new : Remaining) (value : ℤ) (len before looks : ℕ) → IsFirst left value len
    → new ≡ record { position = along left.position len; bytes = drop len left.bytes }
    → looks ≤ before + max 2 (9 * prefix_len is_run_byte left.bytes) → looks + 10 * length new.bytes + 1 ≤ before + 10 * length left.bytes
number_cost left new value len before looks stands e cost =
    omega (arith, rest_len left new len e, stands.whole, stands.some, stands.within, cost)
