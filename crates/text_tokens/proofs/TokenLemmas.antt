-- What the tokens of a text are, by its first byte.
use Rattle.std.proofs.Common.{refl, ◌≡◌, ℕ, zero, suc, ◌+◌, ◌<◌, ◌≤◌, Bool, true, false, List, [], ◌∷◌, ◌++◌, length, take, drop, sym, ◌∙◌, ap, subst, append_assoc, get_or, arith}
use Rattle.std.specs.Prelude.{◌==◌, ◌≢◌, cond}
use Rattle.std.specs.List.{list_all, prefix_len}
use Rattle.std.proofs.lemmas.Bool.Decides.{nat_tests}
use Rattle.text_tokens.proofs.TestLemmas.{both}
use Rattle.text_tokens.specs.declared.token.Position.{Position}
use Rattle.text_tokens.specs.declared.token.Token.{Token}
use Rattle.text_tokens.specs.declared.token.Token.TheVariants.{Word, LongWord, Number, OutOfRange, Sign, Malformed, End}
use Rattle.text_tokens.specs.Bytes.{is_run_byte, is_separator, is_within_line, token_of_byte}
use Rattle.shapes_core.specs.Name.{is_name}
use Rattle.text_tokens.specs.Runs.{is_in_range, is_numeral, is_word, number_value, token_of_run, unsigned_part}
use Rattle.text_tokens.specs.Tokens.{Remaining, TakesBytes, along, following, first_token, joined_len, position_after, position_past, remaining_tokens, tokens, tokens_after}

-- what is joined to the bytes before it is passed over
pub tokens_joined : (joined : ℕ) (position : Position) (bytes : List ℕ) → tokens_after joined position bytes ≡ tokens_after 0 (position_past position (take joined bytes)) (drop joined bytes)
tokens_joined zero position bytes = refl
tokens_joined (suc joined) position [] = refl
tokens_joined (suc joined) position (first ∷ others) = tokens_joined joined (position_after position first) others

-- where the bytes after these begin, in parts
pub position_past_parts : (count : ℕ) (position : Position) (bytes : List ℕ) → position_past position bytes ≡ position_past (position_past position (take count bytes)) (drop count bytes)
position_past_parts zero position bytes = refl
position_past_parts (suc count) position [] = refl
position_past_parts (suc count) position (first ∷ others) = position_past_parts count (position_after position first) others

-- a byte that ends no line
pub within_line : (position : Position) (byte : ℕ) → is_within_line byte ≡ true → position_after position byte ≡ along position 1
within_line position byte within = grind (arith, nat_tests)

line_step : (within : Bool) (more count : ℕ) → suc count ≤ cond within (1 + more) 0 → (within ≡ true) × (count ≤ more)
line_step true more count h = (refl, omega arith)
line_step false more count h = absurd (omega arith)

-- along a line, the column counts the bytes
pub position_past_line : (position : Position) (bytes : List ℕ) (count : ℕ) → count ≤ prefix_len is_within_line bytes → position_past position (take count bytes) ≡ along position count
position_past_line position bytes zero h = ap (λ c. record { line = position.line; column = c }) (omega arith)
position_past_line position [] (suc count) h = absurd (omega arith)
position_past_line position (first ∷ others) (suc count) h =
    let step = line_step (is_within_line first) (prefix_len is_within_line others) count h in
    let columns : position.column + 1 + count ≡ position.column + suc count = omega arith in
    ap (λ p. position_past p (take count others)) (within_line position first step.0)
    ∙ position_past_line (along position 1) others count step.1
    ∙ ap (λ c. record { line = position.line; column = c }) columns

-- the tokens after what is joined to the bytes before it
pub tokens_past : (joined : ℕ) (position : Position) (bytes : List ℕ) → tokens_after joined position bytes ++ (End, position_past position bytes) ∷ [] ≡ tokens (position_past position (take joined bytes)) (drop joined bytes)
tokens_past joined position bytes = cc (tokens_joined joined position bytes, position_past_parts joined position bytes)

-- a text is what begins with its first byte, and the text after what is joined to that
pub tokens_cons : (position : Position) (first : ℕ) (others : List ℕ) → tokens position (first ∷ others) ≡ first_token position first others ++ tokens (position_past (position_after position first) (take (joined_len first others) others)) (drop (joined_len first others) others)
tokens_cons position first others =
    append_assoc (first_token position first others) _ _ ∙ ap (λ rest. first_token position first others ++ rest) (tokens_past (joined_len first others) (position_after position first) others)

-- how far a line goes on from its first byte, and a run from its own
line_len_cons : (others : List ℕ) → prefix_len is_within_line (35 ∷ others) ≡ suc (prefix_len is_within_line others)
line_len_cons others = omega arith

pub run_len_cons : (first : ℕ) (others : List ℕ) → is_run_byte first ≡ true → prefix_len is_run_byte (first ∷ others) ≡ suc (prefix_len is_run_byte others)
run_len_cons first others run = rw run (omega arith)

-- a comment is passed over
pub tokens_comment : (left : Remaining) → 0 < length left.bytes → get_or left.bytes 0 0 ≡ 35 → remaining_tokens (record { position = along left.position (prefix_len is_within_line left.bytes); bytes = drop (prefix_len is_within_line left.bytes) left.bytes }) ≡ remaining_tokens left
tokens_comment left = comment left.position left.bytes
  where
    comment : (position : Position) (bytes : List ℕ) → 0 < length bytes → get_or bytes 0 0 ≡ 35 → tokens (along position (prefix_len is_within_line bytes)) (drop (prefix_len is_within_line bytes) bytes) ≡ tokens position bytes
    comment position [] h e = absurd (omega arith)
    comment position (first ∷ others) h e =
        let n = prefix_len is_within_line others in
        let whole : tokens (along position (prefix_len is_within_line (35 ∷ others))) (drop (prefix_len is_within_line (35 ∷ others)) (35 ∷ others)) ≡ tokens position (35 ∷ others) =
        ap (λ m. tokens (along position m) (drop m (35 ∷ others))) (line_len_cons others)
        ∙ ap (λ p. tokens p (drop n others)) (sym (position_past_line position (35 ∷ others) (suc n) (omega (arith, line_len_cons others))))
        ∙ sym (tokens_cons position 35 others)
        in
        subst (λ b. tokens (along position (prefix_len is_within_line (b ∷ others))) (drop (prefix_len is_within_line (b ∷ others)) (b ∷ others)) ≡ tokens position (b ∷ others)) (sym e) whole

-- a longest front that passes a test is the whole list, where each element passes
pub prefix_all : (test : ℕ → Bool) (list : List ℕ) → list_all test list ≡ true → prefix_len test list ≡ length list
prefix_all test [] h = refl
prefix_all test (first ∷ others) h =
    let parts = both (test first) (list_all test others) h in
    rw parts.0 (ap (λ n. 1 + n) (prefix_all test others parts.1) ∙ omega arith)

-- a byte of a run separates nothing and ends no line
run_byte : (byte : ℕ) → is_run_byte byte ≡ true → (is_separator byte ≡ false) × (is_within_line byte ≡ true) × ((byte == 35) ≡ false)
run_byte byte run = grind (arith, nat_tests)

-- a run is a part of a line
run_in_line : (bytes : List ℕ) → prefix_len is_run_byte bytes ≤ prefix_len is_within_line bytes
run_in_line [] = omega arith
run_in_line (first ∷ others) = one_more (is_run_byte first) refl (run_in_line others)
  where
    one_more : (run : Bool) → is_run_byte first ≡ run → prefix_len is_run_byte others ≤ prefix_len is_within_line others → prefix_len is_run_byte (first ∷ others) ≤ prefix_len is_within_line (first ∷ others)
    one_more true run rest = rw (run, (run_byte first run).1) (omega arith)
    one_more false run rest = rw run (omega arith)

-- a run is one token
pub tokens_run : (left : Remaining) → 0 < length left.bytes → is_run_byte (get_or left.bytes 0 0) ≡ true → remaining_tokens left ≡ (token_of_run (take (prefix_len is_run_byte left.bytes) left.bytes), left.position) ∷ remaining_tokens (record { position = along left.position (prefix_len is_run_byte left.bytes); bytes = drop (prefix_len is_run_byte left.bytes) left.bytes })
tokens_run left = one_run left.position left.bytes
  where
    one_run : (position : Position) (bytes : List ℕ) → 0 < length bytes → is_run_byte (get_or bytes 0 0) ≡ true → tokens position bytes ≡ (token_of_run (take (prefix_len is_run_byte bytes) bytes), position) ∷ tokens (along position (prefix_len is_run_byte bytes)) (drop (prefix_len is_run_byte bytes) bytes)
    one_run position [] h e = absurd (omega arith)
    one_run position (first ∷ others) h e =
        let n = prefix_len is_run_byte others in
        let facts = run_byte first e in
        let joined : joined_len first others ≡ n = rw (facts.2, e) refl in
        let token : first_token position first others ≡ (token_of_run (first ∷ take n others), position) ∷ [] = rw (facts.0, e) refl in
        let past : position_past position (take (suc n) (first ∷ others)) ≡ along position (suc n) = position_past_line position (first ∷ others) (suc n) (omega (arith, run_in_line (first ∷ others), run_len_cons first others e)) in
        let whole : tokens position (first ∷ others) ≡ (token_of_run (take (suc n) (first ∷ others)), position) ∷ tokens (along position (suc n)) (drop (suc n) (first ∷ others)) =
        tokens_cons position first others
        ∙ ap (λ m. first_token position first others ++ tokens (position_past (position_after position first) (take m others)) (drop m others)) joined
        ∙ ap (λ ts. ts ++ tokens (position_past (position_after position first) (take n others)) (drop n others)) token
        ∙ ap (λ p. (token_of_run (first ∷ take n others), position) ∷ tokens p (drop n others)) past
        in
        subst (λ m. tokens position (first ∷ others) ≡ (token_of_run (take m (first ∷ others)), position) ∷ tokens (along position m) (drop m (first ∷ others))) (sym (run_len_cons first others e)) whole

-- the end is no token of a run or of a byte
abbrev IsNotEnd : Token → Type 0
IsNotEnd End = ⊥
IsNotEnd _ = Unit {0}

if_not_end : (test : Bool) (t u : Token) → IsNotEnd t → IsNotEnd u → IsNotEnd (cond test t u)
if_not_end true t u first second = first
if_not_end false t u first second = second

differs_from_end : (token : Token) → IsNotEnd token → token ≢ End
differs_from_end token h e = subst IsNotEnd e h

pub run_not_end : (run : List ℕ) → token_of_run run ≢ End
run_not_end run = differs_from_end (token_of_run run) (if_not_end (is_name run) _ _ tt (if_not_end (is_word run) _ _ tt (if_not_end (is_numeral (unsigned_part run)) _ _ (if_not_end (is_in_range (number_value run)) _ _ tt tt) tt)))

pub byte_not_end : (byte : ℕ) → token_of_byte byte ≢ End
byte_not_end byte = differs_from_end (token_of_byte byte) (if_not_end (byte == 60) _ _ tt (if_not_end (byte == 62) _ _ tt (if_not_end (byte == 40) _ _ tt (if_not_end (byte == 41) _ _ tt (if_not_end (byte == 61) _ _ tt tt)))))

-- what follows a token that is not the end
pub following_more : (token : Token) (left : Remaining) → token ≢ End → following token left ≡ remaining_tokens left
following_more End left h = absurd (h refl)
following_more (Word n) left h = refl
following_more LongWord left h = refl
following_more (Number n) left h = refl
following_more OutOfRange left h = refl
following_more (Sign s) left h = refl
following_more Malformed left h = refl

pub takes_bytes : (token : Token) (old new : Remaining) → token ≢ End → length new.bytes < length old.bytes → TakesBytes token old new
takes_bytes End old new h shorter = absurd (h refl)
takes_bytes (Word n) old new h shorter = shorter
takes_bytes LongWord old new h shorter = shorter
takes_bytes (Number n) old new h shorter = shorter
takes_bytes OutOfRange old new h shorter = shorter
takes_bytes (Sign s) old new h shorter = shorter
takes_bytes Malformed old new h shorter = shorter

-- a token that is not the end leaves fewer bytes
pub shorter_by : (token : Token) (old new : Remaining) → token ≢ End → TakesBytes token old new → length new.bytes < length old.bytes
shorter_by End old new h takes = absurd (h refl)
shorter_by (Word n) old new h takes = takes
shorter_by LongWord old new h takes = takes
shorter_by (Number n) old new h takes = takes
shorter_by OutOfRange old new h takes = takes
shorter_by (Sign s) old new h takes = takes
shorter_by Malformed old new h takes = takes
