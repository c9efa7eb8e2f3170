-- The tokens of a text that is cut in two.
use Rattle.std.proofs.Common.{refl, ◌≡◌, ℕ, zero, suc, ◌+◌, ◌≤◌, Bool, true, false, List, [], ◌∷◌, ◌++◌, length, take, sym, ap, ◌∙◌, append_assoc, arith}
use Rattle.std.specs.Prelude.{◌==◌, ◌&&◌, ◌||◌, cond}
use Rattle.std.specs.List.{list_all, prefix_len, take_while}
use Rattle.std.proofs.lemmas.List.Sums.{prefix_len-le-length}
use Rattle.std.proofs.lemmas.List.{take-append-le}
use Rattle.text_tokens.specs.declared.token.Position.{Position}
use Rattle.text_tokens.specs.declared.token.Token.TheVariants.{End}
use Rattle.text_tokens.specs.Bytes.{is_run_byte, is_separator, is_within_line, token_of_byte}
use Rattle.text_tokens.specs.Runs.{token_of_run}
use Rattle.text_tokens.specs.Separators.{IsCut, begins_in_run, ends_in_run, has_open_comment}
use Rattle.text_tokens.proofs.TestLemmas.{both, neither}
use Rattle.text_tokens.specs.Tokens.{first_token, inner_tokens, joined_len, position_after, position_past, tokens, tokens_after}

-- a longest front that stops before a cut is the same without what follows the cut
prefix_stops : (test : ℕ → Bool) (front back : List ℕ) → list_all test front ≡ false → prefix_len test (front ++ back) ≡ prefix_len test front
prefix_stops test [] back h = absurd (cc h)
prefix_stops test (first ∷ others) back h = by_test (test first) refl (prefix_stops test others back)
  where
    by_test : (passes : Bool) → test first ≡ passes → (list_all test others ≡ false → prefix_len test (others ++ back) ≡ prefix_len test others) → prefix_len test (first ∷ others ++ back) ≡ prefix_len test (first ∷ others)
    by_test true e more = rw e (ap (λ n. 1 + n) (more (rw e at h)))
    by_test false e more = rw e refl

-- so is one that reaches the cut, where what follows does not go on with it
pub prefix_reaches : (test : ℕ → Bool) (front back : List ℕ) → prefix_len test back ≡ 0 → prefix_len test (front ++ back) ≡ prefix_len test front
prefix_reaches test [] back h = h
prefix_reaches test (first ∷ others) back h = ap (λ n. cond (test first) (1 + n) 0) (prefix_reaches test others back h)

-- a front whose bytes are all of a run ends in one
ends_in_run_all : (first : ℕ) (others : List ℕ) → is_run_byte first ≡ true → list_all is_run_byte others ≡ true → ends_in_run (first ∷ others) ≡ true
ends_in_run_all first [] run all = run
ends_in_run_all first (second ∷ others) run all =
    let parts = both (is_run_byte second) (list_all is_run_byte others) all in
    ends_in_run_all second others parts.0 parts.1

pub prefix_none : (back : List ℕ) → begins_in_run back ≡ false → prefix_len is_run_byte back ≡ 0
prefix_none [] h = refl
prefix_none (first ∷ others) h = rw h refl

-- a cut stays one without the first byte
IsCut-rest : (first : ℕ) (others back : List ℕ) → IsCut (first ∷ others) back → IsCut others back
IsCut-rest first [] back cut = record { no_comment = refl; no_run = refl }
IsCut-rest first (second ∷ others) back cut =
    record { no_comment = (neither (first == 35 && list_all is_within_line (second ∷ others)) (has_open_comment (second ∷ others)) cut.no_comment).1; no_run = cut.no_run }

-- a run stops at a cut
run_stops : (first : ℕ) (others back : List ℕ) → IsCut (first ∷ others) back → is_run_byte first ≡ true → prefix_len is_run_byte (others ++ back) ≡ prefix_len is_run_byte others
run_stops first others back cut run = by_test (list_all is_run_byte others) refl
  where
    by_test : (all : Bool) → list_all is_run_byte others ≡ all → prefix_len is_run_byte (others ++ back) ≡ prefix_len is_run_byte others
    by_test false e = prefix_stops is_run_byte others back e
    by_test true e = prefix_reaches is_run_byte others back (prefix_none back (rw (ends_in_run_all first others run e) at cut.no_run))

-- a comment stops before a cut
comment_stops : (first : ℕ) (others back : List ℕ) → IsCut (first ∷ others) back → (first == 35) ≡ true → prefix_len is_within_line (others ++ back) ≡ prefix_len is_within_line others
comment_stops first others back cut hash =
    let none : ((first == 35 && list_all is_within_line others) || has_open_comment others) ≡ false = cut.no_comment in
    prefix_stops is_within_line others back (neither (list_all is_within_line others) (has_open_comment others) (rw hash at none)).0

-- what is joined to a byte stops before a cut
joined_stops : (first : ℕ) (others back : List ℕ) → IsCut (first ∷ others) back → (joined_len first (others ++ back) ≡ joined_len first others) × (joined_len first others ≤ length others)
joined_stops first others back cut = by_tests (first == 35) (is_run_byte first) refl refl
  where
    by_tests : (comment runs : Bool) → (first == 35) ≡ comment → is_run_byte first ≡ runs → (joined_len first (others ++ back) ≡ joined_len first others) × (joined_len first others ≤ length others)
    by_tests true runs c r = (rw c (comment_stops first others back cut c), rw c (prefix_len-le-length is_within_line others))
    by_tests false true c r = (rw (c, r) (run_stops first others back cut r), rw (c, r) (prefix_len-le-length is_run_byte others))
    by_tests false false c r = (rw (c, r) refl, rw (c, r) (omega arith))

-- what begins with a byte stops before a cut
first_stops : (position : Position) (first : ℕ) (others back : List ℕ) → IsCut (first ∷ others) back → first_token position first (others ++ back) ≡ first_token position first others
first_stops position first others back cut = by_test (is_run_byte first) refl
  where
    by_test : (runs : Bool) → is_run_byte first ≡ runs → first_token position first (others ++ back) ≡ first_token position first others
    by_test false r = rw r refl
    by_test true r =
        let n = prefix_len is_run_byte others in
        let within : n ≤ length others = prefix_len-le-length is_run_byte others in
        let same : take_while is_run_byte (others ++ back) ≡ take_while is_run_byte others =
        ap (λ m. take m (others ++ back)) (run_stops first others back cut r) ∙ take-append-le n others back within
        in
        ap (λ run. cond (is_separator first) [] (cond (is_run_byte first) ((token_of_run (first ∷ run), position) ∷ []) ((token_of_byte first, position) ∷ []))) same

-- the tokens of a text are those of its front and those of its back, where it may be cut
cut_after : (joined : ℕ) (position : Position) (front back : List ℕ) → joined ≤ length front → IsCut front back → tokens_after joined position (front ++ back) ≡ tokens_after joined position front ++ inner_tokens (position_past position front) back
cut_after zero position [] back within cut = refl
cut_after (suc joined) position [] back within cut = absurd (omega arith)
cut_after (suc joined) position (first ∷ others) back within cut = cut_after joined (position_after position first) others back (omega arith) (IsCut-rest first others back cut)
cut_after zero position (first ∷ others) back within cut =
    let n = joined_len first others in
    let next = position_after position first in
    let joins = joined_stops first others back cut in
    ap (λ begun. begun ++ tokens_after (joined_len first (others ++ back)) next (others ++ back)) (first_stops position first others back cut)
    ∙ ap (λ m. first_token position first others ++ tokens_after m next (others ++ back)) joins.0
    ∙ ap (λ rest. first_token position first others ++ rest) (cut_after n next others back joins.1 (IsCut-rest first others back cut))
    ∙ sym (append_assoc (first_token position first others) (tokens_after n next others) _)

position_past_append : (position : Position) (front back : List ℕ) → position_past position (front ++ back) ≡ position_past (position_past position front) back
position_past_append position [] back = refl
position_past_append position (first ∷ others) back = position_past_append (position_after position first) others back

pub inner_pieces : (position : Position) (front back : List ℕ) → IsCut front back → inner_tokens position (front ++ back) ≡ inner_tokens position front ++ inner_tokens (position_past position front) back
inner_pieces position front back cut = cut_after 0 position front back (omega arith) cut

pub pieces : (position : Position) (front back : List ℕ) → IsCut front back → tokens position (front ++ back) ≡ inner_tokens position front ++ tokens (position_past position front) back
pieces position front back cut =
    ap (λ list. list ++ (End, position_past position (front ++ back)) ∷ []) (inner_pieces position front back cut)
    ∙ ap (λ p. (inner_tokens position front ++ inner_tokens (position_past position front) back) ++ (End, p) ∷ []) (position_past_append position front back)
    ∙ append_assoc (inner_tokens position front) (inner_tokens (position_past position front) back) _
