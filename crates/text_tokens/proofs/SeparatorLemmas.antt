-- What separates tokens changes nothing but positions.
use Rattle.std.proofs.Common.{refl, ◌≡◌, ℕ, zero, suc, ◌+◌, ◌<◌, Bool, true, false, List, [], ◌∷◌, ◌++◌, length, take, map, sym, ap, ◌∙◌, append_assoc, arith}
use Rattle.std.specs.Prelude.{◌==◌, ◌&&◌, ◌||◌, IsTrue}
use Rattle.std.specs.List.{list_all, prefix_len}
use Rattle.std.proofs.lemmas.Bool.Decides.{nat_tests}
use Rattle.std.proofs.lemmas.List.{drop_all, drop_at, map-append}
use Rattle.text_tokens.specs.declared.token.Position.{Position}
use Rattle.text_tokens.specs.declared.token.Token.{Token}
use Rattle.text_tokens.specs.declared.token.Token.TheVariants.{End}
use Rattle.text_tokens.specs.Bytes.{is_blank, is_run_byte, is_separator, is_within_line}
use Rattle.text_tokens.specs.Separators.{IsGap, Separator, nothing, blank, line_end, comment, begins_in_run, ends_in_run, has_open_comment}
use Rattle.text_tokens.specs.Tokens.{first_token, inner_tokens, joined_len, position_after, position_past, start, tokens, tokens_after, tokens_only}
use Rattle.text_tokens.proofs.CutLemmas.{pieces}
use Rattle.text_tokens.proofs.TestLemmas.{and_false, both}
use Rattle.text_tokens.proofs.TokenLemmas.{prefix_all, tokens_joined}

blank_byte : (byte : ℕ) → IsTrue (is_blank byte) → (is_separator byte ≡ true) × ((byte == 35) ≡ false) × (is_run_byte byte ≡ false)
blank_byte byte h = grind (arith, nat_tests)

-- the line of a text without a line feed goes on to the one that follows it
line_len_text : (text others : List ℕ) → IsTrue (list_all is_within_line text) → prefix_len is_within_line (text ++ 10 ∷ others) ≡ length text
line_len_text [] others h = refl
line_len_text (first ∷ text) others h =
    let parts = both (is_within_line first) (list_all is_within_line text) h in
    rw parts.0 (ap (λ n. 1 + n) (line_len_text text others parts.1) ∙ omega arith)

pub separator_silent : {bytes : List ℕ} → Separator bytes → (position : Position) → inner_tokens position bytes ≡ []
separator_silent nothing position = refl
separator_silent (blank byte others b rest) position =
    let facts = blank_byte byte b in
    rw (facts.0, facts.1, facts.2) (separator_silent rest (position_after position byte))
separator_silent (line_end others rest) position = separator_silent rest (position_after position 10)
separator_silent (comment text others h rest) position =
    ap (λ n. tokens_after n (position_after position 35) (text ++ 10 ∷ others)) (line_len_text text others h)
    ∙ tokens_joined (length text) (position_after position 35) (text ++ 10 ∷ others)
    ∙ ap (tokens_after 0 (position_past (position_after position 35) (take (length text) (text ++ 10 ∷ others)))) (drop_at text (10 ∷ others) (length text) refl)
    ∙ separator_silent rest (position_after (position_past (position_after position 35) (take (length text) (text ++ 10 ∷ others))) 10)

pub comment_silent : (position : Position) (text : List ℕ) → IsTrue (list_all is_within_line text) → inner_tokens position (35 ∷ text) ≡ []
comment_silent position text h =
    ap (λ n. tokens_after n (position_after position 35) text) (prefix_all is_within_line text h)
    ∙ tokens_joined (length text) (position_after position 35) text
    ∙ ap (tokens_after 0 (position_past (position_after position 35) (take (length text) text))) (drop_all (length text) text (omega arith))

-- a line feed ends each comment before it
line_ends : (text others : List ℕ) → list_all is_within_line (text ++ 10 ∷ others) ≡ false
line_ends [] others = refl
line_ends (first ∷ text) others = rw (line_ends text others) (and_false (is_within_line first))

open_comment_text : (text others : List ℕ) → has_open_comment (text ++ 10 ∷ others) ≡ has_open_comment others
open_comment_text [] others = refl
open_comment_text (first ∷ text) others = rw (line_ends text others) (no_comment (first == 35) (open_comment_text text others))
  where
    no_comment : (test : Bool) → has_open_comment (text ++ 10 ∷ others) ≡ has_open_comment others → ((test && false) || has_open_comment (text ++ 10 ∷ others)) ≡ has_open_comment others
    no_comment true h = h
    no_comment false h = h

pub separator_closed : {bytes : List ℕ} → Separator bytes → has_open_comment bytes ≡ false
separator_closed nothing = refl
separator_closed (blank byte others b rest) = rw (blank_byte byte b).1 (separator_closed rest)
separator_closed (line_end others rest) = separator_closed rest
separator_closed (comment text others h rest) = rw (line_ends text others) (open_comment_text text others ∙ separator_closed rest)

separator_begins : {bytes : List ℕ} → Separator bytes → begins_in_run bytes ≡ false
separator_begins nothing = refl
separator_begins (blank byte others b rest) = (blank_byte byte b).2
separator_begins (line_end others rest) = refl
separator_begins (comment text others h rest) = refl

ends_more : (first : ℕ) (others : List ℕ) → is_run_byte first ≡ false → ends_in_run others ≡ false → ends_in_run (first ∷ others) ≡ false
ends_more first [] f o = f
ends_more first (second ∷ others) f o = o

ends_text : (text others : List ℕ) (last : ℕ) → ends_in_run (text ++ last ∷ others) ≡ ends_in_run (last ∷ others)
ends_text [] others last = refl
ends_text (first ∷ []) others last = refl
ends_text (first ∷ second ∷ text) others last = ends_text (second ∷ text) others last

separator_ends : {bytes : List ℕ} → Separator bytes → ends_in_run bytes ≡ false
separator_ends nothing = refl
separator_ends (blank byte others b rest) = ends_more byte others (blank_byte byte b).2 (separator_ends rest)
separator_ends (line_end others rest) = ends_more 10 others refl (separator_ends rest)
separator_ends (comment text others h rest) = ends_more 35 (text ++ 10 ∷ others) refl (ends_text text others 10 ∙ ends_more 10 others refl (separator_ends rest))

-- the tokens do not depend on where their text begins
alone : List (Token × Position) → List Token
alone list = map (λ t. t.0) list

alone_first : (p q : Position) (first : ℕ) (others : List ℕ) → alone (first_token p first others) ≡ alone (first_token q first others)
unfolding alone
alone_first p q first others = by_tests (is_separator first) (is_run_byte first) refl refl
  where
    by_tests : (separates runs : Bool) → is_separator first ≡ separates → is_run_byte first ≡ runs → alone (first_token p first others) ≡ alone (first_token q first others)
    by_tests true runs s r = rw s refl
    by_tests false true s r = rw (s, r) refl
    by_tests false false s r = rw (s, r) refl

alone_append : (xs ys : List (Token × Position)) → alone (xs ++ ys) ≡ alone xs ++ alone ys
unfolding alone
alone_append xs ys = map-append (λ t. t.0) xs ys

alone_after : (joined : ℕ) (p q : Position) (bytes : List ℕ) → alone (tokens_after joined p bytes) ≡ alone (tokens_after joined q bytes)
alone_after joined p q [] = refl
alone_after (suc joined) p q (first ∷ others) = alone_after joined (position_after p first) (position_after q first) others
alone_after zero p q (first ∷ others) =
    alone_append (first_token p first others) _
    ∙ ap (λ l. l ++ alone (tokens_after (joined_len first others) (position_after p first) others)) (alone_first p q first others)
    ∙ ap (λ l. alone (first_token q first others) ++ l) (alone_after (joined_len first others) (position_after p first) (position_after q first) others)
    ∙ sym (alone_append (first_token q first others) _)

alone_tokens : (p q : Position) (bytes : List ℕ) → alone (tokens p bytes) ≡ alone (tokens q bytes)
unfolding alone
alone_tokens p q bytes =
    alone_append (inner_tokens p bytes) _ ∙ ap (λ l. l ++ End ∷ []) (alone_after 0 p q bytes) ∙ sym (alone_append (inner_tokens q bytes) _)

begins_append : (bytes back : List ℕ) → 0 < length bytes → begins_in_run (bytes ++ back) ≡ begins_in_run bytes
begins_append [] back h = absurd (omega arith)
begins_append (first ∷ others) back h = refl

-- the tokens before a gap and those after it
around : (front gap back : List ℕ) → has_open_comment front ≡ false → IsGap gap → alone (tokens start (front ++ gap ++ back)) ≡ alone (inner_tokens start front) ++ alone (tokens start back)
around front gap back closed g =
    let after : tokens (position_past start front) (gap ++ back) ≡ tokens (position_past (position_past start front) gap) back =
    pieces (position_past start front) gap back (record { no_comment = separator_closed g.separator; no_run = rw (separator_ends g.separator) refl })
    ∙ ap (λ l. l ++ tokens (position_past (position_past start front) gap) back) (separator_silent g.separator (position_past start front))
    in
    ap (λ bytes. alone (tokens start bytes)) (append_assoc front gap back)
    ∙ ap alone (pieces start front (gap ++ back) (record { no_comment = closed; no_run = rw (begins_append gap back g.nonempty, separator_begins g.separator) (and_false (ends_in_run front)) }))
    ∙ alone_append (inner_tokens start front) _
    ∙ ap (λ l. alone (inner_tokens start front) ++ alone l) after
    ∙ ap (λ l. alone (inner_tokens start front) ++ l) (alone_tokens _ start back)

-- one gap is as good as another
pub exchanged : (front gap other back : List ℕ) → has_open_comment front ≡ false → IsGap gap → IsGap other → tokens_only (front ++ gap ++ back) ≡ tokens_only (front ++ other ++ back)
unfolding alone
exchanged front gap other back closed g o = around front gap back closed g ∙ sym (around front other back closed o)

-- what separates tokens is nothing at the front of a text
pub leading : (gap back : List ℕ) → Separator gap → tokens_only (gap ++ back) ≡ tokens_only back
unfolding alone
leading gap back g =
    ap alone (pieces start gap back (record { no_comment = separator_closed g; no_run = rw (separator_ends g) refl })
    ∙ ap (λ l. l ++ tokens (position_past start gap) back) (separator_silent g start))
    ∙ alone_tokens (position_past start gap) start back

-- nor at its end
pub trailing : (front gap : List ℕ) → has_open_comment front ≡ false → Separator gap → tokens_only (front ++ gap) ≡ tokens_only front
unfolding alone
trailing front gap closed g =
    ap alone (pieces start front gap (record { no_comment = closed; no_run = rw (separator_begins g) (and_false (ends_in_run front)) }))
    ∙ alone_append (inner_tokens start front) _
    ∙ ap (λ l. alone (inner_tokens start front) ++ alone (l ++ (End, position_past (position_past start front) gap) ∷ [])) (separator_silent g (position_past start front))
    ∙ sym (alone_append (inner_tokens start front) _)
