-- The end stands behind the other tokens of a text, and nowhere among them.
use Rattle.std.proofs.Common.{◌≡◌, ℕ, zero, suc, Bool, true, false, List, [], ◌∷◌, ◌++◌, refl, sym, ap, ◌∙◌}
use Rattle.std.specs.Prelude.{◌||◌, ◌==◌, if◌then◌else◌}
use Rattle.std.specs.List.{list_any, take_while}
use Rattle.std.specs.Str.{bytes_eq}
use Rattle.std.proofs.lemmas.List.Folds.{list_any-append}
use Rattle.shapes_core.specs.Name.{is_name}
use Rattle.text_tokens.specs.declared.token.Position.{Position}
use Rattle.text_tokens.specs.declared.token.Sign.TheVariants as sign
use Rattle.text_tokens.specs.declared.token.Token.{Token}
use Rattle.text_tokens.specs.declared.token.Token.TheVariants as token
use Rattle.text_tokens.specs.Bytes.{is_run_byte, is_separator, token_of_byte}
use Rattle.text_tokens.specs.Runs.{is_in_range, is_numeral, is_word, number_value, token_of_run, unsigned_part}
use Rattle.text_tokens.specs.Tokens.{first_token, inner_tokens, joined_len, position_after, position_past, start, tokens, tokens_after}
use Rattle.moa_tree.specs.declared.tree.Version.{Version}
use Rattle.moa_tree.specs.declared.tree.Version.TheVariants.{First}
use Rattle.moa_tree.specs.Expr.{Tree}
use Rattle.moa_tree.specs.Readings.{ReadsProgram}
use Rattle.moa_tree.specs.Refusals.{is_end}
use Rattle.moa_tree.specs.Vocabulary.{Lexeme, lexeme_of, lexemes_of, reserved, spelling, word_among}

either : {A : Type 0} (test : A → Bool) (choice : Bool) (a b : A) → test a ≡ false → test b ≡ false → test (if choice then a else b) ≡ false
either test true a b h k = h
either test false a b h k = k

neither : (a b : Bool) → (a || b) ≡ false → (a ≡ false) × (b ≡ false)
neither true b e = absurd (cc e)
neither false b e = (refl, e)

both_not : (a b : Bool) → a ≡ false → b ≡ false → (a || b) ≡ false
both_not true b h k = h
both_not false b h k = k

-- what neither a name nor any of these words is, no word is
pub word_not : (test : Lexeme → Bool) (words : List Lexeme) → list_any test words ≡ false → (word : List ℕ) → test (Lexeme.Name word) ≡ false
    → test (word_among words word) ≡ false
word_not test [] h word name = name
word_not test (first ∷ others) h word name =
    let parts = neither (test first) (list_any test others) h in
    either test (bytes_eq word (spelling first)) first (word_among others word) parts.0 (word_not test others parts.1 word name)

no_ends : (version : Version) → list_any is_end (reserved version) ≡ false
no_ends First = refl

abbrev is_last : Version → Token → Bool
is_last version t = is_end (lexeme_of version t)

run_not : (version : Version) (run : List ℕ) → is_last version (token_of_run run) ≡ false
run_not version run =
    either (is_last version) (is_name run) (token.Word run) _ (word_not is_end (reserved version) (no_ends version) run refl)
    (either (is_last version) (is_word run) token.LongWord _ refl
    (either (is_last version) (is_numeral (unsigned_part run)) _ token.Malformed
    (either (is_last version) (is_in_range (number_value run)) (token.Number (number_value run)) token.OutOfRange refl refl) refl))

byte_not : (version : Version) (byte : ℕ) → is_last version (token_of_byte byte) ≡ false
byte_not version byte =
    either (is_last version) (byte == 60) _ _ refl (either (is_last version) (byte == 62) _ _ refl (either (is_last version) (byte == 40) _ _ refl
    (either (is_last version) (byte == 41) _ _ refl (either (is_last version) (byte == 61) (token.Sign sign.Equal) token.Malformed refl refl))))

abbrev has_end : Version → List (Token × Position) → Bool
has_end version placed = list_any (λ t. is_last version t.0) placed

first_not : (version : Version) (position : Position) (first : ℕ) (others : List ℕ) → has_end version (first_token position first others) ≡ false
first_not version position first others =
    either (has_end version) (is_separator first) [] _ refl
    (either (has_end version) (is_run_byte first) _ _ (ap (λ test. test || false) (run_not version (first ∷ take_while is_run_byte others))) (ap (λ test. test || false) (byte_not version first)))

inner_not : (version : Version) (joined : ℕ) (position : Position) (bytes : List ℕ) → has_end version (tokens_after joined position bytes) ≡ false
inner_not version zero position [] = refl
inner_not version (suc joined) position [] = refl
inner_not version zero position (first ∷ others) =
    let behind = tokens_after (joined_len first others) (position_after position first) others in
    list_any-append (λ t. is_last version t.0) (first_token position first others) behind
    ∙ both_not (has_end version (first_token position first others)) (has_end version behind) (first_not version position first others)
    (inner_not version (joined_len first others) (position_after position first) others)
inner_not version (suc joined) position (first ∷ others) = inner_not version joined (position_after position first) others

nothing_more : {A : Type 0} (before : List A) (x : A) (rest : List A) → [] ≡ before ++ x ∷ rest → ⊥
nothing_more [] x rest e = cc e
nothing_more (first ∷ others) x rest e = cc e

before_last : (version : Version) (before : List (Token × Position)) (x : Token × Position) (rest inner : List (Token × Position)) (last : Token × Position)
    → inner ++ last ∷ [] ≡ before ++ x ∷ rest → has_end version inner ≡ false → has_end version before ≡ false
before_last version [] x rest inner last e h = refl
before_last version (first ∷ others) x rest [] last e h = absurd (nothing_more others x rest (cc e))
before_last version (first ∷ others) x rest (head ∷ inner) last e h =
    let parts = neither (is_last version head.0) (has_end version inner) h in
    let same : head ≡ first = cc e in
    both_not (is_last version first.0) (has_end version others) (ap (λ t. is_last version t.0) (sym same) ∙ parts.0) (before_last version others x rest inner last (cc e) parts.1)

ends_in : (list : List Lexeme) → list_any is_end (list ++ Lexeme.End ∷ []) ≡ true
ends_in [] = refl
ends_in (first ∷ others) = further (is_end first) (list_any is_end (others ++ Lexeme.End ∷ [])) (ends_in others)
  where
    further : (a b : Bool) → b ≡ true → (a || b) ≡ true
    further true b h = refl
    further false b h = h

program_ends : (levels : ℕ) (list : List Lexeme) (tree : Tree) → ReadsProgram levels list tree → list_any is_end list ≡ true
program_ends levels list tree (ReadsProgram.program l statements items reads h) = ends_in statements

same_ends : (version : Version) (placed : List (Token × Position)) → list_any is_end (lexemes_of version placed) ≡ has_end version placed
same_ends version [] = refl
same_ends version (first ∷ others) = ap (λ test. is_last version first.0 || test) (same_ends version others)

-- no program stands before a token of a text
pub no_program_before : (version : Version) (text : List ℕ) (before : List (Token × Position)) (x : Token × Position) (rest : List (Token × Position))
    → tokens start text ≡ before ++ x ∷ rest → (levels : ℕ) (tree : Tree) → ReadsProgram levels (lexemes_of version before) tree → ⊥
no_program_before version text before x rest e levels tree reads =
    let none = before_last version before x rest (inner_tokens start text) (token.End, position_past start text) e (inner_not version 0 start text) in
    let some = program_ends levels (lexemes_of version before) tree reads in
    cc (sym some ∙ same_ends version before ∙ none)
