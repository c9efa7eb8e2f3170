-- What a word is by one reserved word after the other, and what is left of a text by one token after the other.
use Rattle.std.proofs.Common.{◌≡◌, ◌≢◌, ℕ, ◌+◌, ◌<◌, Bool, true, false, List, [], ◌∷◌, refl, sym, ap, ◌∙◌, arith, length, map, get_or, drop, drop-cons, add-one}
use Rattle.std.specs.Prelude.{if◌then◌else◌}
use Rattle.std.specs.List.{list_any}
use Rattle.std.specs.Str.{bytes_eq}
use Rattle.text_tokens.specs.declared.token.Position.{Position}
use Rattle.text_tokens.specs.declared.token.Token.{Token}
use Rattle.text_tokens.specs.declared.token.Token.TheVariants as token
use Rattle.text_tokens.specs.Tokens.{GivesNext, Remaining, following as tokens_following, remaining_tokens}
use Rattle.moa_tree.specs.declared.tree.Version.{Version}
use Rattle.moa_tree.specs.declared.tree.Version.TheVariants.{First}
use Rattle.moa_tree.specs.Refusals.{is_end}
use Rattle.moa_tree.specs.Vocabulary.{Lexeme, lexeme_of, reserved, spelling, version_among, version_named, word_among}
use Rattle.moa_reader.specs.declared.words.Word.{Word}
use Rattle.moa_reader.specs.Lexemes.{lexeme_of_word}
use Rattle.moa_reader.specs.Sources.{following, placed}

passed_over : (test : Bool) (first : Lexeme) (others : List Lexeme) (bytes : List ℕ) → test ≡ false
    → (if test then first else word_among others bytes) ≡ word_among others bytes
passed_over true first others bytes h = absurd (cc h)
passed_over false first others bytes h = refl

-- a word that is spelled otherwise is passed over
pub word_passed : (words : List Word) (place : ℕ) (other : Word) (bytes : List ℕ) → place < length words
    → bytes_eq bytes (spelling (lexeme_of_word (get_or words place other))) ≡ false
    → word_among (map lexeme_of_word (drop place words)) bytes ≡ word_among (map lexeme_of_word (drop (place + 1) words)) bytes
word_passed words place other bytes there h =
    rw (add-one, drop-cons words place other)
    (passed_over (bytes_eq bytes (spelling (lexeme_of_word (get_or words place other)))) _ _ bytes h)

no_end_among : (test : Bool) (first : Lexeme) (others : Lexeme) → is_end first ≡ false → is_end others ≡ false
    → is_end (if test then first else others) ≡ false
no_end_among true first others h k = h
no_end_among false first others h k = k

word_is_no_end : (words : List Lexeme) (bytes : List ℕ) → list_any is_end words ≡ false → is_end (word_among words bytes) ≡ false
word_is_no_end [] bytes h = refl
word_is_no_end (first ∷ others) bytes h =
    no_end_among (bytes_eq bytes (spelling first)) first (word_among others bytes) (grind (arith, h)) (word_is_no_end others bytes (grind (arith, h)))

following_no_end : (version : Version) (lexeme : Lexeme) (left : Remaining) → is_end lexeme ≡ false
    → following version lexeme left ≡ placed version (remaining_tokens left)
following_no_end version Lexeme.End left h = absurd (cc h)
following_no_end version lexeme left h = refl

pub following_on : (version : Version) (lexeme : Lexeme) (left : Remaining) → lexeme ≢ Lexeme.End
    → following version lexeme left ≡ placed version (remaining_tokens left)
following_on version Lexeme.End left h = absurd (h refl)
following_on version lexeme left h = refl

no_ends : (version : Version) → list_any is_end (reserved version) ≡ false
no_ends First = refl

following_token : (version : Version) (first : Token) (left : Remaining)
    → following version (lexeme_of version first) left ≡ placed version (tokens_following first left)
following_token version (token.Word name) left =
    following_no_end version (word_among (reserved version) name) left (word_is_no_end (reserved version) name (no_ends version))
following_token version token.End left = refl
following_token version token.LongWord left = refl
following_token version (token.Number value) left = refl
following_token version token.OutOfRange left = refl
following_token version (token.Sign sign) left = refl
following_token version token.Malformed left = refl

-- the lexeme of the token that was given and those that follow it are all that was left
pub next_placed : (version : Version) (old new : Remaining) (given : Token × Position) → GivesNext old given new
    → (lexeme : Lexeme) → lexeme ≡ lexeme_of version given.0
    → (lexeme, given.1) ∷ following version lexeme new ≡ placed version (remaining_tokens old)
next_placed version old new given gives lexeme e =
    ap (λ other. (other, given.1) ∷ following version other new) e
    ∙ ap (λ others. (lexeme_of version given.0, given.1) ∷ others) (following_token version given.0 new)
    ∙ ap (placed version) (sym gives.next)

-- the second token that a scanner gives names the version
pub second_names : (first middle last : Remaining) (given other : Token × Position) → GivesNext first given middle → GivesNext middle other last
    → version_among (remaining_tokens first) ≡ version_named other.0
second_names first middle last given other gives more = ap version_among gives.next ∙ behind given.0 refl
  where
    some : version_among (given ∷ remaining_tokens middle) ≡ version_named other.0
    some = ap (λ rest. version_among (given ∷ rest)) more.next

    behind : (t : Token) → given.0 ≡ t → version_among (given ∷ tokens_following t middle) ≡ version_named other.0
    behind token.End e =
        let same : given ≡ other = cc (sym (gives.again e) ∙ more.next) in
        ap version_named (sym e ∙ ap (λ t. t.0) same)
    behind _ e = some
