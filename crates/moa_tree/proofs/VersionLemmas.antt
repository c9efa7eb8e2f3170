-- Each version has its number, and a text that has a reading is of the version that it is read in.
use Rattle.std.proofs.Common.{◌≡◌, ℕ, zero, suc, Bool, true, false, List, [], ◌∷◌, ◌++◌, refl, ap, ◌∙◌, pos}
use Rattle.std.specs.Prelude.{ℤ}
use Rattle.std.specs.List.{list_any}
use Rattle.std.specs.Option.{unwrap_or}
use Rattle.std.specs.declared.option.Option.TheVariants.{Some}
use Rattle.text_tokens.specs.declared.token.Position.{Position}
use Rattle.text_tokens.specs.declared.token.Token.{Token}
use Rattle.text_tokens.specs.declared.token.Token.TheVariants as token
use Rattle.moa_tree.specs.declared.tree.Version.{Version}
use Rattle.moa_tree.specs.declared.tree.Version.TheVariants.{First}
use Rattle.moa_tree.specs.Expr.{Tree}
use Rattle.moa_tree.specs.Readings.{ReadsProgram}
use Rattle.moa_tree.specs.Vocabulary.{Lexeme, lexemes_of, reserved, version_among, version_number, version_numbered, word_among}
use Rattle.moa_tree.proofs.EndLemmas.{word_not}

pub numbered : (version : Version) → version_numbered (version_number version) ≡ Some version
numbered First = refl

pub numbered_is : (value : ℤ) (version : Version) → version_numbered value ≡ Some version → value ≡ version_number version
numbered_is (pos (suc zero)) First e = refl
numbered_is _ version e = absurd (cc e)

abbrev is_number : Lexeme → Bool
is_number (Lexeme.Number value) = true
is_number _ = false

no_numbers : (version : Version) → list_any is_number (reserved version) ≡ false
no_numbers First = refl

word_no_number : (version : Version) (word : List ℕ) (value : ℤ) → Lexeme.Number value ≡ word_among (reserved version) word → ⊥
word_no_number version word value e = cc (ap is_number e ∙ word_not is_number (reserved version) (no_numbers version) word refl)

pub version_read : (version : Version) (placed : List (Token × Position)) (levels : ℕ) (list : List Lexeme) (tree : Tree)
    → ReadsProgram levels list tree → list ≡ lexemes_of version placed → version_among placed ≡ tree.version
version_read version placed levels list tree (ReadsProgram.program l statements t reads output) e = second placed e
  where
    second : (found : List (Token × Position))
        → Lexeme.Psi ∷ Lexeme.Number (version_number t.version) ∷ (statements ++ Lexeme.End ∷ []) ≡ lexemes_of version found
        → version_among found ≡ t.version
    second [] e = absurd (cc e)
    second (first ∷ []) e = absurd (cc e)
    second (first ∷ (token.Number value, position) ∷ others) e =
        let same : value ≡ version_number t.version = cc e in
        ap (λ number. unwrap_or (version_numbered number) First) same ∙ ap (λ found. unwrap_or found First) (numbered t.version)
    second (first ∷ (token.Word word, position) ∷ others) e = absurd (word_no_number version word (version_number t.version) (cc e))
    second (first ∷ (token.LongWord, position) ∷ others) e = absurd (cc e)
    second (first ∷ (token.OutOfRange, position) ∷ others) e = absurd (cc e)
    second (first ∷ (token.Sign s, position) ∷ others) e = absurd (cc e)
    second (first ∷ (token.Malformed, position) ∷ others) e = absurd (cc e)
    second (first ∷ (token.End, position) ∷ others) e = absurd (cc e)
