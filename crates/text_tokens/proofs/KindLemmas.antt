-- Parts of a text that are of one kind.
use Rattle.std.proofs.Common.{refl, ◌≡◌, ℕ, ◌+◌, ◌<◌, Bool, true, false, List, [], ◌∷◌, drop, length, get_or, arith}
use Rattle.std.specs.Prelude.{◌&&◌, cond, nat_eq}
use Rattle.std.specs.List.{list_all, prefix_len}
use Rattle.std.proofs.lemmas.Bool.Decides.{nat_tests}
use Rattle.shapes_core.specs.Name.{is_digit, is_letter, is_name_byte}
use Rattle.text_tokens.specs.Runs.{is_numeral, is_word}

-- all pass a test where as many do from the front on as there are
pub all_by_len : (test : ℕ → Bool) (bytes : List ℕ) → list_all test bytes ≡ nat_eq (prefix_len test bytes) (length bytes)
all_by_len test [] = refl
all_by_len test (first ∷ others) = with_first (test first) (all_by_len test others)
  where
    with_first : (passed : Bool) → list_all test others ≡ nat_eq (prefix_len test others) (length others)
        → (passed && list_all test others) ≡ nat_eq (cond passed (1 + prefix_len test others) 0) (length (first ∷ others))
    with_first true e = grind (arith, nat_tests, e)
    with_first false e = grind (arith, nat_tests)

-- a word by its first byte and the others
pub word_parts : (run : List ℕ) → 0 < length run → is_word run ≡ (is_letter (get_or run 0 0) && list_all is_name_byte (drop 1 run))
word_parts [] h = absurd (omega (arith, h))
word_parts (first ∷ others) h = refl

-- a numeral is digits, and not none
pub numeral_digits : (bytes : List ℕ) → 0 < length bytes → is_numeral bytes ≡ list_all is_digit bytes
numeral_digits [] h = absurd (omega (arith, h))
numeral_digits (first ∷ others) h = refl
