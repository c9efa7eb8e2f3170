-- The text of a line, one piece behind the other.
use Rattle.std.specs.Prelude.{◌≡◌, ℕ, Bool, true, false, ℤ, List, [], ◌∷◌, ◌++◌, codes}
use Rattle.std.specs.Fmt.{signed_decimal}
use Rattle.std.specs.List.{flat_map}
use Rattle.std.proofs.Common.{refl, ap, sym, ◌∙◌, append_assoc}
use Rattle.text_tokens.specs.declared.token.Sign.TheVariants as sign
use Rattle.moa_tree.specs.Canonical.{between, line}
use Rattle.moa_tree.specs.Readings.{list_lexemes, number_lexemes}
use Rattle.moa_tree.specs.Vocabulary.{Lexeme, spelling}
use Rattle.moa_reader.specs.declared.words.Word.{Word}
use Rattle.moa_reader.specs.declared.words.Word.TheVariants as word
use Rattle.moa_reader.specs.Printed.{behind, spaced}
use Rattle.moa_reader.specs.Lexemes.{lexeme_of_word}

regroup : (a b c d : List ℕ) → a ++ (b ++ (c ++ d)) ≡ (a ++ (b ++ c)) ++ d
regroup a b c d = sym (append_assoc a (b ++ c) d ∙ ap (λ t. a ++ t) (append_assoc b c d))

line-behind : (first : Lexeme) (rest : List Lexeme) → line (first ∷ rest) ≡ spelling first ++ (behind first rest ++ codes "\n")
line-behind first [] = refl
line-behind first (second ∷ others) =
    ap (λ t. spelling first ++ (between first second ++ t)) (line-behind second others)
    ∙ ap (λ t. spelling first ++ t) (regroup (between first second) (spelling second) (behind second others) (codes "\n"))

-- the lexeme behind which the next one stands
abbrev pub last_of : Lexeme → List Lexeme → Lexeme
last_of before [] = before
last_of before (next ∷ others) = last_of next others

pub last-append : (before : Lexeme) (a : List Lexeme) (last : Lexeme) → last_of before (a ++ last ∷ []) ≡ last
last-append before [] last = refl
last-append before (next ∷ others) last = last-append next others last

behind-append : (before : Lexeme) (a b : List Lexeme) → behind before (a ++ b) ≡ behind before a ++ behind (last_of before a) b
behind-append before [] b = refl
behind-append before (next ∷ others) b =
    ap (λ t. between before next ++ (spelling next ++ t)) (behind-append next others b)
    ∙ regroup (between before next) (spelling next) (behind next others) (behind (last_of next others) b)

-- whether it is `<`, behind which no blank stands
abbrev pub is_less : Lexeme → Bool
is_less (Lexeme.Sign sign.Less) = true
is_less _ = false

same-between : (before next : Lexeme) → is_less before ≡ false → between before next ≡ between (Lexeme.Sign sign.Equal) next
same-between (Lexeme.Sign sign.Less) next h = absurd (cc h)
same-between before (Lexeme.Sign sign.Greater) h = refl
same-between before next h = refl

alike : (before : Lexeme) (list : List Lexeme) → is_less before ≡ false → behind before list ≡ spaced list
alike before [] h = refl
alike before (next ∷ others) h = ap (λ t. t ++ (spelling next ++ behind next others)) (same-between before next h)

pub spaced-append : (a b : List Lexeme) → is_less (last_of (Lexeme.Sign sign.Equal) a) ≡ false → spaced (a ++ b) ≡ spaced a ++ spaced b
spaced-append a b h =
    behind-append (Lexeme.Sign sign.Equal) a b ∙ ap (λ t. spaced a ++ t) (alike (last_of (Lexeme.Sign sign.Equal) a) b h)

-- no word is `<`
not_less : (word : Word) → is_less (lexeme_of_word word) ≡ false
not_less word.In = refl
not_less other = refl

line-of-word : (word : Word) (rest : List Lexeme)
    → line (lexeme_of_word word ∷ rest) ≡ spelling (lexeme_of_word word) ++ (spaced rest ++ codes "\n")
line-of-word word rest =
    line-behind (lexeme_of_word word) rest
    ∙ ap (λ t. spelling (lexeme_of_word word) ++ (t ++ codes "\n")) (alike (lexeme_of_word word) rest (not_less word))

no_blank : (before : Lexeme) → between before (Lexeme.Sign sign.Greater) ≡ []
no_blank (Lexeme.Sign sign.Less) = refl
no_blank before = refl

numbers-spaced : (values : List ℤ) → spaced (number_lexemes values) ≡ flat_map (λ value. codes " " ++ signed_decimal value) values
numbers-spaced [] = refl
numbers-spaced (first ∷ others) =
    ap (λ t. codes " " ++ (signed_decimal first ++ t)) (alike (Lexeme.Number first) (number_lexemes others) refl ∙ numbers-spaced others)

numbers-behind : (before : Lexeme) (values : List ℤ) → is_less before ≡ false
    → behind before (number_lexemes values) ≡ flat_map (λ value. codes " " ++ signed_decimal value) values
numbers-behind before values h = alike before (number_lexemes values) h ∙ numbers-spaced values

-- numbers that are printed first behind `<`
pub entries-printed : (out : List ℕ) (list : List ℤ) (first printed : ℤ) (others : List ℤ) → printed ≡ first → list ≡ first ∷ others
    → (out ++ signed_decimal printed) ++ flat_map (λ value. codes " " ++ signed_decimal value) others
    ≡ out ++ behind (Lexeme.Sign sign.Less) (number_lexemes list)
entries-printed out list first printed others same e =
    rw (same, e) (append_assoc out (signed_decimal first) _ ∙ ap (λ t. out ++ (signed_decimal first ++ t)) (sym (numbers-behind (Lexeme.Number first) others refl)))

pub list-printed : (out : List ℕ) (values : List ℤ)
    → ((out ++ codes " <") ++ behind (Lexeme.Sign sign.Less) (number_lexemes values)) ++ codes ">" ≡ out ++ spaced (list_lexemes values)
list-printed out values =
    let inside = behind (Lexeme.Sign sign.Less) (number_lexemes values) in
    let last = last_of (Lexeme.Sign sign.Less) (number_lexemes values) in
    append_assoc (out ++ codes " <") inside (codes ">") ∙ append_assoc out (codes " <") (inside ++ codes ">")
    ∙ ap (λ t. out ++ (codes " <" ++ (inside ++ (t ++ codes ">")))) (sym (no_blank last))
    ∙ ap (λ t. out ++ (codes " <" ++ t)) (sym (behind-append (Lexeme.Sign sign.Less) (number_lexemes values) (Lexeme.Sign sign.Greater ∷ [])))

-- A definition and an input, each printed in its parts, are a line.
pub definition-printed : (out : List ℕ) (word : Word) (name : List ℕ) (of : List Lexeme)
    → ((((out ++ spelling (lexeme_of_word word)) ++ (codes " " ++ name)) ++ codes " =") ++ spaced of) ++ codes "\n"
    ≡ out ++ line (lexeme_of_word word ∷ Lexeme.Name name ∷ Lexeme.Sign sign.Equal ∷ of)
definition-printed out word name of =
    rw (line-of-word word (Lexeme.Name name ∷ Lexeme.Sign sign.Equal ∷ of)) (simp append_assoc refl)

pub input-printed : (out name : List ℕ) (extents : List ℤ)
    → (((out ++ codes "in") ++ (codes " " ++ name)) ++ flat_map (λ value. codes " " ++ signed_decimal value) extents) ++ codes "\n"
    ≡ out ++ line (Lexeme.In ∷ Lexeme.Name name ∷ number_lexemes extents)
input-printed out name extents =
    rw (line-of-word word.In (Lexeme.Name name ∷ number_lexemes extents), numbers-behind (Lexeme.Name name) extents refl)
    (joined (flat_map (λ value. codes " " ++ signed_decimal value) extents))
  where
    joined : (numbers : List ℕ) → (((out ++ codes "in") ++ (codes " " ++ name)) ++ numbers) ++ codes "\n"
        ≡ out ++ (codes "in" ++ ((codes " " ++ (name ++ numbers)) ++ codes "\n"))
    joined numbers = simp append_assoc refl
