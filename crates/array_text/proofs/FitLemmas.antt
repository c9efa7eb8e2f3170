-- The values of a file have 64 bits, as its tokens do.
use Rattle.std.proofs.Common.{◌≡◌, ℕ, ℤ, List, [], ◌∷◌, ◌++◌, length, map, subst, arith, inl, inr, FitsSigned}
use Rattle.std.proofs.lemmas.List.Elements.{All-cons, All-head, All-map, All-nil, All-tail}
use Rattle.std.specs.Int.{w64}
use Rattle.std.specs.List.{All, AllByRecursion, zip}
use Rattle.shapes_core.specs.declared.area.Declared.{Declared}
use Rattle.text_tokens.specs.declared.token.Token.TheVariants as token
use Rattle.text_tokens.specs.Runs.{IsFit}
use Rattle.text_tokens.specs.Tokens.{inner_tokens, position_past, start, tokens}
use Rattle.array_text.specs.Files.{IsAccepted, IsFile, Stands, Valued, head, spread}
use Rattle.array_text.specs.Lines.{Lined}

abbrev AreFit : List Lined → Type 0
AreFit those = All (λ t. IsFit t.0) those

abbrev HasFitValues : Valued → Type 0
HasFitValues array = All (FitsSigned w64) array.1

all_in_front : {X : Type 0} (P : X → Type 0) (xs ys : List X) → All P (xs ++ ys) → All P xs
all_in_front P [] ys all = All-nil P
all_in_front P (x ∷ xs) ys all = All-cons P x xs (All-head P x (xs ++ ys) all) (all_in_front P xs ys (All-tail P x (xs ++ ys) all))

all_behind : {X : Type 0} (P : X → Type 0) (xs ys : List X) → All P (xs ++ ys) → All P ys
all_behind P [] ys all = all
all_behind P (x ∷ xs) ys all = all_behind P xs ys (All-tail P x (xs ++ ys) all)

spread_fits : (values : List (ℤ × ℕ)) → AreFit (spread values) → All (FitsSigned w64) (map (λ value. value.0) values)
spread_fits [] fit = All-nil (FitsSigned w64)
spread_fits (value ∷ values) fit =
    All-cons (FitsSigned w64) value.0 (map (λ value. value.0) values)
    (All-head (λ t. IsFit t.0) (token.Number value.0, value.1) (spread values) fit)
    (spread_fits values (All-tail (λ t. IsFit t.0) (token.Number value.0, value.1) (spread values) fit))

found_fit : (found : List Valued) (those : List Lined) → IsFile found those → AreFit those
    → (array : Valued) → Stands array found → HasFitValues array
found_fit found those IsFile.nothing fit array stands = absurd stands
found_fit found those (IsFile.one_more first values line arrays behind counted ends rest) fit array stands =
    let behind_head = all_behind (λ t. IsFit t.0) (head line first) (spread values ++ behind) fit in
    elim stands [
      | inl same ↦ subst HasFitValues same (spread_fits values (all_in_front (λ t. IsFit t.0) (spread values) behind behind_head))
      | inr further ↦ found_fit arrays behind rest (all_behind (λ t. IsFit t.0) (spread values) behind behind_head) array further
    ]

zip_fit : (declared : List Declared) (arrays : List (List ℤ)) (found : List Valued) (those : List Lined) → IsFile found those
    → AreFit those → length arrays ≡ length declared
    → AllByRecursion (λ array. Stands array found) (zip declared arrays) → All (All (FitsSigned w64)) arrays
zip_fit [] [] found those file fit same there = All-nil (All (FitsSigned w64))
zip_fit [] (values ∷ arrays) found those file fit same there = absurd (omega (arith, same))
zip_fit (array ∷ declared) [] found those file fit same there = absurd (omega (arith, same))
zip_fit (array ∷ declared) (values ∷ arrays) found those file fit same there =
    All-cons (All (FitsSigned w64)) values arrays (found_fit found those file fit (array, values) there.0)
    (zip_fit declared arrays found those file fit (omega (arith, same)) there.1)

pub accepted_fit : (declared : List Declared) (arrays : List (List ℤ)) (text : List ℕ) → All (λ t. IsFit t.0) (tokens start text)
    → IsAccepted declared arrays text → All (All (FitsSigned w64)) arrays
accepted_fit declared arrays text fit accepted =
    let inner = all_in_front (λ t. IsFit t.0) (inner_tokens start text) ((token.End, position_past start text) ∷ []) fit in
    zip_fit declared arrays accepted.found _ accepted.file
    (All-map (λ t. IsFit t.0) (λ t. (t.0, t.1.line)) (inner_tokens start text) inner) accepted.each accepted.there
