-- Each array of a file has as many values as its total.
use Rattle.std.proofs.Common.{◌≡◌, ℕ, ℤ, List, [], ◌∷◌, length, subst, arith, inl, inr}
use Rattle.std.proofs.lemmas.List.{length-map}
use Rattle.std.specs.List.{AllByRecursion, AllZip, zip}
use Rattle.shapes_core.specs.declared.area.Declared.{Declared}
use Rattle.shapes_core.specs.Shape.{total}
use Rattle.array_text.specs.Files.{IsAccepted, IsFile, Stands, Valued}
use Rattle.array_text.specs.Lines.{Lined}

abbrev IsWhole : Valued → Type 0
IsWhole array = length array.1 ≡ total array.0.shape

found_whole : (found : List Valued) (those : List Lined) → IsFile found those → (array : Valued) → Stands array found → IsWhole array
found_whole found those IsFile.nothing array stands = absurd stands
found_whole found those (IsFile.one_more first values line arrays behind counted ends rest) array stands =
    elim stands [
      | inl same ↦ subst IsWhole same (simp length-map counted)
      | inr further ↦ found_whole arrays behind rest array further
    ]

zip_whole : (declared : List Declared) (arrays : List (List ℤ)) (found : List Valued) (those : List Lined) → IsFile found those → length arrays ≡ length declared
    → AllByRecursion (λ array. Stands array found) (zip declared arrays) → AllZip (λ array values. length values ≡ total array.shape) declared arrays
zip_whole [] [] found those file same there = tt
zip_whole [] (values ∷ arrays) found those file same there = absurd (omega (arith, same))
zip_whole (array ∷ declared) [] found those file same there = absurd (omega (arith, same))
zip_whole (array ∷ declared) (values ∷ arrays) found those file same there =
    (found_whole found those file (array, values) there.0, zip_whole declared arrays found those file (omega (arith, same)) there.1)

pub accepted_whole : (declared : List Declared) (arrays : List (List ℤ)) (text : List ℕ) → IsAccepted declared arrays text
    → AllZip (λ array values. length values ≡ total array.shape) declared arrays
accepted_whole declared arrays text accepted = zip_whole declared arrays accepted.found _ accepted.file accepted.each accepted.there
