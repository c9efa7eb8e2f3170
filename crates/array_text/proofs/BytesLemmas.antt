-- Equal bytes, and the first place of a declared array.
use Rattle.std.proofs.Common.{◌≡◌, ◌≢◌, ℕ, Bool, true, false, List, [], ◌∷◌, refl, eq-eqb}
use Rattle.std.proofs.lemmas.Bool.{eqb-true}
use Rattle.std.proofs.lemmas.Slice.Eq.{bytes_eq-Decides}
use Rattle.std.specs.Prelude.{position, ◌==◌}
use Rattle.std.specs.declared.option.Option.TheVariants.{Some}
use Rattle.std.specs.Str.{bytes_eq}

pub bytes_same : (bytes : List ℕ) → bytes_eq bytes bytes ≡ true
bytes_same bytes = (bytes_eq-Decides bytes bytes).1 refl

pub bytes_found : (one other : List ℕ) → bytes_eq one other ≡ true → one ≡ other
bytes_found one other h = (bytes_eq-Decides one other).0 h

pub bytes_differ : (one other : List ℕ) → one ≢ other → bytes_eq one other ≡ false
bytes_differ one other h = at (bytes_eq one other) refl
  where
    at : (test : Bool) → bytes_eq one other ≡ test → bytes_eq one other ≡ false
    at true e = absurd (h (bytes_found one other e))
    at false e = e

pub number_same : (number : ℕ) → (number == number) ≡ true
number_same number = eq-eqb number number refl

pub number_differs : (one other : ℕ) → one ≢ other → (one == other) ≡ false
number_differs one other h = at (one == other) refl
  where
    at : (test : Bool) → (one == other) ≡ test → (one == other) ≡ false
    at true e = absurd (h (eqb-true one other e))
    at false e = e

pub only_place : {X : Type 0} (test : X → Bool) (only : X) → test only ≡ true → position test (only ∷ []) ≡ Some 0
only_place test only h = rw h refl
