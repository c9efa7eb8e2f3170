-- The walk of a node, by its operands.
use Rattle.std.specs.Prelude.{◌≡◌, ℕ, List, [], ◌∷◌, ◌++◌}
use Rattle.std.specs.List.{flat_map}
use Rattle.std.proofs.Common.{ap, ◌∙◌}
use Rattle.std.proofs.lemmas.List.{append-nil}

pub walk-none : (w : ℕ → List ℕ) (number : ℕ) (inner : List ℕ) → w number ≡ number ∷ flat_map w inner → inner ≡ [] → w number ≡ number ∷ []
walk-none w number inner e h = e ∙ ap (λ l. number ∷ flat_map w l) h

pub walk-one : (w : ℕ → List ℕ) (number of : ℕ) (inner : List ℕ) → w number ≡ number ∷ flat_map w inner → inner ≡ of ∷ [] → w number ≡ number ∷ w of
walk-one w number of inner e h = e ∙ ap (λ l. number ∷ flat_map w l) h ∙ ap (λ l. number ∷ l) (append-nil (w of))

pub walk-two : (w : ℕ → List ℕ) (number left right : ℕ) (inner : List ℕ) → w number ≡ number ∷ flat_map w inner → inner ≡ left ∷ right ∷ []
    → w number ≡ number ∷ (w left ++ w right)
walk-two w number left right inner e h =
    e ∙ ap (λ l. number ∷ flat_map w l) h ∙ ap (λ l. number ∷ (w left ++ l)) (append-nil (w right))
