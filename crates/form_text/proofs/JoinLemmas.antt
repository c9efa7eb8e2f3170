-- Texts with a blank between two.
use Rattle.std.proofs.Common.{◌≡◌, ℕ, List, [], ◌∷◌, ◌++◌, map, ap, sym, ◌∙◌, append_assoc}
use Rattle.std.proofs.lemmas.List.{append-nil}
use Rattle.std.specs.List.{flat_map, join_with_byte}

-- the first, and then the others with a blank before each
pub joined : {X : Type 0} (f : X → List ℕ) (first : X) (others : List X)
    → join_with_byte 32 (map f (first ∷ others)) ≡ f first ++ flat_map (λ item. 32 ∷ f item) others
joined f first [] = sym (append-nil (f first))
joined f first (next ∷ others) = ap (λ text. f first ++ 32 ∷ text) (joined f next others)

-- items that are put with a blank between two
pub list_put : {X : Type 0} (f : X → List ℕ) (out : List ℕ) (items : List X) (first given : X) (others : List X)
    → given ≡ first → items ≡ first ∷ others
    → (out ++ f given) ++ flat_map (λ item. 32 ∷ f item) others ≡ out ++ join_with_byte 32 (map f items)
list_put f out items first given others same e =
    rw (same, e) (append_assoc out (f first) _ ∙ ap (λ text. out ++ text) (sym (joined f first others)))
