-- Strides that are 0 are left out.
use Rattle.std.specs.Prelude.{◌≡◌, ℕ, ℤ, pos, Bool, true, false, List, [], ◌∷◌, ◌++◌, not}
use Rattle.std.specs.List.{filter, flat_map}
use Rattle.std.specs.Ordering.{int_eq}
use Rattle.std.proofs.Common.{refl, ap, sym, ◌∙◌}
use Rattle.form_text.specs.Spelling.{stride_text, strides_text}
use Rattle.form_text.specs.Strides.{rest_text}
use Rattle.form_text.proofs.JoinLemmas.{joined}

abbrev is_kept : ℕ × ℤ → Bool
is_kept stride = not (int_eq stride.1 (pos 0))

later-by : (stride : ℕ × ℤ) (others : List (ℕ × ℤ)) (zero : Bool) → int_eq stride.1 (pos 0) ≡ zero
    → rest_text false others ≡ flat_map (λ stride. 32 ∷ stride_text stride) (filter is_kept others)
    → rest_text false (stride ∷ others) ≡ flat_map (λ stride. 32 ∷ stride_text stride) (filter is_kept (stride ∷ others))
later-by stride others true e h = rw e h
later-by stride others false e h = rw e (ap (λ text. 32 ∷ (stride_text stride ++ text)) h)

later : (strides : List (ℕ × ℤ)) → rest_text false strides ≡ flat_map (λ stride. 32 ∷ stride_text stride) (filter is_kept strides)
later [] = refl
later (stride ∷ others) = later-by stride others (int_eq stride.1 (pos 0)) refl (later others)

all-by : (stride : ℕ × ℤ) (others : List (ℕ × ℤ)) (zero : Bool) → int_eq stride.1 (pos 0) ≡ zero
    → rest_text true others ≡ strides_text others → rest_text true (stride ∷ others) ≡ strides_text (stride ∷ others)
all-by stride others true e h = rw e h
all-by stride others false e h =
    rw e (ap (λ text. 59 ∷ 32 ∷ text) (ap (λ text. stride_text stride ++ text) (later others) ∙ sym (joined stride_text stride (filter is_kept others))))

pub rest-is-all : (strides : List (ℕ × ℤ)) → rest_text true strides ≡ strides_text strides
rest-is-all [] = refl
rest-is-all (stride ∷ others) = all-by stride others (int_eq stride.1 (pos 0)) refl (rest-is-all others)

pub strides_put : (out : List ℕ) (strides : List (ℕ × ℤ)) → out ++ rest_text true strides ≡ out ++ strides_text strides
strides_put out strides = ap (λ text. out ++ text) (rest-is-all strides)
