-- The values of words one after another, and their bytes.
use Rattle.std.proofs.Common.{◌≡◌, ℕ, ◌+◌, ◌*◌, ◌<◌, ℤ, List, [], ◌∷◌, ◌++◌, ◌∙◌, ap, length, get_or, take, zero-add}
use Rattle.std.proofs.lemmas.List.{append-nil, take_more}
use Rattle.std.proofs.lemmas.List.Concat.{flat_map-append}
use Rattle.std.proofs.lemmas.List.FromFn.{length-map-range_with_len, map-range_with_len_more}
use Rattle.std.specs.List.{flat_map}
use Rattle.std.specs.Int.{to_le_bytes, w64}
use Rattle.rv_steps.specs.Effects.{signed_value, word_of}
use Rattle.rv_steps.specs.Good.{values_at}
use Rattle.rv_steps.specs.Machine.{value_at}
use Rattle.array_run.specs.Starts.{bytes_of}

pub values_more : (block : List ℕ) (word k : ℕ)
    → values_at block word (k + 1) ≡ values_at block word k ++ signed_value (value_at w64 block (8 * (word + k))) ∷ []
values_more block word k = map-range_with_len_more (λ k. signed_value (value_at w64 block (8 * (word + k)))) 0 k k (zero-add k)

pub values_counted : (block : List ℕ) (word count : ℕ) → length (values_at block word count) ≡ count
values_counted block word count = length-map-range_with_len (λ k. signed_value (value_at w64 block (8 * (word + k)))) 0 count

abbrev value_bytes : ℤ → List ℕ
value_bytes value = to_le_bytes w64 (word_of value)

bytes_of_one : (f : ℤ → List ℕ) (values : List ℤ) (k : ℕ) (d : ℤ) → k < length values
    → flat_map f (take (k + 1) values) ≡ flat_map f (take k values) ++ f (get_or values k d)
bytes_of_one f values k d below =
    ap (flat_map f) (take_more values k d below)
    ∙ flat_map-append f (take k values) (get_or values k d ∷ [])
    ∙ ap (λ last. flat_map f (take k values) ++ last) (append-nil (f (get_or values k d)))

pub bytes_more : (values : List ℤ) (k : ℕ) (d : ℤ) → k < length values
    → bytes_of (take (k + 1) values) ≡ bytes_of (take k values) ++ to_le_bytes w64 (word_of (get_or values k d))
bytes_more values k d below = bytes_of_one value_bytes values k d below
