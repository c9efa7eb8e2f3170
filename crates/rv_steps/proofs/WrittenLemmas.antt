-- Words that are written one after another, and the values that are read of them.
use Rattle.std.proofs.Common.{◌≡◌, ℕ, zero, suc, ◌+◌, ◌*◌, ◌^◌, ◌<◌, ◌≤◌, ◌⊎◌, inl, inr, List, length, map, ℤ, refl, ap, ◌∙◌, arith}
use Rattle.std.proofs.Math.Nat.{zero-add}
use borrow.Author.Count.{below_more}
use Rattle.std.specs.Int.{w64}
use Rattle.std.specs.List.{range_with_len}
use Rattle.rv_steps.specs.Effects.{signed_value}
use Rattle.rv_steps.specs.Good.{values_at}
use Rattle.rv_steps.specs.Machine.{value_at, with_value}
use Rattle.rv_steps.specs.Written.{IsWritten}
use Rattle.rv_steps.proofs.MemoryLemmas.{word_again, word_elsewhere, length-with_value}

pub none-written : (word : ℕ) (value : ℕ → ℕ) (block : List ℕ) → IsWritten word 0 value block block
none-written word value block = record { sized = refl; written = λ i below. absurd (omega arith); others = λ j apart. refl }

pub more-written : (word count : ℕ) (value : ℕ → ℕ) (before after : List ℕ) → IsWritten word count value before after → 8 * (word + count) + 8 ≤ length before → value count < 2 ^ 64 → IsWritten word (count + 1) value before (with_value w64 after (8 * (word + count)) (value count))
more-written word count value before after now room small =
    let inside : 8 * (word + count) + 8 ≤ length after = omega (arith, now.sized) in
    record {
      sized = length-with_value w64 after (8 * (word + count)) (value count) inside ∙ now.sized;
      written = below_more _ _ (λ i below. word_elsewhere after (word + count) (word + i) (value count) inside (omega arith) ∙ now.written i below) (word_again after (8 * (word + count)) (value count) inside small);
      others = λ j apart. other j apart inside;
    }
  where
    other : (j : ℕ) → (j < word) ⊎ (word + (count + 1) ≤ j) → 8 * (word + count) + 8 ≤ length after → value_at w64 (with_value w64 after (8 * (word + count)) (value count)) (8 * j) ≡ value_at w64 before (8 * j)
    other j (inl below) inside = word_elsewhere after (word + count) j (value count) inside (omega arith) ∙ now.others j (inl below)
    other j (inr above) inside = word_elsewhere after (word + count) j (value count) inside (omega arith) ∙ now.others j (inr (omega arith))

pub same_values : (f g : ℕ → ℤ) (a n : ℕ) → ((i : ℕ) → i < n → f (a + i) ≡ g (a + i)) → map f (range_with_len a n) ≡ map g (range_with_len a n)
same_values f g a zero same = refl
same_values f g a (suc n) same =
    let here : f a ≡ g a = ap f (omega arith) ∙ same 0 (omega arith) ∙ ap g (omega arith) in
    let rest = same_values f g (a + 1) n (λ i below. ap f (omega arith) ∙ same (i + 1) (omega arith) ∙ ap g (omega arith)) in
    rw (here, rest) refl

pub values-written : (word count : ℕ) (value : ℕ → ℕ) (before after : List ℕ) → IsWritten word count value before after → values_at after word count ≡ map (λ i. signed_value (value i)) (range_with_len 0 count)
values-written word count value before after now =
    same_values (λ k. signed_value (value_at w64 after (8 * (word + k)))) (λ k. signed_value (value k)) 0 count
    (λ i below. rw zero-add (ap signed_value (now.written i below)))

pub values-elsewhere : (word count : ℕ) (value : ℕ → ℕ) (before after : List ℕ) (first size : ℕ) → IsWritten word count value before after → (first + size ≤ word) ⊎ (word + count ≤ first) → values_at after first size ≡ values_at before first size
values-elsewhere word count value before after first size now apart =
    same_values (λ k. signed_value (value_at w64 after (8 * (first + k)))) (λ k. signed_value (value_at w64 before (8 * (first + k)))) 0 size
    (λ i below. rw zero-add (ap signed_value (now.others (first + i) (elim apart [ inl before ↦ inl (omega arith) | inr behind ↦ inr (omega arith) ]))))
