-- The values of a range of words, after a write in any order.
use Rattle.std.proofs.Common.{◌≡◌, ℕ, ◌+◌, ◌*◌, ◌%◌, ◌^◌, ◌<◌, ◌≤◌, ◌⊎◌, inl, inr, List, length, Some, ℤ, pos, sym, ap, ◌∙◌, arith, get_or, get_or-set_same, get_or-set_other}
use Rattle.std.proofs.Math.Nat.{zero-add}
use Rattle.std.proofs.lemmas.Bool.{cases_eq}
use Rattle.std.proofs.lemmas.List.{ext_get_or, length-set}
use Rattle.std.proofs.lemmas.List.FromFn.{length-map-range_with_len, get_or-map-range_with_len}
use Rattle.std.proofs.lemmas.Option.{slice_get-get_or}
use Rattle.std.specs.Int.{w64}
use Rattle.std.specs.Prelude.{slice_get, slice_set}
use Rattle.rv_line.specs.declared.line.Line.{Line}
use Rattle.rv_line.specs.declared.line.Load.{Load}
use Rattle.rv_line.specs.declared.line.Store.{Store}
use Rattle.rv_steps.specs.Effects.{signed_value}
use Rattle.rv_steps.specs.Good.{values_at}
use Rattle.rv_steps.specs.Machine.{Config, Goes, IsAllowed, IsAt, address, next_step, register_at, value_at, with_result, with_value}
use Rattle.rv_steps.proofs.MemoryLemmas.{word_again, word_elsewhere}
use Rattle.rv_steps.proofs.StepLemmas.{next_step-load, next_step-store}
use Rattle.rv_steps.proofs.WrittenLemmas.{same_values}

module _ (block : List ℕ) (word count : ℕ) where
  pub length-values_at : length (values_at block word count) ≡ count
  length-values_at = length-map-range_with_len (λ k. signed_value (value_at w64 block (8 * (word + k)))) 0 count

  get_or-values_at : (i : ℕ) → i < count → get_or (values_at block word count) i (pos 0) ≡ signed_value (value_at w64 block (8 * (word + i)))
  get_or-values_at i below =
      get_or-map-range_with_len (λ k. signed_value (value_at w64 block (8 * (word + k)))) 0 count i i (pos 0) below (zero-add i)

  pub slice_get-values_at : (i : ℕ) → i < count → slice_get (values_at block word count) i ≡ Some (signed_value (value_at w64 block (8 * (word + i))))
  slice_get-values_at i below =
      slice_get-get_or (values_at block word count) i (pos 0) (rw length-values_at below) ∙ ap Some (get_or-values_at i below)

-- a word in the range
pub values_at-set : (block : List ℕ) (word count i value : ℕ) → i < count → 8 * (word + i) + 8 ≤ length block → value < 2 ^ 64 → values_at (with_value w64 block (8 * (word + i)) value) word count ≡ slice_set (values_at block word count) i (signed_value value)
values_at-set block word count i value below inside small =
    ext_get_or (pos 0) (values_at after word count) (slice_set before i (signed_value value))
    (length-values_at after word count ∙ sym (length-values_at block word count) ∙ sym (length-set before i (signed_value value)))
    (λ j within. each j (rw (length-values_at after word count) at within))
  where
    after : List ℕ
    after = with_value w64 block (8 * (word + i)) value

    before : List ℤ
    before = values_at block word count

    each : (j : ℕ) → j < count → get_or (values_at after word count) j (pos 0) ≡ get_or (slice_set before i (signed_value value)) j (pos 0)
    each j within =
        elim (cases_eq j i) [
          | inl same ↦ rw same
              (get_or-values_at after word count i below
              ∙ ap signed_value (word_again block (8 * (word + i)) value inside small)
              ∙ sym (get_or-set_same before i (signed_value value) (pos 0) (rw (length-values_at block word count) below)))
          | inr apart ↦
              get_or-values_at after word count j within
              ∙ ap signed_value (word_elsewhere block (word + i) (word + j) value inside (λ e. apart (omega arith)))
              ∙ sym (get_or-values_at block word count j within)
              ∙ sym (get_or-set_other before i j (signed_value value) (pos 0) apart)
        ]

-- a word outside it
pub values_at-outside : (block : List ℕ) (word count place value : ℕ) → 8 * place + 8 ≤ length block → (place < word) ⊎ (word + count ≤ place) → values_at (with_value w64 block (8 * place) value) word count ≡ values_at block word count
values_at-outside block word count place value inside apart =
    same_values (λ k. signed_value (value_at w64 (with_value w64 block (8 * place) value) (8 * (word + k)))) (λ k. signed_value (value_at w64 block (8 * (word + k)))) 0 count
    (λ k below. rw zero-add (ap signed_value (word_elsewhere block place (word + k) value inside (elim apart [ inl before ↦ omega arith | inr behind ↦ omega arith ]))))

-- ---- loads and stores of whole words

module _ (lines : List Line) (base k : ℕ) (c : Config) (imm : ℤ) (pointer place : ℕ) (eights : base % 8 ≡ 0) (to : address c.registers pointer imm ≡ base + 8 * place) (inside : 8 * place + 8 ≤ length c.block) where
  word-allowed : IsAllowed base (length c.block) (base + 8 * place) 8
  word-allowed = record { aligned = omega arith; above = omega arith; below = omega arith }

  pub word-loaded : (register : ℕ) → IsAt lines k (Line.Load Load.Ld register imm pointer) c → next_step lines base c ≡ Goes (with_result c register (value_at w64 c.block (8 * place)))
  word-loaded register at = next_step-load lines base k c Load.Ld register imm pointer (8 * place) at to word-allowed

  pub word-stored : (register : ℕ) → IsAt lines k (Line.Store Store.Sd register imm pointer) c → next_step lines base c ≡ Goes (record c { pc = c.pc + 4; block = with_value w64 c.block (8 * place) (register_at c.registers register) })
  word-stored register at = next_step-store lines base k c Store.Sd register imm pointer (8 * place) at to word-allowed
