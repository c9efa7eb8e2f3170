-- A run on arrays begins where a caller may start the program.
use Rattle.std.proofs.Common.{ℕ, ◌*◌, ◌<◌, ◌≤◌, ◌^◌, ℤ, List, [], ◌∷◌, ◌++◌, length, refl, arith, replicate, set, sum_by}
use Rattle.std.proofs.lemmas.List.Elements.{All-append, All-nil, All-replicate, All-set}
use Rattle.std.specs.Int.{Width, to_le_bytes, w64}
use Rattle.std.specs.List.{All, flat_map}
use Rattle.shapes_core.specs.Limits.{most_items, most_words}
use Rattle.rv_line.specs.Parts.{Parts, block_words}
use Rattle.rv_steps.specs.Effects.{word_of}
use Rattle.rv_steps.specs.Good.{IsStart}
use Rattle.rv_steps.specs.Machine.{address_of, register_at, with_value}
use Rattle.array_run.specs.Starts.{base, bytes_of, inputs, start, words_left, zeros}
use Rattle.array_run.proofs.BlockLemmas.{AreWhole, block_sized}

abbrev AreBytes : List ℕ → Type 0
AreBytes bytes = All (λ byte. byte < 256) bytes

abbrev pub BytesLaw : Type 0
BytesLaw = (w : Width) (block : List ℕ) (place value : ℕ) → All (λ b. b < 256) block → All (λ b. b < 256) (with_value w block place value)

zeros_are_bytes : (words : ℕ) → AreBytes (zeros words)
zeros_are_bytes words = All-replicate (λ byte. byte < 256) (8 * words) 0 (omega arith)

module _ (bytes_law : BytesLaw) where
  word_bytes : (word : ℕ) → AreBytes (to_le_bytes w64 word)
  unfolding with_value
  word_bytes word = bytes_law w64 [] 0 word (All-nil (λ byte. byte < 256))

  value_bytes : (values : List ℤ) → AreBytes (bytes_of values)
  value_bytes [] = All-nil (λ byte. byte < 256)
  value_bytes (value ∷ values) =
      All-append (λ byte. byte < 256) (to_le_bytes w64 (word_of value)) (bytes_of values) (word_bytes (word_of value))
      (value_bytes values)

  array_bytes : (arrays : List (List ℤ)) → AreBytes (flat_map bytes_of arrays)
  array_bytes [] = All-nil (λ byte. byte < 256)
  array_bytes (values ∷ arrays) =
      All-append (λ byte. byte < 256) (bytes_of values) (flat_map bytes_of arrays) (value_bytes values) (array_bytes arrays)

  pub is_start : (program : Parts) (arrays : List (List ℤ)) → length program.lines ≤ most_items
      → block_words program.header program.areas ≤ most_words
      → AreWhole (inputs program.areas) arrays → IsStart program.header program.areas program.lines base (start program arrays)
  unfolding register_at
  is_start program arrays few room whole =
      let sized = block_sized program.header program.areas arrays whole in
      record {
        valid = record {
          count = refl;
          words = All-set (λ value. value < 2 ^ 64) (set (replicate 32 0) 1 (address_of (length program.lines))) 10 base (omega arith)
              (All-set (λ value. value < 2 ^ 64) (replicate 32 0) 1 (address_of (length program.lines)) (omega (arith, few))
              (All-replicate (λ value. value < 2 ^ 64) 32 0 (omega arith)));
          bytes = All-append (λ byte. byte < 256) (zeros program.header.spill)
              (flat_map bytes_of arrays ++ zeros (sum_by words_left program.areas))
              (zeros_are_bytes program.header.spill)
              (All-append (λ byte. byte < 256) (flat_map bytes_of arrays) (zeros (sum_by words_left program.areas)) (array_bytes arrays)
              (zeros_are_bytes (sum_by words_left program.areas)));
        };
        aligned = refl;
        room = omega (arith, sized, room);
        sized = sized;
        first = refl;
        block_at = refl;
        return_to = refl;
      }
