-- Words of the block that are written one after another. This project's own.
use Rattle.std.specs.Prelude.{◌≡◌, ℕ, ◌+◌, ◌*◌, ◌<◌, ◌≤◌, ◌⊎◌, List, length}
use Rattle.std.specs.Int.{w64}
use Rattle.rv_steps.specs.Machine.{value_at}

-- so many words from one of the block on hold the values 0, 1 .., and every other word is as it was before
pub record IsWritten (word count : ℕ) (value : ℕ → ℕ) (before after : List ℕ) : Type 0 where
  pub sized : length after ≡ length before
  pub written : (i : ℕ) → i < count → value_at w64 after (8 * (word + i)) ≡ value i
  pub others : (j : ℕ) → (j < word) ⊎ (word + count ≤ j) → value_at w64 after (8 * j) ≡ value_at w64 before (8 * j)
