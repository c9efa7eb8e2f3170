-- What a list says of each axis, entry by entry.
use Rattle.std.specs.Prelude.{◌≡◌, ℕ, zero, suc, ◌<◌, ◌≤◌, ℤ, List, [], ◌∷◌, ◌++◌, length, take, drop, slice_index_or, slice_set}
use Rattle.std.proofs.Common.{refl, ap, arith}
use Rattle.moa_tree.specs.Axes.{each_extent}

-- a list that says how an extent changes, with one entry more written
pub written-extent : (f : ℤ → ℕ → ℕ) (list : List ℤ) (shape : List ℕ) (i : ℕ) (k : ℤ) → i < length list → length list ≤ length shape
    → take i shape ++ each_extent f (drop i list) (drop i shape)
    ≡ take (suc i) (slice_set shape i (f (slice_index_or list i k) (slice_index_or shape i 0))) ++ each_extent f (drop (suc i) list) (drop (suc i) (slice_set shape i (f (slice_index_or list i k) (slice_index_or shape i 0))))
written-extent f [] shape i k below long = absurd (omega (arith, below))
written-extent f (first ∷ list) [] i k below long = absurd (omega (arith, long))
written-extent f (first ∷ list) (n ∷ shape) zero k below long = refl
written-extent f (first ∷ list) (n ∷ shape) (suc i) k below long = ap (λ l. n ∷ l) (written-extent f list shape i k (omega (arith, below)) (omega (arith, long)))
