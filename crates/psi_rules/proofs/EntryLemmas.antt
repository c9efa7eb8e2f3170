-- Entries that are made one by one.
use Rattle.std.specs.Prelude.{◌≡◌, ℕ, suc, ◌+◌, ◌-◌, ◌<◌, ◌∷◌, map}
use Rattle.std.specs.List.{range_with_len}
use Rattle.std.proofs.Common.{ap, arith}

-- the first of some numbers, and those behind it
pub range-step : {X : Type 0} (f : ℕ → X) (a n : ℕ) → a < n → map f (range_with_len a (n - a)) ≡ f a ∷ map f (range_with_len (a + 1) (n - (a + 1)))
range-step f a n less = let e : n - a ≡ suc (n - (a + 1)) = omega (arith, less) in ap (λ k. map f (range_with_len a k)) e
