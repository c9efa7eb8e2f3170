-- How many of some numbers are smaller than another: counts rise at each of them.
use Rattle.std.specs.Prelude.{◌≡◌, ℕ, zero, suc, ◌+◌, ◌<◌, ◌≤◌, List, [], ◌∷◌, length, nat_lt}
use Rattle.std.specs.List.{Contains, count_by}
use Rattle.std.proofs.Common.{cond, get_or, arith}
use Rattle.std.proofs.lemmas.Bool.Decides.{nat_tests}
use Rattle.std.proofs.lemmas.List.Sums.{sum_by-cons, sum_by-le-sum_by}

abbrev pub below : List ℕ → ℕ → ℕ
below numbers bound = count_by (λ other. nat_lt other bound) numbers

one-below : (x a b : ℕ) → a ≤ b → cond (nat_lt x a) 1 0 ≤ cond (nat_lt x b) 1 0
one-below x a b h = grind (arith, nat_tests)

pub below-rises : (numbers : List ℕ) (a b : ℕ) → a ≤ b → below numbers a ≤ below numbers b
below-rises numbers a b h = sum_by-le-sum_by (λ x. cond (nat_lt x a) 1 0) (λ x. cond (nat_lt x b) 1 0) numbers (λ x. one-below x a b h)

one-more : (y x : ℕ) → y ≡ x → suc (cond (nat_lt y x) 1 0) ≤ cond (nat_lt y (suc x)) 1 0
one-more y x e = grind (arith, nat_tests)

first-below : (y bound : ℕ) (numbers : List ℕ) → below (y ∷ numbers) bound ≡ cond (nat_lt y bound) 1 0 + below numbers bound
first-below y bound numbers = sum_by-cons (λ x. cond (nat_lt x bound) 1 0) y numbers

below-more : (numbers : List ℕ) (k x : ℕ) → k < length numbers → get_or numbers k x ≡ x → below numbers x < below numbers (suc x)
below-more [] k x h e = absurd (omega (arith, h))
below-more (y ∷ numbers) zero x h e =
    omega (arith, first-below y x numbers, first-below y (suc x) numbers, one-more y x e, below-rises numbers x (suc x) (omega arith))
below-more (y ∷ numbers) (suc k) x h e =
    omega (
      arith,
      first-below y x numbers,
      first-below y (suc x) numbers,
      one-below y x (suc x) (omega arith),
      below-more numbers k x (omega (arith, h)) e,
    )

pub below-next : (numbers : List ℕ) (x : ℕ) → Contains numbers x → below numbers x < below numbers (suc x)
below-next numbers x h = below-more numbers h.0 x h.1 h.2
