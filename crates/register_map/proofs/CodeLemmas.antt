-- Codes: each is of one register or place, and those that steps name.
use Rattle.std.specs.Prelude.{◌≡◌, ℕ, zero, suc, ◌<◌, ◌≤◌, ◌==◌, ◌||◌, Bool, true, false, List, [], ◌∷◌, ◌++◌, map}
use Rattle.std.specs.List.{AllByRecursion}
use Rattle.std.specs.List.Sorted.{IsStrictlySortedBy}
use Rattle.std.specs.Ordering.{nat_cmp}
use Rattle.std.specs.declared.cmp.Ordering.TheVariants.{Less}
use Rattle.std.proofs.Common.{refl, ap, subst, arith}
use Rattle.std.proofs.lemmas.Bool.{eqb-true, eq-eqb, false≢true}
use Rattle.std.proofs.lemmas.Bool.Decides.{nat_tests}
use Rattle.std.proofs.lemmas.Map.Keys.{sorted_head, sorted_tail}
use Rattle.loop_ir.specs.Costs.{named}
use Rattle.loop_ir.specs.Kept.{EachNamed}
use Rattle.loop_ir.specs.Running.{Key, Register, Pointer}
use Rattle.loop_ir.specs.Steps.{Steps, End, Then, For, If}
use Rattle.register_map.specs.Codes.{IsRising, codes_of, is_among}
use Rattle.register_map.specs.Homes.{code}
use Rattle.register_map.proofs.TreeLemmas.{all-split, all-weaker}

-- ---- one code

pub code-apart : (key other : Key) → code key ≡ code other → key ≡ other
code-apart (Register a) (Register b) e = let same : a ≡ b = omega (arith, e) in ap Register same
code-apart (Register a) (Pointer b) e = absurd (omega (arith, e))
code-apart (Pointer a) (Register b) e = absurd (omega (arith, e))
code-apart (Pointer a) (Pointer b) e = let same : a ≡ b = omega (arith, e) in ap Pointer same

next-key : (number : ℕ) (key : Key) → code key ≡ number → (next : Key) × (code next ≡ suc number)
next-key number (Register n) e = (Pointer n, ap suc e)
next-key number (Pointer n) e = (Register (suc n), omega (arith, e))

-- each number is a code
pub key-of : (number : ℕ) → (key : Key) × (code key ≡ number)
key-of zero = (Register 0, refl)
key-of (suc number) = let last = key-of number in next-key number last.0 last.1

-- ---- lists of codes

pub all-join : {X : Type 0} (P : X → Type 0) (xs ys : List X) → AllByRecursion P xs → AllByRecursion P ys → AllByRecursion P (xs ++ ys)
all-join P [] ys one other = other
all-join P (x ∷ xs) ys one other = (one.0, all-join P xs ys one.1 other)

all-mapped : (P : ℕ → Type 0) (keys : List Key) → AllByRecursion (λ key. P (code key)) keys → AllByRecursion P (map code keys)
all-mapped P [] h = tt
all-mapped P (key ∷ keys) h = (h.0, all-mapped P keys h.1)

all-unmapped : (P : ℕ → Type 0) (keys : List Key) → AllByRecursion P (map code keys) → AllByRecursion (λ key. P (code key)) keys
all-unmapped P [] h = tt
all-unmapped P (key ∷ keys) h = (h.0, all-unmapped P keys h.1)

-- what holds of each code that is named
pub all-named : (P : ℕ → Type 0) (steps : Steps) → EachNamed (λ key. P (code key)) steps → AllByRecursion P (codes_of steps)
all-named P End h = tt
all-named P (Then action rest) h = all-join P (map code (named action)) (codes_of rest) (all-mapped P (named action) h.0) (all-named P rest h.1)
all-named P (For counter turns body rest) h =
    (h.0, all-join P (codes_of body) (codes_of rest) (all-named P body h.1.0) (all-named P rest h.1.1))
all-named P (If left below one other rest) h = (
  h.0,
  all-join P (codes_of one) (codes_of other ++ codes_of rest) (all-named P one h.1.0)
      (all-join P (codes_of other) (codes_of rest) (all-named P other h.1.1.0) (all-named P rest h.1.1.1)),
)

pub each-named : (P : ℕ → Type 0) (steps : Steps) → AllByRecursion P (codes_of steps) → EachNamed (λ key. P (code key)) steps
each-named P End h = tt
each-named P (Then action rest) h =
    let parts = all-split P (map code (named action)) (codes_of rest) h in (all-unmapped P (named action) parts.0, each-named P rest parts.1)
each-named P (For counter turns body rest) h =
    let parts = all-split P (codes_of body) (codes_of rest) h.1 in (h.0, (each-named P body parts.0, each-named P rest parts.1))
each-named P (If left below one other rest) h =
    let parts = all-split P (codes_of one) (codes_of other ++ codes_of rest) h.1 in
    let later = all-split P (codes_of other) (codes_of rest) parts.1 in
    (h.0, (each-named P one parts.0, (each-named P other later.0, each-named P rest later.1)))

-- ---- what is among codes

pub or-cases : {X : Type 0} (a b : Bool) → (a || b) ≡ true → (a ≡ true → X) → (b ≡ true → X) → X
or-cases true b h one other = one refl
or-cases false b h one other = other h

or-behind : (a b : Bool) → b ≡ true → (a || b) ≡ true
or-behind true b h = refl
or-behind false b h = h

pub all-at : (P : ℕ → Type 0) (codes : List ℕ) → AllByRecursion P codes → (q : ℕ) → is_among codes q ≡ true → P q
all-at P [] h q there = absurd (false≢true there)
all-at P (one ∷ codes) h q there =
    or-cases (one == q) (is_among codes q) there (λ same. subst P (eqb-true one q same) h.0) (λ later. all-at P codes h.1 q later)

pub all-among : (P : ℕ → Type 0) (codes : List ℕ) → ((q : ℕ) → is_among codes q ≡ true → P q) → AllByRecursion P codes
all-among P [] f = tt
all-among P (one ∷ codes) f = (
  f one (ap (λ b. b || is_among codes one) (eq-eqb one one refl)),
  all-among P codes (λ q there. f q (or-behind (one == q) (is_among codes q) there)),
)

-- ---- rising codes

less : (x y : ℕ) → nat_cmp x y ≡ Less → x < y
less x y h = grind (arith, nat_tests)

pub rising-from-sorted : (low : ℕ) (codes : List ℕ) → AllByRecursion (λ x. low ≤ x) codes → IsStrictlySortedBy nat_cmp codes → IsRising low codes
rising-from-sorted low [] h sorted = tt
rising-from-sorted low (one ∷ codes) h sorted = (
  h.0,
  rising-from-sorted (suc one) codes
      (all-weaker (λ y e. less one y e) codes (sorted_head nat_cmp one codes sorted)) (sorted_tail nat_cmp one codes sorted),
)

pub all-from-zero : (codes : List ℕ) → AllByRecursion (λ x. 0 ≤ x) codes
all-from-zero [] = tt
all-from-zero (one ∷ codes) = (omega arith, all-from-zero codes)
