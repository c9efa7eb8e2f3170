-- What is named by nests that need many registers, and what they cost.
use Rattle.std.specs.Prelude.{◌≡◌, ◌⊎◌, ℕ, zero, suc, ◌+◌, ◌*◌, ◌^◌, ◌<◌, ◌≤◌, nat_lt, Bool, true, false, ℤ, pos, List, [], ◌∷◌, length, Option, None, Some}
use Rattle.std.specs.List.{Contains, range_with_len}
use Rattle.std.proofs.Common.{cond, arith, inl, inr}
use Rattle.std.proofs.lemmas.List.FromFn.{get_or-range_with_len, length-range_with_len}
use Rattle.std.proofs.lemmas.List.Sums.{count_by-le-length, sum_by-le-sum_by}
use Rattle.loop_ir.specs.Costs.{Prices, cost, own_cost, time}
use Rattle.loop_ir.specs.Kept.{EachNamed}
use Rattle.loop_ir.specs.Running.{Key, Pointer, Register}
use Rattle.loop_ir.specs.Steps.{Steps, Then, Place}
use Rattle.register_map.specs.declared.home.Home.{Home}
use Rattle.register_map.specs.declared.home.Home.TheVariants as home
use Rattle.register_map.specs.Fits.{IsRanked, NamesFew}
use Rattle.register_map.specs.Homes.{Given, IsGiven, code, home_of, number_of}
use Rattle.rv_steps.specs.Constants.{constant_lines}
use Rattle.rv_emit.specs.Moving.{is_near}
use Rattle.rv_emit.specs.Pricing.{prices_of, total_cost, total_time, width_of}
use Rattle.rv_emit.specs.SpillExamples.{set_and_written, settings, writings}

-- ---- names

module _ (P : Key → Type 0) where
  named-set : (count : ℕ) (rest : Steps) → ((number : ℕ) → number < count → P (Register number)) → EachNamed P rest
      → EachNamed P (settings count rest)
  named-set zero rest each h = h
  named-set (suc count) rest each h =
      ((each count (omega arith), tt), named-set count rest (λ number below. each number (omega (arith, below))) h)

  named-written : (count : ℕ) → ((number : ℕ) → number < count → P (Register number)) → P (Pointer 0) → EachNamed P (writings count)
  named-written zero each place = tt
  named-written (suc count) each place = (
    (place, (each count (omega arith), tt)),
    ((place, tt), named-written count (λ number below. each number (omega (arith, below))) place),
  )

  named-both : (count : ℕ) → ((number : ℕ) → number < count → P (Register number)) → P (Pointer 0) → EachNamed P (set_and_written count)
  named-both count each place =
      named-set count (Then (Place 0 (pos 0)) (writings count)) each ((place, tt), named-written count each place)

pub forty-few : NamesFew (set_and_written 40)
forty-few = named-both (λ key. number_of key < 2 ^ 30) 40 (λ number below. omega (arith, below)) (omega arith)

contained : (n number : ℕ) → number < n → Contains (range_with_len 0 n) number
contained n number below =
    let long = length-range_with_len 0 n in
    let same = get_or-range_with_len 0 n number number below in
    (number, omega (arith, below, long), omega (arith, same))

pub forty-codes : EachNamed (λ key. Contains (range_with_len 0 80) (code key)) (set_and_written 40)
forty-codes =
    named-both (λ key. Contains (range_with_len 0 80) (code key)) 40 (λ number below. contained 80 (2 * number) (omega (arith, below)))
    (contained 80 1 (omega arith))

ranked-few : (codes : List ℕ) (given : Given) → length codes ≡ 80 → IsRanked codes given
    → (given.spill ≡ 0) ⊎ ((key : Key) × (word : ℕ) × (home_of given key ≡ Some (home.Spill word)) × (given.spill ≡ suc word))
    → given.spill ≤ 81
ranked-few codes given long ranked (inl none) = omega (arith, none)
ranked-few codes given long ranked (inr last) =
    let rank = ranked last.0 last.1 last.2 in
    let few = count_by-le-length (λ other. nat_lt other (code last.0)) codes in
    omega (arith, rank, few, long, last.3)

pub forty-spill : (given : Given) → IsGiven given → IsRanked (range_with_len 0 80) given → given.spill ≤ 81
forty-spill given is ranked = ranked-few (range_with_len 0 80) given (length-range_with_len 0 80) ranked is.least

-- ---- prices

few-wide : (found : Option Home) → width_of found ≤ 3
few-wide None = omega arith
few-wide (Some (home.Register number)) = omega arith
few-wide (Some (home.Spill word)) = by (is_near word)
  where
    by : (b : Bool) → cond b 1 3 ≤ 3
    by true = omega arith
    by false = omega arith

-- each number takes as many lines as one takes at most, and each register and place lies in a far spill word
abbrev dearest : Prices
dearest = record { lines = λ value. 8; width = λ key. 3 }

-- no number takes more lines
abbrev pub AreFew : Type 0
AreFew = (value : ℤ) → length (constant_lines 31 value) ≤ 8

own-most : AreFew → (given : Given) (values : List ℤ) (keys : List Key)
    → own_cost (prices_of given) values keys ≤ own_cost dearest values keys
own-most few given values keys =
    omega (
      arith,
      sum_by-le-sum_by (λ value. length (constant_lines 31 value)) (λ value. 8) values few,
      sum_by-le-sum_by (λ key. width_of (home_of given key)) (λ key. 3) keys (λ key. few-wide (home_of given key)),
    )

set-cost : AreFew → (given : Given) (count : ℕ) (rest : Steps)
    → cost (prices_of given) (settings count rest) ≤ 22 * count + cost (prices_of given) rest
set-cost few given zero rest = omega arith
set-cost few given (suc count) rest =
    let own = own-most few given (pos 7 ∷ []) (Register count ∷ []) in omega (arith, own, set-cost few given count rest)

set-time : AreFew → (given : Given) (count : ℕ) (rest : Steps)
    → time (prices_of given) (settings count rest) ≤ 22 * count + time (prices_of given) rest
set-time few given zero rest = omega arith
set-time few given (suc count) rest =
    let own = own-most few given (pos 7 ∷ []) (Register count ∷ []) in omega (arith, own, set-time few given count rest)

written-cost : AreFew → (given : Given) (count : ℕ) → cost (prices_of given) (writings count) ≤ 42 * count
written-cost few given zero = omega arith
written-cost few given (suc count) =
    let write = own-most few given [] (Pointer 0 ∷ Register count ∷ []) in
    let walk = own-most few given (pos 1 ∷ []) (Pointer 0 ∷ []) in
    omega (arith, write, walk, written-cost few given count)

written-time : AreFew → (given : Given) (count : ℕ) → time (prices_of given) (writings count) ≤ 42 * count
written-time few given zero = omega arith
written-time few given (suc count) =
    let write = own-most few given [] (Pointer 0 ∷ Register count ∷ []) in
    let walk = own-most few given (pos 1 ∷ []) (Pointer 0 ∷ []) in
    omega (arith, write, walk, written-time few given count)

pub forty-cost : AreFew → (given : Given) → total_cost ((set_and_written 40, given) ∷ []) ≤ 245760
forty-cost few given =
    let place = own-most few given (pos 0 ∷ []) (Pointer 0 ∷ []) in
    let rest = written-cost few given 40 in
    let all = set-cost few given 40 (Then (Place 0 (pos 0)) (writings 40)) in
    omega (arith, place, rest, all)

pub forty-time : AreFew → (given : Given) → total_time ((set_and_written 40, given) ∷ []) ≤ 2 ^ 50
forty-time few given =
    let place = own-most few given (pos 0 ∷ []) (Pointer 0 ∷ []) in
    let rest = written-time few given 40 in
    let all = set-time few given 40 (Then (Place 0 (pos 0)) (writings 40)) in
    omega (arith, place, rest, all)
