-- The machine registers that are given, none of them twice, and the homes of a nest's codes.
use Rattle.std.specs.Prelude.{◌≡◌, ℕ, suc, ◌+◌, ◌^◌, Option, ◌<◌, ◌≤◌, ◌==◌, ◌⊎◌, Bool, true, false, List, [], ◌∷◌, length, None, Some, nat_lt, not, position}
use Rattle.std.specs.List.{AllByRecursion, position_or_len}
use Rattle.std.proofs.Common.{cond, get_or, refl, ap, sym, ◌∙◌, subst, arith, inl, inr}
use Rattle.std.proofs.lemmas.Bool.{eqb-true, ltb-false, ltb-true}
use Rattle.std.proofs.lemmas.Bool.Decides.{nat_tests}
use Rattle.std.proofs.lemmas.Option.{option_and_then_some}
use Rattle.loop_ir.specs.Running.{Key}
use Rattle.register_map.specs.declared.home.Home.TheVariants as home
use Rattle.register_map.specs.Assigned.{assigned, given_to, mark, register_at, word_behind, words_behind}
use Rattle.register_map.specs.Codes.{IsRising}
use Rattle.register_map.specs.Homes.{IsGiven, code, home_of, is_given}
use Rattle.register_map.proofs.AssignedLemmas.{behind-most, home_at, last-given, register-marked, spill-below}
use Rattle.register_map.proofs.CodeLemmas.{key-of}

-- ---- machine registers

register-range : (place r : ℕ) → register_at place ≡ Some r → ((place < 3) × (r ≡ place + 5)) ⊎ ((3 ≤ place) × ((place < 10) × (r ≡ place + 8)))
register-range place r e = by (nat_lt place 3) (nat_lt place 10) refl refl e
  where
    by : (a b : Bool) → nat_lt place 3 ≡ a → nat_lt place 10 ≡ b → cond a (Some (place + 5)) (cond b (Some (place + 8)) None) ≡ Some r
        → ((place < 3) × (r ≡ place + 5)) ⊎ ((3 ≤ place) × ((place < 10) × (r ≡ place + 8)))
    by true b p q e = inl (ltb-true place 3 p, cc)
    by false true p q e = inr (ltb-false place 3 p, (ltb-true place 10 q, cc))
    by false false p q e = absurd (cc)

one-given : (r : ℕ) → ((5 ≤ r) × (r ≤ 7)) ⊎ ((11 ≤ r) × (r ≤ 17)) → is_given r ≡ true
one-given r h = grind (arith, nat_tests)

register-given : (place r : ℕ) → register_at place ≡ Some r → is_given r ≡ true
register-given place r e = one-given r (elim (register-range place r e) [
  | inl low ↦ inl (omega (arith, low), omega (arith, low))
  | inr high ↦ inr (omega (arith, high), omega (arith, high))
])

register-apart : (i j r : ℕ) → register_at i ≡ Some r → register_at j ≡ Some r → i ≡ j
register-apart i j r e f = elim (register-range i r e) [
  | inl low ↦ elim (register-range j r f) [ inl too ↦ omega (arith, low, too) | inr high ↦ absurd (omega (arith, low, high)) ]
  | inr high ↦ elim (register-range j r f) [ inl low ↦ absurd (omega (arith, low, high)) | inr too ↦ omega (arith, high, too) ]
]

-- ---- places

at-first : {X : Type 0} (p : X → Bool) (x : X) (xs : List X) (d : X) (b : Bool) → p x ≡ b
    → (position_or_len p xs < length xs → p (get_or xs (position_or_len p xs) d) ≡ true)
    → cond (not b) (1 + position_or_len p xs) 0 < suc (length xs)
    → p (get_or (x ∷ xs) (cond (not b) (1 + position_or_len p xs) 0) d) ≡ true
at-first p x xs d true e later h = e
at-first p x xs d false e later h =
    let next : suc (position_or_len p xs) ≡ 1 + position_or_len p xs = omega arith in
    subst (λ n. p (get_or (x ∷ xs) n d) ≡ true) next (later (omega (arith, h)))

first-passes : {X : Type 0} (p : X → Bool) (xs : List X) (d : X) → position_or_len p xs < length xs → p (get_or xs (position_or_len p xs) d) ≡ true
first-passes p [] d h = absurd (omega (arith, h))
first-passes p (x ∷ xs) d h = at-first p x xs d (p x) refl (first-passes p xs d) h

place-passes : {X : Type 0} (p : X → Bool) (xs : List X) (i : ℕ) (d : X) → position p xs ≡ Some i → p (get_or xs i d) ≡ true
place-passes p xs i d e = by (nat_lt (position_or_len p xs) (length xs)) refl e
  where
    by : (b : Bool) → nat_lt (position_or_len p xs) (length xs) ≡ b → cond b (Some (position_or_len p xs)) None ≡ Some i → p (get_or xs i d) ≡ true
    by true h e = let same : position_or_len p xs ≡ i = cc in
        subst (λ n. p (get_or xs n d) ≡ true) same (first-passes p xs d (ltb-true (position_or_len p xs) (length xs) h))
    by false h e = absurd (cc)

-- ---- marks

pub mark-given : (marked : List ℕ) (q r : ℕ) → mark marked q ≡ Some r → is_given r ≡ true
mark-given marked q r e =
    option_and_then_some register_at (position (λ other. other == q) marked) r e (λ place there own. register-given place r own)

pub mark-apart : (marked : List ℕ) (q p r : ℕ) → mark marked q ≡ Some r → mark marked p ≡ Some r → q ≡ p
mark-apart marked q p r e f =
    option_and_then_some register_at (position (λ other. other == q) marked) r e (λ i one own.
    option_and_then_some register_at (position (λ other. other == p) marked) r f (λ j two too.
    let first = eqb-true (get_or marked i 0) q (place-passes (λ other. other == q) marked i 0 one) in
    let second = eqb-true (get_or marked j 0) p (place-passes (λ other. other == p) marked j 0 two) in
    sym first ∙ ap (λ n. get_or marked n 0) (register-apart i j r own too) ∙ second))

-- ---- what is given

pub given-registers : (marked codes : List ℕ) (key : Key) (r : ℕ) → home_of (given_to marked codes) key ≡ Some (home.Register r)
    → is_given r ≡ true
given-registers marked codes key r e = mark-given marked (code key) r (register-marked (mark marked) 0 codes (code key) r e)

-- rising codes below a number get spill words below it
pub words-few : (marks : ℕ → Option ℕ) (word low most : ℕ) (codes : List ℕ) → word ≤ low → low ≤ most → IsRising low codes
    → AllByRecursion (λ q. q < most) codes → words_behind marks word codes ≤ most
words-few marks word low most [] h k rising below = omega (arith, h, k)
words-few marks word low most (q ∷ codes) h k rising below =
    words-few marks (word_behind (marks q) word) (suc q) most codes (omega (arith, behind-most (marks q) word, h, rising.0)) (omega (arith, below.0))
    rising.1 below.1

pub given-is : (marked codes : List ℕ) → IsRising 0 codes → AllByRecursion (λ q. q < 2 ^ 31) codes → IsGiven (given_to marked codes)
given-is marked codes rising low = record {
  below = λ key s e. spill-below (mark marked) 0 codes (code key) s e;
  few = words-few (mark marked) 0 0 (2 ^ 31) codes (omega arith) (omega arith) rising low;
  least = elim (last-given (mark marked) 0 0 codes rising) [
    | inl none ↦ inl none
    | inr last ↦
        let key = key-of last.0 in
        inr (key.0, last.1, subst (λ q. home_at (assigned (mark marked) 0 codes) q ≡ Some (home.Spill last.1)) (sym key.1) last.2, last.3)
  ];
}
