-- What homes owe, entry by entry.
use Rattle.std.specs.Prelude.{◌≡◌, ℕ, ◌+◌, ◌<◌, ◌≤◌, Bool, true, false, not, ℤ, pos, ◌+ℤ◌, FitsSigned, List, [], ◌∷◌, ◌++◌, length, take, drop, filter}
use Rattle.std.specs.Int.{int_wrap, w64}
use Rattle.std.proofs.Common.{cond, get_or, set, suc, refl, ap, sym, ◌∙◌, arith, append_assoc}
use Rattle.std.proofs.lemmas.Int.{ints, int_wrap_fits, int_wrap-add_left, int_wrap-add_right}
use Rattle.std.proofs.lemmas.List.{drop_all, drop_more, set_split, take_all, take_more}
use Rattle.register_map.specs.declared.home.Home.{Home}
use Rattle.rv_emit.specs.Walks.{Owed, is_home, owed_at, with_walk, without}
use Rattle.rv_emit.proofs.PlaceNumberLemmas.{owed-wraps}

kept : {X : Type 0} (b : Bool) (x : X) (xs ys : List X) → xs ≡ ys → cond b xs (x ∷ xs) ≡ cond (not b) (x ∷ ys) ys
kept true x xs ys e = e
kept false x xs ys e = ap (λ list. x ∷ list) e

pub without-filters : (owed : Owed) (home : Home) → without owed home ≡ filter (λ entry. not (is_home entry.0 home)) owed
without-filters [] home = refl
without-filters (first ∷ others) home =
    kept (is_home first.0 home) first (without others home) (filter (λ entry. not (is_home entry.0 home)) others) (without-filters others home)

-- ---- the sum of a home

pub sum-begins : (owed : Owed) (home : Home) → int_wrap w64 (pos 0 +ℤ owed_at owed home) ≡ owed_at owed home
sum-begins owed home =
    let none : pos 0 +ℤ owed_at owed home ≡ owed_at owed home = omega (arith, ints) in
    ap (int_wrap w64) none ∙ owed-wraps owed home

at-first : (b : Bool) (first : Home × ℤ) (others : Owed) (home : Home) → is_home first.0 home ≡ b
    → owed_at (first ∷ others) home ≡ cond b (int_wrap w64 (first.1 +ℤ owed_at others home)) (owed_at others home)
at-first b first others home e = ap (λ (b : Bool). cond b (int_wrap w64 (first.1 +ℤ owed_at others home)) (owed_at others home)) e

pub sum-passes : (owed : Owed) (i : ℕ) (d : Home × ℤ) (home : Home) (sum : ℤ) → i < length owed → is_home (get_or owed i d).0 home ≡ false
    → int_wrap w64 (sum +ℤ owed_at (drop i owed) home) ≡ owed_at owed home
    → int_wrap w64 (sum +ℤ owed_at (drop (i + 1) owed) home) ≡ owed_at owed home
sum-passes owed i d home sum below other so_far =
    ap (λ (rest : ℤ). int_wrap w64 (sum +ℤ rest)) (sym (ap (λ list. owed_at list home) (drop_more owed i d below)
    ∙ at-first false (get_or owed i d) (drop (i + 1) owed) home other)) ∙ so_far

pub sum-grows : (owed : Owed) (i : ℕ) (d : Home × ℤ) (home : Home) (sum : ℤ) → i < length owed → is_home (get_or owed i d).0 home ≡ true
    → int_wrap w64 (sum +ℤ owed_at (drop i owed) home) ≡ owed_at owed home
    → int_wrap w64 (int_wrap w64 (sum +ℤ (get_or owed i d).1) +ℤ owed_at (drop (i + 1) owed) home) ≡ owed_at owed home
sum-grows owed i d home sum below same so_far =
    let first = (get_or owed i d).1 in
    let rest = owed_at (drop (i + 1) owed) home in
    let one = ap (λ list. owed_at list home) (drop_more owed i d below) ∙ at-first true (get_or owed i d) (drop (i + 1) owed) home same in
    let order : (sum +ℤ first) +ℤ rest ≡ sum +ℤ (first +ℤ rest) = omega (arith, ints) in
    int_wrap-add_left w64 (sum +ℤ first) rest ∙ ap (int_wrap w64) order ∙ sym (int_wrap-add_right w64 sum (first +ℤ rest))
    ∙ ap (λ (z : ℤ). int_wrap w64 (sum +ℤ z)) (sym one) ∙ so_far

pub sum-goes : (owed : Owed) (i : ℕ) (d : Home × ℤ) (home : Home) (sum : ℤ) → i < length owed
    → int_wrap w64 (sum +ℤ owed_at (drop i owed) home) ≡ owed_at owed home
    → int_wrap w64 (cond (is_home (get_or owed i d).0 home) (int_wrap w64 (sum +ℤ (get_or owed i d).1)) sum +ℤ owed_at (drop (i + 1) owed) home)
    ≡ owed_at owed home
sum-goes owed i d home sum below so_far = by (is_home (get_or owed i d).0 home) refl
  where
    by : (b : Bool) → is_home (get_or owed i d).0 home ≡ b
        → int_wrap w64 (cond b (int_wrap w64 (sum +ℤ (get_or owed i d).1)) sum +ℤ owed_at (drop (i + 1) owed) home) ≡ owed_at owed home
    by true e = sum-grows owed i d home sum below e so_far
    by false e = sum-passes owed i d home sum below e so_far

pub sum-ends : (owed : Owed) (i : ℕ) (home : Home) (sum : ℤ) → length owed ≤ i → FitsSigned w64 sum
    → int_wrap w64 (sum +ℤ owed_at (drop i owed) home) ≡ owed_at owed home → sum ≡ owed_at owed home
sum-ends owed i home sum all fits so_far =
    let none = ap (λ list. owed_at list home) (drop_all i owed all) in
    let same : sum +ℤ pos 0 ≡ sum = omega (arith, ints) in
    sym (ap (λ (rest : ℤ). int_wrap w64 (sum +ℤ rest)) none ∙ ap (int_wrap w64) same ∙ int_wrap_fits w64 sum fits) ∙ so_far

-- ---- a walk

at-head : (b : Bool) (first : Home × ℤ) (others : Owed) (home : Home) (words : ℤ) → is_home first.0 home ≡ b
    → with_walk (first ∷ others) home words
    ≡ cond b ((first.0, int_wrap w64 (first.1 +ℤ words)) ∷ others) (first ∷ with_walk others home words)
at-head b first others home words e =
    ap (λ (b : Bool). cond b ((first.0, int_wrap w64 (first.1 +ℤ words)) ∷ others) (first ∷ with_walk others home words)) e

pub walk-passes : (owed : Owed) (i : ℕ) (d : Home × ℤ) (home : Home) (words : ℤ) → i < length owed → is_home (get_or owed i d).0 home
    ≡ false
    → take i owed ++ with_walk (drop i owed) home words ≡ with_walk owed home words
    → take (i + 1) owed ++ with_walk (drop (i + 1) owed) home words ≡ with_walk owed home words
walk-passes owed i d home words below other so_far =
    ap (λ list. list ++ with_walk (drop (i + 1) owed) home words) (take_more owed i d below)
    ∙ append_assoc (take i owed) (get_or owed i d ∷ []) (with_walk (drop (i + 1) owed) home words)
    ∙ ap (λ list. take i owed ++ list) (sym (ap (λ list. with_walk list home words) (drop_more owed i d below)
    ∙ at-head false (get_or owed i d) (drop (i + 1) owed) home words other))
    ∙ so_far

pub walk-here : (owed : Owed) (i : ℕ) (d : Home × ℤ) (home : Home) (words : ℤ) → i < length owed → is_home (get_or owed i d).0 home ≡ true
    → take i owed ++ with_walk (drop i owed) home words ≡ with_walk owed home words
    → set owed i ((get_or owed i d).0, int_wrap w64 ((get_or owed i d).1 +ℤ words)) ≡ with_walk owed home words
walk-here owed i d home words below same so_far =
    let one : suc i ≡ i + 1 = omega arith in
    set_split owed i ((get_or owed i d).0, int_wrap w64 ((get_or owed i d).1 +ℤ words)) below
    ∙ ap (λ n. take i owed ++ ((get_or owed i d).0, int_wrap w64 ((get_or owed i d).1 +ℤ words)) ∷ drop n owed) one
    ∙ ap (λ list. take i owed ++ list) (sym (ap (λ list. with_walk list home words) (drop_more owed i d below)
    ∙ at-head true (get_or owed i d) (drop (i + 1) owed) home words same))
    ∙ so_far

pub walk-behind : (owed : Owed) (i : ℕ) (home : Home) (words : ℤ) → length owed ≤ i
    → take i owed ++ with_walk (drop i owed) home words ≡ with_walk owed home words → owed ++ (home, words) ∷ [] ≡ with_walk owed home words
walk-behind owed i home words all so_far =
    ap (λ list. list ++ (home, words) ∷ []) (sym (take_all i owed all))
    ∙ ap (λ list. take i owed ++ with_walk list home words) (sym (drop_all i owed all)) ∙ so_far
