-- Tables by variable: a table that is longer says the same, and a place that is set is said of its variable alone.
use mathlib.Core.Path.{fun_ext}
use Rattle.std.specs.Prelude.{◌≡◌, ℕ, zero, suc, ◌<◌, ◌==◌, ◌||◌, Bool, true, false, if◌then◌else◌, List, [], ◌∷◌, ◌++◌, length, slice_index_or, slice_set}
use Rattle.std.specs.List.{AllByRecursion, list_any}
use Rattle.std.specs.Result.{OnOk}
use Rattle.std.specs.Prelude.{Result}
use Rattle.std.proofs.Common.{refl, sym, ap, ◌∙◌, arith, ne_eqb}
use Rattle.std.proofs.lemmas.Bool.{cond-false}
use Rattle.std.proofs.lemmas.Bool.Decides.{nat_tests}
use Rattle.std.proofs.lemmas.Result.{on_ok_weaker}
use Rattle.stride_form.specs.declared.facts.Fact.{Fact}
use Rattle.stride_form.specs.declared.facts.Fact.TheVariants.{Range}
use Rattle.stride_form.specs.Facts.{knowing}
use Rattle.stride_form.specs.Small.{Flags, IsSmallFact, either, fact_at, flag_at, flagged}

longer-at : {A : Type 0} (list : List A) (nothing : A) (var : ℕ)
    → slice_index_or (list ++ nothing ∷ []) var nothing ≡ slice_index_or list var nothing
longer-at [] nothing zero = refl
longer-at [] nothing (suc var) = refl
longer-at (first ∷ others) nothing zero = refl
longer-at (first ∷ others) nothing (suc var) = longer-at others nothing var

same-suc : (n m : ℕ) → (n == m) ≡ (suc n == suc m)
same-suc n m = grind (arith, nat_tests)

set-at : {A : Type 0} (list : List A) (nothing value : A) (place other : ℕ) → place < length list
    → slice_index_or (slice_set list place value) other nothing ≡ (if other == place then value else slice_index_or list other nothing)
set-at [] nothing value place other within = absurd (omega (arith, within))
set-at (first ∷ others) nothing value zero zero within = refl
set-at (first ∷ others) nothing value zero (suc other) within = sym (cond-false (suc other == 0) value (slice_index_or others other nothing) (ne_eqb (suc other) 0 (λ e. omega (arith, e))))
set-at (first ∷ others) nothing value (suc place) zero within = sym (cond-false (0 == suc place) value first (ne_eqb 0 (suc place) (λ e. omega (arith, e))))
set-at (first ∷ others) nothing value (suc place) (suc other) within =
    set-at others nothing value place other (omega (arith, within))
    ∙ ap (λ same. if same then value else slice_index_or others other nothing) (same-suc other place)

-- ---- what is known

pub longer-facts : (list : List Fact) → fact_at (list ++ Range 0 0 ∷ []) ≡ fact_at list
longer-facts list = fun_ext (λ var. longer-at list (Range 0 0) var)

pub set-facts : (list : List Fact) (var : ℕ) (fact : Fact) → var < length list → fact_at (slice_set list var fact) ≡ knowing (fact_at list) var fact
set-facts list var fact within = fun_ext (λ other. set-at list (Range 0 0) fact var other within)

pub small-set : (list : List Fact) (place : ℕ) (fact : Fact) → AllByRecursion IsSmallFact list → IsSmallFact fact
    → AllByRecursion IsSmallFact (slice_set list place fact)
small-set [] place fact all small = tt
small-set (first ∷ others) zero fact all small = (small, all.1)
small-set (first ∷ others) (suc place) fact all small = (all.0, small-set others place fact all.1 small)

pub small-longer : (list : List Fact) (fact : Fact) → AllByRecursion IsSmallFact list → IsSmallFact fact
    → AllByRecursion IsSmallFact (list ++ fact ∷ [])
small-longer [] fact all small = (small, tt)
small-longer (first ∷ others) fact all small = (all.0, small-longer others fact all.1 small)

pub small-at : (list : List Fact) (place : ℕ) → AllByRecursion IsSmallFact list → IsSmallFact (fact_at list place)
small-at [] place all = (omega arith, omega arith)
small-at (first ∷ others) zero all = all.0
small-at (first ∷ others) (suc place) all = small-at others place all.1

-- ---- tests

pub longer-flags : (list : List Bool) → flag_at (list ++ false ∷ []) ≡ flag_at list
longer-flags list = fun_ext (λ var. longer-at list false var)

pub set-flags : (list : List Bool) (var : ℕ) (flag : Bool) → var < length list → flag_at (slice_set list var flag) ≡ flagged (flag_at list) var flag
set-flags list var flag within = fun_ext (λ other. set-at list false flag var other within)

or-none : (one : Bool) → (one || false) ≡ one
or-none true = refl
or-none false = refl

pub either-none : (flags : Flags) → flags ≡ either flags (λ var. false)
either-none flags = fun_ext (λ var. sym (or-none (flags var)))

or-more : (one two three : Bool) → ((one || two) || three) ≡ (one || (two || three))
or-more true two three = refl
or-more false two three = refl

pub either-more : (one two three : Flags) → either (either one two) three ≡ either one (λ var. two var || three var)
either-more one two three = fun_ext (λ var. or-more (one var) (two var) (three var))

true-or : (same one : Bool) → (if same then true else one) ≡ (one || same)
true-or true true = refl
true-or true false = refl
true-or false true = refl
true-or false false = refl

pub flagged-true : (flags : Flags) (var : ℕ) → flagged flags var true ≡ either flags (λ other. other == var)
flagged-true flags var = fun_ext (λ other. true-or (other == var) (flags other))

-- what is marked after an entry and after others is marked after all of them
pub all-marked : {A T E : Type 0} (test : ℕ → A → Bool) (first : A) (others all : List A) (old mid new : Flags) (result : Result T E)
    → all ≡ first ∷ others → mid ≡ either old (λ var. test var first)
    → OnOk result (new ≡ either mid (λ var. list_any (test var) others)) → OnOk result (new ≡ either old (λ var. list_any (test var) all))
all-marked test first others all old mid new result whole one rest =
    on_ok_weaker result
    (λ e. e ∙ ap (λ flags. either flags (λ var. list_any (test var) others)) one
    ∙ either-more old (λ var. test var first) (λ var. list_any (test var) others)
    ∙ sym (ap (λ list. either old (λ var. list_any (test var) list)) whole)) rest
