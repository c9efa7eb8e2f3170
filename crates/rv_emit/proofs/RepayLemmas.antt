-- How many lines bring homes into registers and back, and repay what they owe.
use Rattle.std.specs.Prelude.{◌≡◌, ℕ, ◌+◌, ◌*◌, ◌<◌, ◌≤◌, Bool, true, false, ℤ, pos, ◌+ℤ◌, List, [], ◌∷◌, ◌++◌, length, if◌then◌else◌, Some}
use Rattle.std.specs.Int.{int_wrap, w64}
use Rattle.std.specs.Ordering.{int_eq}
use Rattle.std.proofs.Common.{refl, arith, ap, sym, ◌∙◌, subst, length-append}
use Rattle.std.proofs.lemmas.Bool.{eqb-true, false≢true}
use Rattle.std.proofs.lemmas.Bool.Decides.{Decides-int_eq}
use Rattle.std.proofs.lemmas.Int.{ints}
use Rattle.register_map.specs.declared.home.Home.{Home}
use Rattle.register_map.specs.declared.home.Home.TheVariants as home
use Rattle.rv_line.specs.declared.line.Line.{Line}
use Rattle.rv_line.specs.declared.line.Line.TheVariants.{Three as ThreeLine, Imm as ImmLine, Load as LoadLine, Store as StoreLine}
use Rattle.rv_line.specs.declared.line.Three.TheVariants.{Add}
use Rattle.rv_line.specs.declared.line.Imm.TheVariants.{Addi}
use Rattle.rv_line.specs.declared.line.Load.TheVariants.{Ld}
use Rattle.rv_line.specs.declared.line.Store.TheVariants.{Sd}
use Rattle.rv_steps.specs.Constants.{constant_lines, is_signed_below}
use Rattle.rv_emit.specs.Emitting.{is_offset, near_lines, near_owed}
use Rattle.rv_emit.specs.Moving.{advance_lines, fetch_lines, is_near, put_lines, reach_lines, reach_offset, reach_register, register_of, repay_lines, settle_lines}
use Rattle.rv_emit.specs.Pricing.{width_of}
use Rattle.rv_emit.specs.Walks.{Owed, bytes, is_home, owed_at, with_walk, without}
use Rattle.rv_emit.proofs.PlaceNumberLemmas.{zero-wraps}
use Rattle.rv_emit.proofs.ConstantLemmas.{bytes_few, bytes_wrap, constants_most, constants_two}

-- a spill word that is not too far
abbrev pub IsClose : Home → Type 0
IsClose (home.Register number) = Unit {0}
IsClose (home.Spill word) = word < 8192

-- how many lines are more where a home is fetched or put
abbrev pub width : Home → ℕ
width of = width_of (Some of)

-- ---- fetching and putting

reach_by : (word : ℕ) (near : Bool) → word < 8192
    → length (if near then [] else constant_lines 31 (pos (8 * word)) ++ ThreeLine Add 31 31 10 ∷ []) ≤ (if near then 0 else 3)
reach_by word true close = omega arith
reach_by word false close =
    let two = constants_two 31 (pos (8 * word)) (omega (arith, close)) in
    omega (arith, two, length-append (constant_lines 31 (pos (8 * word))) (ThreeLine Add 31 31 10 ∷ []))

-- not more than one line beyond the width, and not more than twice the width
pub record IsWide (lines of : ℕ) : Type 0 where
  pub once : lines ≤ of + 1
  pub twice : lines ≤ 2 * of

wide_by : (near : Bool) (reach : ℕ) → reach ≤ (if near then 0 else 3) → IsWide (reach + 1) (if near then 1 else 3)
wide_by true reach h = record { once = omega (arith, h); twice = omega (arith, h) }
wide_by false reach h = record { once = omega (arith, h); twice = omega (arith, h) }

no_width : IsWide 0 0
no_width = record { once = omega arith; twice = omega arith }

pub fetch_wide : (scratch : ℕ) (of : Home) → IsClose of → IsWide (length (fetch_lines scratch of)) (width of)
fetch_wide scratch (home.Register number) close = no_width
fetch_wide scratch (home.Spill word) close =
    let same = length-append (reach_lines word) (LoadLine Ld scratch (reach_offset word) (reach_register word) ∷ []) in
    subst (λ n. IsWide n (width (home.Spill word))) (sym same)
    (wide_by (is_near word) (length (reach_lines word)) (reach_by word (is_near word) close))

pub put_wide : (of : Home) → IsClose of → IsWide (length (put_lines of)) (width of)
put_wide (home.Register number) close = no_width
put_wide (home.Spill word) close =
    let same = length-append (reach_lines word) (StoreLine Sd 30 (reach_offset word) (reach_register word) ∷ []) in
    subst (λ n. IsWide n (width (home.Spill word))) (sym same)
    (wide_by (is_near word) (length (reach_lines word)) (reach_by word (is_near word) close))

-- ---- repaying

advance_by : (register : ℕ) (count : ℤ) (small : Bool)
    → length (if small then ImmLine Addi register register count ∷ []
    else constant_lines 31 count ++ ThreeLine Add register register 31 ∷ [])
    ≤ length (constant_lines 31 count) + 1
advance_by register count true = omega arith
advance_by register count false = omega (arith, length-append (constant_lines 31 count) (ThreeLine Add register register 31 ∷ []))

advance_few : (register : ℕ) (count : ℤ) → length (advance_lines register count) ≤ length (constant_lines 31 count) + 1
advance_few register count = advance_by register count (is_signed_below 2048 count)

advance_some_by : (register : ℕ) (count : ℤ) (small : Bool)
    → 1 ≤ length (if small then ImmLine Addi register register count ∷ []
    else constant_lines 31 count ++ ThreeLine Add register register 31 ∷ [])
advance_some_by register count true = omega arith
advance_some_by register count false = omega (arith, length-append (constant_lines 31 count) (ThreeLine Add register register 31 ∷ []))

advance_some : (register : ℕ) (count : ℤ) → 1 ≤ length (advance_lines register count)
advance_some register count = advance_some_by register count (is_signed_below 2048 count)

-- lines that fetch a home and put it back
abbrev pub trip : Home → ℕ
trip of = length (fetch_lines 30 of) + length (put_lines of)

abbrev pub repays : Home → ℤ → ℕ
repays of words = length (repay_lines of words)

trip_lines : Home → ℤ → List Line
trip_lines of words = fetch_lines 30 of ++ (advance_lines (register_of 30 of) (bytes words) ++ put_lines of)

trip_length : (of : Home) (words : ℤ)
    → length (trip_lines of words) ≡ trip of + length (advance_lines (register_of 30 of) (bytes words))
unfolding trip_lines
trip_length of words =
    let one = length-append (fetch_lines 30 of) (advance_lines (register_of 30 of) (bytes words) ++ put_lines of) in
    let two = length-append (advance_lines (register_of 30 of) (bytes words)) (put_lines of) in
    omega (arith, one, two)

repays_by : (of : Home) (words : ℤ) (nothing : Bool)
    → length (if nothing then [] else trip_lines of words) ≤ trip of + length (advance_lines (register_of 30 of) (bytes words))
repays_by of words true = omega arith
repays_by of words false = omega (arith, trip_length of words)

repays_most : (of : Home) (words : ℤ) → repays of words ≤ trip of + length (advance_lines (register_of 30 of) (bytes words))
unfolding trip_lines
repays_most of words = repays_by of words (int_eq words (pos 0))

pub repays_few : (of : Home) (words : ℤ) → repays of words ≤ trip of + length (constant_lines 31 (bytes words)) + 1
repays_few of words =
    omega (arith, repays_most of words, advance_few (register_of 30 of) (bytes words))

pub repays_nine : (of : Home) (words : ℤ) → repays of words ≤ trip of + 9
repays_nine of words = omega (arith, repays_few of words, constants_most 31 (bytes words))

repays_all : (of : Home) (words : ℤ) → int_eq words (pos 0) ≡ false
    → repays of words ≡ trip of + length (advance_lines (register_of 30 of) (bytes words))
unfolding trip_lines
repays_all of words test = let all = trip_length of words in rw test all

pub repays_some : (of : Home) (words : ℤ) → int_eq words (pos 0) ≡ false → trip of + 1 ≤ repays of words
repays_some of words test =
    omega (arith, repays_all of words test, advance_some (register_of 30 of) (bytes words))

nothing_owed : (words : ℤ) → int_eq words (pos 0) ≡ true → words ≡ pos 0
nothing_owed words test = (Decides-int_eq words (pos 0)).0 test

-- a home that owes some words and then more
walk_by : (of : Home) (owes words : ℤ) (nothing : Bool) → IsClose of → int_eq owes (pos 0) ≡ nothing
    → repays of (int_wrap w64 (owes +ℤ words)) ≤ repays of owes + (8 + length (constant_lines 31 words) + 2 * width of)
walk_by of owes words true close test =
    let sum : owes +ℤ words ≡ words = let none = nothing_owed owes test in omega (arith, ints, none) in
    let same : bytes (int_wrap w64 (owes +ℤ words)) ≡ bytes words = bytes_wrap (owes +ℤ words) ∙ ap bytes sum in
    let count = ap (λ n. length (constant_lines 31 n)) same in
    let few = repays_few of (int_wrap w64 (owes +ℤ words)) in
    let more = bytes_few 31 words in
    let fetch = fetch_wide 30 of close in
    let put = put_wide of close in
    omega (arith, count, few, more, fetch.once, put.once)
walk_by of owes words false close test =
    omega (arith, repays_nine of (int_wrap w64 (owes +ℤ words)), repays_some of owes test)

walk_repays : (of : Home) (owes words : ℤ) → IsClose of
    → repays of (int_wrap w64 (owes +ℤ words)) ≤ repays of owes + (8 + length (constant_lines 31 words) + 2 * width of)
walk_repays of owes words close = walk_by of owes words (int_eq owes (pos 0)) close refl

first_repays : (of : Home) (words : ℤ) → IsClose of → repays of words ≤ 8 + length (constant_lines 31 words) + 2 * width of
first_repays of words close =
    let few = repays_few of words in
    let more = bytes_few 31 words in
    let fetch = fetch_wide 30 of close in
    let put = put_wide of close in
    omega (arith, few, more, fetch.once, put.once)

-- ---- all that is owed

abbrev pub settles : Owed → ℕ
settles owed = length (settle_lines owed)

pub settles_more : (entry : Home × ℤ) (owed : Owed) → settles (entry ∷ owed) ≡ repays entry.0 entry.1 + settles owed
settles_more entry owed = length-append (repay_lines entry.0 entry.1) (settle_lines owed)

is_home_same : (one other : Home) → is_home one other ≡ true → one ≡ other
is_home_same (home.Register number) (home.Register other) h = ap home.Register (eqb-true number other h)
is_home_same (home.Spill number) (home.Spill other) h = ap home.Spill (eqb-true number other h)
is_home_same (home.Register number) (home.Spill other) h = absurd (false≢true h)
is_home_same (home.Spill number) (home.Register other) h = absurd (false≢true h)

walk_more : (entry : Home × ℤ) (owed more : Owed) (of : Home) (words : ℤ) (test : Bool) → IsClose of → is_home entry.0 of ≡ test
    → settles more ≤ settles owed + (8 + length (constant_lines 31 words) + 2 * width of)
    → settles (if test then (entry.0, int_wrap w64 (entry.1 +ℤ words)) ∷ owed else entry ∷ more)
    ≤ settles (entry ∷ owed) + (8 + length (constant_lines 31 words) + 2 * width of)
walk_more entry owed more of words true close test rest =
    let own = is_home_same entry.0 of test in
    let walked : repays entry.0 (int_wrap w64 (entry.1 +ℤ words))
    ≤ repays entry.0 entry.1 + (8 + length (constant_lines 31 words) + 2 * width of) =
    rw own (walk_repays of entry.1 words close) in
    omega (arith, walked, settles_more entry owed, settles_more (entry.0, int_wrap w64 (entry.1 +ℤ words)) owed)
walk_more entry owed more of words false close test rest =
    omega (arith, rest, settles_more entry owed, settles_more entry more)

pub walk_settles : (owed : Owed) (of : Home) (words : ℤ) → IsClose of
    → settles (with_walk owed of words) ≤ settles owed + (8 + length (constant_lines 31 words) + 2 * width of)
walk_settles [] of words close =
    let first = first_repays of words close in omega (arith, first, settles_more (of, words) [])
walk_settles (entry ∷ owed) of words close =
    walk_more entry owed (with_walk owed of words) of words (is_home entry.0 of) close refl (walk_settles owed of words close)

-- what one home owes, entry by entry
abbrev own_lines : Owed → Home → ℕ
own_lines [] of = 0
own_lines (entry ∷ owed) of = if is_home entry.0 of then repays entry.0 entry.1 + own_lines owed of else own_lines owed of

without_by : (entry : Home × ℤ) (owed : Owed) (of : Home) (test : Bool)
    → (settles (without owed of) + own_lines owed of ≡ settles owed)
    → settles (if test then without owed of else entry ∷ without owed of)
    + (if test then repays entry.0 entry.1 + own_lines owed of else own_lines owed of) ≡ settles (entry ∷ owed)
without_by entry owed of true rest = omega (arith, rest, settles_more entry owed)
without_by entry owed of false rest = omega (arith, rest, settles_more entry owed, settles_more entry (without owed of))

without_own : (owed : Owed) (of : Home) → settles (without owed of) + own_lines owed of ≡ settles owed
without_own [] of = omega arith
without_own (entry ∷ owed) of = without_by entry owed of (is_home entry.0 of) (without_own owed of)

pub without_settles : (owed : Owed) (of : Home) → settles (without owed of) ≤ settles owed
without_settles owed of = omega (arith, without_own owed of)

-- what wraps to a number that is not 0 is not 0
wraps-some : (z : ℤ) → int_eq (int_wrap w64 z) (pos 0) ≡ false → int_eq z (pos 0) ≡ false
wraps-some z h = by (int_eq z (pos 0)) refl
  where
    by : (b : Bool) → int_eq z (pos 0) ≡ b → b ≡ false
    by true e =
        let none : int_eq (int_wrap w64 z) (pos 0) ≡ true =
        (Decides-int_eq (int_wrap w64 z) (pos 0)).1 (ap (int_wrap w64) (nothing_owed z e) ∙ zero-wraps) in
        absurd (false≢true (sym h ∙ none))
    by false e = refl

-- one that owes has lines
owes_by : (entry : Home × ℤ) (of : Home) (rest : ℤ) (own : ℕ) (test nothing : Bool) → is_home entry.0 of ≡ test
    → int_eq entry.1 (pos 0) ≡ nothing
    → (int_eq rest (pos 0) ≡ false → trip of + 1 ≤ own)
    → int_eq (if test then int_wrap w64 (entry.1 +ℤ rest) else rest) (pos 0) ≡ false
    → trip of + 1 ≤ (if test then repays entry.0 entry.1 + own else own)
owes_by entry of rest own true true same none some h =
    let sum : entry.1 +ℤ rest ≡ rest = let no = nothing_owed entry.1 none in omega (arith, ints, no) in
    let left : int_eq rest (pos 0) ≡ false = ap (λ z. int_eq z (pos 0)) (sym sum) ∙ wraps-some (entry.1 +ℤ rest) h in
    omega (arith, some left)
owes_by entry of rest own true false same much some h =
    let lines : trip of + 1 ≤ repays entry.0 entry.1 = rw (is_home_same entry.0 of same) (repays_some of entry.1 much) in
    omega (arith, lines)
owes_by entry of rest own false nothing other none some h = some h

owes_some : (owed : Owed) (of : Home) → int_eq (owed_at owed of) (pos 0) ≡ false → trip of + 1 ≤ own_lines owed of
owes_some [] of h = absurd (false≢true (sym h ∙ (Decides-int_eq (pos 0) (pos 0)).1 refl))
owes_some (entry ∷ owed) of h =
    owes_by entry of (owed_at owed of) (own_lines owed of) (is_home entry.0 of) (int_eq entry.1 (pos 0)) refl refl (owes_some owed of) h

-- to repay all at once takes at most seven lines more
both_repay : (of : Home) (first rest : ℤ) (own : ℕ) (none left : Bool) → int_eq first (pos 0) ≡ none → int_eq rest (pos 0) ≡ left
    → (int_eq rest (pos 0) ≡ false → trip of + 1 ≤ own) → repays of rest ≤ own + 7
    → repays of (first +ℤ rest) ≤ repays of first + own + 7
both_repay of first rest own true left p q some few =
    let sum : first +ℤ rest ≡ rest = let no = nothing_owed first p in omega (arith, ints, no) in
    let same = ap (repays of) sum in
    omega (arith, same, few)
both_repay of first rest own false true p q some few =
    let sum : first +ℤ rest ≡ first = let no = nothing_owed rest q in omega (arith, ints, no) in
    let same = ap (repays of) sum in
    omega (arith, same)
both_repay of first rest own false false p q some few =
    omega (arith, repays_nine of (first +ℤ rest), repays_some of first p, some q)

-- what wraps takes no more lines
wrapped_repays : (of : Home) (words : ℤ) → repays of (int_wrap w64 words) ≤ repays of words
wrapped_repays of words = by (int_eq words (pos 0)) refl
  where
    by : (b : Bool) → int_eq words (pos 0) ≡ b → repays of (int_wrap w64 words) ≤ repays of words
    by true e =
        let none = nothing_owed words e in
        let same = ap (repays of) (ap (int_wrap w64) none ∙ zero-wraps ∙ sym none) in
        omega (arith, same)
    by false e =
        let count = ap (λ n. length (advance_lines (register_of 30 of) n)) (bytes_wrap words) in
        omega (arith, repays_most of (int_wrap w64 words), repays_all of words e, count)

once_by : (entry : Home × ℤ) (of : Home) (rest : ℤ) (own : ℕ) (test : Bool) → is_home entry.0 of ≡ test
    → (int_eq rest (pos 0) ≡ false → trip of + 1 ≤ own) → repays of rest ≤ own + 7
    → repays of (if test then int_wrap w64 (entry.1 +ℤ rest) else rest) ≤ (if test then repays entry.0 entry.1 + own else own) + 7
once_by entry of rest own true same some few =
    let both = both_repay of entry.1 rest own (int_eq entry.1 (pos 0)) (int_eq rest (pos 0)) refl refl some few in
    rw (is_home_same entry.0 of same) (omega (arith, both, wrapped_repays of (entry.1 +ℤ rest)))
once_by entry of rest own false other some few = few

no_repay : (of : Home) → repays of (pos 0) ≤ 7
no_repay of = omega arith

once_repays : (owed : Owed) (of : Home) → repays of (owed_at owed of) ≤ own_lines owed of + 7
once_repays [] of = no_repay of
once_repays (entry ∷ owed) of =
    once_by entry of (owed_at owed of) (own_lines owed of) (is_home entry.0 of) refl (owes_some owed of) (once_repays owed of)

near_by : (owed : Owed) (of : Home) (near : Bool)
    → length (if near then [] else repay_lines of (owed_at owed of)) + settles (if near then owed else without owed of) ≤ settles owed + 7
near_by owed of true = omega arith
near_by owed of false = omega (arith, once_repays owed of, without_own owed of)

pub near_settles : (owed : Owed) (of : Home) → length (near_lines owed of) + settles (near_owed owed of) ≤ settles owed + 7
near_settles owed of = near_by owed of (is_offset (owed_at owed of))
