-- What homes owe, and whole numbers that are the same as words.
use Rattle.std.specs.Prelude.{◌≡◌, ◌≢◌, ℕ, ◌-◌, ◌%◌, ◌^◌, ◌<◌, Bool, true, false, ℤ, pos, negsuc, ◌+ℤ◌, ◌-ℤ◌, ◌*ℤ◌, [], ◌∷◌, if◌then◌else◌}
use Rattle.std.specs.Prelude.{FitsSigned}
use Rattle.std.specs.Int.{cast_signed, cast_unsigned, int_wrap, w64}
use Rattle.std.proofs.Common.{refl, sym, ap, ◌∙◌, arith}
use Rattle.std.proofs.lemmas.Bool.Decides.{nat_tests}
use Rattle.std.proofs.lemmas.Int.{ints, of_z-to_z, int_wrap_fits, int_wrap-add_left, int_wrap-add_right, int_wrap-add_same}
use Rattle.std.proofs.lemmas.Int.{int_wrap-mul_right, int_wrap-sub_right, SFits-int_wrap}
use Rattle.loop_ir.specs.Running.{Key, Register, Pointer, is_key}
use Rattle.register_map.specs.declared.home.Home.{Home}
use Rattle.register_map.specs.declared.home.Home.TheVariants as home
use Rattle.rv_steps.specs.Wrapped.{wrapped}
use Rattle.rv_emit.specs.Walks.{Owed, bytes, is_home, owed_at, with_walk, without}

-- ---- numbers that wrap

pub wrapped-below : (z : ℤ) → wrapped z < 2 ^ 64
wrapped-below (pos n) = omega arith
wrapped-below (negsuc n) = omega arith

int_wrap-is : (z : ℤ) → int_wrap w64 z ≡ cast_signed w64 (wrapped z)
unfolding int_wrap
int_wrap-is (pos n) = refl
int_wrap-is (negsuc n) = let e : 2 ^ 64 - 1 - n % 2 ^ 64 ≡ wrapped (negsuc n) = omega arith in ap (cast_signed w64) e

word-of-wrap : (z : ℤ) → cast_unsigned w64 (int_wrap w64 z) ≡ wrapped z
word-of-wrap z = ap (cast_unsigned w64) (int_wrap-is z) ∙ of_z-to_z w64 (wrapped z) (wrapped-below z)

pub same-words : (x y : ℤ) → int_wrap w64 x ≡ int_wrap w64 y → wrapped x ≡ wrapped y
same-words x y e = sym (word-of-wrap x) ∙ ap (cast_unsigned w64) e ∙ word-of-wrap y

pub same-wraps : (x y : ℤ) → wrapped x ≡ wrapped y → int_wrap w64 x ≡ int_wrap w64 y
same-wraps x y e = int_wrap-is x ∙ ap (cast_signed w64) e ∙ sym (int_wrap-is y)

pub wraps-again : (z : ℤ) → int_wrap w64 (int_wrap w64 z) ≡ int_wrap w64 z
wraps-again z = int_wrap_fits w64 (int_wrap w64 z) (SFits-int_wrap w64 z)

pub wrapped-wrap : (z : ℤ) → wrapped (int_wrap w64 z) ≡ wrapped z
wrapped-wrap z = same-words (int_wrap w64 z) z (wraps-again z)

-- a sum of which one number wrapped before
pub sum-wraps : (x y z : ℤ) → wrapped x ≡ wrapped y → wrapped (x +ℤ z) ≡ wrapped (y +ℤ z)
sum-wraps x y z e = same-words (x +ℤ z) (y +ℤ z) (int_wrap-add_same w64 x y z (same-wraps x y e))

pub sum-bytes : (x words : ℤ) → wrapped (x +ℤ bytes words) ≡ wrapped (x +ℤ pos 8 *ℤ words)
sum-bytes x words = same-words (x +ℤ bytes words) (x +ℤ pos 8 *ℤ words) (int_wrap-add_right w64 x (pos 8 *ℤ words))

pub bytes-fit : (words : ℤ) → FitsSigned w64 (bytes words)
bytes-fit words = SFits-int_wrap w64 (pos 8 *ℤ words)

pub wrapped-bytes : (words : ℤ) → wrapped (bytes words) ≡ wrapped (pos 8 *ℤ words)
wrapped-bytes words = wrapped-wrap (pos 8 *ℤ words)

-- so many words less, where two numbers of words are the same
pub words-less : (x y z : ℤ) → int_wrap w64 y ≡ int_wrap w64 z → wrapped (x -ℤ pos 8 *ℤ y) ≡ wrapped (x -ℤ pos 8 *ℤ z)
words-less x y z e =
    same-words (x -ℤ pos 8 *ℤ y) (x -ℤ pos 8 *ℤ z)
    (sym (int_wrap-sub_right w64 x (pos 8 *ℤ y))
    ∙ ap (λ n. int_wrap w64 (x -ℤ n)) (sym (int_wrap-mul_right w64 (pos 8) y) ∙ ap (λ n. int_wrap w64 (pos 8 *ℤ n)) e
    ∙ int_wrap-mul_right w64 (pos 8) z)
    ∙ int_wrap-sub_right w64 x (pos 8 *ℤ z))

-- a place that walks on while its home owes as many words more
pub walks-on : (base spill held words owed more : ℤ) → int_wrap w64 more ≡ int_wrap w64 (owed +ℤ words)
    → wrapped (base +ℤ pos 8 *ℤ (spill +ℤ (held -ℤ owed))) ≡ wrapped (base +ℤ pos 8 *ℤ (spill +ℤ ((held +ℤ words) -ℤ more)))
walks-on base spill held words owed more e =
    let all = base +ℤ pos 8 *ℤ (spill +ℤ (held +ℤ words)) in
    let one : base +ℤ pos 8 *ℤ (spill +ℤ (held -ℤ owed)) ≡ all -ℤ pos 8 *ℤ (owed +ℤ words) = omega (arith, ints) in
    let other : all -ℤ pos 8 *ℤ more ≡ base +ℤ pos 8 *ℤ (spill +ℤ ((held +ℤ words) -ℤ more)) = omega (arith, ints) in
    ap wrapped one ∙ words-less all (owed +ℤ words) more (sym e) ∙ ap wrapped other

-- words and the signed numbers that they stand for
pub wrapped-signed : (word : ℕ) → word < 2 ^ 64 → wrapped (cast_signed w64 word) ≡ word
wrapped-signed word small =
    let same : wrapped (pos word) ≡ word = omega arith in
    ap wrapped (sym (int_wrap-is (pos word) ∙ ap (cast_signed w64) same)) ∙ wrapped-wrap (pos word) ∙ same

pub signed-wrapped : (z : ℤ) → FitsSigned w64 z → cast_signed w64 (wrapped z) ≡ z
signed-wrapped z fits = sym (int_wrap-is z) ∙ int_wrap_fits w64 z fits

-- ---- keys

pub key-same : (key : Key) → is_key key key ≡ true
key-same (Register number) = grind (arith, nat_tests)
key-same (Pointer number) = grind (arith, nat_tests)

pub key-is : (key other : Key) → is_key key other ≡ true → key ≡ other
key-is (Register number) (Register other) h = let e : number ≡ other = grind (arith, nat_tests) in ap Register e
key-is (Register number) (Pointer other) h = cc
key-is (Pointer number) (Register other) h = cc
key-is (Pointer number) (Pointer other) h = let e : number ≡ other = grind (arith, nat_tests) in ap Pointer e

-- ---- homes

pub home-same : (one : Home) → is_home one one ≡ true
home-same (home.Register number) = grind (arith, nat_tests)
home-same (home.Spill word) = grind (arith, nat_tests)

pub home-is : (one other : Home) → is_home one other ≡ true → one ≡ other
home-is (home.Register number) (home.Register other) h = let e : number ≡ other = grind (arith, nat_tests) in ap home.Register e
home-is (home.Register number) (home.Spill other) h = cc
home-is (home.Spill word) (home.Register other) h = cc
home-is (home.Spill word) (home.Spill other) h = let e : word ≡ other = grind (arith, nat_tests) in ap home.Spill e

pub home-apart : (one other : Home) → one ≢ other → is_home one other ≡ false
home-apart one other apart = by (is_home one other) refl
  where
    by : (b : Bool) → is_home one other ≡ b → b ≡ false
    by true e = absurd (apart (home-is one other e))
    by false e = refl

-- ---- what homes owe

pub zero-wraps : int_wrap w64 (pos 0) ≡ pos 0
unfolding int_wrap
zero-wraps = refl

-- a number of 64 signed bits
pub owed-wraps : (owed : Owed) (home : Home) → int_wrap w64 (owed_at owed home) ≡ owed_at owed home
owed-wraps [] home = zero-wraps
owed-wraps (first ∷ others) home = by (is_home first.0 home) (owed-wraps others home)
  where
    by : (b : Bool) → int_wrap w64 (owed_at others home) ≡ owed_at others home
        → int_wrap w64 (if b then int_wrap w64 (first.1 +ℤ owed_at others home) else owed_at others home)
        ≡ (if b then int_wrap w64 (first.1 +ℤ owed_at others home) else owed_at others home)
    by true rest = wraps-again (first.1 +ℤ owed_at others home)
    by false rest = rest

pub without-same : (owed : Owed) (one : Home) → owed_at (without owed one) one ≡ pos 0
without-same [] one = refl
without-same (first ∷ others) one = by (is_home first.0 one) refl (without-same others one)
  where
    by : (b : Bool) → is_home first.0 one ≡ b → owed_at (without others one) one ≡ pos 0
        → owed_at (if b then without others one else first ∷ without others one) one ≡ pos 0
    by true e rest = rest
    by false e rest = rw e rest

pub without-other : (owed : Owed) (one other : Home) → one ≢ other → owed_at (without owed one) other ≡ owed_at owed other
without-other [] one other apart = refl
without-other (first ∷ others) one other apart = by (is_home first.0 one) refl (without-other others one other apart)
  where
    by : (b : Bool) → is_home first.0 one ≡ b → owed_at (without others one) other ≡ owed_at others other
        → owed_at (if b then without others one else first ∷ without others one) other ≡ owed_at (first ∷ others) other
    by true e rest =
        let out : is_home first.0 other ≡ false = home-apart first.0 other (λ same. apart (sym (home-is first.0 one e) ∙ same)) in rw out
        rest
    by false e rest = ap (λ n. if is_home first.0 other then int_wrap w64 (first.1 +ℤ n) else n) rest

pub walk-same : (owed : Owed) (one : Home) (words : ℤ) → int_wrap w64 (owed_at (with_walk owed one words) one)
    ≡ int_wrap w64 (owed_at owed one +ℤ words)
walk-same [] one words =
    let sum : words +ℤ pos 0 ≡ pos 0 +ℤ words = omega (arith, ints) in
    rw (home-same one) (wraps-again (words +ℤ pos 0) ∙ ap (int_wrap w64) sum)
walk-same (first ∷ others) one words = by (is_home first.0 one) refl (walk-same others one words)
  where
    by : (b : Bool) → is_home first.0 one ≡ b → int_wrap w64 (owed_at (with_walk others one words) one)
        ≡ int_wrap w64 (owed_at others one +ℤ words)
        → int_wrap w64 (owed_at (if b then (first.0, int_wrap w64 (first.1 +ℤ words)) ∷ others else first ∷ with_walk others one words) one)
        ≡ int_wrap w64 ((if b then int_wrap w64 (first.1 +ℤ owed_at others one) else owed_at others one) +ℤ words)
    by true e rest =
        let sum : first.1 +ℤ words +ℤ owed_at others one ≡ first.1 +ℤ owed_at others one +ℤ words = omega (arith, ints) in
        rw e (wraps-again (int_wrap w64 (first.1 +ℤ words) +ℤ owed_at others one)
        ∙ int_wrap-add_left w64 (first.1 +ℤ words) (owed_at others one) ∙ ap (int_wrap w64) sum
        ∙ sym (int_wrap-add_left w64 (first.1 +ℤ owed_at others one) words))
    by false e rest = rw e rest

pub walk-other : (owed : Owed) (one : Home) (words : ℤ) (other : Home) → one ≢ other
    → owed_at (with_walk owed one words) other ≡ owed_at owed other
walk-other [] one words other apart = rw (home-apart one other apart) refl
walk-other (first ∷ others) one words other apart = by (is_home first.0 one) refl (walk-other others one words other apart)
  where
    by : (b : Bool) → is_home first.0 one ≡ b → owed_at (with_walk others one words) other ≡ owed_at others other
        → owed_at (if b then (first.0, int_wrap w64 (first.1 +ℤ words)) ∷ others else first ∷ with_walk others one words) other
        ≡ owed_at (first ∷ others) other
    by true e rest =
        let out : is_home first.0 other ≡ false = home-apart first.0 other (λ same. apart (sym (home-is first.0 one e) ∙ same)) in rw out
        refl
    by false e rest = ap (λ n. if is_home first.0 other then int_wrap w64 (first.1 +ℤ n) else n) rest
