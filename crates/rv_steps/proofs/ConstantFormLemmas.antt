-- The lines of a constant: which they are, how many, and that they fit their forms.
use Rattle.std.proofs.Common.{◌≡◌, ℕ, ◌+◌, ◌*◌, ◌^◌, ◌<◌, ◌≤◌, zero, suc, Bool, true, false, List, [], ◌∷◌, ◌++◌, length, ℤ, pos, negsuc, refl, arith, length-append}
use Rattle.std.proofs.Math.Nat.{pow-suc}
use Rattle.std.proofs.lemmas.Bool.Decides.{nat_tests}
use Rattle.std.proofs.lemmas.Int.{ints}
use Rattle.std.proofs.lemmas.List.Folds.{list_all-append}
use Rattle.std.specs.List.{list_all}
use Rattle.std.specs.Prelude.{FitsSigned, IsTrue, if◌then◌else◌, nat_lt, unsigned_abs, ◌==◌}
use Rattle.std.specs.Int.{w32, w64}
use Rattle.rv_line.specs.Fits.{FitLines, IsImmediate}
use Rattle.rv_line.specs.declared.line.Imm.{Imm}
use Rattle.rv_line.specs.declared.line.Imm.TheVariants.{Addi, Addiw, Slli}
use Rattle.rv_line.specs.declared.line.Line.{Line}
use Rattle.rv_line.specs.declared.line.Line.TheVariants.{Imm as ImmLine, Lui}
use Rattle.rv_steps.specs.Constants.{constant_lines, is_signed_below, lower_of, shift_lines, shifted_lines, short_lines, upper_of}
use Rattle.rv_steps.specs.Good.{is_kept}
use Rattle.rv_steps.specs.Kinds.{is_base, is_free, written}
use Rattle.rv_steps.specs.Wrapped.{residue}
use Rattle.rv_steps.proofs.ConstantPartLemmas.{lower-small, residue-below, upper-below}
use Rattle.rv_steps.proofs.PieceLemmas.{piece-fits}
use Rattle.rv_steps.proofs.ConstantLemmas.{fits-most, most_at}

-- ---- which lines

pub one-line : (to : ℕ) (value : ℤ) → is_signed_below 2048 value ≡ true → constant_lines to value ≡ ImmLine Addi to 0 value ∷ []
unfolding shifted_lines
one-line to value small =
    let also : is_signed_below (2 ^ 31) value ≡ true = more value small in
    rw (also, small) refl
  where
    more : (value : ℤ) → is_signed_below 2048 value ≡ true → is_signed_below (2 ^ 31) value ≡ true
    more (pos n) h = grind (arith, nat_tests)
    more (negsuc n) h = grind (arith, nat_tests)

pub two-lines : (to : ℕ) (value : ℤ) → is_signed_below 2048 value ≡ false → is_signed_below (2 ^ 31) value ≡ true → constant_lines to value ≡ Lui to (residue 1048576 (upper_of value)) ∷ ImmLine Addiw to to (lower_of value) ∷ []
unfolding shifted_lines
two-lines to value large fits = rw (fits, large) refl

-- a level more changes nothing where there are enough
not-wide : (value : ℤ) → unsigned_abs value ≤ 2 ^ 27 → is_signed_below (2 ^ 31) value ≡ true
not-wide (pos n) h = grind (arith, nat_tests)
not-wide (negsuc n) h = grind (arith, nat_tests)

enough : (levels to : ℕ) (value : ℤ) → unsigned_abs value ≤ most_at levels → shifted_lines (suc levels) to value ≡ shifted_lines levels to value
unfolding shifted_lines
enough zero to value small = rw (not-wide value (omega arith)) refl
enough (suc levels) to value small =
    let power = pow-suc 4096 levels in
    rw (enough levels to (upper_of value) (upper-below value (most_at levels) (omega arith))) refl

pub more-lines : (to : ℕ) (value : ℤ) → is_signed_below (2 ^ 31) value ≡ false → FitsSigned w64 value → constant_lines to value ≡ constant_lines to (upper_of value) ++ shift_lines to value
unfolding shifted_lines
more-lines to value wide fits =
    let upper = upper-below value (most_at 2) (fits-most value fits) in
    rw (wide, enough 2 to (upper_of value) upper) refl

-- ---- how many

-- what holds of both choices
either : (P : List Line → Type 0) (b : Bool) (x y : List Line) → P x → P y → P (if b then x else y)
either P true x y p q = p
either P false x y p q = q

few-short : (to : ℕ) (value : ℤ) → length (short_lines to value) ≤ 2
few-short to value = either (λ xs. length xs ≤ 2) (is_signed_below 2048 value) _ _ (omega arith) (omega arith)

few-shifted : (levels to : ℕ) (value : ℤ) → length (shifted_lines levels to value) ≤ 2 * levels + 2
unfolding shifted_lines
few-shifted zero to value = few-short to value
few-shifted (suc levels) to value =
    let short = few-short to value in
    let few = few-shifted levels to (upper_of value) in
    either (λ xs. length xs ≤ 2 * suc levels + 2) (is_signed_below (2 ^ 31) value) _ _ (omega arith)
    (omega (arith, length-append (shifted_lines levels to (upper_of value)) (shift_lines to value)))

pub few-lines : (to : ℕ) (value : ℤ) → length (constant_lines to value) ≤ 8
few-lines to value = few-shifted 3 to value

fits-below : (value : ℤ) → FitsSigned w32 value → is_signed_below (2 ^ 31) value ≡ true
fits-below (pos n) fits = let h : n < 2 ^ 31 = fits.sfits in grind (arith, nat_tests)
fits-below (negsuc n) fits = let h : n < 2 ^ 31 = fits.sfits in grind (arith, nat_tests)

pub few-short-lines : (to : ℕ) (value : ℤ) → FitsSigned w32 value → length (constant_lines to value) ≤ 2
unfolding shifted_lines
few-short-lines to value fits = rw (fits-below value fits) (few-short to value)

-- ---- that they fit, and what they are

small-below : (value : ℤ) → is_signed_below 2048 value ≡ true → IsImmediate value
small-below (pos n) h = let b : n < 2048 = grind (arith, nat_tests) in record { low = omega (arith, ints); high = omega (arith, ints) }
small-below (negsuc n) h = let b : n < 2048 = grind (arith, nat_tests) in record { low = omega (arith, ints); high = omega (arith, ints) }

module _ (count to : ℕ) (register : to < 32) where
  fit-short : (b : Bool) (at : ℕ) (value : ℤ) → is_signed_below 2048 value ≡ b → FitLines count at (short_lines to value)
  fit-short true at value test = rw test (record { to = register; from = omega arith; imm = small-below value test }, tt)
  fit-short false at value test =
      let b = residue-below (upper_of value) in
      rw test (record { to = register; imm = omega arith }, (record { to = register; from = register; imm = lower-small value }, tt))

  fit-shift : (at : ℕ) (value : ℤ) → FitLines count at (shift_lines to value)
  fit-shift at value = (
    record { to = register; from = register; imm = record { low = omega (arith, ints); high = omega (arith, ints) } },
    (record { to = register; from = register; imm = lower-small value }, tt),
  )

  pub fit-shifted : (levels at : ℕ) (value : ℤ) → FitLines count at (shifted_lines levels to value)
  unfolding shifted_lines
  fit-shifted zero at value = fit-short (is_signed_below 2048 value) at value refl
  fit-shifted (suc levels) at value =
      let upper = fit-shifted levels at (upper_of value) in
      either (λ xs. FitLines count at xs) (is_signed_below (2 ^ 31) value) _ _ (fit-short (is_signed_below 2048 value) at value refl)
      (piece-fits count at (shifted_lines levels to (upper_of value)) (shift_lines to value) upper (fit-shift (at + length (shifted_lines levels to (upper_of value))) value))

-- a test that holds of each form that sets the register holds of all lines
module _ (to : ℕ) (test : Line → Bool) (with_immediate : (code : Imm) (from : ℕ) (imm : ℤ) → test (ImmLine code to from imm) ≡ true) (upper : (imm : ℕ) → test (Lui to imm) ≡ true) where
  all-short : (value : ℤ) → list_all test (short_lines to value) ≡ true
  all-short value =
      either (λ xs. list_all test xs ≡ true) (is_signed_below 2048 value) _ _ (rw (with_immediate Addi 0 value) refl)
      (rw (upper (residue 1048576 (upper_of value)), with_immediate Addiw to (lower_of value)) refl)

  pub all-shifted : (levels : ℕ) (value : ℤ) → list_all test (shifted_lines levels to value) ≡ true
  unfolding shifted_lines
  all-shifted zero value = all-short value
  all-shifted (suc levels) value =
      let front = all-shifted levels (upper_of value) in
      either (λ xs. list_all test xs ≡ true) (is_signed_below (2 ^ 31) value) _ _ (all-short value)
      (rw (list_all-append test (shifted_lines levels to (upper_of value)) (shift_lines to value), front, with_immediate Slli to (pos 12), with_immediate Addi to (lower_of value)) refl)

pub all-free : (to : ℕ) (value : ℤ) → to < 32 → is_kept to ≡ false → IsTrue (list_all is_free (constant_lines to value))
all-free to value register free =
    let below : nat_lt to 32 ≡ true = grind (arith, nat_tests) in
    all-shifted to is_free (λ code from imm. rw (below, free) refl) (λ imm. rw (below, free) refl) 3 value

pub all-base : (to : ℕ) (value : ℤ) → IsTrue (list_all is_base (constant_lines to value))
all-base to value = all-shifted to is_base (λ code from imm. refl) (λ imm. refl) 3 value

pub all-written : (to : ℕ) (value : ℤ) → IsTrue (list_all (λ line. written line == to) (constant_lines to value))
all-written to value =
    let same : (to == to) ≡ true = grind (arith, nat_tests) in
    all-shifted to (λ line. written line == to) (λ code from imm. same) (λ imm. same) 3 value
