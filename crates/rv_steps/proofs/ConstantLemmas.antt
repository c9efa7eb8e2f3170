-- Lines that set a register to a number: what they lead to, and how many they are.
use Rattle.std.proofs.Common.{◌≡◌, ℕ, ◌+◌, ◌*◌, ◌%◌, ◌^◌, ◌<◌, ◌≤◌, zero, suc, Bool, true, false, Some, List, [], ◌∷◌, ◌++◌, length, ℤ, pos, negsuc, refl, ap, ◌∙◌, arith, length-append}
use Rattle.std.proofs.Math.Nat.{pow-suc}
use Rattle.std.proofs.lemmas.Bool.Decides.{nat_tests}
use Rattle.std.proofs.lemmas.Int.{ints, fits_signed_from_abs}
use Rattle.std.specs.Prelude.{FitsSigned, slice_get, unsigned_abs, slice_set}
use Rattle.std.specs.Int.{w32, w64}
use Rattle.rv_line.specs.declared.line.Imm.TheVariants.{Addi, Addiw, Slli}
use Rattle.rv_line.specs.declared.line.Line.{Line}
use Rattle.rv_line.specs.declared.line.Line.TheVariants.{Imm as ImmLine, Lui}
use Rattle.rv_steps.specs.Accesses.{Leads}
use Rattle.rv_steps.specs.Constants.{constant_lines, is_signed_below, lower_of, shift_lines, shifted_lines, short_lines, upper_of}
use Rattle.rv_steps.specs.Effects.{immediate_value, upper_value, word_of}
use Rattle.rv_steps.specs.Machine.{Config, Goes, NoAccess, access_of, address_of, register_at, line_step, with_register, with_result}
use Rattle.rv_steps.specs.Pieces.{StandsAt}
use Rattle.rv_steps.specs.Wrapped.{residue, wrapped}
use Rattle.rv_steps.proofs.AccessLemmas.{leads-quiet, leads-none, leads-more}
use Rattle.rv_steps.proofs.ConstantPartLemmas.{shift-added, two-lines, upper-below}
use Rattle.rv_steps.proofs.MemoryLemmas.{length-with_register, register_at-zero, register_at-with_register_same}
use Rattle.rv_steps.proofs.PieceLemmas.{piece-back, piece-first, piece-front, piece-line}
use Rattle.rv_steps.proofs.WrappedLemmas.{word_of-wrapped, wrapped-below}

set_again : (xs : List ℕ) (i a b : ℕ) → slice_set (slice_set xs i a) i b ≡ slice_set xs i b
set_again [] i a b = refl
set_again (x ∷ xs) zero a b = refl
set_again (x ∷ xs) (suc i) a b = ap (λ (ys : List ℕ). x ∷ ys) (set_again xs i a b)

-- the last write to a register counts
with_register-again : (registers : List ℕ) (r a b : ℕ) → with_register (with_register registers r a) r b ≡ with_register registers r b
unfolding with_register
with_register-again registers zero a b = refl
with_register-again registers (suc r) a b = set_again registers (suc r) a b

-- what the tests say
pub below-fits : (bound : ℕ) (z : ℤ) → is_signed_below bound z ≡ true → unsigned_abs z ≤ bound
below-fits bound (pos n) h = grind (arith, nat_tests)
below-fits bound (negsuc n) h = grind (arith, nat_tests)

pub fits-32 : (z : ℤ) → is_signed_below (2 ^ 31) z ≡ true → FitsSigned w32 z
fits-32 (pos n) h = record { sfits = grind (arith, nat_tests) }
fits-32 (negsuc n) h = record { sfits = grind (arith, nat_tests) }

word-of-small : (z : ℤ) → unsigned_abs z ≤ 2048 → word_of z ≡ wrapped z
word-of-small z h = word_of-wrapped z (fits_signed_from_abs w64 z (omega arith))

-- how large a number is set with so many upper parts, at least
abbrev pub most_at : ℕ → ℕ
most_at levels = 2 ^ 27 * 4096 ^ levels

module _ (lines : List Line) (base to : ℕ) (some : 0 < to) where
  -- on to line k, with a word in the register
  set : Config → ℕ → ℕ → Config
  set c k word = record { registers = with_register c.registers to word; pc = address_of k; block = c.block }

  set-again : (c : Config) (j k a b : ℕ) → set (set c j a) k b ≡ set c k b
  unfolding set
  set-again c j k a b = rw (with_register-again c.registers to a b) refl

  -- a line that sets the register, and what follows it
  leads-set : (n k word : ℕ) (line : Line) (c e : Config) → slice_get lines k ≡ Some line → c.pc ≡ address_of k → access_of line c.registers ≡ NoAccess → line_step base k (Some line) c ≡ Goes (with_result c to word) → Leads lines base n (set c (k + 1) word) e [] → Leads lines base (suc n) c e []
  unfolding set
  leads-set n k word line c e there pc none goes more =
      let on : c.pc + 4 ≡ address_of (k + 1) = omega arith in
      leads-quiet lines base n k line c (set c (k + 1) word) e [] (record { at = pc; there = there }) none (goes ∙ rw on refl) more

  leads-one : (k : ℕ) (value : ℤ) (c : Config) → StandsAt lines k (ImmLine Addi to 0 value ∷ []) → unsigned_abs value ≤ 2048 → c.pc ≡ address_of k → Leads lines base 1 c (set c (k + 1) (wrapped value)) []
  leads-one k value c stands small pc =
      let b = wrapped-below value in
      let result : (register_at c.registers 0 + word_of value) % 2 ^ 64 ≡ wrapped value = rw (register_at-zero c.registers, word-of-small value small) (omega arith) in
      leads-set 0 k (wrapped value) (ImmLine Addi to 0 value) c _ (piece-first lines k _ [] stands) pc refl (ap (λ (word : ℕ). Goes (with_result c to word)) result) (leads-none lines base _)

  -- two lines, of which the second computes from what the first has set
  leads-two : (k a b : ℕ) (first second : Line) (c : Config) → StandsAt lines k (first ∷ second ∷ []) → c.pc ≡ address_of k → access_of first c.registers ≡ NoAccess → line_step base k (Some first) c ≡ Goes (with_result c to a) → access_of second (set c (k + 1) a).registers ≡ NoAccess → line_step base (k + 1) (Some second) (set c (k + 1) a) ≡ Goes (with_result (set c (k + 1) a) to b) → Leads lines base 2 c (set c (k + 2) b) []
  unfolding set
  leads-two k a b first second c stands pc none goes quiet on =
      let last : Leads lines base 1 (set c (k + 1) a) (set (set c (k + 1) a) (k + 1 + 1) b) [] =
      leads-set 0 (k + 1) b second (set c (k + 1) a) _ (piece-line lines k (first ∷ second ∷ []) 1 stands (omega arith)) refl quiet on (leads-none lines base _) in
      let two : k + 1 + 1 ≡ k + 2 = omega arith in
      leads-set 1 k a first c _ (piece-first lines k first _ stands) pc none goes (rw (set-again c (k + 1) (k + 1 + 1) a b, two) at last)

  leads-long : (k : ℕ) (value : ℤ) (c : Config) → StandsAt lines k (Lui to (residue 1048576 (upper_of value)) ∷ ImmLine Addiw to to (lower_of value) ∷ []) → to < length c.registers → FitsSigned w32 value → c.pc ≡ address_of k → Leads lines base 2 c (set c (k + 2) (wrapped value)) []
  unfolding set
  leads-long k value c stands there fits pc =
      let upper = upper_value (residue 1048576 (upper_of value)) in
      let held : register_at (with_register c.registers to upper) to ≡ upper = register_at-with_register_same c.registers to upper some there in
      let made : immediate_value Addiw (register_at (with_register c.registers to upper) to) (lower_of value) ≡ wrapped value = ap (λ (a : ℕ). immediate_value Addiw a (lower_of value)) held ∙ two-lines value fits in
      leads-two k upper (wrapped value) _ _ c stands pc refl refl refl (ap (λ (word : ℕ). Goes (with_result (set c (k + 1) upper) to word)) made)

  leads-short : (b : Bool) (k : ℕ) (value : ℤ) (c : Config) → is_signed_below 2048 value ≡ b → StandsAt lines k (short_lines to value) → to < length c.registers → FitsSigned w32 value → c.pc ≡ address_of k → Leads lines base (length (short_lines to value)) c (set c (k + length (short_lines to value)) (wrapped value)) []
  leads-short true k value c test stands there fits pc = rw test (leads-one k value c (rw test at stands) (below-fits 2048 value test) pc)
  leads-short false k value c test stands there fits pc = rw test (leads-long k value c (rw test at stands) there fits pc)

  -- the upper part stands in the register
  leads-shift : (k : ℕ) (value : ℤ) (c : Config) → StandsAt lines k (ImmLine Slli to to (pos 12) ∷ ImmLine Addi to to (lower_of value) ∷ []) → to < length c.registers → register_at c.registers to ≡ wrapped (upper_of value) → c.pc ≡ address_of k → Leads lines base 2 c (set c (k + 2) (wrapped value)) []
  unfolding set
  leads-shift k value c stands there held pc =
      let high = immediate_value Slli (wrapped (upper_of value)) (pos 12) in
      let again : register_at (with_register c.registers to high) to ≡ high = register_at-with_register_same c.registers to high some there in
      let made : immediate_value Addi (register_at (with_register c.registers to high) to) (lower_of value) ≡ wrapped value = ap (λ (a : ℕ). immediate_value Addi a (lower_of value)) again ∙ shift-added value in
      leads-two k high (wrapped value) _ _ c stands pc refl (ap (λ (a : ℕ). Goes (with_result c to (immediate_value Slli a (pos 12)))) held) refl (ap (λ (word : ℕ). Goes (with_result (set c (k + 1) high) to word)) made)

  module _ (levels k : ℕ) (value : ℤ) (c : Config) (there : to < length c.registers) (pc : c.pc ≡ address_of k) where
    -- what the lines of the upper part lead to
    upper_leads : Type 0
    upper_leads = StandsAt lines k (shifted_lines levels to (upper_of value)) → Leads lines base (length (shifted_lines levels to (upper_of value))) c (set c (k + length (shifted_lines levels to (upper_of value))) (wrapped (upper_of value))) []

    leads-wide : upper_leads → StandsAt lines k (shifted_lines levels to (upper_of value) ++ shift_lines to value) → Leads lines base (length (shifted_lines levels to (upper_of value) ++ shift_lines to value)) c (set c (k + length (shifted_lines levels to (upper_of value) ++ shift_lines to value)) (wrapped value)) []
    unfolding set upper_leads
    leads-wide more stands =
        let front = shifted_lines levels to (upper_of value) in
        let upper = wrapped (upper_of value) in
        let size : length (front ++ shift_lines to value) ≡ length front + 2 = length-append front (shift_lines to value) in
        let j = k + length front in
        let first = more (piece-front lines k front (shift_lines to value) stands) in
        let held : register_at (with_register c.registers to upper) to ≡ upper = register_at-with_register_same c.registers to upper some there in
        let second : Leads lines base 2 (set c j upper) (set (set c j upper) (j + 2) (wrapped value)) [] =
        leads-shift j value (set c j upper) (piece-back lines k front (shift_lines to value) stands) (omega (arith, length-with_register c.registers to upper)) held refl in
        let end : j + 2 ≡ k + (length front + 2) = omega arith in
        rw size (leads-more lines base (length front) 2 c (set c j upper) (set c (k + (length front + 2)) (wrapped value)) [] [] first (rw (set-again c j (j + 2) upper (wrapped value), end) at second))

    leads-levels : (b : Bool) → is_signed_below (2 ^ 31) value ≡ b → upper_leads → StandsAt lines k (shifted_lines (suc levels) to value) → Leads lines base (length (shifted_lines (suc levels) to value)) c (set c (k + length (shifted_lines (suc levels) to value)) (wrapped value)) []
    unfolding shifted_lines
    leads-levels true test more stands = rw test (leads-short (is_signed_below 2048 value) k value c refl (rw test at stands) there (fits-32 value test) pc)
    leads-levels false test more stands = rw test (leads-wide more (rw test at stands))

  leads-shifted : (levels k : ℕ) (value : ℤ) (c : Config) → unsigned_abs value ≤ most_at levels → StandsAt lines k (shifted_lines levels to value) → to < length c.registers → c.pc ≡ address_of k → Leads lines base (length (shifted_lines levels to value)) c (set c (k + length (shifted_lines levels to value)) (wrapped value)) []
  unfolding shifted_lines upper_leads
  leads-shifted zero k value c small stands there pc = leads-short (is_signed_below 2048 value) k value c refl stands there (fits_signed_from_abs w32 value (omega arith)) pc
  leads-shifted (suc levels) k value c small stands there pc =
      let power = pow-suc 4096 levels in
      let upper = upper-below value (most_at levels) (omega arith) in
      leads-levels levels k value c there pc (is_signed_below (2 ^ 31) value) refl (λ front. leads-shifted levels k (upper_of value) c upper front there pc) stands

-- the lines of a signed number of 64 bits
pub fits-most : (value : ℤ) → FitsSigned w64 value → unsigned_abs value ≤ most_at 3
fits-most value fits = omega (arith, ints)

pub constant-leads : (lines : List Line) (base k to : ℕ) (value : ℤ) (c : Config) → StandsAt lines k (constant_lines to value) → 0 < to → to < length c.registers → FitsSigned w64 value → c.pc ≡ address_of k → Leads lines base (length (constant_lines to value)) c (record { registers = with_register c.registers to (word_of value); pc = address_of (k + length (constant_lines to value)); block = c.block }) []
unfolding set
constant-leads lines base k to value c stands some there fits pc =
    rw (word_of-wrapped value fits) (leads-shifted lines base to some 3 k value c (fits-most value fits) stands there pc)
