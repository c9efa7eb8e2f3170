-- Steps at a line, and at an address that is that of no line.
use Rattle.std.proofs.Common.{◌≡◌, ℕ, zero, suc, ◌+◌, ◌<◌, ◌≤◌, Bool, true, false, List, [], ◌∷◌, length, None, refl, sym, get_or, subst, arith, nat_le}
use Rattle.std.proofs.lemmas.Bool.Decides.{nat_tests}
use Rattle.std.specs.Prelude.{slice_get, if◌then◌else◌, ◌==◌}
use Rattle.rv_line.specs.Fits.{FitLines, FitsLine}
use Rattle.rv_line.specs.declared.line.Line.{Line}
use Rattle.rv_steps.specs.Machine.{Config, address_of, number_at, line_at, Goes, Halts, OffText, next_step}
use Rattle.rv_steps.specs.Stops.{config_after, Reaches, Stops}
use Rattle.rv_machine.specs.Flows.{IsOff}
use Rattle.rv_machine.specs.Views.{end_of}
use Rattle.rv_machine.specs.declared.machine.End.{End}

pub reaches_none : (lines : List Line) (base : ℕ) (c : Config) → Reaches lines base 0 c c
unfolding config_after
reaches_none lines base c = record { reached = refl }

pub reaches_one : (lines : List Line) (base : ℕ) (c d : Config) → next_step lines base c ≡ Goes d → Reaches lines base 1 c d
unfolding config_after
reaches_one lines base c d h = record { reached = rw h refl }

-- lines that fit their forms, one by one
fits_from : (count at k : ℕ) (lines : List Line) (other : Line) → FitLines count at lines → k < length lines → FitsLine count (at + k) (get_or lines k other)
fits_from count at k [] other fits within = absurd (omega arith)
fits_from count at zero (line ∷ lines) other fits within = subst (λ (j : ℕ). FitsLine count j line) (omega arith) fits.0
fits_from count at (suc k) (line ∷ lines) other fits within =
    subst (λ (j : ℕ). FitsLine count j (get_or lines k other)) (omega arith) (fits_from count (at + 1) k lines other fits.1 (omega arith))

pub fits_at : (count k : ℕ) (lines : List Line) (other : Line) → FitLines count 0 lines → k < length lines → FitsLine count k (get_or lines k other)
fits_at count k lines other fits within =
    subst (λ (j : ℕ). FitsLine count j (get_or lines k other)) (omega arith) (fits_from count 0 k lines other fits within)

get_beyond : (lines : List Line) (k : ℕ) → length lines ≤ k → slice_get lines k ≡ None
get_beyond [] k h = refl
get_beyond (line ∷ lines) zero h = absurd (omega arith)
get_beyond (line ∷ lines) (suc k) h = get_beyond lines k (omega arith)

-- at an address that is not that of a line there is none
off-line : (lines : List Line) (pc : ℕ) (b : Bool) → b ≡ (address_of (number_at pc) == pc) → IsOff (length lines) pc → (if b then slice_get lines (number_at pc) else None) ≡ None
off-line lines pc true e off = get_beyond lines (number_at pc) (beyond (nat_le (length lines) (number_at pc)) refl)
  where
    at : address_of (number_at pc) ≡ pc
    at = grind (arith, nat_tests)

    beyond : (b : Bool) → b ≡ nat_le (length lines) (number_at pc) → length lines ≤ number_at pc
    beyond true e = grind (arith, nat_tests)
    beyond false e = absurd (off (number_at pc) (grind (arith, nat_tests)) (sym at))
off-line lines pc false e off = refl

not_end : (lines : List Line) (pc : ℕ) (b : Bool) → b ≡ (pc == address_of (length lines)) → IsOff (length lines) pc → b ≡ false
not_end lines pc true e off = absurd (off (length lines) (omega arith) (grind (arith, nat_tests)))
not_end lines pc false e off = refl

off_text : (lines : List Line) (base : ℕ) (c : Config) → IsOff (length lines) c.pc → next_step lines base c ≡ Halts (OffText c.pc)
unfolding next_step line_at
off_text lines base c off =
    let end = not_end lines c.pc (c.pc == address_of (length lines)) refl off in
    let line = off-line lines c.pc (address_of (number_at c.pc) == c.pc) refl off in
    rw (end, line) refl

-- how a run ends at such an address: the budget is tested first
pub stops_off : (lines : List Line) (base budget n : ℕ) (c d : Config) → n ≤ budget → Reaches lines base n c d → IsOff (length lines) d.pc → (end : End) → end ≡ (if n == budget then End.Budget else End.OffText d.pc) → Stops lines base budget c (end_of end) d
stops_off lines base budget n c d within reached off end is = rw is (chosen (n == budget) refl)
  where
    chosen : (b : Bool) → b ≡ (n == budget) → Stops lines base budget c (end_of (if b then End.Budget else End.OffText d.pc)) d
    chosen true e = let same : n ≡ budget = grind (arith, nat_tests) in (subst (λ (m : ℕ). Reaches lines base m c d) same reached, off (length lines) (omega arith))
    chosen false e = record { steps = n; within = grind (arith, nat_tests); reaches = reached; stopped = off_text lines base d off }
