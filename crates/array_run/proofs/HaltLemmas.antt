-- The machine stops at a line, where it does not leave the text.
use Rattle.std.proofs.Common.{◌≡◌, ℕ, ◌<◌, Bool, true, false, List, length, refl, sym, Some, None, Option}
use Rattle.std.proofs.lemmas.Option.{slice_get_within}
use Rattle.std.specs.Prelude.{slice_get, if◌then◌else◌, ◌==◌}
use Rattle.rv_line.specs.declared.line.Line.{Line}
use Rattle.rv_steps.specs.Machine.{Access, AtEnd, BadAccess, Config, Goes, Halts, Loads, NoAccess, OffText, Stop, Stores, Trap, access_of, address_of, effect, guarded_step, is_allowed, line_at, line_step, next_step, number_at}
use Rattle.rv_steps.specs.Stops.{Stops}
use Rattle.rv_machine.specs.Views.{end_of}
use Rattle.rv_machine.specs.declared.machine.End.{End as Answer}
use Rattle.rv_machine.specs.declared.machine.End.TheVariants as answer
use Rattle.array_run.specs.Ends.{IsAtLine}

-- the stop is at line k, or off the text
abbrev StopsAt : ℕ → Stop → Type 0
StopsAt k (OffText address) = Unit {0}
StopsAt k (Trap line) = line ≡ k
StopsAt k (BadAccess line address) = line ≡ k

refused_access : (b : Bool) (k at : ℕ) (d : Config) (stop : Stop) → (if b then Goes d else Halts (BadAccess k at)) ≡ Halts stop
    → StopsAt k stop
refused_access true k at d stop h = cc
refused_access false k at d (OffText address) h = tt
refused_access false k at d (Trap line) h = cc
refused_access false k at d (BadAccess line address) h = cc

access_stops : (base k : ℕ) (access : Access) (c d : Config) (stop : Stop) → guarded_step base k access c d ≡ Halts stop → StopsAt k stop
access_stops base k NoAccess c d stop h = cc
access_stops base k (Loads at size) c d stop h = refused_access (is_allowed base (length c.block) at size) k at d stop h
access_stops base k (Stores at size) c d stop h = refused_access (is_allowed base (length c.block) at size) k at d stop h

trap_stops : (k : ℕ) (stop : Stop) → Halts (Trap k) ≡ Halts stop → StopsAt k stop
trap_stops k (OffText address) h = tt
trap_stops k (Trap line) h = cc
trap_stops k (BadAccess line address) h = cc

line_stops : (base k : ℕ) (line : Line) (c : Config) (stop : Stop) → line_step base k (Some line) c ≡ Halts stop → StopsAt k stop
line_stops base k Line.Ecall c stop h = trap_stops k stop h
line_stops base k Line.Ebreak c stop h = trap_stops k stop h
line_stops base k line c stop h = access_stops base k (access_of line c.registers) c (effect base line c) stop h

abbrev StopsWithin : ℕ → Stop → Type 0
StopsWithin count (OffText address) = Unit {0}
StopsWithin count (Trap line) = line < count
StopsWithin count (BadAccess line address) = line < count

within_from : (k count : ℕ) (stop : Stop) → k < count → StopsAt k stop → StopsWithin count stop
within_from k count (OffText address) below at = tt
within_from k count (Trap line) below at = rw at below
within_from k count (BadAccess line address) below at = rw at below

off_stops : (count pc : ℕ) (stop : Stop) → Halts (OffText pc) ≡ Halts stop → StopsWithin count stop
off_stops count pc (OffText address) h = tt
off_stops count pc (Trap line) h = cc
off_stops count pc (BadAccess line address) h = cc

module _ (lines : List Line) (base : ℕ) (c : Config) (stop : Stop) where
  by_line : (o : Option Line) → o ≡ slice_get lines (number_at c.pc) → line_step base (number_at c.pc) o c ≡ Halts stop
      → StopsWithin (length lines) stop
  by_line None there h = off_stops (length lines) c.pc stop h
  by_line (Some line) there h =
      within_from (number_at c.pc) (length lines) stop (slice_get_within lines (number_at c.pc) line (sym there))
      (line_stops base (number_at c.pc) line c stop h)

  by_address : (b : Bool) → line_step base (number_at c.pc) (if b then slice_get lines (number_at c.pc) else None) c ≡ Halts stop
      → StopsWithin (length lines) stop
  by_address true h = by_line (slice_get lines (number_at c.pc)) refl h
  by_address false h = off_stops (length lines) c.pc stop h

  by_end : (b : Bool) → (if b then AtEnd else line_step base (number_at c.pc) (line_at lines c.pc) c) ≡ Halts stop
      → StopsWithin (length lines) stop
  unfolding line_at
  by_end true h = cc
  by_end false h = by_address (address_of (number_at c.pc) == c.pc) h

  halts_within : next_step lines base c ≡ Halts stop → StopsWithin (length lines) stop
  unfolding next_step
  halts_within h = by_end (c.pc == address_of (length lines)) h

pub ends_at_a_line : (lines : List Line) (base budget : ℕ) (c d : Config) (end : Answer) → Stops lines base budget c (end_of end) d
    → IsAtLine (length lines) end
ends_at_a_line lines base budget c d (answer.Done steps) stops = tt
ends_at_a_line lines base budget c d (answer.Access line address) stops = halts_within lines base d (BadAccess line address) stops.stopped
ends_at_a_line lines base budget c d (answer.OffText address) stops = tt
ends_at_a_line lines base budget c d (answer.Trap line) stops = halts_within lines base d (Trap line) stops.stopped
ends_at_a_line lines base budget c d answer.Budget stops = tt
