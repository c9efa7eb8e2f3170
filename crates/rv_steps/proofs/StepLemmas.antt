-- One step: what the line at the pc makes of a configuration, and that nothing else makes a step.
use Rattle.std.proofs.Common.{◌≡◌, ℕ, ◌+◌, ◌-◌, ◌<◌, Bool, true, false, eqb, List, length, Option, Some, None, ℤ, refl, ◌∙◌, arith}
use Rattle.std.proofs.lemmas.Bool.Decides.{nat_tests}
use Rattle.std.proofs.lemmas.Option.{slice_get_within}
use Rattle.std.specs.Prelude.{slice_get, if◌then◌else◌, ◌==◌}
use Rattle.std.specs.Int.{byte_len}
use Rattle.rv_line.specs.declared.line.Line.{Line}
use Rattle.rv_line.specs.declared.line.Load.{Load}
use Rattle.rv_line.specs.declared.line.Store.{Store}
use Rattle.rv_line.specs.declared.line.Branch.{Branch}
use Rattle.rv_steps.specs.Effects.{is_taken, load_width, load_value, store_width}
use Rattle.rv_steps.specs.Machine.{Config, address_of, number_at, line_at, IsAt, Access, NoAccess, Loads, Stores, access_of, access_at, address, is_allowed, IsAllowed, AccessAllowed, Goes, AtEnd, Halts, BadAccess, guarded_step, register_at, value_at, with_value, with_result, effect, line_step, next_step}

number_at-address_of : (k : ℕ) → number_at (address_of k) ≡ k
unfolding number_at
number_at-address_of k = omega arith

eqb-same : (n : ℕ) → eqb n n ≡ true
eqb-same n = grind (arith, nat_tests)

line_at-address_of : (lines : List Line) (k : ℕ) → line_at lines (address_of k) ≡ slice_get lines k
unfolding line_at
line_at-address_of lines k = rw (number_at-address_of k, eqb-same (address_of k)) refl

not_end : (k n : ℕ) → k < n → eqb (address_of k) (address_of n) ≡ false
not_end k n h = grind (arith, nat_tests)

pub next_step-at_end : (lines : List Line) (base : ℕ) (c : Config) → c.pc ≡ address_of (length lines) → next_step lines base c ≡ AtEnd
unfolding next_step
next_step-at_end lines base c at = rw (at, eqb-same (address_of (length lines))) refl

guarded_step-not_end : (base k : ℕ) (access : Access) (c d : Config) → guarded_step base k access c d ≡ AtEnd → ⊥
guarded_step-not_end base k NoAccess c d h = cc
guarded_step-not_end base k (Loads at size) c d h = chosen (is_allowed base (length c.block) at size) h
  where
    chosen : (b : Bool) → (if b then Goes d else Halts (BadAccess k at)) ≡ AtEnd → ⊥
    chosen true h = cc
    chosen false h = cc
guarded_step-not_end base k (Stores at size) c d h = chosen (is_allowed base (length c.block) at size) h
  where
    chosen : (b : Bool) → (if b then Goes d else Halts (BadAccess k at)) ≡ AtEnd → ⊥
    chosen true h = cc
    chosen false h = cc

line_step-not_end : (base k : ℕ) (o : Option Line) (c : Config) → line_step base k o c ≡ AtEnd → ⊥
line_step-not_end base k None c h = cc
line_step-not_end base k (Some Line.Ecall) c h = cc
line_step-not_end base k (Some Line.Ebreak) c h = cc
line_step-not_end base k (Some line) c h = guarded_step-not_end base k (access_of line c.registers) c (effect base line c) h

ended : (lines : List Line) (base : ℕ) (c : Config) (b : Bool) → b ≡ (c.pc == address_of (length lines)) → (if b then AtEnd else line_step base (number_at c.pc) (line_at lines c.pc) c) ≡ AtEnd → c.pc ≡ address_of (length lines)
ended lines base c true e h = grind (arith, nat_tests)
ended lines base c false e h = absurd (line_step-not_end base (number_at c.pc) (line_at lines c.pc) c h)

-- and nowhere else is the end
pub at_end-next_step : (lines : List Line) (base : ℕ) (c : Config) → next_step lines base c ≡ AtEnd → c.pc ≡ address_of (length lines)
unfolding next_step
at_end-next_step lines base c h = ended lines base c (c.pc == address_of (length lines)) refl h

pub is_allowed-true : (base extent at size : ℕ) → IsAllowed base extent at size → is_allowed base extent at size ≡ true
unfolding is_allowed
is_allowed-true base extent at size f = let a = f.aligned in let b = f.above in let c = f.below in grind (arith, nat_tests)

pub IsAllowed-true : (base extent at size : ℕ) → is_allowed base extent at size ≡ true → IsAllowed base extent at size
unfolding is_allowed
IsAllowed-true base extent at size h = record { aligned = grind (arith, nat_tests); above = grind (arith, nat_tests); below = grind (arith, nat_tests) }

module _ (lines : List Line) (base k : ℕ) (c : Config) where
  pub next_step-at_line : (line : Line) → IsAt lines k line c → next_step lines base c ≡ line_step base k (Some line) c
  unfolding next_step
  next_step-at_line line at =
      let within = slice_get_within lines k line at.there in
      rw (at.at, not_end k (length lines) within, line_at-address_of lines k, number_at-address_of k, at.there) refl

  pub access_at-line : (line : Line) → IsAt lines k line c → access_at lines c ≡ access_of line c.registers
  access_at-line line at = rw (at.at, line_at-address_of lines k, at.there) refl

  pub next_step-load : (code : Load) (to : ℕ) (imm : ℤ) (pointer place : ℕ) → IsAt lines k (Line.Load code to imm pointer) c → address c.registers pointer imm ≡ base + place → IsAllowed base (length c.block) (base + place) (byte_len (load_width code)) → next_step lines base c ≡ Goes (with_result c to (load_value code (value_at (load_width code) c.block place)))
  next_step-load code to imm pointer place at from f =
      let e : base + place - base ≡ place = omega arith in
      next_step-at_line (Line.Load code to imm pointer) at ∙ rw (from, is_allowed-true base (length c.block) (base + place) (byte_len (load_width code)) f, e) refl

  pub next_step-store : (code : Store) (from : ℕ) (imm : ℤ) (pointer place : ℕ) → IsAt lines k (Line.Store code from imm pointer) c → address c.registers pointer imm ≡ base + place → IsAllowed base (length c.block) (base + place) (byte_len (store_width code)) → next_step lines base c ≡ Goes (record c { pc = c.pc + 4; block = with_value (store_width code) c.block place (register_at c.registers from) })
  next_step-store code from imm pointer place at to f =
      let e : base + place - base ≡ place = omega arith in
      next_step-at_line (Line.Store code from imm pointer) at ∙ rw (to, is_allowed-true base (length c.block) (base + place) (byte_len (store_width code)) f, e) refl

  pub next_step-taken : (code : Branch) (left right target : ℕ) → IsAt lines k (Line.Branch code left right target) c → is_taken code (register_at c.registers left) (register_at c.registers right) ≡ true → next_step lines base c ≡ Goes (record c { pc = address_of target })
  next_step-taken code left right target at h = next_step-at_line (Line.Branch code left right target) at ∙ rw h refl

  pub next_step-not_taken : (code : Branch) (left right target : ℕ) → IsAt lines k (Line.Branch code left right target) c → is_taken code (register_at c.registers left) (register_at c.registers right) ≡ false → next_step lines base c ≡ Goes (record c { pc = c.pc + 4 })
  next_step-not_taken code left right target at h = next_step-at_line (Line.Branch code left right target) at ∙ rw h refl

-- ---- and back: every step is the effect of the line at the pc

by_test : (b : Bool) (d e : Config) (k at : ℕ) → (if b then Goes d else Halts (BadAccess k at)) ≡ Goes e → (b ≡ true) × (e ≡ d)
by_test true d e k at h = (refl, cc)
by_test false d e k at h = cc

guarded_step-goes : (base k : ℕ) (access : Access) (c d e : Config) → guarded_step base k access c d ≡ Goes e → AccessAllowed base (length c.block) access × (e ≡ d)
guarded_step-goes base k NoAccess c d e h = (tt, cc)
guarded_step-goes base k (Loads at size) c d e h =
    let t = by_test (is_allowed base (length c.block) at size) d e k at h in
    (IsAllowed-true base (length c.block) at size t.0, t.1)
guarded_step-goes base k (Stores at size) c d e h =
    let t = by_test (is_allowed base (length c.block) at size) d e k at h in
    (IsAllowed-true base (length c.block) at size t.0, t.1)

line_step-goes : (base k : ℕ) (line : Line) (c d : Config) → line_step base k (Some line) c ≡ Goes d → AccessAllowed base (length c.block) (access_of line c.registers) × (d ≡ effect base line c)
line_step-goes base k Line.Ecall c d h = cc
line_step-goes base k Line.Ebreak c d h = cc
line_step-goes base k line c d h = guarded_step-goes base k (access_of line c.registers) c (effect base line c) d h

line_at-is : (lines : List Line) (pc : ℕ) (line : Line) → line_at lines pc ≡ Some line → (pc ≡ address_of (number_at pc)) × (slice_get lines (number_at pc) ≡ Some line)
unfolding line_at
line_at-is lines pc line h = found (address_of (number_at pc) == pc) refl h
  where
    found : (b : Bool) → b ≡ (address_of (number_at pc) == pc) → (if b then slice_get lines (number_at pc) else None) ≡ Some line → (pc ≡ address_of (number_at pc)) × (slice_get lines (number_at pc) ≡ Some line)
    found true e h = (grind (arith, nat_tests), h)
    found false e h = cc

module _ (lines : List Line) (base : ℕ) (c d : Config) where
  by_line : (o : Option Line) → line_at lines c.pc ≡ o → line_step base (number_at c.pc) o c ≡ Goes d → (k : ℕ) × (line : Line) × IsAt lines k line c × AccessAllowed base (length c.block) (access_of line c.registers) × (d ≡ effect base line c)
  by_line None e h = cc
  by_line (Some line) e h =
      let at = line_at-is lines c.pc line e in
      let made = line_step-goes base (number_at c.pc) line c d h in
      (number_at c.pc, line, record { at = at.0; there = at.1 }, made.0, made.1)

  by_end : (b : Bool) → (if b then AtEnd else line_step base (number_at c.pc) (line_at lines c.pc) c) ≡ Goes d → line_step base (number_at c.pc) (line_at lines c.pc) c ≡ Goes d
  by_end true h = cc
  by_end false h = h

  -- each step is the effect of a line
  pub next_step-goes : next_step lines base c ≡ Goes d → (k : ℕ) × (line : Line) × IsAt lines k line c × AccessAllowed base (length c.block) (access_of line c.registers) × (d ≡ effect base line c)
  unfolding next_step
  next_step-goes h = by_line (line_at lines c.pc) refl (by_end (c.pc == address_of (length lines)) h)
