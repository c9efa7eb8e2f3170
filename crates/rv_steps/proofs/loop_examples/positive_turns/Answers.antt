use Rattle.std.proofs.Common.{◌≡◌, ℕ, ◌+◌, ◌*◌, ◌%◌, ◌^◌, ◌<◌, ◌≤◌, Bool, true, false, List, ◌++◌, length, inl, pos, refl, ◌∙◌, arith}
use Rattle.std.proofs.lemmas.Bool.Decides.{nat_tests}
use Rattle.std.specs.Int.{w64}
use Rattle.std.specs.Prelude.{All, if◌then◌else◌, nat_lt}
use Rattle.rv_line.specs.declared.line.Branch.{Branch}
use Rattle.rv_line.specs.declared.line.Imm.{Imm}
use Rattle.rv_line.specs.declared.line.Line.{Line}
use Rattle.rv_line.specs.declared.line.Load.{Load}
use Rattle.rv_steps.specs.Accesses.{LeadsWithin}
use Rattle.rv_steps.specs.Effects.{is_taken}
use Rattle.rv_steps.specs.LoopExamples.{IsPositive, Numbers, positive_at, positive_lines, positive_turn}
use Rattle.rv_steps.specs.Machine.{Access, Config, Goes, IsAt, address, address_of, next_step, register_at, value_at, with_result}
use Rattle.rv_steps.proofs.loop_examples.positive_turns.Goals as goal
use Rattle.rv_steps.proofs.loop_examples.positive_turns.Goals.{After-positive_store}

chosen-below : (b : Bool) (w : ℕ) → w < 2 ^ 64 → (if b then w else 0) < 2 ^ 64
chosen-below true w small = small
chosen-below false w small = omega arith

module _ (s : After-positive_store) (given : Numbers) (k : ℕ) (c : Config) (before : List Access) (eights : given.base % 8 ≡ 0) (room : given.base + 8 * (2 * given.count) ≤ 2 ^ 64) (bytes : All (λ b. b < 256) given.block) (below : k < given.count) (now : IsPositive given k c before) where
  abbrev n : ℕ
  n = given.count

  abbrev base : ℕ
  base = given.base

  abbrev lines : List Line
  lines = positive_lines n

  abbrev word : ℕ
  word = value_at w64 given.block (8 * k)

  small : positive_at given.block k < 2 ^ 64
  small = chosen-below (is_taken Branch.Bge word 0) word (s.bytes_are_kept.ensures.word given.block (8 * k) bytes)

  start : c.pc ≡ address_of 3
  start = let less : nat_lt k n ≡ true = grind (arith, nat_tests) in now.at ∙ rw less refl

  at3 : IsAt lines 3 (Line.Load Load.Ld 11 (pos 0) 5) c
  at3 = record { at = start; there = refl }

  from : address c.registers 5 (pos 0) ≡ base + 8 * k
  from = let r5 = now.from in omega arith

  abbrev c1 : Config
  c1 = with_result c 11 word

  loaded : next_step lines base c ≡ Goes c1
  loaded =
      let sized : length c.block ≡ 8 * (2 * n) = now.stored.sized ∙ now.sized in
      rw (now.stored.others k (inl (omega arith))) at (s.lines_take_steps.ensures.load lines base 3 c Load.Ld 11 (pos 0) 5 (8 * k) at3 from (record { aligned = omega arith; above = omega arith; below = omega arith }))

  at4 : IsAt lines 4 (Line.Branch Branch.Bge 11 0 6) c1
  at4 = record { at = omega (arith, start); there = refl }

  test_is : is_taken Branch.Bge (register_at c1.registers 11) (register_at c1.registers 0) ≡ is_taken Branch.Bge word 0
  test_is =
      let r11 : register_at c1.registers 11 ≡ word = simp (s.registers_are_kept.ensures.any, now.count) in
      rw (r11, s.registers_are_kept.ensures.zero c1.registers) refl

  abbrev Turned : Type 0
  Turned = (e : Config) × LeadsWithin lines base 7 c e (positive_turn n base k) × IsPositive given (k + 1) e (before ++ positive_turn n base k)

  not_negative : is_taken Branch.Bge word 0 ≡ true → Turned
  not_negative test =
      let any = s.registers_are_kept.ensures.any in
      let len = s.registers_are_kept.ensures.len in
      let line = s.runs_lead_within.ensures.line in
      let regs = now.count in
      let c2 : Config = record c1 { pc = address_of 6 } in
      let s4 : next_step lines base c1 ≡ Goes c2 = s.lines_take_steps.ensures.taken lines base 4 c1 Branch.Bge 11 0 6 at4 (test_is ∙ test) in
      let stored = s.positive_store.ensures.store given k c c2 before eights room below now refl (simp (len, regs)) refl (simp (any, regs)) (simp (any, regs)) (simp (any, regs)) (rw test (simp (any, regs))) small in
      let e = stored.0 in
      let rest = s.runs_lead_within.ensures.exact lines base 4 c2 e _ stored.1 in
      let chain = line lines base 3 5 _ c c1 e _ at3 loaded (line lines base 4 4 _ c1 c2 e _ at4 s4 rest) in
      (e, s.runs_lead_within.ensures.more lines base 6 7 c e _ (omega arith) (rw from at chain), stored.2)

  negative : is_taken Branch.Bge word 0 ≡ false → Turned
  negative test =
      let any = s.registers_are_kept.ensures.any in
      let len = s.registers_are_kept.ensures.len in
      let line = s.runs_lead_within.ensures.line in
      let regs = now.count in
      let c2 : Config = record c1 { pc = c1.pc + 4 } in
      let s4 : next_step lines base c1 ≡ Goes c2 = s.lines_take_steps.ensures.not_taken lines base 4 c1 Branch.Bge 11 0 6 at4 (test_is ∙ test) in
      let at5 : IsAt lines 5 (Line.Imm Imm.Addi 11 0 (pos 0)) c2 = record { at = omega (arith, start); there = refl } in
      let c3 = with_result c2 11 0 in
      let s5 : next_step lines base c2 ≡ Goes c3 = rw (s.registers_are_kept.ensures.zero c2.registers) at (s.lines_take_steps.ensures.line lines base 5 c2 _ at5) in
      let stored = s.positive_store.ensures.store given k c c3 before eights room below now (omega (arith, start)) (simp (len, regs)) refl (simp (any, len, regs)) (simp (any, len, regs)) (simp (any, len, regs)) (rw test (simp (any, len, regs))) small in
      let e = stored.0 in
      let rest = s.runs_lead_within.ensures.exact lines base 4 c3 e _ stored.1 in
      let chain = line lines base 3 6 _ c c1 e _ at3 loaded (line lines base 4 5 _ c1 c2 e _ at4 s4 (line lines base 5 4 _ c2 c3 e _ at5 s5 rest)) in
      (e, rw from at chain, stored.2)

  turned : Turned
  turned = by_test (is_taken Branch.Bge word 0) refl
    where
      by_test : (b : Bool) → is_taken Branch.Bge word 0 ≡ b → Turned
      by_test true test = not_negative test
      by_test false test = negative test

pub returns : goal.returns
returns s = record { turn = turned s }
