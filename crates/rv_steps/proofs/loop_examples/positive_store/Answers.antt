use Rattle.std.proofs.Common.{◌≡◌, ℕ, ◌+◌, ◌*◌, ◌%◌, ◌^◌, ◌<◌, ◌≤◌, true, false, List, [], ◌∷◌, ◌++◌, length, inl, inr, pos, refl, ◌∙◌, arith}
use Rattle.std.proofs.lemmas.Bool.Decides.{nat_tests}
use Rattle.std.proofs.lemmas.Bool.{cases_lt}
use Rattle.std.specs.Prelude.{if◌then◌else◌, nat_lt}
use Rattle.std.specs.Int.{w64}
use Rattle.rv_line.specs.declared.line.Branch.{Branch}
use Rattle.rv_line.specs.declared.line.Imm.{Imm}
use Rattle.rv_line.specs.declared.line.Line.{Line}
use Rattle.rv_line.specs.declared.line.Store.{Store}
use Rattle.rv_steps.specs.Accesses.{Leads}
use Rattle.rv_steps.specs.Effects.{is_taken}
use Rattle.rv_steps.specs.LoopExamples.{IsPositive, Numbers, positive_at, positive_lines, positive_turn}
use Rattle.rv_steps.specs.Machine.{Access, Config, Goes, IsAt, Stores, address, address_of, next_step, register_at, with_result, with_value}
use Rattle.rv_steps.proofs.loop_examples.positive_store.Goals as goal
use Rattle.rv_steps.proofs.loop_examples.positive_store.Goals.{After-turns_are_in_order}

-- the loop goes on while the pointer is before the end
branch : (s : After-turns_are_in_order) (n base k : ℕ) (c : Config) → c.pc ≡ address_of 9 → register_at c.registers 5 ≡ base + 8 * (k + 1) → register_at c.registers 7 ≡ base + 8 * n → k < n → next_step (positive_lines n) base c ≡ Goes (record c { pc = address_of (if nat_lt (k + 1) n then 3 else 10) })
branch s n base k c pc from end below =
    let at : IsAt (positive_lines n) 9 (Line.Branch Branch.Bne 5 7 3) c = record { at = pc; there = refl } in
    elim (cases_lt (k + 1) n) [
      | inl less ↦
          let e : nat_lt (k + 1) n ≡ true = grind (arith, nat_tests) in
          let t : is_taken Branch.Bne (register_at c.registers 5) (register_at c.registers 7) ≡ true = rw (from, end) (grind (arith, nat_tests)) in
          rw e (s.lines_take_steps.ensures.taken (positive_lines n) base 9 c Branch.Bne 5 7 3 at t)
      | inr past ↦
          let e : nat_lt (k + 1) n ≡ false = grind (arith, nat_tests) in
          let t : is_taken Branch.Bne (register_at c.registers 5) (register_at c.registers 7) ≡ false = rw (from, end) (grind (arith, nat_tests)) in
          let on : c.pc + 4 ≡ address_of 10 = omega (arith, pc) in
          rw e (rw on at (s.lines_take_steps.ensures.not_taken (positive_lines n) base 9 c Branch.Bne 5 7 3 at t))
    ]

module _ (s : After-turns_are_in_order) (given : Numbers) (k : ℕ) (c d : Config) (before : List Access) (eights : given.base % 8 ≡ 0) (room : given.base + 8 * (2 * given.count) ≤ 2 ^ 64) (below : k < given.count) (now : IsPositive given k c before) (pc : d.pc ≡ address_of 6) (regs : length d.registers ≡ 32) (same : d.block ≡ c.block) (same5 : register_at d.registers 5 ≡ register_at c.registers 5) (same6 : register_at d.registers 6 ≡ register_at c.registers 6) (same7 : register_at d.registers 7 ≡ register_at c.registers 7) (word : register_at d.registers 11 ≡ positive_at given.block k) (small : positive_at given.block k < 2 ^ 64) where
  stored : (e : Config) × Leads (positive_lines given.count) given.base 4 d e (Stores (given.base + 8 * (given.count + k)) 8 ∷ []) × IsPositive given (k + 1) e (before ++ positive_turn given.count given.base k)
  stored =
      let n = given.count in
      let base = given.base in
      let first = given.block in
      let lines = positive_lines n in
      let any = s.registers_are_kept.ensures.any in
      let len = s.registers_are_kept.ensures.len in
      let line = s.runs_lead.ensures.line in
      let r5 : register_at d.registers 5 ≡ base + 8 * k = same5 ∙ now.from in
      let wrapped : register_at d.registers 6 ≡ (base + 8 * (n + k)) % 2 ^ 64 = same6 ∙ now.to in
      let r6 : register_at d.registers 6 ≡ base + 8 * (n + k) = omega arith in
      let r7 : register_at d.registers 7 ≡ base + 8 * n = same7 ∙ now.end in
      let sized : length d.block ≡ 8 * (2 * n) = rw same (now.stored.sized ∙ now.sized) in
      let value = positive_at first k in
      let at6 : IsAt lines 6 (Line.Store Store.Sd 11 (pos 0) 6) d = record { at = pc; there = refl } in
      let to : address d.registers 6 (pos 0) ≡ base + 8 * (n + k) = omega arith in
      let d1 : Config = record d { pc = d.pc + 4; block = with_value w64 d.block (8 * (n + k)) value } in
      let s6 : next_step lines base d ≡ Goes d1 = rw word at (s.lines_take_steps.ensures.store lines base 6 d Store.Sd 11 (pos 0) 6 (8 * (n + k)) at6 to (record { aligned = omega arith; above = omega arith; below = omega arith })) in
      let at7 : IsAt lines 7 (Line.Imm Imm.Addi 5 5 (pos 8)) d1 = record { at = omega (arith, pc); there = refl } in
      let d2 = with_result d1 5 (base + 8 * (k + 1)) in
      let s7 = s.pointers_walk.ensures.within lines base 7 d1 5 8 (base + 8 * k) (base + 8 * (k + 1)) at7 r5 (omega arith) (omega arith) in
      let at8 : IsAt lines 8 (Line.Imm Imm.Addi 6 6 (pos 8)) d2 = record { at = omega (arith, pc); there = refl } in
      let d3 = with_result d2 6 ((base + 8 * (n + (k + 1))) % 2 ^ 64) in
      let s8 = s.pointers_walk.ensures.wrapping lines base 8 d2 6 8 (base + 8 * (n + k)) (base + 8 * (n + (k + 1))) at8 (simp (any, regs) wrapped) (omega arith) in
      let r5-3 : register_at d3.registers 5 ≡ base + 8 * (k + 1) = simp (any, len, regs) in
      let r7-3 : register_at d3.registers 7 ≡ base + 8 * n = simp (any, len, regs) r7 in
      let pc3 : d3.pc ≡ address_of 9 = omega (arith, pc) in
      let at9 : IsAt lines 9 (Line.Branch Branch.Bne 5 7 3) d3 = record { at = pc3; there = refl } in
      let e : Config = record d3 { pc = address_of (if nat_lt (k + 1) n then 3 else 10) } in
      let s9 : next_step lines base d3 ≡ Goes e = branch s n base k d3 pc3 r5-3 r7-3 below in
      let chain = line lines base 6 3 _ d d1 e _ at6 s6 (line lines base 7 2 _ d1 d2 e _ at7 s7 (line lines base 8 1 _ d2 d3 e _ at8 s8 (line lines base 9 0 _ d3 e e _ at9 s9 (s.runs_lead.ensures.none lines base e)))) in (
        e,
        rw to at chain,
        record {
          at = refl;
          count = simp (len, regs);
          from = r5-3;
          to = simp (any, len, regs);
          end = r7-3;
          sized = now.sized;
          stored = rw same (s.words_are_written.ensures.more n k (positive_at first) first c.block now.stored (omega (arith, now.sized)) small);
          touched = rw (s.turns_are_in_order.ensures.more (positive_turn n base) k, now.touched) refl;
        },
      )

pub returns : goal.returns
returns s = record { store = stored s }
