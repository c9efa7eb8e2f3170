use Rattle.std.proofs.Common.{◌≡◌, ℕ, ◌+◌, ◌-◌, ◌%◌, ◌^◌, ◌<◌, true, false, List, [], ◌++◌, inl, inr, pos, refl, ◌∙◌, arith}
use Rattle.std.proofs.lemmas.Bool.Decides.{nat_tests}
use Rattle.std.proofs.lemmas.Bool.{cases_lt}
use Rattle.std.specs.Prelude.{if◌then◌else◌, nat_lt, neg_ℤ}
use Rattle.rv_line.specs.declared.line.Branch.{Branch}
use Rattle.rv_line.specs.declared.line.Imm.{Imm}
use Rattle.rv_line.specs.declared.line.Line.{Line}
use Rattle.rv_steps.specs.Accesses.{Leads}
use Rattle.rv_steps.specs.Effects.{is_taken}
use Rattle.rv_steps.specs.LoopExamples.{IsCounting, countdown}
use Rattle.rv_steps.specs.Machine.{Access, Config, Goes, IsAt, address_of, next_step, register_at, with_result}
use Rattle.rv_steps.proofs.loop_examples.countdowns_end.Goals as goal
use Rattle.rv_steps.proofs.loop_examples.countdowns_end.Goals.{After-turns_lead}

ended : (n : ℕ) → nat_lt n n ≡ false
ended n = grind (arith, nat_tests)

module _ (s : After-turns_lead) (base n : ℕ) (fits : n < 2 ^ 64) (k : ℕ) (c : Config) (before : List Access) (below : k < n) (now : IsCounting n k c before) where
  branch : (d : Config) → d.pc ≡ address_of 1 → register_at d.registers 5 ≡ n - (k + 1) → next_step countdown base d ≡ Goes (record d { pc = address_of (if nat_lt (k + 1) n then 0 else 2) })
  branch d pc left =
      let at : IsAt countdown 1 (Line.Branch Branch.Bne 5 0 0) d = record { at = pc; there = refl } in
      let zero = s.registers_are_kept.ensures.zero d.registers in
      elim (cases_lt (k + 1) n) [
        | inl less ↦
            let e : nat_lt (k + 1) n ≡ true = grind (arith, nat_tests) in
            let t : is_taken Branch.Bne (register_at d.registers 5) (register_at d.registers 0) ≡ true = rw (left, zero) (grind (arith, nat_tests)) in
            rw e (s.lines_take_steps.ensures.taken countdown base 1 d Branch.Bne 5 0 0 at t)
        | inr past ↦
            let e : nat_lt (k + 1) n ≡ false = grind (arith, nat_tests) in
            let t : is_taken Branch.Bne (register_at d.registers 5) (register_at d.registers 0) ≡ false = rw (left, zero) (grind (arith, nat_tests)) in
            let on : d.pc + 4 ≡ address_of 2 = omega (arith, pc) in
            rw e (rw on at (s.lines_take_steps.ensures.not_taken countdown base 1 d Branch.Bne 5 0 0 at t))
      ]

  turn : (e : Config) × (made : List Access) × Leads countdown base 2 c e made × IsCounting n (k + 1) e (before ++ made)
  turn =
      let less : nat_lt k n ≡ true = grind (arith, nat_tests) in
      let pc : c.pc ≡ address_of 0 = now.at ∙ rw less refl in
      let regs = now.count in
      let left = now.left in
      let at0 : IsAt countdown 0 (Line.Imm Imm.Addi 5 5 (neg_ℤ (pos 1))) c = record { at = pc; there = refl } in
      let d = with_result c 5 (n - (k + 1)) in
      let value : (register_at c.registers 5 + 18446744073709551615) % 2 ^ 64 ≡ n - (k + 1) = omega arith in
      let s0 : next_step countdown base c ≡ Goes d = rw value at (s.lines_take_steps.ensures.line countdown base 0 c _ at0) in
      let left1 : register_at d.registers 5 ≡ n - (k + 1) = simp (s.registers_are_kept.ensures.any, regs) in
      let pc1 : d.pc ≡ address_of 1 = omega (arith, pc) in
      let at1 : IsAt countdown 1 (Line.Branch Branch.Bne 5 0 0) d = record { at = pc1; there = refl } in
      let e : Config = record d { pc = address_of (if nat_lt (k + 1) n then 0 else 2) } in
      let s1 : next_step countdown base d ≡ Goes e = branch d pc1 left1 in
      let line = s.runs_lead.ensures.line in
      let run = line countdown base 0 1 _ c d e [] at0 s0 (line countdown base 1 0 _ d e e [] at1 s1 (s.runs_lead.ensures.none countdown base e)) in (
        e,
        [],
        run,
        record {
          at = refl;
          count = simp (s.registers_are_kept.ensures.len, regs);
          left = omega (arith, left1);
          none = rw now.none refl;
        },
      )

pub returns : goal.returns
returns s = record {
  end = λ base n c some fits regs pc left.
      let less : nat_lt 0 n ≡ true = grind (arith, nat_tests) in
      let start : IsCounting n 0 c [] = record { at = rw less pc; count = regs; left = omega (arith, left); none = refl } in
      let whole = s.turns_lead.ensures.exact n countdown base 2 n c (turn s base n fits) start in
      (whole.0, rw whole.3.none at whole.2, whole.3.at ∙ rw (ended n) refl);
}
