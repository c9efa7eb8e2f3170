-- Runs through lines that compute: registers alone change, of which one is that of the result.
use Rattle.std.proofs.Common.{◌≡◌, ◌≢◌, ℕ, ◌+◌, ◌<◌, ◌≤◌, Bool, true, false, not, ℤ, pos, negsuc, Some, List, [], ◌∷◌, ◌++◌, length, refl, sym, ap, ◌∙◌, arith}
use Rattle.std.proofs.lemmas.Bool.{both_ways, eq-eqb, eqb-true, false≢true}
use Rattle.std.proofs.lemmas.Bool.Decides.{nat_tests}
use Rattle.std.specs.Int.{int_max, int_min}
use Rattle.std.specs.Prelude.{if◌then◌else◌, ◌==◌, int_lt, slice_get}
use Rattle.moa_tree.specs.Operators.{apply, apply_unary}
use Rattle.moa_tree.specs.declared.operator.Op.{Op}
use Rattle.moa_tree.specs.declared.operator.Op.TheVariants as op
use Rattle.moa_tree.specs.declared.operator.Unary.{Unary}
use Rattle.moa_tree.specs.declared.operator.Unary.TheVariants as unary
use Rattle.loop_ir.specs.Fitting.{Fits64}
use Rattle.rv_line.specs.declared.line.Branch.{Branch}
use Rattle.rv_line.specs.declared.line.Imm.{Imm}
use Rattle.rv_line.specs.declared.line.Line.{Line}
use Rattle.rv_line.specs.declared.line.Three.{Three}
use Rattle.rv_steps.specs.Accesses.{Leads}
use Rattle.rv_steps.specs.Effects.{immediate_value, is_taken, three_value}
use Rattle.rv_steps.specs.Machine.{Config, Goes, IsAt, NoAccess, access_of, address_of, next_step, register_at, with_register, with_result}
use Rattle.rv_steps.specs.Pieces.{StandsAt}
use Rattle.rv_steps.specs.Registers.{AgreeBut, is_among}
use Rattle.rv_steps.specs.Wrapped.{wrapped}
use Rattle.rv_emit.specs.Computing.{one_lines, two_lines}
use Rattle.rv_emit.specs.MachineLaws.{MachineLaws}
use Rattle.rv_emit.specs.Simulating.{Computes, is_steady_op}
use Rattle.rv_emit.proofs.OperatorLemmas.{abs_is, add_is, and_is, eq_is, le_is, lt_is, mul_is, ne_is, neg_is, not_is, or_is, quotient_is, remainder_is, sign_is, sign_of, sub_is, value_is, word_below, max_turned, min_turned, xor_is}

-- the registers that may change
abbrev changed : ℕ → List ℕ
changed to = to ∷ 30 ∷ 31 ∷ []

-- some steps lead behind so many lines from line `at` on
record Course (lines : List Line) (base at to steps behind : ℕ) (c d : Config) : Type 0 where
  leads : Leads lines base steps c d []
  pc : d.pc ≡ address_of (at + behind)
  others : AgreeBut (changed to) c.registers d.registers
  block : d.block ≡ c.block

result_among : (to : ℕ) → is_among to (changed to) ≡ true
result_among to = grind (arith, nat_tests)

scratch_among : (to : ℕ) → is_among 30 (changed to) ≡ true
scratch_among to = grind (arith, nat_tests)

last_among : (to : ℕ) → is_among 31 (changed to) ≡ true
last_among to = grind (arith, nat_tests)

other_among : (to r w : ℕ) → is_among r (changed to) ≡ false → is_among w (changed to) ≡ true → r ≢ w
other_among to r w out within same = both_ways (is_among w (changed to)) (rw same at out) within

module _ (s : MachineLaws) (lines : List Line) (base at to : ℕ) (c : Config) (count : length c.registers ≡ 32) where
  begun : c.pc ≡ address_of at → Course lines base at to 0 0 c c
  begun pc = record { leads = s.none lines base c; pc = omega arith; others = record { sized = refl; same = λ r h. refl }; block = refl }

  module _ (n k : ℕ) (d : Config) (now : Course lines base at to n k c d) where
    -- one line more that touches nothing
    written : (w v : ℕ) (line : Line) → slice_get lines (at + k) ≡ Some line → access_of line d.registers ≡ NoAccess
        → next_step lines base d ≡ Goes (with_result d w v) → is_among w (changed to) ≡ true
        → Course lines base at to (n + 1) (k + 1) c (with_result d w v)
    written w v line there touches goes within =
        let e = with_result d w v in
        let is_at : IsAt lines (at + k) line d = record { at = now.pc; there = there } in
        let step : Leads lines base 1 d e [] = rw touches at (s.line lines base (at + k) 0 line d e e [] is_at goes
        (s.none lines base e)) in
        record {
          leads = s.steps lines base n 1 c d e [] [] now.leads step;
          pc = omega (arith, now.pc);
          others = record {
            sized = s.count d.registers w v ∙ now.others.sized;
            same = λ r out. s.unset d.registers w v r (other_among to r w out within) ∙ now.others.same r out;
          };
          block = now.block;
        }

    three : (code : Three) (w l r a b v : ℕ) → slice_get lines (at + k) ≡ Some (Line.Three code w l r) → register_at d.registers l ≡ a
        → register_at d.registers r ≡ b → three_value code a b ≡ v → is_among w (changed to) ≡ true
        → Course lines base at to (n + 1) (k + 1) c (with_result d w v)
    three code w l r a b v there left right is within =
        let is_at : IsAt lines (at + k) (Line.Three code w l r) d = record { at = now.pc; there = there } in
        let gives : three_value code (register_at d.registers l) (register_at d.registers r) ≡ v = rw (left, right) is in
        let goes : next_step lines base d ≡ Goes (with_result d w v) = s.goes lines base (at + k) d (Line.Three code w l r) is_at
        ∙ ap (λ (m : ℕ). Goes (with_result d w m)) gives in
        written w v (Line.Three code w l r) there refl goes within

    immediate : (code : Imm) (w l a : ℕ) (imm : ℤ) (v : ℕ) → slice_get lines (at + k) ≡ Some (Line.Imm code w l imm)
        → register_at d.registers l ≡ a → immediate_value code a imm ≡ v → is_among w (changed to) ≡ true
        → Course lines base at to (n + 1) (k + 1) c (with_result d w v)
    immediate code w l a imm v there left is within =
        let is_at : IsAt lines (at + k) (Line.Imm code w l imm) d = record { at = now.pc; there = there } in
        let gives : immediate_value code (register_at d.registers l) imm ≡ v = rw left is in
        let goes : next_step lines base d ≡ Goes (with_result d w v) = s.goes lines base (at + k) d (Line.Imm code w l imm) is_at
        ∙ ap (λ (m : ℕ). Goes (with_result d w m)) gives in
        written w v (Line.Imm code w l imm) there refl goes within

    -- the register that was written
    here : (w v : ℕ) → 0 < w → w < 32 → register_at (with_register d.registers w v) w ≡ v
    here w v some below = s.set d.registers w v some (omega (arith, now.others.sized))

  done : (piece : List Line) (steady : Bool) (n value : ℕ) (d : Config) → Course lines base at to n (length piece) c d → n ≤ length piece
      → (steady ≡ true → n ≡ length piece) → register_at d.registers to ≡ value → Computes lines base at piece steady to value c
  done piece steady n value d run few exact is = record {
    steps = n;
    last = d;
    leads = run.leads;
    few = few;
    exact = exact;
    behind = run.pc;
    here = is;
    others = run.others;
    block = run.block;
  }

module _ (s : MachineLaws) (lines : List Line) (base at to from : ℕ) (x : ℤ) (c : Config) (count : length c.registers ≡ 32) (some : 0 < to)
    (below : to < 31) (apart : from ≢ 31) (fits : Fits64 x) (holds : register_at c.registers from ≡ wrapped x) (pc : c.pc ≡ address_of at)
  where
    pub one_computed : (o : Unary) → StandsAt lines at (one_lines o to from)
        → Computes lines base at (one_lines o to from) true to (wrapped (apply_unary o x)) c
    one_computed unary.Neg stands =
        let v = wrapped (apply_unary unary.Neg x) in
        let there = s.there lines at (one_lines unary.Neg to from) 0 stands (omega arith) in
        let start = begun s lines base at to c count pc in
        let run = three s lines base at to c count 0 0 c start Three.Sub to 0 from 0 (wrapped x) v there (s.zero c.registers) holds
        (neg_is x fits) (result_among to) in
        done s lines base at to c count (one_lines unary.Neg to from) true 1 v (with_result c to v) run (omega arith) (λ h. refl)
        (here s lines base at to c count 0 0 c start to v some (omega arith))
    one_computed unary.Not stands =
        let v = wrapped (apply_unary unary.Not x) in
        let there = s.there lines at (one_lines unary.Not to from) 0 stands (omega arith) in
        let start = begun s lines base at to c count pc in
        let run = immediate s lines base at to c count 0 0 c start Imm.Xori to from (wrapped x) (negsuc 0) v there holds (not_is x fits)
        (result_among to) in
        done s lines base at to c count (one_lines unary.Not to from) true 1 v (with_result c to v) run (omega arith) (λ h. refl)
        (here s lines base at to c count 0 0 c start to v some (omega arith))
    one_computed unary.Abs stands =
        let piece = one_lines unary.Abs to from in
        let sign = sign_of x in
        let mixed = three_value Three.Xor (wrapped x) sign in
        let v = wrapped (apply_unary unary.Abs x) in
        let there = λ (i : ℕ) (h : i < 3). s.there lines at piece i stands h in
        let start = begun s lines base at to c count pc in
        let c1 = with_result c 31 sign in
        let run1 = immediate s lines base at to c count 0 0 c start Imm.Srai 31 from (wrapped x) (pos 63) sign (there 0 (omega arith)) holds
        (sign_is x fits) (last_among to) in
        let r31 = here s lines base at to c count 0 0 c start 31 sign (omega arith) (omega arith) in
        let c2 = with_result c1 30 mixed in
        let run2 = three s lines base at to c count 1 1 c1 run1 Three.Xor 30 from 31 (wrapped x) sign mixed (there 1 (omega arith))
        (s.unset c.registers 31 sign from apart ∙ holds) r31 refl (scratch_among to) in
        let r30 = here s lines base at to c count 1 1 c1 run1 30 mixed (omega arith) (omega arith) in
        let run3 = three s lines base at to c count 2 2 c2 run2 Three.Sub to 30 31 mixed sign v (there 2 (omega arith)) r30
        (s.unset c1.registers 30 mixed 31 (λ e. omega arith) ∙ r31) (abs_is x fits) (result_among to) in
        done s lines base at to c count piece true 3 v (with_result c2 to v) run3 (omega arith) (λ h. refl)
        (here s lines base at to c count 2 2 c2 run2 to v some (omega arith))

-- ---- two operands

-- the first register is compared with the second, or the second one with the first
abbrev chosen_lines : Bool → ℕ → ℕ → ℕ → List Line
chosen_lines greater at to other = Line.Branch Branch.Bge (if greater then to else other) (if greater then other else to) (at + 2) ∷
    Line.Imm Imm.Addi to other (pos 0) ∷ []

abbrev keeps : Bool → ℤ → ℤ → Bool
keeps greater p q = if greater then not (int_lt p q) else not (int_lt q p)

abbrev chosen : Bool → ℤ → ℤ → ℤ
chosen greater p q = if keeps greater p q then p else q

copied : (y : ℤ) → immediate_value Imm.Addi (wrapped y) (pos 0) ≡ wrapped y
copied y = let h = word_below y in omega arith

taken_is : (greater : Bool) (registers : List ℕ) (to other : ℕ) (p q : ℤ) → Fits64 p → Fits64 q → register_at registers to ≡ wrapped p
    → register_at registers other ≡ wrapped q → is_taken Branch.Bge (register_at registers (if greater then to else other))
    (register_at registers (if greater then other else to)) ≡ keeps greater p q
taken_is true registers to other p q f g left right = rw (left, right, value_is p f, value_is q g) refl
taken_is false registers to other p q f g left right = rw (left, right, value_is p f, value_is q g) refl

turned_if : {X : Type 0} (b : Bool) (x y : X) → (if not b then x else y) ≡ (if b then y else x)
turned_if true x y = refl
turned_if false x y = refl

-- of two numbers neither of which is less than the other one either may be taken
greater_kept : (x y : ℤ) → chosen true y x ≡ int_max x y
greater_kept x y = turned_if (int_lt y x) y x

greater_turned : (x y : ℤ) → chosen true x y ≡ int_max x y
greater_turned x y = turned_if (int_lt x y) x y ∙ max_turned x y

smaller_kept : (x y : ℤ) → chosen false x y ≡ int_min x y
smaller_kept x y = turned_if (int_lt y x) x y

smaller_turned : (x y : ℤ) → chosen false y x ≡ int_min x y
smaller_turned x y = turned_if (int_lt x y) y x ∙ min_turned x y

-- lines of a choice from its branch on, behind so many lines
record Chooses (lines : List Line) (base at to n k : ℕ) (value : ℤ) (c : Config) : Type 0 where
  steps : ℕ
  last : Config
  run : Course lines base at to steps (k + 2) c last
  few : steps ≤ n + 2
  is : register_at last.registers to ≡ wrapped value

module _ (s : MachineLaws) (lines : List Line) (base at to : ℕ) (c : Config) (count : length c.registers ≡ 32) (some : 0 < to)
    (below : to < 31)
  where
    module _ (n k : ℕ) (d : Config) (now : Course lines base at to n k c d) (other : ℕ) (p q : ℤ)
        (left : register_at d.registers to ≡ wrapped p) (right : register_at d.registers other ≡ wrapped q) (l r target : ℕ)
        (on : target ≡ at + k + 2) (test : slice_get lines (at + k) ≡ Some (Line.Branch Branch.Bge l r target))
        (copy : slice_get lines (at + (k + 1)) ≡ Some (Line.Imm Imm.Addi to other (pos 0))) where
      chooses : (keep : Bool) → is_taken Branch.Bge (register_at d.registers l) (register_at d.registers r) ≡ keep
          → Chooses lines base at to n k (if keep then p else q) c
      chooses true taken =
          let e : Config = record d { pc = address_of target } in
          let is_at : IsAt lines (at + k) (Line.Branch Branch.Bge l r target) d = record { at = now.pc; there = test } in
          let goes = s.taken lines base (at + k) d Branch.Bge l r target is_at taken in
          let step : Leads lines base 1 d e [] = s.line lines base (at + k) 0 (Line.Branch Branch.Bge l r target) d e e [] is_at goes
          (s.none lines base e) in
          let run : Course lines base at to (n + 1) (k + 2) c e = record
          { leads = s.steps lines base n 1 c d e [] [] now.leads step; pc = omega arith; others = now.others; block = now.block } in
          record { steps = n + 1; last = e; run = run; few = omega arith; is = left }
      chooses false passed =
          let e : Config = record d { pc = d.pc + 4 } in
          let is_at : IsAt lines (at + k) (Line.Branch Branch.Bge l r target) d = record { at = now.pc; there = test } in
          let goes = s.not_taken lines base (at + k) d Branch.Bge l r target is_at passed in
          let step : Leads lines base 1 d e [] = s.line lines base (at + k) 0 (Line.Branch Branch.Bge l r target) d e e [] is_at goes
          (s.none lines base e) in
          let run1 : Course lines base at to (n + 1) (k + 1) c e = record {
            leads = s.steps lines base n 1 c d e [] [] now.leads step;
            pc = omega (arith, now.pc);
            others = now.others;
            block = now.block;
          } in
          let run2 = immediate s lines base at to c count (n + 1) (k + 1) e run1 Imm.Addi to other (wrapped q) (pos 0) (wrapped q) copy
          right (copied q) (result_among to) in
          let steps : n + 1 + 1 ≡ n + 2 = omega arith in
          let lines : k + 1 + 1 ≡ k + 2 = omega arith in
          record {
            steps = n + 2;
            last = with_result e to (wrapped q);
            run = rw (steps, lines) at run2;
            few = omega arith;
            is = here s _
                base at to c count (n + 1) (k + 1) e run1 to (wrapped q) some (omega arith);
          }

module _ (s : MachineLaws) (lines : List Line) (base at to left right : ℕ) (x y : ℤ) (c : Config) (count : length c.registers ≡ 32)
    (some : 0 < to) (below : to < 31) (f : Fits64 x) (g : Fits64 y) (holds : register_at c.registers left ≡ wrapped x)
    (other : register_at c.registers right ≡ wrapped y) (pc : c.pc ≡ address_of at) where
  -- a line
  single : (code : Three) (steady : Bool) (v : ℕ) → three_value code (wrapped x) (wrapped y) ≡ v
      → StandsAt lines at (Line.Three code to left right ∷ []) → Computes lines base at (Line.Three code to left right ∷ []) steady to v c
  single code steady v is stands =
      let there = s.there lines at (Line.Three code to left right ∷ []) 0 stands (omega arith) in
      let start = begun s lines base at to c count pc in
      let run = three s lines base at to c count 0 0 c start code to left right (wrapped x) (wrapped y) v there holds other is
      (result_among to) in
      done s lines base at to c count (Line.Three code to left right ∷ []) steady 1 v (with_result c to v) run (omega arith) (λ h. refl)
      (here s lines base at to c count 0 0 c start to v some (omega arith))

  -- a line whose result in x30 is compared with 1
  tested : (code : Three) (l r a b v : ℕ) → register_at c.registers l ≡ a → register_at c.registers r ≡ b
      → immediate_value Imm.Sltiu (three_value code a b) (pos 1) ≡ v
      → StandsAt lines at (Line.Three code 30 l r ∷ Line.Imm Imm.Sltiu to 30 (pos 1) ∷ [])
      → Computes lines base at (Line.Three code 30 l r ∷ Line.Imm Imm.Sltiu to 30 (pos 1) ∷ []) true to v c
  tested code l r a b v holds_l holds_r is stands =
      let piece = Line.Three code 30 l r ∷ Line.Imm Imm.Sltiu to 30 (pos 1) ∷ [] in
      let u = three_value code a b in
      let there0 = s.there lines at piece 0 stands (omega arith) in
      let there1 = s.there lines at piece 1 stands (omega arith) in
      let start = begun s lines base at to c count pc in
      let run1 = three s lines base at to c count 0 0 c start code 30 l r a b u there0 holds_l holds_r refl (scratch_among to) in
      let r30 = here s lines base at to c count 0 0 c start 30 u (omega arith) (omega arith) in
      let run2 = immediate s lines base at to c count 1 1 (with_result c 30 u) run1 Imm.Sltiu to 30 u (pos 1) v there1 r30 is
      (result_among to) in
      done s lines base at to c count piece true 2 v (with_result (with_result c 30 u) to v) run2 (omega arith) (λ h. refl)
      (here s lines base at to c count 1 1 (with_result c 30 u) run1 to v some (omega arith))

  -- a line whose result in x30 is compared with 0
  differs : (v : ℕ) → three_value Three.Sltu 0 (three_value Three.Sub (wrapped x) (wrapped y)) ≡ v
      → StandsAt lines at (two_lines at op.Ne to left right) → Computes lines base at (two_lines at op.Ne to left right) true to v c
  differs v is stands =
      let piece = two_lines at op.Ne to left right in
      let u = three_value Three.Sub (wrapped x) (wrapped y) in
      let there0 = s.there lines at piece 0 stands (omega arith) in
      let there1 = s.there lines at piece 1 stands (omega arith) in
      let start = begun s lines base at to c count pc in
      let c1 = with_result c 30 u in
      let run1 = three s lines base at to c count 0 0 c start Three.Sub 30 left right (wrapped x) (wrapped y) u there0 holds other refl
      (scratch_among to) in
      let r30 = here s lines base at to c count 0 0 c start 30 u (omega arith) (omega arith) in
      let run2 = three s lines base at to c count 1 1 c1 run1 Three.Sltu to 0 30 0 u v there1 (s.zero c1.registers) r30 is
      (result_among to) in
      done s lines base at to c count piece true 2 v (with_result c1 to v) run2 (omega arith) (λ h. refl)
      (here s lines base at to c count 1 1 c1 run1 to v some (omega arith))

  -- the lines of a choice, where the register of the result is the second one, is the first one, and is neither
  abbrev lines_of : Bool → Bool → Bool → List Line
  lines_of greater same_right same_left =
      if same_right then chosen_lines greater at to left
      else (if same_left then [] else Line.Imm Imm.Addi to left (pos 0) ∷ []) ++ chosen_lines greater
      (at + length (if same_left then [] else Line.Imm Imm.Addi to left (pos 0) ∷ [])) to right

  choice : (greater : Bool) (value : ℤ) → chosen greater y x ≡ value → chosen greater x y ≡ value → (same_right same_left : Bool)
      → (to == right) ≡ same_right → (to == left) ≡ same_left → StandsAt lines at (lines_of greater same_right same_left)
      → Computes lines base at (lines_of greater same_right same_left) false to (wrapped value) c
  choice greater value second first true same_left e h stands =
      let piece = chosen_lines greater at to left in
      let start = begun s lines base at to c count pc in
      let holds_to : register_at c.registers to ≡ wrapped y = rw (eqb-true to right e) other in
      let end = chooses s lines base at to c count some below 0 0 c start left y x holds_to holds _ _ (at + 2) (omega arith)
      (s.there lines at piece 0 stands (omega arith)) (s.there lines at piece 1 stands (omega arith)) (keeps greater y x)
      (taken_is greater c.registers to left y x g f holds_to holds) in
      done s lines base at to c count piece false end.steps (wrapped value) end.last end.run end.few (λ h. absurd (false≢true h))
      (end.is ∙ ap (λ (z : ℤ). wrapped z) second)
  choice greater value second first false true e h stands =
      let piece = chosen_lines greater (at + 0) to right in
      let start = begun s lines base at to c count pc in
      let holds_to : register_at c.registers to ≡ wrapped x = rw (eqb-true to left h) holds in
      let end = chooses s lines base at to c count some below 0 0 c start right x y holds_to other _ _ (at + 0 + 2) (omega arith)
      (s.there lines at piece 0 stands (omega arith)) (s.there lines at piece 1 stands (omega arith)) (keeps greater x y)
      (taken_is greater c.registers to right x y f g holds_to other) in
      done s lines base at to c count piece false end.steps (wrapped value) end.last end.run end.few (λ h. absurd (false≢true h))
      (end.is ∙ ap (λ (z : ℤ). wrapped z) first)
  choice greater value second first false false e h stands =
      let piece = Line.Imm Imm.Addi to left (pos 0) ∷ chosen_lines greater (at + 1) to right in
      let there = λ (i : ℕ) (h : i < 3). s.there lines at piece i stands h in
      let start = begun s lines base at to c count pc in
      let c1 = with_result c to (wrapped x) in
      let run1 = immediate s lines base at to c count 0 0 c start Imm.Addi to left (wrapped x) (pos 0) (wrapped x) (there 0 (omega arith))
      holds (copied x) (result_among to) in
      let holds_to = here s lines base at to c count 0 0 c start to (wrapped x) some (omega arith) in
      let apart : right ≢ to = λ same. both_ways (to == right) e (eq-eqb to right (sym same)) in
      let holds_right : register_at c1.registers right ≡ wrapped y = s.unset c.registers to (wrapped x) right apart ∙ other in
      let end = chooses s lines base at to c count some below 1 1 c1 run1 right x y holds_to holds_right _ _ (at + 1 + 2) (omega arith)
      (there 1 (omega arith)) (there 2 (omega arith)) (keeps greater x y)
      (taken_is greater c1.registers to right x y f g holds_to holds_right) in
      done s lines base at to c count piece false end.steps (wrapped value) end.last end.run end.few (λ h. absurd (false≢true h))
      (end.is ∙ ap (λ (z : ℤ). wrapped z) first)

  pub two_computed : (o : Op) → StandsAt lines at (two_lines at o to left right)
      → Computes lines base at (two_lines at o to left right) (is_steady_op o) to (wrapped (apply o x y)) c
  two_computed op.Add stands = single Three.Add true (wrapped (apply op.Add x y)) (add_is x y f g) stands
  two_computed op.Sub stands = single Three.Sub true (wrapped (apply op.Sub x y)) (sub_is x y f g) stands
  two_computed op.Mul stands = single Three.Mul true (wrapped (apply op.Mul x y)) (mul_is x y f g) stands
  two_computed op.Quot stands = single Three.Div true (wrapped (apply op.Quot x y)) (quotient_is x y f g) stands
  two_computed op.Rem stands = single Three.Rem true (wrapped (apply op.Rem x y)) (remainder_is x y f g) stands
  two_computed op.Min stands = choice false (apply op.Min x y) (smaller_turned x y) (smaller_kept x y) (to == right) (to == left) refl
      refl stands
  two_computed op.Max stands = choice true (apply op.Max x y) (greater_kept x y) (greater_turned x y) (to == right) (to == left) refl refl
      stands
  two_computed op.Eq stands = tested Three.Sub left right (wrapped x) (wrapped y) (wrapped (apply op.Eq x y)) holds other (eq_is x y f g)
      stands
  two_computed op.Ne stands = differs (wrapped (apply op.Ne x y)) (ne_is x y f g) stands
  two_computed op.Lt stands = single Three.Slt true (wrapped (apply op.Lt x y)) (lt_is x y f g) stands
  two_computed op.Le stands = tested Three.Slt right left (wrapped y) (wrapped x) (wrapped (apply op.Le x y)) other holds (le_is x y f g)
      stands
  two_computed op.And stands = single Three.And true (wrapped (apply op.And x y)) (and_is x y f g) stands
  two_computed op.Or stands = single Three.Or true (wrapped (apply op.Or x y)) (or_is x y f g) stands
  two_computed op.Xor stands = single Three.Xor true (wrapped (apply op.Xor x y)) (xor_is x y f g) stands

-- ---- a copy

pub copy_computed : (s : MachineLaws) (lines : List Line) (base at to from : ℕ) (x : ℤ) (c : Config) → length c.registers ≡ 32 → 0 < to
    → to < 31
    → register_at c.registers from ≡ wrapped x → StandsAt lines at (Line.Imm Imm.Addi to from (pos 0) ∷ []) → c.pc ≡ address_of at
    → Computes lines base at (Line.Imm Imm.Addi to from (pos 0) ∷ []) true to (wrapped x) c
copy_computed s lines base at to from x c count some below holds stands pc =
    let piece = Line.Imm Imm.Addi to from (pos 0) ∷ [] in
    let there = s.there lines at piece 0 stands (omega arith) in
    let start = begun s lines base at to c count pc in
    let run = immediate s lines base at to c count 0 0 c start Imm.Addi to from (wrapped x) (pos 0) (wrapped x) there holds (copied x)
    (result_among to) in
    done s lines base at to c count piece true 1 (wrapped x) (with_result c to (wrapped x)) run (omega arith) (λ h. refl)
    (here s lines base at to c count 0 0 c start to (wrapped x) some (omega arith))
