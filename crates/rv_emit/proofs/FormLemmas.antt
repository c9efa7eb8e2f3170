-- What holds of all lines of nests: a statement on lines that stand from a line on, which holds of each form in which lines are
-- emitted, and of pieces one behind another.
use Rattle.std.specs.Prelude.{◌≡◌, ℕ, zero, suc, ◌+◌, ◌-◌, ◌*◌, ◌==◌, ◌<◌, ◌≤◌, Bool, true, false, ℤ, pos, negsuc, List, [], ◌∷◌, ◌++◌, length, if◌then◌else◌}
use Rattle.std.specs.List.{AllByRecursion}
use Rattle.std.specs.Ordering.{int_eq}
use Rattle.std.proofs.Common.{refl, arith}
use Rattle.std.proofs.lemmas.Bool.Decides.{nat_tests}
use Rattle.std.proofs.lemmas.Int.{ints}
use Rattle.loop_ir.specs.Running.{Key, Register, Pointer}
use Rattle.loop_ir.specs.Steps.{Action, Set, Copy, One, Two, Place, Spot, Walk, Read, Write, Steps, End, Then, For, If}
use Rattle.moa_tree.specs.declared.operator.Op.{Op}
use Rattle.moa_tree.specs.declared.operator.Op.TheVariants as op
use Rattle.moa_tree.specs.declared.operator.Unary.{Unary}
use Rattle.moa_tree.specs.declared.operator.Unary.TheVariants as unary
use Rattle.register_map.specs.declared.home.Home.{Home}
use Rattle.register_map.specs.declared.home.Home.TheVariants as home
use Rattle.register_map.specs.Homes.{Given}
use Rattle.rv_line.specs.Fits.{Accepts, IsImmediate}
use Rattle.rv_line.specs.declared.line.Line.{Line}
use Rattle.rv_line.specs.declared.line.Line.TheVariants.{Three as ThreeLine, Imm as ImmLine, Load as LoadLine, Store as StoreLine, Branch as BranchLine, Jal, Jalr}
use Rattle.rv_line.specs.declared.line.Three.{Three}
use Rattle.rv_line.specs.declared.line.Three.TheVariants as three
use Rattle.rv_line.specs.declared.line.Imm.{Imm}
use Rattle.rv_line.specs.declared.line.Imm.TheVariants as imm
use Rattle.rv_line.specs.declared.line.Load.TheVariants.{Ld}
use Rattle.rv_line.specs.declared.line.Store.TheVariants.{Sd}
use Rattle.rv_line.specs.declared.line.Branch.TheVariants as branch
use Rattle.rv_steps.specs.Constants.{constant_lines, is_signed_below}
use Rattle.rv_steps.specs.Kinds.{is_multiplication}
use Rattle.rv_emit.specs.Computing.{copy_lines, one_lines, two_lines}
use Rattle.rv_emit.specs.Emitting.{Plan, Piece, action_lines, back, choice_of, count_by, count_lines, emitted, first_count, home_at, is_in_reach, is_offset, loop_of, near_lines, offset, owed_after, owed_by, plan_of, program, settled, start_lines, test_lines, turn_of, turns_of}
use Rattle.rv_emit.specs.Moving.{advance_lines, fetch_lines, is_near, put_lines, reach_lines, reach_offset, reach_register, register_of, repay_lines, settle_lines}
use Rattle.rv_emit.proofs.OwedLemmas.{EachOwes, action_keeps, steps_keep}
use Rattle.rv_emit.specs.Walks.{Owed, bytes, owed_at}

-- P holds of lines from a line on. W is said of registers that are written, R of those that are read, and O of the operators that are
-- computed.
pub record Admits (P : ℕ → List Line → Type 0) (W R : ℕ → Type 0) (O : Op → Type 0) : Type 0 where
  pub none : (at : ℕ) → P at []
  pub both : (at : ℕ) (front back : List Line) → P at front → P (at + length front) back → P at (front ++ back)
  pub reads : (r : ℕ) → W r → R r
  pub nothing : R 0
  pub block : R 10
  pub scratch : (r : ℕ) → 28 ≤ r → r ≤ 31 → W r
  pub plain : (at : ℕ) (code : Three) (to left right : ℕ) → is_multiplication code ≡ false → W to → R left → R right
      → P at (ThreeLine code to left right ∷ [])
  pub product : O op.Mul → (at to left right : ℕ) → W to → R left → R right → P at (ThreeLine three.Mul to left right ∷ [])
  pub quotient : O op.Quot → (at to left right : ℕ) → W to → R left → R right → P at (ThreeLine three.Div to left right ∷ [])
  pub remainder : O op.Rem → (at to left right : ℕ) → W to → R left → R right → P at (ThreeLine three.Rem to left right ∷ [])
  pub immediate : (at : ℕ) (code : Imm) (to from : ℕ) (amount : ℤ) → W to → R from → Accepts code amount
      → P at (ImmLine code to from amount ∷ [])
  pub load : (at to : ℕ) (amount : ℤ) (pointer : ℕ) → W to → R pointer → IsImmediate amount → P at (LoadLine Ld to amount pointer ∷ [])
  pub store : (at from : ℕ) (amount : ℤ) (pointer : ℕ) → R from → R pointer → IsImmediate amount
      → P at (StoreLine Sd from amount pointer ∷ [])
  pub constant : (at to : ℕ) (value : ℤ) → W to → P at (constant_lines to value)
  pub skip : (at left right to from : ℕ) → R left → R right → W to → R from
      → P at (BranchLine branch.Bge left right (at + 2) ∷ ImmLine imm.Addi to from (pos 0) ∷ [])
  pub near : (at left right top : ℕ) → R left → R right → top ≤ at → at - top ≤ 1024 → P at (BranchLine branch.Bne left right top ∷ [])
  pub far : (at left right top : ℕ) → R left → R right → top ≤ at
      → P at (BranchLine branch.Bne left right (at + 2) ∷ Jal 0 (at + 3) ∷ Jal 0 top ∷ [])
  pub choice : (at left : ℕ) (one other : List Line) → R left → P (at + 2) one → P (at + 3 + length one) other
      → P at (BranchLine branch.Blt left 29 (at + 2) ∷ Jal 0 (at + 3 + length one)
      ∷ (one ++ Jal 0 (at + 3 + length one + length other) ∷ other))

-- a home whose register may be written
abbrev pub IsGood : (ℕ → Type 0) → Home → Type 0
IsGood W (home.Register number) = W number
IsGood W (home.Spill word) = Unit {0}

-- so is each operator of an action, and of steps
abbrev pub OpIs : (Op → Type 0) → Action → Type 0
OpIs O (Two code to left right) = O code
OpIs O action = Unit {0}

abbrev pub OpsAre : (Op → Type 0) → Steps → Type 0
OpsAre O End = Unit {0}
OpsAre O (Then action rest) = OpIs O action × OpsAre O rest
OpsAre O (For counter turns body rest) = OpsAre O body × OpsAre O rest
OpsAre O (If left below one other rest) = OpsAre O one × (OpsAre O other × OpsAre O rest)

-- and so are the homes and the operators of a nest
pub record NestIsGood (W : ℕ → Type 0) (O : Op → Type 0) (spill : ℕ) (nest : Steps × Given) : Type 0 where
  pub homes : (key : Key) → IsGood W (home_at (plan_of spill nest) key)
  pub ops : OpsAre O nest.0

-- ---- immediates

pub small_immediate : (value : ℤ) → is_signed_below 2048 value ≡ true → IsImmediate value
small_immediate (pos n) h = let b : n < 2048 = grind (arith, nat_tests) in record { low = omega (arith, ints); high = omega (arith, ints) }
small_immediate (negsuc n) h =
    let b : n < 2048 = grind (arith, nat_tests) in record { low = omega (arith, ints); high = omega (arith, ints) }

no_immediate : IsImmediate (pos 0)
no_immediate = small_immediate (pos 0) refl

one_immediate : IsImmediate (pos 1)
one_immediate = small_immediate (pos 1) refl

less_immediate : IsImmediate (negsuc 0)
less_immediate = small_immediate (negsuc 0) refl

reach_immediate : (word : ℕ) (test : Bool) → is_near word ≡ test → IsImmediate (if test then pos (8 * word) else pos 0)
reach_immediate word true h =
    let b : word < 256 = grind (arith, nat_tests) in record { low = omega (arith, ints); high = omega (arith, ints) }
reach_immediate word false h = no_immediate

offset_immediate : (words : ℤ) (test : Bool) → is_offset words ≡ test → IsImmediate (if test then bytes words else pos 0)
offset_immediate words true h = small_immediate (bytes words) h
offset_immediate words false h = no_immediate

module _ (P : ℕ → List Line → Type 0) (W R : ℕ → Type 0) (O : Op → Type 0) (h : Admits P W R O) where
  -- of each of two
  either : (at : ℕ) (test : Bool) (one other : List Line) → P at one → P at other → P at (if test then one else other)
  either at true one other p q = p
  either at false one other p q = q

  either_register : (test : Bool) (one other : ℕ) → R one → R other → R (if test then one else other)
  either_register true one other p q = p
  either_register false one other p q = q

  -- ---- lines between homes and registers

  w28 : W 28
  w28 = h.scratch 28 (omega arith) (omega arith)

  w29 : W 29
  w29 = h.scratch 29 (omega arith) (omega arith)

  w30 : W 30
  w30 = h.scratch 30 (omega arith) (omega arith)

  w31 : W 31
  w31 = h.scratch 31 (omega arith) (omega arith)

  writes : (scratch : ℕ) (of : Home) → W scratch → IsGood W of → W (register_of scratch of)
  writes scratch (home.Register number) w good = good
  writes scratch (home.Spill word) w good = w

  reach : (at word : ℕ) → P at (reach_lines word)
  reach at word = either at (is_near word) _ _ (h.none at)
      (h.both at _ _ (h.constant at 31 (pos (8 * word)) w31) (h.plain _ three.Add 31 31 10 refl w31 (h.reads 31 w31) h.block))

  reaches : (word : ℕ) → R (reach_register word)
  reaches word = either_register (is_near word) 10 31 h.block (h.reads 31 w31)

  fetch : (at scratch : ℕ) (of : Home) → W scratch → P at (fetch_lines scratch of)
  fetch at scratch (home.Register number) w = h.none at
  fetch at scratch (home.Spill word) w =
      h.both at _ _ (reach at word)
      (h.load _ scratch (reach_offset word) (reach_register word) w (reaches word) (reach_immediate word (is_near word) refl))

  puts : (at : ℕ) (of : Home) → P at (put_lines of)
  puts at (home.Register number) = h.none at
  puts at (home.Spill word) =
      h.both at _ _ (reach at word)
      (h.store _ 30 (reach_offset word) (reach_register word) (h.reads 30 w30) (reaches word) (reach_immediate word (is_near word) refl))

  advance_by : (at register : ℕ) (count : ℤ) (test : Bool) → is_signed_below 2048 count ≡ test → W register
      → P at (if test then ImmLine imm.Addi register register count ∷ []
      else constant_lines 31 count ++ ThreeLine three.Add register register 31 ∷ [])
  advance_by at register count true small w =
      h.immediate at imm.Addi register register count w (h.reads register w) (small_immediate count small)
  advance_by at register count false large w =
      h.both at _ _ (h.constant at 31 count w31) (h.plain _ three.Add register register 31 refl w (h.reads register w) (h.reads 31 w31))

  advance : (at register : ℕ) (count : ℤ) → W register → P at (advance_lines register count)
  advance at register count w = advance_by at register count (is_signed_below 2048 count) refl w

  repay : (at : ℕ) (of : Home) (words : ℤ) → IsGood W of → P at (repay_lines of words)
  repay at of words good = either at (int_eq words (pos 0)) _ _ (h.none at)
      (h.both at _ _ (fetch at 30 of w30) (h.both _ _ _ (advance _ (register_of 30 of) (bytes words) (writes 30 of w30 good)) (puts _ of)))

  settle : (owed : Owed) (at : ℕ) → EachOwes (IsGood W) owed → P at (settle_lines owed)
  settle [] at good = h.none at
  settle (entry ∷ owed) at good = h.both at _ _ (repay at entry.0 entry.1 good.0) (settle owed _ good.1)

  -- ---- operators

  copies : (at to from : ℕ) → W to → R from → P at (copy_lines to from)
  copies at to from w r = either at (to == from) _ _ (h.none at) (h.immediate at imm.Addi to from (pos 0) w r no_immediate)

  one_fine : (code : Unary) (at to from : ℕ) → W to → R from → P at (one_lines code to from)
  one_fine unary.Neg at to from w r = h.plain at three.Sub to 0 from refl w h.nothing r
  one_fine unary.Not at to from w r = h.immediate at imm.Xori to from (negsuc 0) w r less_immediate
  one_fine unary.Abs at to from w r =
      h.both at _ _ (h.immediate at imm.Srai 31 from (pos 63) w31 r (record { low = omega (arith, ints); high = omega (arith, ints) }))
      (h.both _ _ _ (h.plain _ three.Xor 30 from 31 refl w30 r (h.reads 31 w31))
      (h.plain _ three.Sub to 30 31 refl w (h.reads 30 w30) (h.reads 31 w31)))

  two_fine : (code : Op) (at to left right : ℕ) → O code → W to → R left → R right → P at (two_lines at code to left right)
  two_fine op.Add at to left right o w l r = h.plain at three.Add to left right refl w l r
  two_fine op.Sub at to left right o w l r = h.plain at three.Sub to left right refl w l r
  two_fine op.Mul at to left right o w l r = h.product o at to left right w l r
  two_fine op.Quot at to left right o w l r = h.quotient o at to left right w l r
  two_fine op.Rem at to left right o w l r = h.remainder o at to left right w l r
  two_fine op.Min at to left right o w l r = either at (to == right) _ _ (h.skip at left to to left l (h.reads to w) w l)
      (h.both at _ _ (copies at to left w l) (h.skip _ right to to right r (h.reads to w) w r))
  two_fine op.Max at to left right o w l r = either at (to == right) _ _ (h.skip at to left to left (h.reads to w) l w l)
      (h.both at _ _ (copies at to left w l) (h.skip _ to right to right (h.reads to w) r w r))
  two_fine op.Eq at to left right o w l r =
      h.both at _ _ (h.plain at three.Sub 30 left right refl w30 l r)
      (h.immediate _ imm.Sltiu to 30 (pos 1) w (h.reads 30 w30) one_immediate)
  two_fine op.Ne at to left right o w l r =
      h.both at _ _ (h.plain at three.Sub 30 left right refl w30 l r) (h.plain _ three.Sltu to 0 30 refl w h.nothing (h.reads 30 w30))
  two_fine op.Lt at to left right o w l r = h.plain at three.Slt to left right refl w l r
  two_fine op.Le at to left right o w l r =
      h.both at _ _ (h.plain at three.Slt 30 right left refl w30 r l)
      (h.immediate _ imm.Sltiu to 30 (pos 1) w (h.reads 30 w30) one_immediate)
  two_fine op.And at to left right o w l r = h.plain at three.And to left right refl w l r
  two_fine op.Or at to left right o w l r = h.plain at three.Or to left right refl w l r
  two_fine op.Xor at to left right o w l r = h.plain at three.Xor to left right refl w l r

  -- ---- actions

  module _ (plan : Plan) (homes : (key : Key) → IsGood W (home_at plan key)) where
    to_writes : (scratch : ℕ) → W scratch → (key : Key) → W (register_of scratch (home_at plan key))
    to_writes scratch w key = writes scratch (home_at plan key) w (homes key)

    from_reads : (scratch : ℕ) → W scratch → (key : Key) → R (register_of scratch (home_at plan key))
    from_reads scratch w key = h.reads _ (to_writes scratch w key)

    nearly : (at : ℕ) (owed : Owed) (key : Key) → P at (near_lines owed (home_at plan key))
    nearly at owed key =
        either at (is_offset (owed_at owed (home_at plan key))) _ _ (h.none at)
        (repay at (home_at plan key) (owed_at owed (home_at plan key)) (homes key))

    action_fine : (action : Action) (at : ℕ) (owed : Owed) → OpIs O action → P at (action_lines plan at owed action)
    action_fine (Set to value) at owed o =
        h.both at _ _ (h.constant at _ value (to_writes 30 w30 (Register to))) (puts _ (home_at plan (Register to)))
    action_fine (Copy to from) at owed o =
        h.both at _ _ (fetch at 28 (home_at plan (Register from)) w28)
        (h.both _ _ _ (h.immediate _ imm.Addi _ _ (pos 0) (to_writes 30 w30 (Register to)) (from_reads 28 w28 (Register from)) no_immediate)
        (puts _ (home_at plan (Register to))))
    action_fine (One code to from) at owed o =
        h.both at _ _ (fetch at 28 (home_at plan (Register from)) w28)
        (h.both _ _ _ (one_fine code _ _ _ (to_writes 30 w30 (Register to)) (from_reads 28 w28 (Register from)))
        (puts _ (home_at plan (Register to))))
    action_fine (Two code to left right) at owed o =
        h.both at _ _ (h.both at _ _ (fetch at 28 (home_at plan (Register left)) w28) (fetch _ 29 (home_at plan (Register right)) w29))
        (h.both _ _ _ (two_fine code _ _ _ _ o (to_writes 30 w30 (Register to)) (from_reads 28 w28 (Register left))
        (from_reads 29 w29 (Register right)))
        (puts _ (home_at plan (Register to))))
    action_fine (Place to word) at owed o =
        h.both at _ _ (h.constant at 30 _ w30)
        (h.both _ (ThreeLine three.Add (register_of 30 (home_at plan (Pointer to))) 30 10 ∷ []) _
        (h.plain _ three.Add _ 30 10 refl (to_writes 30 w30 (Pointer to)) (h.reads 30 w30) h.block) (puts _ (home_at plan (Pointer to))))
    action_fine (Spot to word by) at owed o =
        h.both at _ _ (fetch at 28 (home_at plan (Register by)) w28)
        (h.both _ _ _ (h.constant _ 30 _ w30)
        (h.both _ (ImmLine imm.Slli 29 (register_of 28 (home_at plan (Register by))) (pos 3) ∷ []) _
        (h.immediate _ imm.Slli 29 _ (pos 3) w29 (from_reads 28 w28 (Register by))
        (record { low = omega (arith, ints); high = omega (arith, ints) }))
        (h.both _ (ThreeLine three.Add 30 30 29 ∷ []) _ (h.plain _ three.Add 30 30 29 refl w30 (h.reads 30 w30) (h.reads 29 w29))
        (h.both _ (ThreeLine three.Add (register_of 30 (home_at plan (Pointer to))) 30 10 ∷ []) _
        (h.plain _ three.Add _ 30 10 refl (to_writes 30 w30 (Pointer to)) (h.reads 30 w30) h.block) (puts _ (home_at plan (Pointer to)))))))
    action_fine (Walk place words) at owed o = h.none at
    action_fine (Read to area place) at owed o =
        let from = home_at plan (Pointer place) in
        h.both at _ _ (nearly at owed (Pointer place))
        (h.both _ _ _ (fetch _ 30 from w30)
        (h.both _ (LoadLine Ld (register_of 30 (home_at plan (Register to))) (offset owed from) (register_of 30 from) ∷ []) _
        (h.load _ _ _ _ (to_writes 30 w30 (Register to)) (from_reads 30 w30 (Pointer place))
        (offset_immediate (owed_at owed from) (is_offset (owed_at owed from)) refl))
        (puts _ (home_at plan (Register to)))))
    action_fine (Write area place from) at owed o =
        let to = home_at plan (Pointer place) in
        h.both at _ _ (nearly at owed (Pointer place))
        (h.both _ _ _ (fetch _ 28 (home_at plan (Register from)) w28)
        (h.both _ _ _ (fetch _ 30 to w30)
        (h.store _ _ _ _ (from_reads 28 w28 (Register from)) (from_reads 30 w30 (Pointer place))
        (offset_immediate (owed_at owed to) (is_offset (owed_at owed to)) refl))))

    -- ---- loops and choices

    start_fine : (at : ℕ) (owed : Owed) (counter turns : ℕ) → EachOwes (IsGood W) owed
        → P at (start_lines plan owed counter turns)
    start_fine at owed counter turns good =
        h.both at _ _ (settle owed at good)
        (h.both _ _ _ (h.constant _ _ (first_count plan counter turns) (to_writes 30 w30 (Register counter)))
        (puts _ (home_at plan (Register counter))))

    by_immediate : (down : Bool) → IsImmediate (if down then negsuc 0 else pos 1)
    by_immediate true = less_immediate
    by_immediate false = one_immediate

    count_fine : (at counter turns : ℕ) → P at (count_lines plan counter turns)
    count_fine at counter turns =
        let own = home_at plan (Register counter) in
        h.both at _ _ (fetch at 30 own w30)
        (h.both _ (ImmLine imm.Addi (register_of 30 own) (register_of 30 own) (count_by plan counter) ∷ []) _
        (h.immediate _ imm.Addi _ _ _ (to_writes 30 w30 (Register counter)) (from_reads 30 w30 (Register counter))
        (by_immediate (plan.down (Register counter))))
        (h.both _ _ _ (puts _ own) (either _ (plan.down (Register counter)) _ _ (h.none _) (h.constant _ 31 (pos turns) w31))))

    last_reads : (down : Bool) → R (if down then 0 else 31)
    last_reads true = h.nothing
    last_reads false = h.reads 31 w31

    near_enough : (top at : ℕ) → is_in_reach top at ≡ true → at - top ≤ 1024
    near_enough top at test = grind (arith, nat_tests)

    back_by : (at : ℕ) (test : Bool) (one other : Piece) → (test ≡ true → P at one.lines) → P at other.lines
        → P at (if test then one else other).lines
    back_by at true one other p q = p refl
    back_by at false one other p q = q

    back_fine : (top left right at : ℕ) → R left → R right → top ≤ at → P at (back top left right at).lines
    back_fine top left right at l r before =
        back_by at (is_in_reach top at) _ _ (λ test. h.near at left right top l r before (near_enough top at test))
        (h.far at left right top l r before)

    turn_fine : (counter turns : ℕ) (body : ℕ → Piece) → ((at : ℕ) → P at (body at).lines) → (top : ℕ)
        → P top (turn_of plan counter turns body top).lines
    turn_fine counter turns body fine top =
        h.both top _ _ (fine top)
        (h.both _ _ _ (count_fine (top + length (body top).lines) counter turns)
        (back_fine top _ _ _ (from_reads 30 w30 (Register counter)) (last_reads (plan.down (Register counter))) (omega arith)))

    turns_fine : (turns : ℕ) (turn : ℕ → Piece) → ((at : ℕ) → P at (turn at).lines) → (top : ℕ) → P top (turns_of turns turn top).lines
    turns_fine zero turn fine top = h.none top
    turns_fine (suc turns) turn fine top = fine top

    loop_fine : (at : ℕ) (owed : Owed) (counter turns : ℕ) (body : ℕ → Piece) → EachOwes (IsGood W) owed
        → ((at : ℕ) → P at (body at).lines) → P at (loop_of plan at owed counter turns body).lines
    loop_fine at owed counter turns body good fine =
        h.both at _ _ (start_fine at owed counter turns good)
        (turns_fine turns (turn_of plan counter turns body) (turn_fine counter turns body fine) _)

    choice_fine : (at : ℕ) (owed : Owed) (left : ℕ) (below : ℤ) (one other : ℕ → Piece) → EachOwes (IsGood W) owed
        → ((at : ℕ) → P at (one at).lines) → ((at : ℕ) → P at (other at).lines)
        → P at (choice_of plan at owed left below one other).lines
    choice_fine at owed left below one other good first second =
        h.both at (test_lines plan owed left below) _
        (h.both at _ _ (settle owed at good) (h.both _ _ _ (fetch _ 28 (home_at plan (Register left)) w28) (h.constant _ 29 below w29)))
        (h.choice _ _ _ _ (from_reads 28 w28 (Register left)) (first _) (second _))

    -- ---- steps

    settled_fine : (steps : Steps) → ((owed : Owed) (at : ℕ) → EachOwes (IsGood W) owed → P at (emitted plan owed steps at).lines)
        → (at : ℕ) → P at (settled plan steps at).lines
    settled_fine steps fine at =
        h.both at _ _ (fine [] at tt) (settle (owed_after plan [] steps) _ (steps_keep (IsGood W) plan homes [] steps tt))

    pub steps_fine : (steps : Steps) → OpsAre O steps → (owed : Owed) (at : ℕ) → EachOwes (IsGood W) owed
        → P at (emitted plan owed steps at).lines
    steps_fine End o owed at good = h.none at
    steps_fine (Then action rest) o owed at good =
        h.both at _ _ (action_fine action at owed o.0)
        (steps_fine rest o.1 (owed_by plan owed action) _ (action_keeps (IsGood W) plan homes owed action good))
    steps_fine (For counter turns body rest) o owed at good =
        h.both at _ _ (loop_fine at owed counter turns (settled plan body) good (settled_fine body (steps_fine body o.0)))
        (steps_fine rest o.1 [] _ tt)
    steps_fine (If left below one other rest) o owed at good =
        h.both at _ _
        (choice_fine at owed left below (settled plan one) (settled plan other) good (settled_fine one (steps_fine one o.0))
        (settled_fine other (steps_fine other o.1.0)))
        (steps_fine rest o.1.1 [] _ tt)

  -- ---- nests one after another

  pub program_fine : ((at : ℕ) → P at (Jalr 0 (pos 0) 1 ∷ [])) → (spill : ℕ) (nests : List (Steps × Given)) (at : ℕ)
      → AllByRecursion (NestIsGood W O spill) nests → P at (program spill nests at).lines
  program_fine ends spill [] at good = ends at
  program_fine ends spill (nest ∷ nests) at good =
      h.both at _ _ (steps_fine (plan_of spill nest) (good.0.homes) nest.0 good.0.ops [] at tt) (program_fine ends spill nests _ good.1)
