-- The lines to which nests are brought, and how many steps they make. This project's own.
use Rattle.std.specs.Prelude.{ℕ, zero, suc, ◌+◌, ◌-◌, ◌*◌, max, Bool, ℤ, pos, negsuc, ◌+ℤ◌, List, [], ◌∷◌, ◌++◌, length}
use Rattle.std.specs.Prelude.{nat_le, if◌then◌else◌}
use Rattle.std.specs.Option.{unwrap_or}
use Rattle.loop_ir.specs.Needed.{Keys}
use Rattle.loop_ir.specs.Running.{Key, Register, Pointer}
use Rattle.loop_ir.specs.Steps.{Action, Set, Copy, One, Two, Place, Spot, Walk, Read, Write, Steps, End, Then, For, If}
use Rattle.register_map.specs.declared.home.Home.{Home}
use Rattle.register_map.specs.declared.home.Home.TheVariants as home
use Rattle.register_map.specs.Homes.{Given, home_of}
use Rattle.rv_line.specs.declared.line.Line.{Line}
use Rattle.rv_line.specs.declared.line.Line.TheVariants.{Three as ThreeLine, Imm as ImmLine, Load as LoadLine, Store as StoreLine}
use Rattle.rv_line.specs.declared.line.Line.TheVariants.{Branch as BranchLine, Jal, Jalr}
use Rattle.rv_line.specs.declared.line.Three.TheVariants.{Add}
use Rattle.rv_line.specs.declared.line.Imm.TheVariants.{Addi, Slli}
use Rattle.rv_line.specs.declared.line.Load.TheVariants.{Ld}
use Rattle.rv_line.specs.declared.line.Store.TheVariants.{Sd}
use Rattle.rv_line.specs.declared.line.Branch.TheVariants.{Blt, Bne}
use Rattle.rv_steps.specs.Constants.{constant_lines, is_signed_below}
use Rattle.rv_emit.specs.Computing.{one_lines, two_lines}
use Rattle.rv_emit.specs.Counting.{counts_down}
use Rattle.rv_emit.specs.Moving.{fetch_lines, put_lines, register_of, repay_lines, settle_lines}
use Rattle.rv_emit.specs.Walks.{Owed, bytes, owed_at, with_walk, without}

-- for what lines are emitted: the spill words of the block, the homes, and the counters that count down
pub record Plan : Type 0 where
  pub spill : ℕ
  pub homes : Given
  pub down : Keys

abbrev pub home_at : Plan → Key → Home
home_at plan key = unwrap_or (home_of plan.homes key) (home.Spill 0)

-- ---- steps that do no list

-- whether what a home owes can stand as an offset
abbrev pub is_offset : ℤ → Bool
is_offset words = is_signed_below 2048 (bytes words)

-- lines that repay what a place owes where it can't, what is owed then, and the offset of the place's word from the number in its home
abbrev pub near_lines : Owed → Home → List Line
near_lines owed home = if is_offset (owed_at owed home) then [] else repay_lines home (owed_at owed home)

abbrev pub near_owed : Owed → Home → Owed
near_owed owed home = if is_offset (owed_at owed home) then owed else without owed home

abbrev pub offset : Owed → Home → ℤ
offset owed home = if is_offset (owed_at owed home) then bytes (owed_at owed home) else pos 0

-- what is owed behind an action
abbrev pub owed_by : Plan → Owed → Action → Owed
owed_by plan owed (Set to value) = without owed (home_at plan (Register to))
owed_by plan owed (Copy to from) = without owed (home_at plan (Register to))
owed_by plan owed (One op to from) = without owed (home_at plan (Register to))
owed_by plan owed (Two op to left right) = without owed (home_at plan (Register to))
owed_by plan owed (Place to word) = without owed (home_at plan (Pointer to))
owed_by plan owed (Spot to word by) = without owed (home_at plan (Pointer to))
owed_by plan owed (Walk place words) = with_walk owed (home_at plan (Pointer place)) words
owed_by plan owed (Read to area place) = without (near_owed owed (home_at plan (Pointer place))) (home_at plan (Register to))
owed_by plan owed (Write area place from) = near_owed owed (home_at plan (Pointer place))

-- one operand, or two, and the lines between their registers and that of the result
abbrev pub with_one : Home → Home → (ℕ → ℕ → List Line) → List Line
with_one to from compute = fetch_lines 28 from ++ (compute (register_of 30 to) (register_of 28 from) ++ put_lines to)

abbrev pub with_two : ℕ → Home → Home → Home → (ℕ → ℕ → ℕ → ℕ → List Line) → List Line
with_two at to left right compute =
    let fetches = fetch_lines 28 left ++ fetch_lines 29 right in
    fetches ++ (compute (at + length fetches) (register_of 30 to) (register_of 28 left) (register_of 29 right) ++ put_lines to)

-- the lines of an action, from this line on
abbrev pub action_lines : Plan → ℕ → Owed → Action → List Line
action_lines plan at owed (Set to value) =
    let home = home_at plan (Register to) in constant_lines (register_of 30 home) value ++ put_lines home
action_lines plan at owed (Copy to from) =
    with_one (home_at plan (Register to)) (home_at plan (Register from)) (λ to from. ImmLine Addi to from (pos 0) ∷ [])
action_lines plan at owed (One op to from) = with_one (home_at plan (Register to)) (home_at plan (Register from)) (one_lines op)
action_lines plan at owed (Two op to left right) =
    with_two at (home_at plan (Register to)) (home_at plan (Register left)) (home_at plan (Register right)) (λ at. two_lines at op)
action_lines plan at owed (Place to word) =
    let home = home_at plan (Pointer to) in
    constant_lines 30 (bytes (pos plan.spill +ℤ word)) ++ (ThreeLine Add (register_of 30 home) 30 10 ∷ put_lines home)
action_lines plan at owed (Spot to word by) =
    let home = home_at plan (Pointer to) in
    let from = home_at plan (Register by) in
    fetch_lines 28 from ++ (constant_lines 30 (bytes (pos plan.spill +ℤ word))
    ++ (ImmLine Slli 29 (register_of 28 from) (pos 3) ∷ ThreeLine Add 30 30 29
    ∷ ThreeLine Add (register_of 30 home) 30 10 ∷ put_lines home))
action_lines plan at owed (Walk place words) = []
action_lines plan at owed (Read to area place) =
    let from = home_at plan (Pointer place) in
    let home = home_at plan (Register to) in
    near_lines owed from ++ (fetch_lines 30 from
    ++ (LoadLine Ld (register_of 30 home) (offset owed from) (register_of 30 from) ∷ put_lines home))
action_lines plan at owed (Write area place from) =
    let to = home_at plan (Pointer place) in
    let home = home_at plan (Register from) in
    near_lines owed to ++ (fetch_lines 28 home
    ++ (fetch_lines 30 to ++ StoreLine Sd (register_of 28 home) (offset owed to) (register_of 30 to) ∷ []))

-- ---- pieces: lines, and the most steps that a run through them makes

pub record Piece : Type 0 where
  pub lines : List Line
  pub steps : ℕ

-- each line is a step
abbrev pub straight : List Line → Piece
straight lines = record { lines = lines; steps = length lines }

-- a piece from this line on, and what stands behind it
abbrev pub behind : ℕ → Piece → (ℕ → Piece) → Piece
behind at first next =
    let second = next (at + length first.lines) in record { lines = first.lines ++ second.lines; steps = first.steps + second.steps }

-- ---- loops

-- the number from which a loop counts, and by which
abbrev pub first_count : Plan → ℕ → ℕ → ℤ
first_count plan counter turns = if plan.down (Register counter) then pos turns else pos 0

abbrev pub count_by : Plan → ℕ → ℤ
count_by plan counter = if plan.down (Register counter) then negsuc 0 else pos 1

-- before a loop nothing is owed and its counter is set
abbrev pub start_lines : Plan → Owed → ℕ → ℕ → List Line
start_lines plan owed counter turns =
    let home = home_at plan (Register counter) in
    settle_lines owed ++ (constant_lines (register_of 30 home) (first_count plan counter turns) ++ put_lines home)

-- behind each turn its counter goes on; one that counts up is compared with the turns
abbrev pub count_lines : Plan → ℕ → ℕ → List Line
count_lines plan counter turns =
    let home = home_at plan (Register counter) in
    let register = register_of 30 home in
    fetch_lines 30 home ++ (ImmLine Addi register register (count_by plan counter)
    ∷ (put_lines home ++ (if plan.down (Register counter) then [] else constant_lines 31 (pos turns))))

abbrev pub last_count : Plan → ℕ → ℕ
last_count plan counter = if plan.down (Register counter) then 0 else 31

-- back to the first of these lines where the registers differ. Each way takes one step where that line is in reach of a branch,
-- and else two.
abbrev pub is_in_reach : ℕ → ℕ → Bool
is_in_reach top at = nat_le (at - top) 1024

abbrev pub back : ℕ → ℕ → ℕ → ℕ → Piece
back top left right at =
    if is_in_reach top at then record { lines = BranchLine Bne left right top ∷ []; steps = 1 }
    else record { lines = BranchLine Bne left right (at + 2) ∷ Jal 0 (at + 3) ∷ Jal 0 top ∷ []; steps = 2 }

-- the end of a turn whose first line is `top`
abbrev pub closing_of : Plan → ℕ → ℕ → ℕ → ℕ → Piece
closing_of plan counter turns top at =
    behind at (straight (count_lines plan counter turns))
    (back top (register_of 30 (home_at plan (Register counter))) (last_count plan counter))

-- a turn from this line on, whose body is this piece
abbrev pub turn_of : Plan → ℕ → ℕ → (ℕ → Piece) → ℕ → Piece
turn_of plan counter turns body top = behind top (body top) (closing_of plan counter turns top)

-- a loop of no turns has no lines for its turns
abbrev pub turns_of : ℕ → (ℕ → Piece) → ℕ → Piece
turns_of zero turn top = straight []
turns_of (suc turns) turn top = record { lines = (turn top).lines; steps = suc turns * (turn top).steps }

abbrev pub loop_of : Plan → ℕ → Owed → ℕ → ℕ → (ℕ → Piece) → Piece
loop_of plan at owed counter turns body =
    behind at (straight (start_lines plan owed counter turns)) (turns_of turns (turn_of plan counter turns body))

-- ---- choices

abbrev pub test_lines : Plan → Owed → ℕ → ℤ → List Line
test_lines plan owed left below =
    settle_lines owed ++ (fetch_lines 28 (home_at plan (Register left)) ++ constant_lines 29 below)

-- the lists of a choice, the test of which ends before this line: a branch over the jump to the second one, and a jump behind the first one
abbrev pub lists_of : ℕ → ℕ → (ℕ → Piece) → (ℕ → Piece) → Piece
lists_of register at one other =
    let first = one (at + 2) in
    let middle = at + 3 + length first.lines in
    let second = other middle in
    record {
      lines = BranchLine Blt register 29 (at + 2) ∷ Jal 0 middle ∷ (first.lines ++ Jal 0 (middle + length second.lines) ∷ second.lines);
      steps = 2 + max first.steps second.steps;
    }

abbrev pub choice_of : Plan → ℕ → Owed → ℕ → ℤ → (ℕ → Piece) → (ℕ → Piece) → Piece
choice_of plan at owed left below one other =
    behind at (straight (test_lines plan owed left below)) (λ next. lists_of (register_of 28 (home_at plan (Register left))) next one other)

-- ---- nests

abbrev pub owed_after : Plan → Owed → Steps → Owed
owed_after plan owed End = owed
owed_after plan owed (Then action rest) = owed_after plan (owed_by plan owed action) rest
owed_after plan owed (For counter turns body rest) = owed_after plan [] rest
owed_after plan owed (If left below one other rest) = owed_after plan [] rest

-- steps from this line on, where this is owed
abbrev pub emitted : Plan → Owed → Steps → ℕ → Piece
emitted plan owed End at = straight []
emitted plan owed (Then action rest) at =
    behind at (straight (action_lines plan at owed action)) (emitted plan (owed_by plan owed action) rest)
emitted plan owed (For counter turns body rest) at =
    behind at (loop_of plan at owed counter turns
    (λ top. behind top (emitted plan [] body top) (λ next. straight (settle_lines (owed_after plan [] body)))))
    (emitted plan [] rest)
emitted plan owed (If left below one other rest) at =
    behind at (choice_of plan at owed left below
    (λ top. behind top (emitted plan [] one top) (λ next. straight (settle_lines (owed_after plan [] one))))
    (λ top. behind top (emitted plan [] other top) (λ next. straight (settle_lines (owed_after plan [] other)))))
    (emitted plan [] rest)

-- a list that owes nothing behind it
abbrev pub settled : Plan → Steps → ℕ → Piece
settled plan steps top = behind top (emitted plan [] steps top) (λ next. straight (settle_lines (owed_after plan [] steps)))

-- ---- programs

abbrev pub plan_of : ℕ → Steps × Given → Plan
plan_of spill nest = record { spill = spill; homes = nest.1; down = counts_down nest.0 }

-- nests one after another, and the return; at the end of a nest what is owed is dropped
abbrev pub program : ℕ → List (Steps × Given) → ℕ → Piece
program spill [] at = straight (Jalr 0 (pos 0) 1 ∷ [])
program spill (nest ∷ nests) at = behind at (emitted (plan_of spill nest) [] nest.0 at) (program spill nests)
