-- Branches and jumps, after which every register is as it was.
use Rattle.std.specs.Prelude.{◌≡◌, ℕ, ◌+◌, ◌<◌, ◌≤◌, Bool, true, false, not, List, [], ◌∷◌, length, slice_get, Some, ◌==◌, if◌then◌else◌}
use Rattle.std.proofs.Common.{refl, ap, subst, ◌∙◌, arith}
use Rattle.loop_ir.specs.Needed.{Keys}
use Rattle.loop_ir.specs.Running.{State}
use Rattle.register_map.specs.declared.home.Home.{Home}
use Rattle.register_map.specs.declared.home.Home.TheVariants as home
use Rattle.register_map.specs.Homes.{IsHome}
use Rattle.rv_line.specs.declared.line.Branch.{Branch}
use Rattle.rv_line.specs.declared.line.Branch.TheVariants.{Bne}
use Rattle.rv_line.specs.declared.line.Line.{Line}
use Rattle.rv_line.specs.declared.line.Line.TheVariants.{Branch as BranchLine, Jal}
use Rattle.rv_steps.specs.Effects.{is_taken}
use Rattle.rv_steps.specs.Good.{values_at}
use Rattle.rv_steps.specs.Machine.{Config, Goes, IsAt, address_of, after_jump, next_step, register_at, with_register}
use Rattle.rv_steps.specs.Pieces.{StandsAt}
use Rattle.rv_emit.specs.Emitting.{Piece, Plan, back, is_in_reach}
use Rattle.rv_emit.specs.MachineLaws.{MachineLaws}
use Rattle.rv_emit.specs.Showing.{IsSetting, Shows, held_in}
use Rattle.rv_emit.specs.Walks.{Owed}
use Rattle.rv_emit.proofs.SimulateLemmas.{KeepsBut, Ran, block-kept, given-low, ran-then}

-- ---- what is shown where no home changes

pub held-idle : (spill but : ℕ) (home : Home) (c d : Config) → 28 ≤ but → KeepsBut but c d → IsHome spill home
    → held_in d home ≡ held_in c home
held-idle spill but (home.Register number) c d high keeps is =
    let low = given-low number is in keeps.same number low (omega (arith, low, high))
held-idle spill but (home.Spill word) c d high keeps is = ap (λ block. held_in (record c { block = block }) (home.Spill word)) keeps.block

pub shows-idle : (plan : Plan) (base but : ℕ) (owed : Owed) (keys : Keys) (state : State) (c d : Config)
    → IsSetting plan base (length state.words)
    → 28 ≤ but → KeepsBut but c d → Shows plan base owed keys state c → Shows plan base owed keys state d
shows-idle plan base but owed keys state c d setting high keeps shows = record {
  block = block-kept base plan.spill (length state.words) but c d (omega (arith, high)) keeps shows.block;
  words = ap (λ block. values_at block plan.spill (length state.words)) keeps.block ∙ shows.words;
  held = λ key home need there. held-idle plan.spill but home c d high keeps (setting.homes key home there) ∙ shows.held key home need
      there;
  clear = shows.clear;
}

-- ---- jumps

abbrev back_where : Bool → ℕ → ℕ → ℕ → ℕ → Piece
back_where near top left right at =
    if near then record { lines = BranchLine Bne left right top ∷ []; steps = 1 }
    else record { lines = BranchLine Bne left right (at + 2) ∷ Jal 0 (at + 3) ∷ Jal 0 top ∷ []; steps = 2 }

pub record Jumped (lines : List Line) (base spill n to : ℕ) (c : Config) : Type 0 where
  pub run : Ran lines base spill n to c
  pub registers : run.last.registers ≡ c.registers
  pub block : run.last.block ≡ c.block

pub jumped-keeps : (lines : List Line) (base spill n to but : ℕ) (c : Config) (jump : Jumped lines base spill n to c)
    → KeepsBut but c jump.run.last
jumped-keeps lines base spill n to but c jump = record {
  block = jump.block;
  sized = ap length jump.registers;
  same = λ r low apart. ap (λ registers. register_at registers r) jump.registers;
}

zero-kept : (registers : List ℕ) (value : ℕ) → with_register registers 0 value ≡ registers
unfolding with_register
zero-kept registers value = refl

pub zero-is : (registers : List ℕ) → register_at registers 0 ≡ 0
unfolding register_at
zero-is registers = refl

module _ (laws : MachineLaws) (lines : List Line) (base spill : ℕ) where
  abbrev pub jumped-then : (m n middle to : ℕ) (c : Config) (first : Jumped lines base spill m middle c)
      → Jumped lines base spill n to first.run.last → Jumped lines base spill (m + n) to c
  jumped-then m n middle to c first second = record {
    run = ran-then laws lines base spill m n middle to c first.run second.run;
    registers = second.registers ∙ first.registers;
    block = second.block ∙ first.block;
  }

  pub jump : (at i target : ℕ) (piece : List Line) (c : Config) → StandsAt lines at piece → i < length piece
      → slice_get piece i ≡ Some (Jal 0 target) → c.pc ≡ address_of (at + i) → Jumped lines base spill 1 target c
  jump at i target piece c stands within there pc =
      let line : Line = Jal 0 target in
      let d = after_jump c 0 (address_of target) in
      let is : IsAt lines (at + i) line c = record { at = pc; there = laws.there lines at piece i stands within ∙ there } in
      let goes : next_step lines base c ≡ Goes d = laws.goes lines base (at + i) c line is in
      record {
        run = record {
          last = d;
          accesses = [];
          leads = laws.line lines base (at + i) 0 line c d d [] is goes (laws.none lines base d);
          there = refl;
          in_order = refl;
        };
        registers = zero-kept c.registers (c.pc + 4);
        block = refl;
      }

  pub branch : (at i left right target : ℕ) (code : Branch) (piece : List Line) (c : Config) (taken : Bool) → StandsAt lines at piece
      → i < length piece
      → slice_get piece i ≡ Some (BranchLine code left right target) → c.pc ≡ address_of (at + i)
      → is_taken code (register_at c.registers left) (register_at c.registers right) ≡ taken
      → Jumped lines base spill 1 (if taken then target else at + i + 1) c
  branch at i left right target code piece c true stands within there pc test =
      let line : Line = BranchLine code left right target in
      let d : Config = record { registers = c.registers; pc = address_of target; block = c.block } in
      let is : IsAt lines (at + i) line c = record { at = pc; there = laws.there lines at piece i stands within ∙ there } in
      let goes : next_step lines base c ≡ Goes d = laws.taken lines base (at + i) c code left right target is test in
      record {
        run = record {
          last = d;
          accesses = [];
          leads = laws.line lines base (at + i) 0 line c d d [] is goes (laws.none lines base d);
          there = refl;
          in_order = refl;
        };
        registers = refl;
        block = refl;
      }
  branch at i left right target code piece c false stands within there pc test =
      let line : Line = BranchLine code left right target in
      let d : Config = record { registers = c.registers; pc = c.pc + 4; block = c.block } in
      let is : IsAt lines (at + i) line c = record { at = pc; there = laws.there lines at piece i stands within ∙ there } in
      let goes : next_step lines base c ≡ Goes d = laws.not_taken lines base (at + i) c code left right target is test in
      let end : c.pc + 4 ≡ address_of (at + i + 1) = omega (arith, pc) in
      record {
        run = record {
          last = d;
          accesses = [];
          leads = laws.line lines base (at + i) 0 line c d d [] is goes (laws.none lines base d);
          there = end;
          in_order = refl;
        };
        registers = refl;
        block = refl;
      }

  -- the same jump with another end that is equal
  pub jumped-same : (n to other : ℕ) (c : Config) → to ≡ other → Jumped lines base spill n to c → Jumped lines base spill n other c
  jumped-same n to other c same h = subst (λ end. Jumped lines base spill n end c) same h

  -- ---- back to the first line of a loop

  near-back : (top left right at : ℕ) (c : Config) (taken : Bool) → StandsAt lines at (BranchLine Bne left right top ∷ [])
      → c.pc ≡ address_of at
      → not (register_at c.registers left == register_at c.registers right) ≡ taken
      → Jumped lines base spill 1 (if taken then top else at + 1) c
  near-back top left right at c taken stands pc test =
      let piece : List Line = BranchLine Bne left right top ∷ [] in
      let end : at + 0 + 1 ≡ at + 1 = omega arith in
      jumped-same 1 (if taken then top else at + 0 + 1) (if taken then top else at + 1) c (ap (λ n. if taken then top else n) end)
      (branch at 0 left right top Bne piece c taken stands (omega arith) refl (pc ∙ omega arith) test)

  far-back : (top left right at : ℕ) (c : Config) (taken : Bool)
      → StandsAt lines at (BranchLine Bne left right (at + 2) ∷ Jal 0 (at + 3) ∷ Jal 0 top ∷ []) → c.pc ≡ address_of at
      → not (register_at c.registers left == register_at c.registers right) ≡ taken
      → Jumped lines base spill 2 (if taken then top else at + 3) c
  far-back top left right at c true stands pc test =
      let piece : List Line = BranchLine Bne left right (at + 2) ∷ Jal 0 (at + 3) ∷ Jal 0 top ∷ [] in
      let first = branch at 0 left right (at + 2) Bne piece c true stands (omega arith) refl (pc ∙ omega arith) test in
      jumped-then 1 1 (at + 2) top c first (jump at 2 top piece first.run.last stands (omega arith) refl first.run.there)
  far-back top left right at c false stands pc test =
      let piece : List Line = BranchLine Bne left right (at + 2) ∷ Jal 0 (at + 3) ∷ Jal 0 top ∷ [] in
      let first = branch at 0 left right (at + 2) Bne piece c false stands (omega arith) refl (pc ∙ omega arith) test in
      let there : first.run.last.pc ≡ address_of (at + 1) = first.run.there ∙ omega arith in
      jumped-then 1 1 (at + 0 + 1) (at + 3) c first (jump at 1 (at + 3) piece first.run.last stands (omega arith) refl there)

  back-either : (near : Bool) (top left right at : ℕ) (c : Config) (taken : Bool)
      → StandsAt lines at (back_where near top left right at).lines
      → c.pc ≡ address_of at → not (register_at c.registers left == register_at c.registers right) ≡ taken
      → Jumped lines base spill (back_where near top left right at).steps
      (if taken then top else at + length (back_where near top left right at).lines) c
  back-either true top left right at c taken stands pc test = near-back top left right at c taken stands pc test
  back-either false top left right at c taken stands pc test = far-back top left right at c taken stands pc test

  pub goes-back : (top left right at : ℕ) (c : Config) (taken : Bool) → StandsAt lines at (back top left right at).lines
      → c.pc ≡ address_of at
      → not (register_at c.registers left == register_at c.registers right) ≡ taken
      → Jumped lines base spill (back top left right at).steps (if taken then top else at + length (back top left right at).lines) c
  goes-back top left right at c taken stands pc test = back-either (is_in_reach top at) top left right at c taken stands pc test
