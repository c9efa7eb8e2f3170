-- The lines of a choice do what the choice does, where those of its lists do what the lists do.
use Rattle.std.specs.Prelude.{◌≡◌, ℕ, ◌+◌, ◌<◌, ◌≤◌, max, Bool, true, false, ℤ, List, [], ◌∷◌, ◌++◌, length, IsSome, int_lt, if◌then◌else◌}
use Rattle.std.specs.Int.{w64}
use Rattle.std.proofs.Common.{refl, ap, ap₂, sym, subst, ◌∙◌, arith}
use Rattle.std.proofs.lemmas.Bool.{false≢true}
use Rattle.std.proofs.lemmas.Bool.Decides.{nat_tests}
use Rattle.std.proofs.lemmas.Int.{to_z-of_z}
use Rattle.loop_ir.specs.Fitting.{Fits64, HoldsFit}
use Rattle.loop_ir.specs.Needed.{Keys, needed}
use Rattle.loop_ir.specs.Running.{Register, State}
use Rattle.loop_ir.specs.Steps.{Steps}
use Rattle.register_map.specs.declared.home.Home.{Home}
use Rattle.register_map.specs.declared.home.Home.TheVariants as home
use Rattle.register_map.specs.Homes.{IsHome, home_of}
use Rattle.rv_line.specs.declared.line.Branch.TheVariants.{Blt}
use Rattle.rv_line.specs.declared.line.Line.{Line}
use Rattle.rv_line.specs.declared.line.Line.TheVariants.{Branch as BranchLine, Jal}
use Rattle.rv_steps.specs.Constants.{constant_lines}
use Rattle.rv_steps.specs.Effects.{signed_value, word_of}
use Rattle.rv_steps.specs.Machine.{Config, address_of, register_at, with_register}
use Rattle.rv_steps.specs.Pieces.{StandsAt}
use Rattle.rv_steps.specs.Registers.{is_among}
use Rattle.rv_steps.specs.Wrapped.{wrapped}
use Rattle.rv_emit.specs.Counting.{run_counting}
use Rattle.rv_emit.specs.Emitting.{Piece, Plan, home_at, lists_of, settled}
use Rattle.rv_emit.specs.Handling.{Fetching}
use Rattle.rv_emit.specs.MachineLaws.{MachineLaws}
use Rattle.rv_emit.specs.Moving.{fetch_lines, register_of}
use Rattle.rv_emit.specs.Showing.{AreTouches, IsSetting, Shows}
use Rattle.rv_emit.specs.Simulating.{is_steady}
use Rattle.rv_emit.proofs.CountingLemmas.{counting-many}
use Rattle.rv_emit.proofs.JumpLemmas.{Jumped, branch, jump, jumped-keeps, shows-idle}
use Rattle.rv_emit.proofs.LoopLemmas.{setting-for}
use Rattle.rv_emit.proofs.ShowLemmas.{home-there}
use Rattle.rv_emit.proofs.SimulateLemmas.{KeepsBut, Ran, Way, among-one, among-two, given-low, keeps-from, keeps-on, length-of-three}
use Rattle.rv_emit.proofs.SimulateLemmas.{ran, ran-then, way-ran, way-same, way-then, way-within}
use Rattle.rv_emit.proofs.TurnLemmas.{ListWay}

-- ---- the test

signed-back : (laws : MachineLaws) (x : ℤ) → Fits64 x → signed_value (wrapped x) ≡ x
signed-back laws x fit = ap signed_value (sym (laws.signed x fit)) ∙ to_z-of_z w64 x fit

-- words compare as the numbers do
pub compares : (laws : MachineLaws) (x y : ℤ) (a b : ℕ) → Fits64 x → Fits64 y → a ≡ wrapped x → b ≡ wrapped y
    → int_lt (signed_value a) (signed_value b) ≡ int_lt x y
compares laws x y a b fit small g h =
    ap₂ int_lt (ap signed_value g ∙ signed-back laws x fit) (ap signed_value h ∙ signed-back laws y small)

-- a register of a home that is fetched into x28 is not x29
not-29 : (spill : ℕ) (home : Home) → IsHome spill home → is_among (register_of 28 home) (29 ∷ []) ≡ false
not-29 spill (home.Register number) is = let low = given-low number is in apart number low
  where
    apart : (r : ℕ) → r < 28 → is_among r (29 ∷ []) ≡ false
    apart r low = grind (arith, nat_tests)
not-29 spill (home.Spill word) is = refl

pub record Tested (lines : List Line) (base spill n to : ℕ) (home : Home) (left below : ℕ) (c : Config) : Type 0 where
  pub run : Ran lines base spill n to c
  pub keeps : KeepsBut 28 c run.last
  pub first : register_at run.last.registers (register_of 28 home) ≡ left
  pub second : register_at run.last.registers 29 ≡ below

module _ (laws : MachineLaws) (fetch : Fetching) (lines : List Line) (plan : Plan) (base : ℕ) where
  pub tested : (at left : ℕ) (below : ℤ) (keys : Keys) (state : State) (c : Config) → IsSetting plan base (length state.words)
      → IsSome (home_of plan.homes (Register left)) → keys (Register left) ≡ true → Fits64 below → Shows plan base [] keys state c
      → StandsAt lines at (fetch_lines 28 (home_at plan (Register left)) ++ constant_lines 29 below) → c.pc ≡ address_of at
      → Tested lines base plan.spill (length (fetch_lines 28 (home_at plan (Register left))) + length (constant_lines 29 below))
      (at + length (fetch_lines 28 (home_at plan (Register left))) + length (constant_lines 29 below)) (home_at plan (Register left))
      (wrapped (state.held (Register left))) (wrapped below) c
  tested at left below keys state c setting some known small shows stands pc =
      let home = home_at plan (Register left) in
      let there = home-there plan (Register left) some in
      let is = setting.homes (Register left) home there in
      let fetches = fetch_lines 28 home in
      let constant = constant_lines 29 below in
      let middle = at + length fetches in
      let f = fetch lines base plan.spill (length state.words) at 28 home c setting.room shows.block is
      (omega arith) (omega arith) (laws.front lines at fetches constant stands) pc in
      let d = f.run.last in
      let word = word_of below in
      let e : Config = record
      { registers = with_register d.registers 29 word; pc = address_of (middle + length constant); block = d.block } in
      let sized = f.others.sized in
      let regs = shows.block.count in
      let inside : 29 < length d.registers = omega (arith, sized, regs) in
      let agree = laws.agree_one d.registers 29 word in
      let one : KeepsBut 28 c d = keeps-from 28 (28 ∷ 31 ∷ []) c d f.others f.block
      (λ s low apart. among-two s 28 31 28 low apart (omega arith) (omega arith)) in
      let two : KeepsBut 28 d e = keeps-from 28 (29 ∷ []) d e agree refl (λ s low apart. among-one s 29 28 low apart (omega arith)) in
      let last : Ran lines base plan.spill (length constant) (middle + length constant) d = record {
        last = e;
        accesses = [];
        leads = laws.constant lines base middle 29 below d (laws.back lines at fetches constant stands) (omega arith) inside small
            f.run.behind;
        there = refl;
        in_order = refl;
      } in
      record {
        run = ran-then laws lines base plan.spill (length fetches) (length constant) middle (middle + length constant) c
            (ran lines base plan.spill at fetches c f.run) last;
        keeps = keeps-on 28 c d e one two;
        first = agree.same (register_of 28 home) (not-29 plan.spill home is) ∙ f.value ∙ shows.held (Register left) home known there;
        second = laws.set d.registers 29 word (omega arith) inside ∙ laws.signed below small;
      }

-- ---- the lists

module _ (laws : MachineLaws) (lines : List Line) (plan : Plan) (base words : ℕ) (one other : Steps) (keys : Keys)
    (first_way : ListWay lines plan base words one keys) (second_way : ListWay lines plan base words other keys) where
  -- one jump, after which the same is shown
  jump-way : (n to : ℕ) (keys : Keys) (state : State) (c : Config) → length state.words ≡ words → IsSetting plan base words
      → Shows plan base [] keys state c → (jump : Jumped lines base plan.spill n to c) → Way lines plan base n to true [] keys state state c
  jump-way n to keys state c many setting shows jump =
      way-ran lines plan base n to [] keys state state c jump.run refl
      (shows-idle plan base 28 [] keys state c jump.run.last (setting-for plan base words state many setting) (omega arith)
      (jumped-keeps lines base plan.spill n to 28 c jump) shows)

  module _ (setting : IsSetting plan base words) (at register : ℕ) (state : State) (c : Config) (many : length state.words ≡ words)
      (fit : HoldsFit state)
      (stands : StandsAt lines at (lists_of register at (settled plan one) (settled plan other)).lines) (pc : c.pc ≡ address_of at) where
    abbrev one_piece : Piece
    one_piece = settled plan one (at + 2)

    abbrev middle : ℕ
    middle = at + 3 + length one_piece.lines

    abbrev other_piece : Piece
    other_piece = settled plan other middle

    abbrev end : ℕ
    end = middle + length other_piece.lines

    abbrev whole : List Line
    whole = (lists_of register at (settled plan one) (settled plan other)).lines

    abbrev tests : List Line
    tests = BranchLine Blt register 29 (at + 2) ∷ Jal 0 middle ∷ []

    abbrev over : List Line
    over = Jal 0 end ∷ []

    behind-tests : StandsAt lines (at + 2) (one_piece.lines ++ (over ++ other_piece.lines))
    behind-tests = laws.back lines at tests (one_piece.lines ++ (over ++ other_piece.lines)) stands

    behind-one : StandsAt lines (at + 2 + length one_piece.lines) (over ++ other_piece.lines)
    behind-one = laws.back lines (at + 2) one_piece.lines (over ++ other_piece.lines) behind-tests

    at-middle : at + 2 + length one_piece.lines + 1 ≡ middle
    at-middle = omega arith

    behind-over : StandsAt lines middle other_piece.lines
    behind-over = subst (λ k. StandsAt lines k other_piece.lines) at-middle
        (laws.back lines (at + 2 + length one_piece.lines) over other_piece.lines behind-one)

    long : 0 < length whole
    long = omega arith

    longer : 1 < length whole
    longer = omega arith

    taken : int_lt (signed_value (register_at c.registers register)) (signed_value (register_at c.registers 29)) ≡ true
        → Shows plan base [] (needed one keys) state c → AreTouches words (run_counting plan.down one state)
        → Way lines plan base (1 + (one_piece.steps + 1)) end false [] keys state (run_counting plan.down one state) c
    taken test shows touches =
        let after = run_counting plan.down one state in
        let need = needed one keys in
        let first = jump-way 1 (at + 2) need state c many setting shows
        (branch laws lines base plan.spill at 0 register 29 (at + 2) Blt whole c true stands long refl (pc ∙ omega arith) test) in
        let second : Way lines plan base one_piece.steps (at + 2 + length one_piece.lines) (is_steady one) [] keys state after first.last =
        first_way (at + 2) state first.last many fit first.shows
        (laws.front lines (at + 2) one_piece.lines (over ++ other_piece.lines) behind-tests)
        first.there touches in
        let still = counting-many plan.down one state ∙ many in
        let third = jump-way 1 end keys after second.last still setting second.shows
        (jump laws lines base plan.spill (at + 2 + length one_piece.lines) 0 end (over ++ other_piece.lines) second.last behind-one
        (omega arith) refl
        (second.there ∙ omega arith)) in
        way-then laws lines base plan 1 (one_piece.steps + 1) (at + 2) end true false false [] [] need keys state state after c first
        (way-then laws lines base plan one_piece.steps 1 (at + 2 + length one_piece.lines) end (is_steady one) true false [] [] keys keys
        state after after
        first.last second third (λ h. absurd (false≢true h)) (λ yes. refl))
        (λ yes. refl) (λ yes. yes)

    not-taken : int_lt (signed_value (register_at c.registers register)) (signed_value (register_at c.registers 29)) ≡ false
        → Shows plan base [] (needed other keys) state c → AreTouches words (run_counting plan.down other state)
        → Way lines plan base (1 + (1 + other_piece.steps)) end false [] keys state (run_counting plan.down other state) c
    not-taken test shows touches =
        let after = run_counting plan.down other state in
        let need = needed other keys in
        let first = jump-way 1 (at + 0 + 1) need state c many setting shows
        (branch laws lines base plan.spill at 0 register 29 (at + 2) Blt whole c false stands long refl (pc ∙ omega arith) test) in
        let there : first.last.pc ≡ address_of (at + 1) = first.there ∙ omega arith in
        let second = jump-way 1 middle need state first.last many setting first.shows
        (jump laws lines base plan.spill at 1 middle whole first.last stands longer refl there) in
        let third : Way lines plan base other_piece.steps end (is_steady other) [] keys state after second.last =
        second_way middle state second.last many fit second.shows behind-over second.there touches in
        way-then laws lines base plan 1 (1 + other_piece.steps) (at + 0 + 1) end true false false [] [] need keys state state after c first
        (way-then laws lines base plan 1 other_piece.steps middle end true (is_steady other) false [] [] need keys state state after
        first.last second third (λ yes. refl) (λ h. absurd (false≢true h)))
        (λ yes. refl) (λ yes. yes)

    pub lists-way : (test : Bool)
        → int_lt (signed_value (register_at c.registers register)) (signed_value (register_at c.registers 29)) ≡ test
        → Shows plan base [] (needed one keys) state c → Shows plan base [] (needed other keys) state c
        → AreTouches words (if test then run_counting plan.down one state else run_counting plan.down other state)
        → Way lines plan base (lists_of register at (settled plan one) (settled plan other)).steps (at + length whole) false [] keys
        state (if test then run_counting plan.down one state else run_counting plan.down other state) c
    lists-way true test shows others touches =
        let after = run_counting plan.down one state in
        let sum : length (one_piece.lines ++ (over ++ other_piece.lines)) ≡ length one_piece.lines + (1 + length other_piece.lines) =
        length-of-three one_piece.lines over other_piece.lines in
        let less : 1 + (one_piece.steps + 1) ≤ 2 + max one_piece.steps other_piece.steps = omega arith in
        way-same lines plan base (2 + max one_piece.steps other_piece.steps) (2 + max one_piece.steps other_piece.steps) end
        (at + length whole)
        false [] keys state after c refl (omega (arith, sum))
        (way-within lines plan base (1 + (one_piece.steps + 1)) (2 + max one_piece.steps other_piece.steps) end false [] keys state after
        c less
        (taken test shows touches))
    lists-way false test shows others touches =
        let after = run_counting plan.down other state in
        let sum : length (one_piece.lines ++ (over ++ other_piece.lines)) ≡ length one_piece.lines + (1 + length other_piece.lines) =
        length-of-three one_piece.lines over other_piece.lines in
        let less : 1 + (1 + other_piece.steps) ≤ 2 + max one_piece.steps other_piece.steps = omega arith in
        way-same lines plan base (2 + max one_piece.steps other_piece.steps) (2 + max one_piece.steps other_piece.steps) end
        (at + length whole)
        false [] keys state after c refl (omega (arith, sum))
        (way-within lines plan base (1 + (1 + other_piece.steps)) (2 + max one_piece.steps other_piece.steps) end false [] keys state
        after c less
        (not-taken test others touches))
