-- All that is owed is repaid, home by home: what each home held less what it owed is what it holds.
use Rattle.std.specs.Prelude.{◌≡◌, ◌≢◌, ℕ, ◌+◌, Bool, true, false, ℤ, pos, ◌+ℤ◌, ◌*ℤ◌, ◌-ℤ◌}
use Rattle.std.specs.Prelude.{List, [], ◌∷◌, ◌++◌, length, Some, if◌then◌else◌}
use Rattle.std.specs.Int.{int_wrap, w64}
use Rattle.std.proofs.Common.{refl, sym, ap, ◌∙◌, arith, length-append}
use Rattle.std.proofs.lemmas.Bool.{true≢false}
use Rattle.std.proofs.lemmas.Int.{ints}
use Rattle.loop_ir.specs.Needed.{Keys}
use Rattle.loop_ir.specs.Running.{Key, Pointer, Register, State}
use Rattle.register_map.specs.declared.home.Home.{Home}
use Rattle.register_map.specs.Homes.{IsHome, home_of}
use Rattle.rv_line.specs.declared.line.Line.{Line}
use Rattle.rv_steps.specs.Good.{values_at}
use Rattle.rv_steps.specs.Machine.{Config, address_of}
use Rattle.rv_steps.specs.Pieces.{StandsAt}
use Rattle.rv_steps.specs.Wrapped.{wrapped}
use Rattle.rv_emit.specs.Emitting.{Plan}
use Rattle.rv_emit.specs.Handling.{Runs}
use Rattle.rv_emit.specs.MachineLaws.{MachineLaws}
use Rattle.rv_emit.specs.Moving.{repay_lines, settle_lines}
use Rattle.rv_emit.specs.Showing.{AreHomes, HasBlock, HasRoom, Shows, held_in, shown}
use Rattle.rv_emit.specs.Simulating.{Settling}
use Rattle.rv_emit.specs.Walks.{Owed, is_home, owed_at}
use Rattle.rv_emit.proofs.MovingRepayLemmas.{Repaid, leads-then, repay}
use Rattle.rv_emit.proofs.PlaceNumberLemmas.{home-is, home-same, words-less, wraps-again}
use Rattle.rv_emit.proofs.SimulateLemmas.{in-order}

-- ---- the test whether homes are the same

home-apart : (one other : Home) → is_home one other ≡ false → other ≢ one
home-apart one other h e = true≢false (sym (home-same one) ∙ ap (is_home one) (sym e) ∙ h)

-- ---- all is repaid

pub record Settled (lines : List Line) (base spill words at : ℕ) (owed : Owed) (c : Config) : Type 0 where
  pub run : Runs lines base spill at (settle_lines owed) c
  pub block : HasBlock base spill words run.last
  pub held : (to : Home) (z : ℤ) → IsHome spill to → held_in c to ≡ wrapped (z -ℤ pos 8 *ℤ owed_at owed to)
      → held_in run.last to ≡ wrapped z
  pub areas : values_at run.last.block spill words ≡ values_at c.block spill words

-- one home repays, and then this home holds its number less what the others owe it
repaid : (lines : List Line) (base spill words at : ℕ) (one : Home) (amount : ℤ) (others : Owed) (c : Config)
    (done : Repaid lines base spill words at one amount c) (b : Bool) (to : Home) (z : ℤ) → is_home one to ≡ b → IsHome spill to
    → held_in c to ≡ wrapped (z -ℤ pos 8 *ℤ (if b then int_wrap w64 (amount +ℤ owed_at others to) else owed_at others to))
    → held_in done.run.last to ≡ wrapped (z -ℤ pos 8 *ℤ owed_at others to)
repaid lines base spill words at one amount others c done true to z e there h =
    let same = home-is one to e in
    let rest = owed_at others to in
    let from : held_in c one ≡ wrapped (z -ℤ pos 8 *ℤ (amount +ℤ rest)) =
    ap (held_in c) same ∙ h ∙ words-less z (int_wrap w64 (amount +ℤ rest)) (amount +ℤ rest) (wraps-again (amount +ℤ rest)) in
    let sum : z -ℤ pos 8 *ℤ (amount +ℤ rest) +ℤ pos 8 *ℤ amount ≡ z -ℤ pos 8 *ℤ rest = omega (arith, ints) in
    ap (held_in done.run.last) (sym same) ∙ done.here (z -ℤ pos 8 *ℤ (amount +ℤ rest)) from ∙ ap wrapped sum
repaid lines base spill words at one amount others c done false to z e there h = done.others to there (home-apart one to e) ∙ h

module _ (laws : MachineLaws) (lines : List Line) (base spill words : ℕ) (room : HasRoom base spill words) where
  pub settle : (owed : Owed) (at : ℕ) (c : Config) → HasBlock base spill words c → AreHomes spill owed
      → StandsAt lines at (settle_lines owed) → c.pc ≡ address_of at → Settled lines base spill words at owed c
  settle [] at c block homes stands pc =
      record {
        run = record { last = c; accesses = []; leads = laws.none lines base c; behind = omega arith; in_order = refl };
        block = block;
        held = λ to z there h. let same : z -ℤ pos 8 *ℤ pos 0 ≡ z = omega (arith, ints) in h ∙ ap wrapped same;
        areas = refl;
      }
  settle (first ∷ others) at c block homes stands pc =
      let one = repay_lines first.0 first.1 in
      let two = settle_lines others in
      let r = repay laws lines base spill words room at first.0 first.1 c block homes.0
      (laws.front lines at one two stands) pc in
      let d = r.run.last in
      let s = settle others (at + length one) d r.block homes.1 (laws.back lines at one two stands) r.run.behind in
      let len = length-append one two in
      let on : s.run.last.pc ≡ address_of (at + (length one + length two)) = omega (arith, s.run.behind) in
      record {
        run = record {
          last = s.run.last;
          accesses = r.run.accesses ++ s.run.accesses;
          leads = leads-then laws lines base one two c d s.run.last r.run.accesses s.run.accesses r.run.leads s.run.leads;
          behind = rw len on;
          in_order = in-order base spill r.run.accesses s.run.accesses [] [] r.run.in_order s.run.in_order;
        };
        block = s.block;
        held = λ to z there h.
            s.held to z there (repaid lines base spill words at first.0 first.1 others c r (is_home first.0 to) to z refl there h);
        areas = s.areas ∙ r.areas;
      }

-- ---- the same state is shown

-- of a key's home
still-shown : (plan : Plan) (base words at : ℕ) (lines : List Line) (owed : Owed) (keys : Keys) (state : State) (c : Config)
    (done : Settled lines base plan.spill words at owed c) → Shows plan base owed keys state c
    → (key : Key) (to : Home) → keys key ≡ true → home_of plan.homes key ≡ Some to → IsHome plan.spill to
    → held_in done.run.last to ≡ shown plan base [] state key to
still-shown plan base words at lines owed keys state c done shows (Register number) to needed at_home there =
    let z = state.held (Register number) in
    let clear = shows.clear number to needed at_home in
    let same : z ≡ z -ℤ pos 8 *ℤ owed_at owed to = omega (arith, ints, clear) in
    done.held to z there (shows.held (Register number) to needed at_home ∙ ap wrapped same)
still-shown plan base words at lines owed keys state c done shows (Pointer number) to needed at_home there =
    let held = state.held (Pointer number) in
    let z = pos base +ℤ pos 8 *ℤ (pos plan.spill +ℤ (held -ℤ pos 0)) in
    let same : pos base +ℤ pos 8 *ℤ (pos plan.spill +ℤ (held -ℤ owed_at owed to)) ≡ z -ℤ pos 8 *ℤ owed_at owed to = omega (arith, ints) in
    done.held to z there (shows.held (Pointer number) to needed at_home ∙ ap wrapped same)

pub settled : MachineLaws → Settling
settled laws lines plan base at owed keys state c setting homes shows stands pc =
    let words = length state.words in
    let done = settle laws lines base plan.spill words setting.room owed at c shows.block homes stands pc in
    record {
      steps = length (settle_lines owed);
      last = done.run.last;
      accesses = done.run.accesses;
      touches = [];
      leads = done.run.leads;
      few = omega arith;
      exact = λ steady. refl;
      behind = done.run.behind;
      shows = record {
        block = done.block;
        words = done.areas ∙ shows.words;
        held = λ key to needed at_home.
            still-shown plan base words at lines owed keys state c done shows key to needed at_home (setting.homes key to at_home);
        clear = λ number to needed at_home. refl;
      };
      trace = refl;
      in_order = done.run.in_order;
    }
