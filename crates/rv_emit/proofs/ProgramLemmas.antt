-- The lines of nests, one after another, end with the words to which the nests lead.
use Rattle.std.specs.Prelude.{◌≡◌, ℕ, ◌+◌, ◌*◌, ◌/◌, ◌%◌, ◌^◌, ◌≤◌, Bool, true, false, not, pos, List, [], ◌∷◌, ◌++◌, length, IsTrue}
use Rattle.std.specs.List.{AllByRecursion, list_all}
use Rattle.std.proofs.Common.{refl, ap, ap₂, sym, subst, ◌∙◌, append_assoc, append-nil, arith}
use Rattle.std.proofs.lemmas.Bool.{and_parts, false≢true}
use Rattle.shapes_core.specs.Limits.{most_items, most_words}
use Rattle.loop_ir.specs.Fitting.{HoldsFit, SetsFit}
use Rattle.loop_ir.specs.Kept.{KeepsCounters}
use Rattle.loop_ir.specs.Needed.{AreAlike, Keys, needed, none}
use Rattle.loop_ir.specs.Running.{Access as Touch, Key, State, run}
use Rattle.loop_ir.specs.Steps.{Steps}
use Rattle.register_map.specs.declared.home.Home.{Home}
use Rattle.register_map.specs.declared.home.Home.TheVariants as home
use Rattle.register_map.specs.Homes.{Given, IsHome}
use Rattle.rv_line.specs.declared.line.Line.{Line}
use Rattle.rv_line.specs.declared.line.Line.TheVariants.{Jalr}
use Rattle.rv_steps.specs.Accesses.{Leads}
use Rattle.rv_steps.specs.Good.{values_at}
use Rattle.rv_steps.specs.Kinds.{is_free}
use Rattle.rv_steps.specs.Machine.{Access, Config, Goes, IsAt, address, address_of, after_jump, next_step, register_at}
use Rattle.rv_steps.specs.Pieces.{StandsAt}
use Rattle.rv_emit.specs.Counting.{counts_down, reads_of, run_counting}
use Rattle.rv_emit.specs.Emitting.{Plan, emitted, owed_after, plan_of, program}
use Rattle.rv_emit.specs.MachineLaws.{MachineLaws}
use Rattle.rv_emit.specs.Showing.{AreInOrder, AreTouches, HasBlock, IsSetting, IsTouch, Shows}
use Rattle.rv_emit.specs.Simulating.{AreHomed, AreReady, IsReady, Performs, Simulates, StepsSimulate, are_steady, is_steady, run_each}
use Rattle.rv_emit.proofs.SiteLemmas.{home-lies}
use Rattle.rv_emit.proofs.CountingLemmas.{Grows, grows-on}
use Rattle.rv_emit.proofs.LoopLemmas.{touched-before}
use Rattle.rv_emit.proofs.SimulateLemmas.{in-order}

-- ---- the laws on which programs stand

pub record ProgramLaws : Type 0 where
  pub machine : MachineLaws
  pub simulated : StepsSimulate
  pub unread : (down : Keys) (steps : Steps) (first second : State) → ((key : Key) → reads_of steps key ≡ true → down key ≡ false)
      → AreAlike (λ key. not (down key)) first second
      → AreAlike (λ key. not (down key)) (run steps first) (run_counting down steps second)
  pub many : (down : Keys) (steps : Steps) (state : State) → length (run_counting down steps state).words ≡ length state.words
  pub fits : (steps : Steps) (state : State) → KeepsCounters steps → SetsFit steps → HoldsFit state → HoldsFit (run steps state)
  pub grow : (steps : Steps) (state : State) → Grows state (run steps state)

-- ---- nests one after another

-- a run from c to the end
pub record Going (lines : List Line) (base spill most : ℕ) (steady : Bool) (before after : State) (c : Config) : Type 0 where
  pub steps : ℕ
  pub last : Config
  pub accesses : List Access
  pub touches : List Touch
  pub leads : Leads lines base steps c last accesses
  pub few : steps ≤ most
  pub exact : steady ≡ true → steps ≡ most
  pub at_end : last.pc ≡ address_of (length lines)
  pub words : values_at last.block spill (length after.words) ≡ after.words
  pub trace : after.trace ≡ touches ++ before.trace
  pub in_order : AreInOrder base spill accesses touches

even-address : (n : ℕ) → n ≤ most_items → (65536 + 4 * n + 0) % 2 ^ 64 / 2 * 2 ≡ 65536 + 4 * n
even-address n few = omega arith

home-wider : (less spill : ℕ) (home : Home) → less ≤ spill → IsHome less home → IsHome spill home
home-wider less spill (home.Register number) wide is = is
home-wider less spill (home.Spill word) wide is = omega (arith, wide, is)

each-grows : (laws : ProgramLaws) (nests : List (Steps × Given)) (state : State) → Grows state (run_each nests state)
each-grows laws [] state = ([], refl)
each-grows laws (nest ∷ nests) state =
    let mid = run nest.0 state in
    grows-on state mid (run_each nests mid) (laws.grow nest.0 state) (each-grows laws nests mid)

-- a nest that needs nothing starts from any block that holds the words
nothing-needed : (plan : Plan) (base : ℕ) (keys : Keys) (state : State) (c : Config) → ((key : Key) → keys key ≡ false)
    → HasBlock base plan.spill (length state.words) c → values_at c.block plan.spill (length state.words) ≡ state.words
    → Shows plan base [] keys state c
nothing-needed plan base keys state c free block words = record {
  block = block;
  words = words;
  held = λ key home need there. absurd (false≢true (sym (free key) ∙ need));
  clear = λ number home need there. refl;
}

alike-self : (keys : Keys) (state : State) → AreAlike keys state state
alike-self keys state = record { held = λ key need. refl; words = refl; trace = refl }

-- the two states after a nest have the same words and traces
counted-alike : (laws : ProgramLaws) (steps : Steps) (state : State)
    → AreAlike (λ key. not (counts_down steps key)) (run steps state) (run_counting (counts_down steps) steps state)
counted-alike laws steps state =
    laws.unread (counts_down steps) steps state state (λ key read. ap not read) (alike-self (λ key. not (counts_down steps key)) state)

module _ (laws : ProgramLaws) (lines : List Line) (base spill : ℕ) (eights : base % 8 ≡ 0) (few : spill ≤ most_words)
    (free : IsTrue (list_all is_free lines)) (short : length lines ≤ most_items) where
  returns-way : (at : ℕ) (state : State) (c : Config) → values_at c.block spill (length state.words) ≡ state.words
      → StandsAt lines at (Jalr 0 (pos 0) 1 ∷ []) → c.pc ≡ address_of at → register_at c.registers 1 ≡ address_of (length lines)
      → Going lines base spill 1 true state state c
  returns-way at state c words stands pc back =
      let line : Line = Jalr 0 (pos 0) 1 in
      let d = after_jump c 0 (address c.registers 1 (pos 0) / 2 * 2) in
      let is : IsAt lines (at + 0) line c =
      record { at = pc ∙ omega arith; there = laws.machine.there lines at (line ∷ []) 0 stands (omega arith) } in
      let goes : next_step lines base c ≡ Goes d = laws.machine.goes lines base (at + 0) c line is in
      record {
        steps = 1;
        last = d;
        accesses = [];
        touches = [];
        leads = laws.machine.line lines base (at + 0) 0 line c d d [] is goes (laws.machine.none lines base d);
        few = omega arith;
        exact = λ yes. refl;
        at_end = ap (λ n. (n + 0) % 2 ^ 64 / 2 * 2) back ∙ even-address (length lines) short;
        words = words;
        trace = refl;
        in_order = refl;
      }

  nests-go : (nests : List (Steps × Given)) (at : ℕ) (state : State) (c : Config) → base + 8 * (spill + length state.words) ≤ 2 ^ 64
      → AreReady spill nests → HoldsFit state → HasBlock base spill (length state.words) c
      → values_at c.block spill (length state.words) ≡ state.words → StandsAt lines at (program spill nests at).lines
      → c.pc ≡ address_of at → register_at c.registers 1 ≡ address_of (length lines)
      → AreTouches (length state.words) (run_each nests state)
      → Going lines base spill (program spill nests at).steps (are_steady nests) state (run_each nests state) c
  nests-go [] at state c room ready fit block words stands pc back touches = returns-way at state c words stands pc back
  nests-go (nest ∷ nests) at state c room ready fit block words stands pc back touches =
      let own : IsReady spill nest = ready.0 in
      let plan = plan_of spill nest in
      let steps = nest.0 in
      let piece = emitted plan [] steps at in
      let next = at + length piece.lines in
      let more = program spill nests next in
      let count = length state.words in
      let mid = run steps state in
      let counting = run_counting (counts_down steps) steps state in
      let alike = counted-alike laws steps state in
      let after = run_each nests mid in
      let setting : IsSetting plan base count = record {
        room = record { aligned = eights; within = room; few = few };
        homes = λ key home there. home-wider nest.1.spill spill home own.homed.within (home-lies nest.0 nest.1 own.homed.given own.homed.fit key home there);
      } in
      let inner : AreTouches count mid = touched-before count mid after (each-grows laws nests mid) touches in
      let same : AreTouches count counting =
      subst (λ trace. AllByRecursion (IsTouch count) trace) alike.trace inner in
      let first : Simulates lines plan base at piece (is_steady steps) (owed_after plan [] steps) none state counting c =
      laws.simulated lines plan base at [] steps none state c setting tt own.homed.fit.there own.homed.fit.fits own.counters own.sets own.tests fit
      (nothing-needed plan base (needed steps none) state c own.free block words)
      (laws.machine.front lines at piece.lines more.lines stands) pc same in
      let d = first.last in
      let still : length mid.words ≡ count = ap length alike.words ∙ laws.many (counts_down steps) steps state in
      let held : HasBlock base spill (length mid.words) d =
      subst (λ words. HasBlock base spill (length words) d) (sym alike.words) first.shows.block in
      let holds : values_at d.block spill (length mid.words) ≡ mid.words =
      subst (λ words. values_at d.block spill (length words) ≡ words) (sym alike.words) first.shows.words in
      let second : Going lines base spill more.steps (are_steady nests) mid after d =
      nests-go nests next mid d (subst (λ n. base + 8 * (spill + n) ≤ 2 ^ 64) (sym still) room) ready.1
      (laws.fits steps state own.counters own.sets fit)
      held holds (laws.machine.back lines at piece.lines more.lines stands) first.behind
      (laws.machine.kept lines base first.steps c d 1 free first.leads.reaches refl ∙ back)
      (subst (λ n. AreTouches n after) (sym still) touches) in
      let less : first.steps ≤ piece.steps = first.few in
      let fewer : second.steps ≤ more.steps = second.few in
      record {
        steps = first.steps + second.steps;
        last = second.last;
        accesses = first.accesses ++ second.accesses;
        touches = second.touches ++ first.touches;
        leads = laws.machine.steps lines base first.steps second.steps c d second.last first.accesses second.accesses first.leads
            second.leads;
        few = omega (arith, less, fewer);
        exact = λ yes.
            let parts = and_parts (is_steady steps) (are_steady nests) yes in
            ap₂ (λ (m n : ℕ). m + n) (first.exact parts.0) (second.exact parts.1);
        at_end = second.at_end;
        words = second.words;
        trace = second.trace ∙ ap (λ trace. second.touches ++ trace) (alike.trace ∙ first.trace) ∙ sym
            (append_assoc second.touches first.touches state.trace);
        in_order = in-order base spill first.accesses second.accesses first.touches second.touches first.in_order second.in_order;
      }

  performs : (most : ℕ) (steady : Bool) (before after : State) (c : Config) → Going lines base spill most steady before after c
      → Performs lines base spill most steady before after c
  performs most steady before after c going = record {
    steps = going.steps;
    last = going.last;
    touches = going.touches;
    ends = record { reaches = going.leads.reaches; at_end = going.at_end };
    few = going.few;
    exact = going.exact;
    words = going.words;
    kept = λ r h. laws.machine.kept lines base going.steps c going.last r free going.leads.reaches h;
    trace = going.trace;
    in_order = subst (λ accesses. AreInOrder base spill accesses going.touches) (sym going.leads.in_order) going.in_order;
  }

homed-of : (spill : ℕ) (nests : List (Steps × Given)) → AreReady spill nests → AreHomed spill nests
homed-of spill [] ready = tt
homed-of spill (nest ∷ nests) ready = (ready.0.homed, homed-of spill nests ready.1)

whole-stands : (laws : ProgramLaws) (piece : List Line) → StandsAt piece 0 piece
whole-stands laws piece = subst (λ lines. StandsAt lines 0 piece) (append-nil piece) (laws.machine.stands [] piece [])

pub programs-performed : (laws : ProgramLaws)
    → ((nests : List (Steps × Given)) (spill : ℕ) → AreHomed spill nests → IsTrue (list_all is_free (program spill nests 0).lines))
    → (lines : List Line) (nests : List (Steps × Given)) (base spill : ℕ) (state : State) (c : Config)
    → base % 8 ≡ 0 → base + 8 * (spill + length state.words) ≤ 2 ^ 64 → spill ≤ most_words
    → AreReady spill nests → HoldsFit state → HasBlock base spill (length state.words) c
    → values_at c.block spill (length state.words) ≡ state.words
    → lines ≡ (program spill nests 0).lines → length lines ≤ most_items
    → c.pc ≡ address_of 0 → register_at c.registers 1 ≡ address_of (length lines)
    → AreTouches (length state.words) (run_each nests state)
    → Performs lines base spill (program spill nests 0).steps (are_steady nests) state (run_each nests state) c
programs-performed laws frees lines nests base spill state c eights room few ready fit block words same short pc back touches =
    let piece = (program spill nests 0).lines in
    let free : IsTrue (list_all is_free lines) = subst (λ all. IsTrue (list_all is_free all)) (sym same) (frees nests spill (homed-of spill nests ready)) in
    let stands : StandsAt lines 0 piece = subst (λ all. StandsAt all 0 piece) (sym same) (whole-stands laws piece) in
    performs laws lines base spill eights few free short (program spill nests 0).steps (are_steady nests) state (run_each nests state) c
    (nests-go laws lines base spill eights few free short nests 0 state c room ready fit block words stands pc back touches)
