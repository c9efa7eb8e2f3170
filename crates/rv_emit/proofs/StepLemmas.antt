-- The lines of steps do what the steps do, by induction on the steps.
use Rattle.std.specs.Prelude.{◌≡◌, ℕ, zero, suc, ◌+◌, ◌*◌, ◌^◌, ◌<◌, Bool, true, false, not, ◌&&◌, ◌||◌, ℤ, ◌+ℤ◌, List, [], ◌∷◌, ◌++◌, length, IsSome, nat_lt, int_lt, if◌then◌else◌}
use Rattle.std.specs.Int.{int_wrap, w64}
use Rattle.std.specs.List.{AllByRecursion}
use Rattle.std.proofs.Common.{refl, ap, sym, subst, ◌∙◌, arith, length-append}
use Rattle.std.proofs.lemmas.Bool.{and_parts, and_from, false≢true, or_left, or_right}
use Rattle.std.proofs.lemmas.Bool.Decides.{nat_tests}
use Rattle.loop_ir.specs.Costs.{named}
use Rattle.loop_ir.specs.Fitting.{Fits64, HoldsFit, SetsFit}
use Rattle.loop_ir.specs.Kept.{EachNamed, KeepsCounters, may_set}
use Rattle.loop_ir.specs.Needed.{Keys, needed, none}
use Rattle.loop_ir.specs.Running.{Register, Pointer, State, acted, is_key, repeated}
use Rattle.loop_ir.specs.Steps.{Action, Set, Copy, One, Two, Place, Spot, Walk, Read, Write, Steps, End, Then, For, If}
use Rattle.register_map.specs.declared.home.Home.{Home}
use Rattle.register_map.specs.Fits.{Fits, SetsApart, at_head}
use Rattle.register_map.specs.Homes.{IsHome, home_of}
use Rattle.rv_line.specs.declared.line.Line.{Line}
use Rattle.rv_steps.specs.Constants.{constant_lines}
use Rattle.rv_steps.specs.Machine.{Config, address_of, register_at}
use Rattle.rv_steps.specs.Pieces.{StandsAt}
use Rattle.rv_emit.specs.Counting.{begun, gone_on, run_counting}
use Rattle.rv_emit.specs.Emitting.{Plan, action_lines, choice_of, emitted, home_at, is_offset, lists_of, loop_of, near_owed, owed_after, owed_by, settled, start_lines, test_lines, turn_of}
use Rattle.rv_emit.specs.Handling.{Fetching, Putting}
use Rattle.rv_emit.specs.MachineLaws.{MachineLaws}
use Rattle.rv_emit.specs.Moving.{fetch_lines, register_of, settle_lines}
use Rattle.rv_emit.specs.Showing.{AreHomes, AreTouches, HomesLie, IsSetting, Shows}
use Rattle.rv_emit.specs.Simulating.{ActionSimulates, Settling, StepsSimulate, TestsFit, is_steady, is_steady_action}
use Rattle.rv_emit.specs.Walks.{Owed, is_home, owed_at, with_walk, without}
use Rattle.rv_emit.proofs.ChoiceLemmas.{compares, lists-way, tested}
use Rattle.rv_emit.proofs.CountingLemmas.{ActionLaws, acted-many, begun-turned, chosen-many, counting-fits, counting-grows}
use Rattle.rv_emit.proofs.CountingLemmas.{counting-many, either-fits, repeated-many, turns-fit}
use Rattle.rv_emit.proofs.JumpLemmas.{shows-idle}
use Rattle.rv_emit.proofs.LoopLemmas.{setting-for, start-way, touched-before}
use Rattle.rv_emit.proofs.PlaceNumberLemmas.{key-same}
use Rattle.rv_emit.proofs.ShowLemmas.{home-there}
use Rattle.rv_emit.proofs.SimulateLemmas.{Way, Within, length-of-three, shows-fewer, simulates-of, way-of, way-ran, way-same, way-then}
use Rattle.rv_emit.proofs.TurnLemmas.{ListWay, OwnWay, body-need, exit, list-way, turns-way}

-- ---- the homes that owe are there

without-either : (spill : ℕ) (same : Bool) (first : Home × ℤ) (others : Owed) → IsHome spill first.0 → AreHomes spill others
    → AreHomes spill (if same then others else first ∷ others)
without-either spill true first others is h = h
without-either spill false first others is h = (is, h)

without-homes : (spill : ℕ) (owed : Owed) (home : Home) → AreHomes spill owed → AreHomes spill (without owed home)
without-homes spill [] home h = tt
without-homes spill (first ∷ others) home h =
    without-either spill (is_home first.0 home) first (without others home) h.0 (without-homes spill others home h.1)

walk-either : (spill : ℕ) (same : Bool) (first : Home × ℤ) (words : ℤ) (others more : Owed) → IsHome spill first.0 → AreHomes spill others
    → AreHomes spill more → AreHomes spill (if same then (first.0, int_wrap w64 (first.1 +ℤ words)) ∷ others else first ∷ more)
walk-either spill true first words others more is h k = (is, h)
walk-either spill false first words others more is h k = (is, k)

walk-homes : (spill : ℕ) (owed : Owed) (home : Home) (words : ℤ) → IsHome spill home → AreHomes spill owed
    → AreHomes spill (with_walk owed home words)
walk-homes spill [] home words is h = (is, tt)
walk-homes spill (first ∷ others) home words is h =
    walk-either spill (is_home first.0 home) first words others (with_walk others home words) h.0 h.1
    (walk-homes spill others home words is h.1)

near-either : (spill : ℕ) (near : Bool) (owed : Owed) (home : Home) → AreHomes spill owed
    → AreHomes spill (if near then owed else without owed home)
near-either spill true owed home h = h
near-either spill false owed home h = without-homes spill owed home h

action-homes : (plan : Plan) (owed : Owed) (action : Action) → HomesLie plan
    → AllByRecursion (λ key. IsSome (home_of plan.homes key)) (named action)
    → AreHomes plan.spill owed → AreHomes plan.spill (owed_by plan owed action)
action-homes plan owed (Set to value) lie there h = without-homes plan.spill owed (home_at plan (Register to)) h
action-homes plan owed (Copy to from) lie there h = without-homes plan.spill owed (home_at plan (Register to)) h
action-homes plan owed (One op to from) lie there h = without-homes plan.spill owed (home_at plan (Register to)) h
action-homes plan owed (Two op to left right) lie there h = without-homes plan.spill owed (home_at plan (Register to)) h
action-homes plan owed (Place to word) lie there h = without-homes plan.spill owed (home_at plan (Pointer to)) h
action-homes plan owed (Spot to word by) lie there h = without-homes plan.spill owed (home_at plan (Pointer to)) h
action-homes plan owed (Walk place words) lie there h =
    walk-homes plan.spill owed (home_at plan (Pointer place)) words
    (lie (Pointer place) (home_at plan (Pointer place)) (home-there plan (Pointer place) there.0)) h
action-homes plan owed (Read to area place) lie there h =
    let near = home_at plan (Pointer place) in
    without-homes plan.spill (near_owed owed near) (home_at plan (Register to))
    (near-either plan.spill (is_offset (owed_at owed near)) owed near h)
action-homes plan owed (Write area place from) lie there h =
    let near = home_at plan (Pointer place) in near-either plan.spill (is_offset (owed_at owed near)) owed near h

pub after-homes : (plan : Plan) (owed : Owed) (steps : Steps) → HomesLie plan → EachNamed (λ key. IsSome (home_of plan.homes key)) steps
    → AreHomes plan.spill owed → AreHomes plan.spill (owed_after plan owed steps)
after-homes plan owed End lie there h = h
after-homes plan owed (Then action rest) lie there h =
    after-homes plan (owed_by plan owed action) rest lie there.1 (action-homes plan owed action lie there.0 h)
after-homes plan owed (For counter turns body rest) lie there h = after-homes plan [] rest lie there.1.1 tt
after-homes plan owed (If left below one other rest) lie there h = after-homes plan [] rest lie there.1.1.1 tt

-- ---- ways that show less, or are steady less often

way-eased : (lines : List Line) (plan : Plan) (base most to : ℕ) (steady other : Bool) (owed : Owed) (keys fewer : Keys)
    (before after : State) (c : Config)
    → (other ≡ true → steady ≡ true) → Within fewer keys → Way lines plan base most to steady owed keys before after c
    → Way lines plan base most to other owed fewer before after c
way-eased lines plan base most to steady other owed keys fewer before after c less within w = record {
  steps = w.steps;
  last = w.last;
  accesses = w.accesses;
  touches = w.touches;
  leads = w.leads;
  few = w.few;
  exact = λ yes. w.exact (less yes);
  there = w.there;
  shows = shows-fewer plan base owed keys fewer after w.last within w.shows;
  trace = w.trace;
  in_order = w.in_order;
}

-- ---- loops

apart-need : (a b c d : Bool) → (a || (b || c)) ≡ true → a ≡ false → ((b || c) && not a) ≡ true
apart-need true b c d h k = absurd (false≢true (sym k))
apart-need false true c d h k = refl
apart-need false false c d h k = and_from c true h refl

abbrev pub Simulated : Type 0
Simulated = (action : Action) → ActionSimulates action

all-done : (n : ℕ) → nat_lt n n ≡ false
all-done n = grind (arith, nat_tests)

module _ (laws : MachineLaws) (acts : ActionLaws) (fetch : Fetching) (put : Putting) (settle : Settling) (lines : List Line) (plan : Plan)
    (base words : ℕ)
    (setting : IsSetting plan base words) where
  loop-way : (at counter turns : ℕ) (owed : Owed) (body rest : Steps) (keys : Keys) (state : State) (c : Config)
      → length state.words ≡ words
      → AreHomes plan.spill owed → IsSome (home_of plan.homes (Register counter)) → may_set body (Register counter) ≡ false → turns < 2 ^ 63
      → SetsApart (home_of plan.homes) (Register counter ∷ []) (at_head counter body rest keys)
      → ((state : State) → HoldsFit state → HoldsFit (run_counting plan.down body state))
      → ListWay lines plan base words body (at_head counter body rest keys)
      → HoldsFit state → Shows plan base owed (needed (For counter turns body rest) keys) state c
      → StandsAt lines at (loop_of plan at owed counter turns (settled plan body)).lines → c.pc ≡ address_of at
      → AreTouches words (repeated (λ before. gone_on plan.down counter (run_counting plan.down body before)) turns
      (begun plan.down counter turns state))
      → Way lines plan base (loop_of plan at owed counter turns (settled plan body)).steps
      (at + length (loop_of plan at owed counter turns (settled plan body)).lines) (is_steady body) [] (needed rest keys) state
      (repeated (λ before. gone_on plan.down counter (run_counting plan.down body before)) turns (begun plan.down counter turns state)) c
  loop-way at counter zero owed body rest keys state c many homes some kept few apart fits way fit shows stands pc touches =
      let head = at_head counter body rest keys in
      let start = start_lines plan owed counter 0 in
      let after = begun plan.down counter 0 state in
      let first : Way lines plan base (length start) (at + length start) true [] head state after c =
      start-way laws put settle lines plan base at counter 0 owed (needed (For counter 0 body rest) keys) head state c
      (setting-for plan base words state many setting) homes some apart few
      (λ key need other. apart-need (is_key key (Register counter)) (needed rest keys key) (needed body none key) true need other)
      shows (laws.front lines at start [] stands) pc in
      let sum : length (start ++ []) ≡ length start + 0 = length-append start [] in
      way-same lines plan base (length start) (length start + 0) (at + length start) (at + length (start ++ [])) (is_steady body) []
      (needed rest keys)
      state after c (omega arith) (omega (arith, sum))
      (way-eased lines plan base (length start) (at + length start) true (is_steady body) [] head (needed rest keys) state after c
      (λ yes. refl)
      (λ key need. or_right (is_key key (Register counter)) (needed rest keys key || needed body none key)
      (or_left (needed rest keys key) (needed body none key) need))
      first)
  loop-way at counter (suc less) owed body rest keys state c many homes some kept few apart fits way fit shows stands pc touches =
      let turns = suc less in
      let head = at_head counter body rest keys in
      let start = start_lines plan owed counter turns in
      let top = at + length start in
      let turn = turn_of plan counter turns (settled plan body) top in
      let begin = begun plan.down counter turns state in
      let step = λ (before : State). gone_on plan.down counter (run_counting plan.down body before) in
      let after = repeated step turns begin in
      let first : Way lines plan base (length start) top true [] head state begin c =
      start-way laws put settle lines plan base at counter turns owed (needed (For counter turns body rest) keys) head state c
      (setting-for plan base words state many setting) homes some apart few
      (λ key need other. apart-need (is_key key (Register counter)) (needed rest keys key) (needed body none key) true need other)
      shows (laws.front lines at start turn.lines stands) pc in
      let known : head (Register counter) ≡ true = or_left (is_key (Register counter) (Register counter))
      (needed rest keys (Register counter) || needed body none (Register counter)) (key-same (Register counter)) in
      let end = top + length turn.lines in
      let second : Way lines plan base (turns * turn.steps) (exit top end turns turns) (is_steady body) [] head begin after first.last =
      turns-way laws acts fetch put lines plan base words setting counter turns top body head some apart known few kept
      (body-need counter body rest keys)
      fits way (laws.back lines at start turn.lines stands) turns begin first.last (omega arith) (omega arith) many
      (begun-turned plan.down counter turns state few fit) first.shows first.there touches in
      let stop : exit top end turns turns ≡ end = ap (λ (test : Bool). if test then top else end) (all-done turns) in
      let sum : length (start ++ turn.lines) ≡ length start + length turn.lines = length-append start turn.lines in
      way-eased lines plan base (length start + turns * turn.steps) (at + length (start ++ turn.lines)) (is_steady body) (is_steady body)
      [] head (needed rest keys)
      state after c (λ yes. yes)
      (λ key need. or_right (is_key key (Register counter)) (needed rest keys key || needed body none key)
      (or_left (needed rest keys key) (needed body none key) need))
      (way-same lines plan base (length start + turns * turn.steps) (length start + turns * turn.steps) end
      (at + length (start ++ turn.lines))
      (is_steady body) [] head state after c refl (omega (arith, sum))
      (way-same lines plan base (length start + turns * turn.steps) (length start + turns * turn.steps) (exit top end turns turns) end
      (is_steady body) [] head state after c refl stop
      (way-then laws lines base plan (length start) (turns * turn.steps) top (exit top end turns turns) true (is_steady body)
      (is_steady body) [] [] head head
      state begin after c first second (λ yes. refl) (λ yes. yes))))

  -- ---- choices

  choice-way : (at left : ℕ) (below : ℤ) (owed : Owed) (one other rest : Steps) (keys : Keys) (state : State) (c : Config)
      → length state.words ≡ words
      → AreHomes plan.spill owed → IsSome (home_of plan.homes (Register left)) → Fits64 below
      → ListWay lines plan base words one (needed rest keys) → ListWay lines plan base words other (needed rest keys)
      → HoldsFit state → Shows plan base owed (needed (If left below one other rest) keys) state c
      → StandsAt lines at (choice_of plan at owed left below (settled plan one) (settled plan other)).lines → c.pc ≡ address_of at
      → AreTouches words (if int_lt (state.held (Register left)) below then run_counting plan.down one state else run_counting plan.down
      other state)
      → Way lines plan base (choice_of plan at owed left below (settled plan one) (settled plan other)).steps
      (at + length (choice_of plan at owed left below (settled plan one) (settled plan other)).lines) false [] (needed rest keys) state
      (if int_lt (state.held (Register left)) below then run_counting plan.down one state else run_counting plan.down other state) c
  choice-way at left below owed one other rest keys state c many homes some small one_way other_way fit shows stands pc touches =
      let whole = needed (If left below one other rest) keys in
      let behind = needed rest keys in
      let owing = settle_lines owed in
      let home = home_at plan (Register left) in
      let fetches = fetch_lines 28 home in
      let constant = constant_lines 29 below in
      let tests = test_lines plan owed left below in
      let next = at + length tests in
      let register = register_of 28 home in
      let lists = lists_of register next (settled plan one) (settled plan other) in
      let here = setting-for plan base words state many setting in
      let front = laws.front lines at tests lists.lines stands in
      let middle = at + length owing in
      let first : Way lines plan base (length owing) middle true [] whole state state c =
      way-of lines plan base at (record { lines = owing; steps = length owing }) true [] whole state state c
      (settle lines plan base at owed whole state c here homes shows (laws.front lines at owing (fetches ++ constant) front) pc) in
      let d = first.last in
      let known : whole (Register left) ≡ true = or_left (is_key (Register left) (Register left))
      (needed one behind (Register left) || needed other behind (Register left)) (key-same (Register left)) in
      let test = tested laws fetch lines plan base middle left below whole state d here some known small first.shows
      (laws.back lines at owing (fetches ++ constant) front) first.there in
      let e = test.run.last in
      let n = length fetches + length constant in
      let second : Way lines plan base n (middle + length fetches + length constant) true [] whole state state d =
      way-ran lines plan base n (middle + length fetches + length constant) [] whole state state d test.run refl
      (shows-idle plan base 28 [] whole state d e here (omega arith) test.keeps first.shows) in
      let sum : length tests ≡ length owing + n = length-of-three owing fetches constant in
      let there : e.pc ≡ address_of next = test.run.there ∙ omega (arith, sum) in
      let fact = int_lt (state.held (Register left)) below in
      let after = if fact then run_counting plan.down one state else run_counting plan.down other state in
      let third : Way lines plan base lists.steps (next + length lists.lines) false [] behind state after e =
      lists-way laws lines plan base words one other behind one_way other_way setting next register state e many fit
      (laws.back lines at tests lists.lines stands) there fact
      (compares laws (state.held (Register left)) below (register_at e.registers register) (register_at e.registers 29)
      (fit.registers left) small test.first test.second)
      (shows-fewer plan base [] whole (needed one behind) state e
      (λ key need. or_right (is_key key (Register left)) (needed one behind key || needed other behind key)
      (or_left (needed one behind key) (needed other behind key) need)) second.shows)
      (shows-fewer plan base [] whole (needed other behind) state e
      (λ key need. or_right (is_key key (Register left)) (needed one behind key || needed other behind key)
      (or_right (needed one behind key) (needed other behind key) need)) second.shows)
      touches in
      let total : length (tests ++ lists.lines) ≡ length tests + length lists.lines = length-append tests lists.lines in
      way-same lines plan base (length owing + (n + lists.steps)) (length tests + lists.steps) (next + length lists.lines)
      (at + length (tests ++ lists.lines))
      false [] behind state after c (omega (arith, sum)) (omega (arith, total))
      (way-then laws lines base plan (length owing) (n + lists.steps) middle (next + length lists.lines) true false false [] [] whole behind
      state state after c first
      (way-then laws lines base plan n lists.steps (middle + length fetches + length constant) (next + length lists.lines) true false
      false [] [] whole behind
      state state after d second third (λ yes. refl) (λ yes. yes))
      (λ yes. refl) (λ yes. yes))

  -- ---- steps

  pub steps-way : Simulated → (steps : Steps) (at : ℕ) (owed : Owed) (keys : Keys) (state : State) (c : Config) → length state.words ≡ words
      → AreHomes plan.spill owed → EachNamed (λ key. IsSome (home_of plan.homes key)) steps → Fits (home_of plan.homes) steps keys
      → KeepsCounters steps → SetsFit steps → TestsFit steps → HoldsFit state → Shows plan base owed (needed steps keys) state c
      → StandsAt lines at (emitted plan owed steps at).lines → c.pc ≡ address_of at → AreTouches words (run_counting plan.down steps state)
      → Way lines plan base (emitted plan owed steps at).steps (at + length (emitted plan owed steps at).lines) (is_steady steps)
      (owed_after plan owed steps) keys state (run_counting plan.down steps state) c
  steps-way simulate End at owed keys state c many homes some fits kept small tests fit shows stands pc touches = record {
    steps = 0;
    last = c;
    accesses = [];
    touches = [];
    leads = laws.none lines base c;
    few = omega arith;
    exact = λ yes. refl;
    there = pc ∙ omega arith;
    shows = shows;
    trace = refl;
    in_order = refl;
  }
  steps-way simulate (Then action rest) at owed keys state c many homes some fits kept small tests fit shows stands pc touches =
      let piece = action_lines plan at owed action in
      let mid = acted action state in
      let owes = owed_by plan owed action in
      let between = needed rest keys in
      let next = at + length piece in
      let more = emitted plan owes rest next in
      let after = run_counting plan.down rest mid in
      let inner : AreTouches words mid = touched-before words mid after (counting-grows acts plan.down rest mid) touches in
      let first : Way lines plan base (length piece) next (is_steady_action action) owes between state mid c =
      way-of lines plan base at (record { lines = piece; steps = length piece }) (is_steady_action action) owes between state mid c
      (simulate action lines plan base at owed between state c (setting-for plan base words state many setting) fit small.0 homes some.0
      fits.0 fits.1.0 shows
      (laws.front lines at piece more.lines stands) pc (subst (λ n. AreTouches n mid) (sym many) inner)) in
      let second : Way lines plan base more.steps (next + length more.lines) (is_steady rest) (owed_after plan owes rest) keys mid after
      first.last =
      steps-way simulate rest next owes keys mid first.last (acted-many action state ∙ many)
      (action-homes plan owed action setting.homes some.0 homes) some.1 fits.1.1 kept small.1 tests (acts.fits action state small.0 fit)
      first.shows
      (laws.back lines at piece more.lines stands) first.there touches in
      let sum : length (piece ++ more.lines) ≡ length piece + length more.lines = length-append piece more.lines in
      way-same lines plan base (length piece + more.steps) (length piece + more.steps) (next + length more.lines)
      (at + length (piece ++ more.lines))
      (is_steady (Then action rest)) (owed_after plan owes rest) keys state after c refl (omega (arith, sum))
      (way-then laws lines base plan (length piece) more.steps next (next + length more.lines) (is_steady_action action) (is_steady rest)
      (is_steady (Then action rest)) owes (owed_after plan owes rest) between keys state mid after c first second
      (λ yes. (and_parts (is_steady_action action) (is_steady rest) yes).0)
      (λ yes. (and_parts (is_steady_action action) (is_steady rest) yes).1))
  steps-way simulate (For counter turns body rest) at owed keys state c many homes some fits kept small tests fit shows stands pc touches =
      let loop = loop_of plan at owed counter turns (settled plan body) in
      let next = at + length loop.lines in
      let more = emitted plan [] rest next in
      let head = at_head counter body rest keys in
      let step = λ (before : State). gone_on plan.down counter (run_counting plan.down body before) in
      let begin = begun plan.down counter turns state in
      let mid = repeated step turns begin in
      let after = run_counting plan.down rest mid in
      let own : OwnWay lines plan base words body head = λ top inner d same holds need stood here touched.
      steps-way simulate body top [] head inner d same tt some.1.0 fits.1.1.1.0 kept.1.0 small.0 tests.0 holds need stood here touched in
      let way : ListWay lines plan base words body head =
      list-way laws settle lines plan base words body head setting (after-homes plan [] body setting.homes some.1.0 tt) own in
      let body_fits : (before : State) → HoldsFit before → HoldsFit (run_counting plan.down body before) = λ before holds.
      counting-fits acts plan.down body before kept.1.0 small.0 holds in
      let first : Way lines plan base loop.steps next (is_steady body) [] (needed rest keys) state mid c =
      loop-way at counter turns owed body rest keys state c many homes some.0 kept.0.0 kept.0.1 fits.1.1.0 body_fits way fit shows
      (laws.front lines at loop.lines more.lines stands) pc
      (touched-before words mid after (counting-grows acts plan.down rest mid) touches) in
      let still : length mid.words ≡ words =
      repeated-many step (λ before. counting-many plan.down body before) turns begin ∙ many in
      let holds : HoldsFit mid = (turns-fit acts plan.down counter turns body kept.0.0 kept.0.1 body_fits turns begin
      (omega arith) (begun-turned plan.down counter turns state kept.0.1 fit)).fit in
      let second : Way lines plan base more.steps (next + length more.lines) (is_steady rest) (owed_after plan [] rest) keys mid after
      first.last =
      steps-way simulate rest next [] keys mid first.last still tt some.1.1 fits.1.1.1.1 kept.1.1 small.1 tests.1 holds first.shows
      (laws.back lines at loop.lines more.lines stands) first.there touches in
      let sum : length (loop.lines ++ more.lines) ≡ length loop.lines + length more.lines = length-append loop.lines more.lines in
      way-same lines plan base (loop.steps + more.steps) (loop.steps + more.steps) (next + length more.lines)
      (at + length (loop.lines ++ more.lines))
      (is_steady (For counter turns body rest)) (owed_after plan [] rest) keys state after c refl (omega (arith, sum))
      (way-then laws lines base plan loop.steps more.steps next (next + length more.lines) (is_steady body) (is_steady rest)
      (is_steady (For counter turns body rest)) [] (owed_after plan [] rest) (needed rest keys) keys state mid after c first second
      (λ yes. (and_parts (is_steady body) (is_steady rest) yes).0) (λ yes. (and_parts (is_steady body) (is_steady rest) yes).1))
  steps-way simulate (If left below one other rest) at owed keys state c many homes some fits kept small tests fit shows stands pc touches =
      let choice = choice_of plan at owed left below (settled plan one) (settled plan other) in
      let next = at + length choice.lines in
      let more = emitted plan [] rest next in
      let behind = needed rest keys in
      let fact = int_lt (state.held (Register left)) below in
      let mid = if fact then run_counting plan.down one state else run_counting plan.down other state in
      let after = run_counting plan.down rest mid in
      let one_way : ListWay lines plan base words one behind =
      list-way laws settle lines plan base words one behind setting (after-homes plan [] one setting.homes some.1.0 tt)
      (λ top inner d same holds need stood here touched.
      steps-way simulate one top [] behind inner d same tt some.1.0 fits.1.0 kept.0 small.0 tests.1.0 holds need stood here touched) in
      let other_way : ListWay lines plan base words other behind =
      list-way laws settle lines plan base words other behind setting (after-homes plan [] other setting.homes some.1.1.0 tt)
      (λ top inner d same holds need stood here touched.
      steps-way simulate other top [] behind inner d same tt some.1.1.0 fits.1.1.0 kept.1.0 small.1.0 tests.1.1.0 holds need stood here
      touched) in
      let first : Way lines plan base choice.steps next false [] behind state mid c =
      choice-way at left below owed one other rest keys state c many homes some.0 tests.0 one_way other_way fit shows
      (laws.front lines at choice.lines more.lines stands) pc
      (touched-before words mid after (counting-grows acts plan.down rest mid) touches) in
      let still : length mid.words ≡ words =
      chosen-many fact state (run_counting plan.down one state) (run_counting plan.down other state)
      (counting-many plan.down one state) (counting-many plan.down other state) ∙ many in
      let holds : HoldsFit mid = either-fits fact (run_counting plan.down one state) (run_counting plan.down other state)
      (counting-fits acts plan.down one state kept.0 small.0 fit) (counting-fits acts plan.down other state kept.1.0 small.1.0 fit) in
      let second : Way lines plan base more.steps (next + length more.lines) (is_steady rest) (owed_after plan [] rest) keys mid after
      first.last =
      steps-way simulate rest next [] keys mid first.last still tt some.1.1.1 fits.1.1.1 kept.1.1 small.1.1 tests.1.1.1 holds first.shows
      (laws.back lines at choice.lines more.lines stands) first.there touches in
      let sum : length (choice.lines ++ more.lines) ≡ length choice.lines + length more.lines = length-append choice.lines more.lines in
      way-same lines plan base (choice.steps + more.steps) (choice.steps + more.steps) (next + length more.lines)
      (at + length (choice.lines ++ more.lines))
      false (owed_after plan [] rest) keys state after c refl (omega (arith, sum))
      (way-then laws lines base plan choice.steps more.steps next (next + length more.lines) false (is_steady rest)
      false [] (owed_after plan [] rest) behind keys state mid after c first second (λ yes. yes) (λ no. absurd (false≢true no)))

pub steps-simulated : (laws : MachineLaws) (acts : ActionLaws) (fetch : Fetching) (put : Putting) (settle : Settling) → Simulated
    → StepsSimulate
steps-simulated laws acts fetch put settle simulate lines plan base at owed steps keys state c setting homes some fits kept small tests fit
    shows stands pc touches =
    simulates-of lines plan base at (emitted plan owed steps at) (is_steady steps) (owed_after plan owed steps) keys state
    (run_counting plan.down steps state) c
    (steps-way laws acts fetch put settle lines plan base (length state.words) setting simulate steps at owed keys state c refl homes some fits
    kept small tests fit shows stands pc touches)
