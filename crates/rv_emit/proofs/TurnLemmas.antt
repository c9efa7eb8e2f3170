-- The turns of a loop: each does the body, lets the counter go on, and goes back but after the last one.
use Rattle.std.specs.Prelude.{◌≡◌, ℕ, zero, suc, ◌+◌, ◌-◌, ◌*◌, ◌^◌, ◌<◌, ◌≤◌, Bool, true, false, not, ◌&&◌, ◌||◌, pos, ◌+ℤ◌, List, [], ◌∷◌, ◌++◌, length, IsSome, nat_lt, ◌==◌, if◌then◌else◌}
use Rattle.std.proofs.Common.{refl, ap, ap₂, sym, ◌∙◌, arith, ⊎_elim, length-append}
use Rattle.std.proofs.lemmas.Bool.{cases_Bool, or_right}
use Rattle.std.proofs.lemmas.Bool.Decides.{nat_tests}
use Rattle.loop_ir.specs.Fitting.{HoldsFit}
use Rattle.loop_ir.specs.Kept.{may_set}
use Rattle.loop_ir.specs.Needed.{Keys, needed, none, among, reads, sets}
use Rattle.loop_ir.specs.Running.{Key, Register, State, is_key, repeated}
use Rattle.loop_ir.specs.Steps.{Steps, End, Then, For, If}
use Rattle.register_map.specs.Fits.{SetsApart, at_head}
use Rattle.register_map.specs.Homes.{home_of}
use Rattle.rv_line.specs.declared.line.Line.{Line}
use Rattle.rv_steps.specs.Machine.{Config, address_of, register_at}
use Rattle.rv_steps.specs.Pieces.{StandsAt}
use Rattle.rv_steps.specs.Wrapped.{wrapped}
use Rattle.rv_emit.specs.Counting.{gone_on, run_counting}
use Rattle.rv_emit.specs.Emitting.{Plan, back, count_by, count_lines, emitted, home_at, last_count, owed_after, settled, turn_of}
use Rattle.rv_emit.specs.Handling.{Fetching, Putting}
use Rattle.rv_emit.specs.MachineLaws.{MachineLaws}
use Rattle.rv_emit.specs.Moving.{register_of, settle_lines}
use Rattle.rv_emit.specs.Showing.{AreHomes, AreTouches, IsSetting, Shows}
use Rattle.rv_emit.specs.Simulating.{Settling, is_steady}
use Rattle.rv_emit.proofs.CountingLemmas.{ActionLaws, Grows, Turned, body-turned, count-step, count_at, counting-grows, counting-many, gone-turned, repeated-many}
use Rattle.rv_emit.proofs.JumpLemmas.{goes-back, jumped-keeps, shows-idle}
use Rattle.rv_emit.proofs.LoopLemmas.{Counted, count-on, setting-for, touched-before}
use Rattle.rv_emit.proofs.SimulateLemmas.{Way, Within, length-of-three, ran-then, shows-fewer, way-of, way-ran, way-same, way-then}

-- ---- a list that owes nothing behind it

-- the lines of a list, with what it owes behind it brought to its homes, do what it does, from wherever they stand
abbrev pub ListWay : List Line → Plan → ℕ → ℕ → Steps → Keys → Type 0
ListWay lines plan base words list keys = (top : ℕ) (state : State) (c : Config) → length state.words ≡ words → HoldsFit state
    → Shows plan base [] (needed list keys) state c → StandsAt lines top (settled plan list top).lines → c.pc ≡ address_of top
    → AreTouches words (run_counting plan.down list state)
    → Way lines plan base (settled plan list top).steps (top + length (settled plan list top).lines) (is_steady list) [] keys
    state (run_counting plan.down list state) c

-- the same of its own lines, which owe what they owe behind them
abbrev pub OwnWay : List Line → Plan → ℕ → ℕ → Steps → Keys → Type 0
OwnWay lines plan base words list keys = (top : ℕ) (state : State) (c : Config) → length state.words ≡ words → HoldsFit state
    → Shows plan base [] (needed list keys) state c → StandsAt lines top (emitted plan [] list top).lines → c.pc ≡ address_of top
    → AreTouches words (run_counting plan.down list state)
    → Way lines plan base (emitted plan [] list top).steps (top + length (emitted plan [] list top).lines) (is_steady list)
    (owed_after plan [] list) keys
    state (run_counting plan.down list state) c

pub list-way : (laws : MachineLaws) (settle : Settling) (lines : List Line) (plan : Plan) (base words : ℕ) (list : Steps) (keys : Keys)
    → IsSetting plan base words → AreHomes plan.spill (owed_after plan [] list)
    → OwnWay lines plan base words list keys → ListWay lines plan base words list keys
list-way laws settle lines plan base words list keys setting homes own top state c many fit shows stands pc touches =
    let piece = emitted plan [] list top in
    let owed = owed_after plan [] list in
    let owing = settle_lines owed in
    let after = run_counting plan.down list state in
    let first : Way lines plan base piece.steps (top + length piece.lines) (is_steady list) owed keys state after c =
    own top state c many fit shows (laws.front lines top piece.lines owing stands) pc touches in
    let middle = top + length piece.lines in
    let still : length after.words ≡ words = counting-many plan.down list state ∙ many in
    let second : Way lines plan base (length owing) (middle + length owing) true [] keys after after first.last =
    way-of lines plan base middle (record { lines = owing; steps = length owing }) true [] keys after after first.last
    (settle lines plan base middle owed keys after first.last (setting-for plan base words after still setting) homes first.shows
    (laws.back lines top piece.lines owing stands) first.there) in
    let sum : length (piece.lines ++ owing) ≡ length piece.lines + length owing = length-append piece.lines owing in
    way-same lines plan base (piece.steps + length owing) (piece.steps + length owing) (middle + length owing)
    (top + length (piece.lines ++ owing))
    (is_steady list) [] keys state after c refl (omega (arith, sum))
    (way-then laws lines base plan piece.steps (length owing) middle (middle + length owing) (is_steady list) true (is_steady list) owed
    [] keys keys
    state after after c first second (λ yes. yes) (λ yes. refl))

-- ---- what is needed at the head of a loop

-- what is needed before steps at a key is decided by whether that key is needed behind them
pub needed-same : (steps : Steps) (after other : Keys) (key : Key) → after key ≡ other key → needed steps after key ≡ needed steps other key
needed-same End after other key h = h
needed-same (Then action rest) after other key h =
    ap (λ behind. among (reads action) key || (behind && not (among (sets action) key))) (needed-same rest after other key h)
needed-same (For counter turns body rest) after other key h =
    ap (λ behind. (behind || needed body none key) && not (is_key key (Register counter))) (needed-same rest after other key h)
needed-same (If left below one two rest) after other key h =
    let behind = needed-same rest after other key h in
    ap₂ (λ a b. is_key key (Register left) || (a || b))
    (needed-same one (needed rest after) (needed rest other) key behind)
    (needed-same two (needed rest after) (needed rest other) key behind)

-- what a body needs with nothing behind it is all that it adds to what is needed behind it
settled-need : (body : Steps) (keys : Keys) → Within (needed body none) keys → Within (needed body keys) keys
settled-need body keys within key need =
    ⊎_elim (λ yes. yes) (λ no. within key (sym (needed-same body keys none key no) ∙ need)) (cases_Bool (keys key))

pub body-need : (counter : ℕ) (body rest : Steps) (keys : Keys)
    → Within (needed body (at_head counter body rest keys)) (at_head counter body rest keys)
body-need counter body rest keys = settled-need body (at_head counter body rest keys) (λ key need.
    or_right (is_key key (Register counter)) (needed rest keys key || needed body none key)
    (or_right (needed rest keys key) (needed body none key) need))

-- ---- where a turn ends

-- at the first line of the turns, but behind them after the last turn
abbrev pub exit : ℕ → ℕ → ℕ → ℕ → ℕ
exit top end turns count = if nat_lt count turns then top else end

down-test : (turns count a b : ℕ) → a + count ≡ turns → b ≡ 0 → not (a == b) ≡ nat_lt count turns
down-test turns count a b h k = grind (arith, nat_tests)

up-test : (turns count a b : ℕ) → count ≤ turns → a ≡ count → b ≡ turns → not (a == b) ≡ nat_lt count turns
up-test turns count a b h k l = grind (arith, nat_tests)

goes-on : (laws : MachineLaws) (down : Bool) (turns count a b : ℕ) → count ≤ turns → turns < 2 ^ 63
    → a ≡ wrapped (if down then pos (turns - count) else pos count) → b ≡ (if down then 0 else turns) → not (a == b) ≡ nat_lt count turns
goes-on laws true turns count a b within few h k =
    let is : a ≡ turns - count = h ∙ laws.natural (turns - count) (omega (arith, few)) in
    down-test turns count a b (omega (arith, within, is)) k
goes-on laws false turns count a b within few h k =
    up-test turns count a b within (h ∙ laws.natural count (omega (arith, few, within))) k

-- ---- one turn, and so many

module _ (laws : MachineLaws) (acts : ActionLaws) (fetch : Fetching) (put : Putting) (lines : List Line) (plan : Plan) (base words : ℕ)
    (setting : IsSetting plan base words)
    (counter turns top : ℕ) (body : Steps) (head : Keys) (some : IsSome (home_of plan.homes (Register counter)))
    (apart : SetsApart (home_of plan.homes) (Register counter ∷ []) head) (known : head (Register counter) ≡ true)
    (few : turns < 2 ^ 63) (kept : may_set body (Register counter) ≡ false) (within : Within (needed body head) head)
    (fits : (state : State) → HoldsFit state → HoldsFit (run_counting plan.down body state))
    (way : ListWay lines plan base words body head)
    (stands : StandsAt lines top (turn_of plan counter turns (settled plan body) top).lines) where
  abbrev turn : State → State
  turn state = gone_on plan.down counter (run_counting plan.down body state)

  abbrev most : ℕ
  most = (turn_of plan counter turns (settled plan body) top).steps

  abbrev end : ℕ
  end = top + length (turn_of plan counter turns (settled plan body) top).lines

  turn-way : (count : ℕ) (state : State) (c : Config) → count < turns → length state.words ≡ words
      → Turned plan.down counter turns count state
      → Shows plan base [] head state c → c.pc ≡ address_of top → AreTouches words (turn state)
      → Way lines plan base most (exit top end turns (suc count)) (is_steady body) [] head state (turn state) c
  turn-way count state c more many turned shows pc touches =
      let inner = settled plan body top in
      let counts = count_lines plan counter turns in
      let middle = top + length inner.lines in
      let next = middle + length counts in
      let left = register_of 30 (home_at plan (Register counter)) in
      let right = last_count plan counter in
      let goes = back top left right next in
      let mid = run_counting plan.down body state in
      let taken = nat_lt (suc count) turns in
      let rest = laws.back lines top inner.lines (counts ++ goes.lines) stands in
      let first : Way lines plan base inner.steps middle (is_steady body) [] head state mid c =
      way top state c many turned.fit (shows-fewer plan base [] head (needed body head) state c within shows)
      (laws.front lines top inner.lines (counts ++ goes.lines) stands) pc touches in
      let d = first.last in
      let still : length mid.words ≡ words = counting-many plan.down body state ∙ many in
      let here = setting-for plan base words mid still setting in
      let second : Counted lines plan base (length counts) next counter turns head mid d =
      count-on laws fetch put lines plan base middle counter turns head mid d here some apart known few first.shows
      (laws.front lines middle counts goes.lines rest) first.there in
      let e = second.run.last in
      let is : mid.held (Register counter) ≡ count_at plan.down counter turns count =
      (body-turned acts plan.down counter turns count body state kept
      (fits state turned.fit) turned).counted_is in
      let on : mid.held (Register counter) +ℤ count_by plan counter ≡ count_at plan.down counter turns (suc count) =
      ap (λ n. n +ℤ count_by plan counter) is ∙ count-step (plan.down (Register counter)) turns count more in
      let test : not (register_at e.registers left == register_at e.registers right) ≡ taken =
      goes-on laws (plan.down (Register counter)) turns (suc count) (register_at e.registers left) (register_at e.registers right)
      (omega (arith, more)) few
      (second.register ∙ ap wrapped on) second.target in
      let jump = goes-back laws lines base plan.spill top left right next e taken (laws.back lines middle counts goes.lines rest)
      second.run.there test in
      let stop = if taken then top else next + length goes.lines in
      let after = turn state in
      let third : Way lines plan base (length counts + goes.steps) stop true [] head mid after d =
      way-ran lines plan base (length counts + goes.steps) stop [] head mid after d
      (ran-then laws lines base plan.spill (length counts) goes.steps next stop d second.run jump.run) refl
      (shows-idle plan base 28 [] head after e jump.run.last here (omega arith)
      (jumped-keeps lines base plan.spill goes.steps stop 28 e jump) second.shows) in
      let sum : length (inner.lines ++ (counts ++ goes.lines)) ≡ length inner.lines + (length counts + length goes.lines) =
      length-of-three inner.lines counts goes.lines in
      let ends : next + length goes.lines ≡ end = omega (arith, sum) in
      way-same lines plan base (inner.steps + (length counts + goes.steps)) most stop (exit top end turns (suc count)) (is_steady body) []
      head state after c
      refl (ap (λ n. if taken then top else n) ends)
      (way-then laws lines base plan inner.steps (length counts + goes.steps) middle stop (is_steady body) true (is_steady body) [] []
      head head
      state mid after c first third (λ yes. yes) (λ yes. refl))

  turn-grows : (state : State) → Grows state (turn state)
  turn-grows state = counting-grows acts plan.down body state

  turn-many : (state : State) → length (turn state).words ≡ length state.words
  turn-many state = counting-many plan.down body state

  turned-more : (count : ℕ) (state : State) → count < turns → Turned plan.down counter turns count state
      → Turned plan.down counter turns (suc count) (turn state)
  turned-more count state more h =
      gone-turned plan.down counter turns count (run_counting plan.down body state) few more
      (body-turned acts plan.down counter turns count body state kept (fits state h.fit) h)

  turned-all : (count : ℕ) (state : State) → count ≤ turns → Turned plan.down counter turns 0 state
      → Turned plan.down counter turns count (repeated turn count state)
  turned-all zero state within h = h
  turned-all (suc count) state within h =
      turned-more count (repeated turn count state) (omega (arith, within)) (turned-all count state (omega (arith, within)) h)

  none-done : (turns : ℕ) → 0 < turns → nat_lt 0 turns ≡ true
  none-done turns some = grind (arith, nat_tests)

  not-done : (count turns : ℕ) → count < turns → nat_lt count turns ≡ true
  not-done count turns some = grind (arith, nat_tests)

  pub turns-way : (count : ℕ) (state : State) (c : Config) → count ≤ turns → 0 < turns → length state.words ≡ words
      → Turned plan.down counter turns 0 state
      → Shows plan base [] head state c → c.pc ≡ address_of top → AreTouches words (repeated turn count state)
      → Way lines plan base (count * most) (exit top end turns count) (is_steady body) [] head state (repeated turn count state) c
  turns-way zero state c inside more many turned shows pc touches =
      let at : c.pc ≡ address_of (exit top end turns 0) =
      pc ∙ ap (λ (test : Bool). address_of (if test then top else end)) (sym (none-done turns more)) in
      record {
        steps = 0;
        last = c;
        accesses = [];
        touches = [];
        leads = laws.none lines base c;
        few = omega arith;
        exact = λ yes. omega arith;
        there = at;
        shows = shows;
        trace = refl;
        in_order = refl;
      }
  turns-way (suc count) state c inside more many turned shows pc touches =
      let before = repeated turn count state in
      let less : count < turns = omega (arith, inside) in
      let first : Way lines plan base (count * most) (exit top end turns count) (is_steady body) [] head state before c =
      turns-way count state c (omega (arith, inside)) more many turned shows pc
      (touched-before words before (turn before) (turn-grows before) touches) in
      let there : first.last.pc ≡ address_of top =
      first.there ∙ ap (λ (test : Bool). address_of (if test then top else end)) (not-done count turns less) in
      let second : Way lines plan base most (exit top end turns (suc count)) (is_steady body) [] head before (turn before) first.last =
      turn-way count before first.last less (repeated-many turn turn-many count state ∙ many)
      (turned-all count state (omega (arith, inside)) turned) first.shows there touches in
      let sum : count * most + most ≡ suc count * most = omega arith in
      way-same lines plan base (count * most + most) (suc count * most) (exit top end turns (suc count)) (exit top end turns (suc count))
      (is_steady body) [] head state (turn before) c sum refl
      (way-then laws lines base plan (count * most) most (exit top end turns count) (exit top end turns (suc count)) (is_steady body)
      (is_steady body)
      (is_steady body) [] [] head head state before (turn before) c first second (λ yes. yes) (λ yes. yes))
