-- What steps do where counters count down: as much as where all count up, and what runs keep.
use Rattle.std.specs.Prelude.{◌≡◌, ℕ, zero, suc, ◌+◌, ◌-◌, ◌^◌, ◌<◌, ◌≤◌, Bool, true, false, not, ◌&&◌, ◌||◌, ℤ, pos, negsuc, ◌+ℤ◌, List, [], ◌++◌, length, int_lt, if◌then◌else◌}
use Rattle.std.proofs.Common.{refl, ap, ap₂, sym, subst, ◌∙◌, append_assoc, arith, length-set}
use Rattle.std.proofs.lemmas.Bool.{false≢true, or_left, or_right, true≢false}
use Rattle.std.proofs.lemmas.Int.{ints}
use Rattle.loop_ir.specs.Fitting.{Fits64, HoldsFit, SetFits, SetsFit}
use Rattle.loop_ir.specs.Kept.{KeepsCounters, may_set}
use Rattle.loop_ir.specs.Needed.{AreAlike, Keys, among, needed, reads, sets}
use Rattle.loop_ir.specs.Running.{Access, Key, Register, Pointer, State, acted, counted, holding, is_key, repeated, run, with_word}
use Rattle.loop_ir.specs.Steps.{Action, Set, Copy, One, Two, Place, Spot, Walk, Read, Write, Steps, End, Then, For, If}
use Rattle.rv_emit.specs.Counting.{begun, gone_on, reads_of, run_counting}
use Rattle.rv_emit.proofs.PlaceNumberLemmas.{key-is, key-same}

-- ---- what one action does

pub record ActionLaws : Type 0 where
  pub alike : (action : Action) (after : Keys) (first second : State) → AreAlike (needed (Then action End) after) first second
      → AreAlike after (acted action first) (acted action second)
  pub stays : (action : Action) (key : Key) (state : State) → (among (sets action) key || false) ≡ false
      → (acted action state).held key ≡ state.held key
  pub fits : (action : Action) (state : State) → SetFits action → HoldsFit state → HoldsFit (acted action state)
  pub grows : (action : Action) (state : State) → (more : List Access) × ((acted action state).trace ≡ more ++ state.trace)

-- ---- tests and keys

pub first-fails : (a b : Bool) → (a || b) ≡ false → a ≡ false
first-fails true b h = absurd (true≢false h)
first-fails false b h = refl

pub second-fails : (a b : Bool) → (a || b) ≡ false → b ≡ false
second-fails true b h = absurd (true≢false h)
second-fails false b h = h

pub either : {X : Type 0} (a b : Bool) → (a || b) ≡ true → (a ≡ true → X) → (b ≡ true → X) → X
either true b h one other = one refl
either false b h one other = other h

pub first_passes : (a b : Bool) → (a && b) ≡ true → a ≡ true
first_passes true b h = refl
first_passes false b h = h

pub not-passes : (a : Bool) → not a ≡ true → a ≡ false
not-passes true h = absurd (false≢true h)
not-passes false h = refl

-- what a key holds that was just set, and each other key
pub held-set : (to : Key) (number : ℤ) (state : State) → (holding to number state).held to ≡ number
held-set to number state = ap (λ test. if test then number else state.held to) (key-same to)

not-chosen : (test : Bool) (one other : ℤ) → test ≡ false → (if test then one else other) ≡ other
not-chosen true one other h = absurd (true≢false h)
not-chosen false one other h = refl

pub other-set : (to : Key) (number : ℤ) (state : State) (key : Key) → is_key key to ≡ false
    → (holding to number state).held key ≡ state.held key
other-set to number state key h = not-chosen (is_key key to) number (state.held key) h

-- ---- states that are alike but for counters that count down

abbrev Alike : Keys → State → State → Type 0
Alike down first second = AreAlike (λ key. not (down key)) first second

chosen-same : (test : Bool) (n m a b : ℤ) → (test ≡ true → n ≡ m) → a ≡ b → (if test then n else a) ≡ (if test then m else b)
chosen-same true n m a b e f = e refl
chosen-same false n m a b e f = f

-- a key is set, alike where it does not count down
holding-alike : (down : Keys) (key : Key) (n m : ℤ) (first second : State) → (down key ≡ false → n ≡ m) → Alike down first second
    → Alike down (holding key n first) (holding key m second)
holding-alike down key n m first second same h = record {
  held = λ other need. chosen-same (is_key other key) n m (first.held other) (second.held other)
      (λ is. same (not-passes (down key) (subst (λ k. not (down k) ≡ true) (key-is other key is) need)))
      (h.held other need);
  words = h.words;
  trace = h.trace;
}

repeated-alike : (down : Keys) (up turn : State → State)
    → ((first second : State) → Alike down first second → Alike down (up first) (turn second))
    → (count : ℕ) (first second : State) → Alike down first second → Alike down (repeated up count first) (repeated turn count second)
repeated-alike down up turn step zero first second h = h
repeated-alike down up turn step (suc count) first second h =
    step (repeated up count first) (repeated turn count second) (repeated-alike down up turn step count first second h)

chosen-alike : (down : Keys) (test other : Bool) (a b c d : State) → test ≡ other → Alike down a c → Alike down b d
    → Alike down (if test then a else b) (if other then c else d)
chosen-alike down true true a b c d same h k = h
chosen-alike down false false a b c d same h k = k
chosen-alike down true false a b c d same h k = absurd (true≢false same)
chosen-alike down false true a b c d same h k = absurd (false≢true same)

-- by how much a counter that does not count down goes on, and where it begins
up-by : (down : Bool) → down ≡ false → pos 1 ≡ (if down then negsuc 0 else pos 1)
up-by true h = absurd (true≢false h)
up-by false h = refl

up-from : (down : Bool) (turns : ℕ) → down ≡ false → pos 0 ≡ (if down then pos turns else pos 0)
up-from true turns h = absurd (true≢false h)
up-from false turns h = refl

gone-on-alike : (down : Keys) (counter : ℕ) (first second : State) → Alike down first second
    → Alike down (counted counter first) (gone_on down counter second)
gone-on-alike down counter first second h =
    holding-alike down (Register counter) _ _ first second
    (λ up. ap₂ (λ n by. n +ℤ by) (h.held (Register counter) (ap not up)) (up-by (down (Register counter)) up)) h

module _ (laws : ActionLaws) where
  acted-alike : (down : Keys) (action : Action) (first second : State) → ((key : Key) → among (reads action) key ≡ true → down key ≡ false)
      → Alike down first second → Alike down (acted action first) (acted action second)
  acted-alike down action first second unread h = laws.alike action (λ key. not (down key)) first second (record {
    held = λ key need. h.held key
        (either (among (reads action) key) (not (down key) && not (among (sets action) key)) need
        (λ read. ap not (unread key read))
        (λ behind. first_passes (not (down key)) (not (among (sets action) key)) behind));
    words = h.words;
    trace = h.trace;
  })

  pub counting-alike : (down : Keys) (steps : Steps) (first second : State) → ((key : Key) → reads_of steps key ≡ true → down key ≡ false)
      → Alike down first second → Alike down (run steps first) (run_counting down steps second)
  counting-alike down End first second unread h = h
  counting-alike down (Then action rest) first second unread h =
      counting-alike down rest (acted action first) (acted action second)
      (λ key read. unread key (or_right (among (reads action) key) (reads_of rest key) read))
      (acted-alike down action first second (λ key read. unread key (or_left (among (reads action) key) (reads_of rest key) read)) h)
  counting-alike down (For counter turns body rest) first second unread h =
      let up = λ (before : State). counted counter (run body before) in
      let turn = λ (before : State). gone_on down counter (run_counting down body before) in
      let begin = holding (Register counter) (pos 0) first in
      let start = begun down counter turns second in
      let step : (a b : State) → Alike down a b → Alike down (up a) (turn b) = λ a b alike.
      gone-on-alike down counter (run body a) (run_counting down body b)
      (counting-alike down body a b (λ key read. unread key (or_left (reads_of body key) (reads_of rest key) read)) alike) in
      counting-alike down rest (repeated up turns begin) (repeated turn turns start)
      (λ key read. unread key (or_right (reads_of body key) (reads_of rest key) read))
      (repeated-alike down up turn step turns begin start
      (holding-alike down (Register counter) _ _ first second (up-from (down (Register counter)) turns) h))
  counting-alike down (If left below one other rest) first second unread h =
      let test = λ (state : State). int_lt (state.held (Register left)) below in
      let known = unread (Register left) (or_left (is_key (Register left) (Register left))
      (reads_of one (Register left) || (reads_of other (Register left) || reads_of rest (Register left))) (key-same (Register left))) in
      let behind = λ (key : Key) (read : (reads_of one key || (reads_of other key || reads_of rest key)) ≡ true).
      unread key (or_right (is_key key (Register left)) (reads_of one key || (reads_of other key || reads_of rest key)) read) in
      let a = counting-alike down one first second
      (λ key read. behind key (or_left (reads_of one key) (reads_of other key || reads_of rest key) read)) h in
      let b = counting-alike down other first second
      (λ key read. behind key (or_right (reads_of one key) (reads_of other key || reads_of rest key)
      (or_left (reads_of other key) (reads_of rest key) read))) h in
      counting-alike down rest _ _
      (λ key read. behind key (or_right (reads_of one key) (reads_of other key || reads_of rest key)
      (or_right (reads_of other key) (reads_of rest key) read)))
      (chosen-alike down (test first) (test second) (run one first) (run other first) (run_counting down one second)
      (run_counting down other second)
      (ap (λ n. int_lt n below) (h.held (Register left) (ap not known))) a b)

-- ---- what runs keep

repeated-stays : (turn : State → State) (key : Key) → ((state : State) → (turn state).held key ≡ state.held key)
    → (count : ℕ) (state : State) → (repeated turn count state).held key ≡ state.held key
repeated-stays turn key h zero state = refl
repeated-stays turn key h (suc count) state = h (repeated turn count state) ∙ repeated-stays turn key h count state

chosen-stays : (test : Bool) (one other state : State) (key : Key) → one.held key ≡ state.held key → other.held key ≡ state.held key
    → (if test then one else other).held key ≡ state.held key
chosen-stays true one other state key g h = g
chosen-stays false one other state key g h = h

module _ (laws : ActionLaws) where
  pub counting-stays : (down : Keys) (steps : Steps) (key : Key) (state : State) → may_set steps key ≡ false
      → (run_counting down steps state).held key ≡ state.held key
  counting-stays down End key state h = refl
  counting-stays down (Then action rest) key state h =
      counting-stays down rest key (acted action state) (second-fails (among (sets action) key) (may_set rest key) h)
      ∙ laws.stays action key state (ap (λ b. b || false) (first-fails (among (sets action) key) (may_set rest key) h))
  counting-stays down (For counter turns body rest) key state h =
      let other = first-fails (is_key key (Register counter)) (may_set body key || may_set rest key) h in
      let inner = second-fails (is_key key (Register counter)) (may_set body key || may_set rest key) h in
      let turn = λ (before : State). gone_on down counter (run_counting down body before) in
      let start = begun down counter turns state in
      let turned : (before : State) → (turn before).held key ≡ before.held key = λ before.
      other-set (Register counter) _ (run_counting down body before) key other
      ∙ counting-stays down body key before (first-fails (may_set body key) (may_set rest key) inner) in
      counting-stays down rest key (repeated turn turns start) (second-fails (may_set body key) (may_set rest key) inner)
      ∙ repeated-stays turn key turned turns start ∙ other-set (Register counter) _ state key other
  counting-stays down (If left below one other rest) key state h =
      let inner = second-fails (may_set one key) (may_set other key || may_set rest key) h in
      counting-stays down rest key _ (second-fails (may_set other key) (may_set rest key) inner)
      ∙ chosen-stays (int_lt (state.held (Register left)) below) (run_counting down one state) (run_counting down other state) state key
      (counting-stays down one key state (first-fails (may_set one key) (may_set other key || may_set rest key) h))
      (counting-stays down other key state (first-fails (may_set other key) (may_set rest key) inner))

-- ---- traces

abbrev pub Grows : State → State → Type 0
Grows before now = (more : List Access) × (now.trace ≡ more ++ before.trace)

pub grows-on : (first second third : State) → Grows first second → Grows second third → Grows first third
grows-on first second third g h =
    (h.0 ++ g.0, h.1 ∙ ap (λ trace. h.0 ++ trace) g.1 ∙ sym (append_assoc h.0 g.0 first.trace))

pub repeated-grows : (turn : State → State) → ((state : State) → Grows state (turn state))
    → (count : ℕ) (state : State) → Grows state (repeated turn count state)
repeated-grows turn h zero state = ([], refl)
repeated-grows turn h (suc count) state =
    grows-on state (repeated turn count state) (turn (repeated turn count state))
    (repeated-grows turn h count state) (h (repeated turn count state))

chosen-grows : (test : Bool) (state one other : State) → Grows state one → Grows state other → Grows state (if test then one else other)
chosen-grows true state one other g h = g
chosen-grows false state one other g h = h

module _ (laws : ActionLaws) where
  pub counting-grows : (down : Keys) (steps : Steps) (state : State) → Grows state (run_counting down steps state)
  counting-grows down End state = ([], refl)
  counting-grows down (Then action rest) state =
      grows-on state (acted action state) (run_counting down rest (acted action state))
      (laws.grows action state) (counting-grows down rest (acted action state))
  counting-grows down (For counter turns body rest) state =
      let turn = λ (before : State). gone_on down counter (run_counting down body before) in
      let behind = repeated turn turns (begun down counter turns state) in
      grows-on state behind (run_counting down rest behind)
      (repeated-grows turn (λ before. counting-grows down body before) turns (begun down counter turns state))
      (counting-grows down rest behind)
  counting-grows down (If left below one other rest) state =
      let behind = if int_lt (state.held (Register left)) below then run_counting down one state else run_counting down other state in
      grows-on state behind (run_counting down rest behind)
      (chosen-grows (int_lt (state.held (Register left)) below) state (run_counting down one state) (run_counting down other state)
      (counting-grows down one state) (counting-grows down other state))
      (counting-grows down rest behind)

-- ---- words

with-word-many : (words : List ℤ) (word value : ℤ) → length (with_word words word value) ≡ length words
with-word-many words (pos place) value = length-set words place value
with-word-many words (negsuc place) value = refl

pub acted-many : (action : Action) (state : State) → length (acted action state).words ≡ length state.words
acted-many (Set to value) state = refl
acted-many (Copy to from) state = refl
acted-many (One op to from) state = refl
acted-many (Two op to left right) state = refl
acted-many (Place to word) state = refl
acted-many (Spot to word by) state = refl
acted-many (Walk place words) state = refl
acted-many (Read to area place) state = refl
acted-many (Write area place from) state = with-word-many state.words (state.held (Pointer place)) (state.held (Register from))

pub repeated-many : (turn : State → State) → ((state : State) → length (turn state).words ≡ length state.words)
    → (count : ℕ) (state : State) → length (repeated turn count state).words ≡ length state.words
repeated-many turn h zero state = refl
repeated-many turn h (suc count) state = h (repeated turn count state) ∙ repeated-many turn h count state

pub chosen-many : (test : Bool) (state one other : State) → length one.words ≡ length state.words → length other.words ≡ length state.words
    → length (if test then one else other).words ≡ length state.words
chosen-many true state one other g h = g
chosen-many false state one other g h = h

pub counting-many : (down : Keys) (steps : Steps) (state : State) → length (run_counting down steps state).words ≡ length state.words
counting-many down End state = refl
counting-many down (Then action rest) state = counting-many down rest (acted action state) ∙ acted-many action state
counting-many down (For counter turns body rest) state =
    let turn = λ (before : State). gone_on down counter (run_counting down body before) in
    counting-many down rest (repeated turn turns (begun down counter turns state))
    ∙ repeated-many turn (λ before. counting-many down body before) turns (begun down counter turns state)
counting-many down (If left below one other rest) state =
    counting-many down rest _
    ∙ chosen-many (int_lt (state.held (Register left)) below) state (run_counting down one state) (run_counting down other state)
    (counting-many down one state) (counting-many down other state)

-- ---- counters, and numbers that fit

-- what a counter is after so many turns
abbrev pub count_at : Keys → ℕ → ℕ → ℕ → ℤ
count_at down counter turns count = if down (Register counter) then pos (turns - count) else pos count

less-one : (more less : ℕ) → more ≡ suc less → pos more +ℤ negsuc 0 ≡ pos less
less-one more less h = omega (arith, ints, h)

one-less : (turns count : ℕ) → count < turns → pos (turns - count) +ℤ negsuc 0 ≡ pos (turns - suc count)
one-less turns count h = less-one (turns - count) (turns - suc count) (omega (arith, h))

one-more : (count : ℕ) → pos count +ℤ pos 1 ≡ pos (suc count)
one-more count = let e : count + 1 ≡ suc count = omega arith in ap pos e

pub count-step : (down : Bool) (turns count : ℕ) → count < turns
    → (if down then pos (turns - count) else pos count) +ℤ (if down then negsuc 0 else pos 1) ≡
    (if down then pos (turns - suc count) else pos (suc count))
count-step true turns count h = one-less turns count h
count-step false turns count h = one-more count

count-start : (down : Bool) (turns : ℕ) → (if down then pos turns else pos 0) ≡ (if down then pos (turns - 0) else pos 0)
count-start true turns = let e : turns ≡ turns - 0 = omega arith in ap pos e
count-start false turns = refl

count-fits : (down : Bool) (turns count : ℕ) → count ≤ turns → turns < 2 ^ 63 → Fits64 (if down then pos (turns - count) else pos count)
count-fits true turns count h few = record { sfits = omega (arith, h, few) }
count-fits false turns count h few = record { sfits = omega (arith, h, few) }

pub first-count : (down : Keys) (counter turns : ℕ) (state : State)
    → (begun down counter turns state).held (Register counter) ≡ count_at down counter turns 0
first-count down counter turns state = held-set (Register counter) _ state ∙ count-start (down (Register counter)) turns

pub next-count : (down : Keys) (counter turns count : ℕ) (state : State) → count < turns
    → state.held (Register counter) ≡ count_at down counter turns count
    → (gone_on down counter state).held (Register counter) ≡ count_at down counter turns (suc count)
next-count down counter turns count state few h =
    held-set (Register counter) _ state ∙ ap (λ n. n +ℤ (if down (Register counter) then negsuc 0 else pos 1)) h
    ∙ count-step (down (Register counter)) turns count few

chosen-fits : (test : Bool) (one other : ℤ) → Fits64 one → Fits64 other → Fits64 (if test then one else other)
chosen-fits true one other f g = f
chosen-fits false one other f g = g

pub register-fits : (to : ℕ) (value : ℤ) (state : State) → Fits64 value → HoldsFit state → HoldsFit (holding (Register to) value state)
register-fits to value state f h = record {
  registers = λ number. chosen-fits (is_key (Register number) (Register to)) value (state.held (Register number)) f (h.registers number);
  words = h.words;
}

pub either-fits : (test : Bool) (one other : State) → HoldsFit one → HoldsFit other → HoldsFit (if test then one else other)
either-fits true one other f g = f
either-fits false one other f g = g

-- between the turns of a loop
pub record Turned (down : Keys) (counter turns count : ℕ) (state : State) : Type 0 where
  pub fit : HoldsFit state
  pub counted_is : state.held (Register counter) ≡ count_at down counter turns count

pub begun-turned : (down : Keys) (counter turns : ℕ) (state : State) → turns < 2 ^ 63 → HoldsFit state
    → Turned down counter turns 0 (begun down counter turns state)
begun-turned down counter turns state few h = record {
  fit = register-fits counter _ state
      (subst Fits64 (sym (count-start (down (Register counter)) turns)) (count-fits (down (Register counter)) turns 0 (omega arith) few)) h;
  counted_is = first-count down counter turns state;
}

pub gone-turned : (down : Keys) (counter turns count : ℕ) (state : State) → turns < 2 ^ 63 → count < turns
    → Turned down counter turns count state → Turned down counter turns (suc count) (gone_on down counter state)
gone-turned down counter turns count state few more h =
    let next : state.held (Register counter) +ℤ (if down (Register counter) then negsuc 0 else pos 1) ≡ count_at down counter turns
    (suc count) =
    ap (λ n. n +ℤ (if down (Register counter) then negsuc 0 else pos 1)) h.counted_is ∙ count-step (down (Register counter)) turns count
    more in
    record {
      fit = register-fits counter _ state
          (subst Fits64 (sym next) (count-fits (down (Register counter)) turns (suc count) (omega (arith, more)) few)) h.fit;
      counted_is = next-count down counter turns count state more h.counted_is;
    }

module _ (laws : ActionLaws) where
  pub body-turned : (down : Keys) (counter turns count : ℕ) (body : Steps) (state : State) → may_set body (Register counter) ≡ false
      → HoldsFit (run_counting down body state) → Turned down counter turns count state
      → Turned down counter turns count (run_counting down body state)
  body-turned down counter turns count body state kept fits h = record {
    fit = fits;
    counted_is = counting-stays laws down body (Register counter) state kept ∙ h.counted_is;
  }

  pub turns-fit : (down : Keys) (counter turns : ℕ) (body : Steps) → may_set body (Register counter) ≡ false → turns < 2 ^ 63
      → ((state : State) → HoldsFit state → HoldsFit (run_counting down body state))
      → (count : ℕ) (state : State) → count ≤ turns → Turned down counter turns 0 state
      → Turned down counter turns count (repeated (λ before. gone_on down counter (run_counting down body before)) count state)
  turns-fit down counter turns body kept few fits zero state within h = h
  turns-fit down counter turns body kept few fits (suc count) state within h =
      let before = repeated (λ before. gone_on down counter (run_counting down body before)) count state in
      let so_far : Turned down counter turns count before =
      turns-fit down counter turns body kept few fits count state (omega (arith, within)) h in
      gone-turned down counter turns count (run_counting down body before) few (omega (arith, within))
      (body-turned down counter turns count body before kept (fits before so_far.fit) so_far)

  pub counting-fits : (down : Keys) (steps : Steps) (state : State) → KeepsCounters steps → SetsFit steps → HoldsFit state
      → HoldsFit (run_counting down steps state)
  counting-fits down End state kept small h = h
  counting-fits down (Then action rest) state kept small h =
      counting-fits down rest (acted action state) kept small.1 (laws.fits action state small.0 h)
  counting-fits down (For counter turns body rest) state kept small h =
      let done = turns-fit down counter turns body kept.0.0 kept.0.1 (λ before fit. counting-fits down body before kept.1.0 small.0 fit)
      turns (begun down counter turns state) (omega arith) (begun-turned down counter turns state kept.0.1 h) in
      counting-fits down rest _ kept.1.1 small.1 done.fit
  counting-fits down (If left below one other rest) state kept small h =
      counting-fits down rest _ kept.1.1 small.1.1
      (either-fits (int_lt (state.held (Register left)) below) (run_counting down one state) (run_counting down other state)
      (counting-fits down one state kept.0 small.0 h) (counting-fits down other state kept.1.0 small.1.0 h))
