-- States that are alike in what is needed before steps are led to states that are alike in what is needed behind them.
use Rattle.std.specs.Prelude.{◌≡◌, ℕ, zero, suc, Bool, true, false, not, ◌&&◌, ◌||◌, if◌then◌else◌}
use Rattle.std.specs.Prelude.{ℤ, pos, ◌+ℤ◌, int_lt, List, [], ◌∷◌}
use Rattle.std.proofs.Common.{refl, ap, ap₂, sym, ◌∙◌, ⊎_elim}
use Rattle.std.proofs.lemmas.Bool.{and_from, cases_Bool, false≢true, not_from_false, or_left, or_right, true≢false}
use Rattle.moa_tree.specs.Operators.{apply, apply_unary}
use Rattle.loop_ir.specs.Needed.{AreAlike, Keys, among, needed, none, reads, sets}
use Rattle.loop_ir.specs.Running.{ReadsWord, WritesWord, Key, Register, Pointer, State, acted, counted, holding, is_key, repeated, run, with_word, word_at}
use Rattle.loop_ir.specs.Steps.{Action, Set, Copy, One, Two, Place, Spot, Walk, Read, Write, Steps, End, Then, For, If}
use Rattle.loop_ir.proofs.KeyLemmas.{first_passes, key-self, needed-same}

-- one test passes only where another does
abbrev pub Within : Keys → Keys → Type 0
Within fewer keys = (key : Key) → fewer key ≡ true → keys key ≡ true

pub alike-fewer : (keys fewer : Keys) (first second : State) → Within fewer keys → AreAlike keys first second → AreAlike fewer first second
alike-fewer keys fewer first second within h = record {
  held = λ key need. h.held key (within key need);
  words = h.words;
  trace = h.trace;
}

-- every key but one
abbrev but : Keys → Key → Keys
but keys key = λ other. keys other && not (is_key other key)

chosen-same : (test : Bool) (n m a b : ℤ) → n ≡ m → (test ≡ false → a ≡ b) → (if test then n else a) ≡ (if test then m else b)
chosen-same true n m a b e f = e
chosen-same false n m a b e f = f refl

-- where a key is set alike, it is not needed before
holding-alike : (keys : Keys) (key : Key) (n m : ℤ) (first second : State) → n ≡ m → AreAlike (but keys key) first second
    → AreAlike keys (holding key n first) (holding key m second)
holding-alike keys key n m first second same h = record {
  held = λ other need. chosen-same (is_key other key) n m (first.held other) (second.held other) same
      (λ apart. h.held other (and_from (keys other) (not (is_key other key)) need (not_from_false (is_key other key) apart)));
  words = h.words;
  trace = h.trace;
}

-- ---- actions

-- what is needed before an action that reads and sets these keys
abbrev before : List Key → List Key → Keys → Keys
before read set after = λ key. among read key || (after key && not (among set key))

among-first : (key : Key) (keys : List Key) → among (key ∷ keys) key ≡ true
among-first key keys = or_left (is_key key key) (among keys key) (key-self key)

among-second : (other key : Key) (keys : List Key) → among (other ∷ key ∷ keys) key ≡ true
among-second other key keys = or_right (is_key key other) (among (key ∷ keys) key) (among-first key keys)

read-same : (read set : List Key) (after : Keys) (first second : State) (key : Key) → among read key ≡ true
    → AreAlike (before read set after) first second → first.held key ≡ second.held key
read-same read set after first second key inside h =
    h.held key (or_left (among read key) (after key && not (among set key)) inside)

apart-alone : (a b : Bool) → (a && not b) ≡ true → (a && not (b || false)) ≡ true
apart-alone a true h = h
apart-alone a false h = h

set-alike : (read : List Key) (key : Key) (after : Keys) (n m : ℤ) (first second : State) → n ≡ m
    → AreAlike (before read (key ∷ []) after) first second → AreAlike after (holding key n first) (holding key m second)
set-alike read key after n m first second same h =
    holding-alike after key n m first second same
    (alike-fewer (before read (key ∷ []) after) (but after key) first second
    (λ other need. or_right (among read other) (after other && not (among (key ∷ []) other))
    (apart-alone (after other) (is_key other key) need)) h)

acted-alike : (action : Action) (after : Keys) (first second : State)
    → AreAlike (before (reads action) (sets action) after) first second → AreAlike after (acted action first) (acted action second)
acted-alike (Set to value) after first second h = set-alike [] (Register to) after value value first second refl h
acted-alike (Copy to from) after first second h =
    let read = Register from ∷ [] in
    let same = read-same read (Register to ∷ []) after first second (Register from) (among-first (Register from) []) h in
    set-alike read (Register to) after (first.held (Register from)) (second.held (Register from)) first second same h
acted-alike (One op to from) after first second h =
    let read = Register from ∷ [] in
    let same = read-same read (Register to ∷ []) after first second (Register from) (among-first (Register from) []) h in
    set-alike read (Register to) after _ _ first second (ap (apply_unary op) same) h
acted-alike (Two op to left right) after first second h =
    let read = Register left ∷ Register right ∷ [] in
    let set = Register to ∷ [] in
    let one = read-same read set after first second (Register left) (among-first (Register left) (Register right ∷ [])) h in
    let other = read-same read set after first second (Register right) (among-second (Register left) (Register right) []) h in
    set-alike read (Register to) after _ _ first second (ap₂ (apply op) one other) h
acted-alike (Place to word) after first second h = set-alike [] (Pointer to) after word word first second refl h
acted-alike (Spot to word by) after first second h =
    let read = Register by ∷ [] in
    let same = read-same read (Pointer to ∷ []) after first second (Register by) (among-first (Register by) []) h in
    set-alike read (Pointer to) after _ _ first second (ap (λ n. word +ℤ n) same) h
acted-alike (Walk place words) after first second h =
    let read = Pointer place ∷ [] in
    let same = read-same read (Pointer place ∷ []) after first second (Pointer place) (among-first (Pointer place) []) h in
    set-alike read (Pointer place) after _ _ first second (ap (λ n. n +ℤ words) same) h
acted-alike (Read to area place) after first second h =
    let read = Pointer place ∷ [] in
    let same = read-same read (Register to ∷ []) after first second (Pointer place) (among-first (Pointer place) []) h in
    let set = set-alike read (Register to) after _ _ first second (ap₂ word_at h.words same) h in
    record {
      held = set.held;
      words = h.words;
      trace = ap₂ (λ word trace. ReadsWord area word ∷ trace) same h.trace;
    }
acted-alike (Write area place from) after first second h =
    let read = Pointer place ∷ Register from ∷ [] in
    let place_same = read-same read [] after first second (Pointer place) (among-first (Pointer place) (Register from ∷ [])) h in
    let value_same = read-same read [] after first second (Register from) (among-second (Pointer place) (Register from) []) h in
    record {
      held = λ key need. h.held key (or_right (among read key) (after key && true) (and_from (after key) true need refl));
      words = ap₂ (λ put value. put value) (ap₂ with_word h.words place_same) value_same;
      trace = ap₂ (λ word trace. WritesWord area word ∷ trace) place_same h.trace;
    }

-- ---- loops

-- what a body needs with nothing behind it is all that it adds to what is needed behind it
settled : (body : Steps) (keys : Keys) → Within (needed body none) keys → Within (needed body keys) keys
settled body keys within key need =
    ⊎_elim (λ yes. yes) (λ no. within key (sym (needed-same body keys none key no) ∙ need)) (cases_Bool (keys key))

counted-alike : (keys : Keys) (counter : ℕ) (first second : State) → keys (Register counter) ≡ true
    → AreAlike keys first second → AreAlike keys (counted counter first) (counted counter second)
counted-alike keys counter first second known h =
    holding-alike keys (Register counter) _ _ first second (ap (λ n. n +ℤ pos 1) (h.held (Register counter) known))
    (alike-fewer keys (but keys (Register counter)) first second
    (λ key need. first_passes (keys key) (not (is_key key (Register counter))) need) h)

repeated-alike : (keys : Keys) (turn : State → State)
    → ((first second : State) → AreAlike keys first second → AreAlike keys (turn first) (turn second))
    → (count : ℕ) (first second : State) → AreAlike keys first second → AreAlike keys (repeated turn count first) (repeated turn count second)
repeated-alike keys turn step zero first second h = h
repeated-alike keys turn step (suc count) first second h =
    step (repeated turn count first) (repeated turn count second) (repeated-alike keys turn step count first second h)

-- what is needed at the head of a loop, before each turn and behind the last
abbrev head : ℕ → Steps → Keys → Keys
head counter body behind = λ key. is_key key (Register counter) || (behind key || needed body none key)

apart-from-counter : (a b : Bool) → ((a || b) && not a) ≡ true → (b && not a) ≡ true
apart-from-counter true b h = absurd (false≢true h)
apart-from-counter false b h = h

-- ---- choices

chosen-alike : (keys : Keys) (test other : Bool) (a b c d : State) → test ≡ other → AreAlike keys a c → AreAlike keys b d
    → AreAlike keys (if test then a else b) (if other then c else d)
chosen-alike keys true true a b c d same h k = h
chosen-alike keys false false a b c d same h k = k
chosen-alike keys true false a b c d same h k = absurd (true≢false same)
chosen-alike keys false true a b c d same h k = absurd (false≢true same)

pub needed-decides : (steps : Steps) (after : Keys) (first second : State) → AreAlike (needed steps after) first second
    → AreAlike after (run steps first) (run steps second)
needed-decides End after first second h = h
needed-decides (Then action rest) after first second h =
    needed-decides rest after (acted action first) (acted action second) (acted-alike action (needed rest after) first second h)
needed-decides (For counter turns body rest) after first second h =
    let behind = needed rest after in
    let keys = head counter body behind in
    let turn = λ (state : State). counted counter (run body state) in
    let begun = λ (state : State). holding (Register counter) (pos 0) state in
    let own : Within (needed body none) keys = λ key need. or_right (is_key key (Register counter)) (behind key || needed body none key)
    (or_right (behind key) (needed body none key) need) in
    let known : keys (Register counter) ≡ true = or_left (is_key (Register counter) (Register counter))
    (behind (Register counter) || needed body none (Register counter)) (key-self (Register counter)) in
    let step : (a b : State) → AreAlike keys a b → AreAlike keys (turn a) (turn b) = λ a b alike.
    counted-alike keys counter (run body a) (run body b) known
    (needed-decides body keys a b (alike-fewer keys (needed body keys) a b (settled body keys own) alike)) in
    let start : AreAlike keys (begun first) (begun second) =
    holding-alike keys (Register counter) (pos 0) (pos 0) first second refl
    (alike-fewer (needed (For counter turns body rest) after) (but keys (Register counter)) first second
    (λ key need. apart-from-counter (is_key key (Register counter)) (behind key || needed body none key) need) h) in
    needed-decides rest after (repeated turn turns (begun first)) (repeated turn turns (begun second))
    (alike-fewer keys behind (repeated turn turns (begun first)) (repeated turn turns (begun second))
    (λ key need. or_right (is_key key (Register counter)) (behind key || needed body none key)
    (or_left (behind key) (needed body none key) need))
    (repeated-alike keys turn step turns (begun first) (begun second) start))
needed-decides (If left below one other rest) after first second h =
    let behind = needed rest after in
    let whole = needed (If left below one other rest) after in
    let same = h.held (Register left) (or_left (is_key (Register left) (Register left))
    (needed one behind (Register left) || needed other behind (Register left)) (key-self (Register left))) in
    let a = needed-decides one behind first second (alike-fewer whole (needed one behind) first second
    (λ key need. or_right (is_key key (Register left)) (needed one behind key || needed other behind key)
    (or_left (needed one behind key) (needed other behind key) need)) h) in
    let b = needed-decides other behind first second (alike-fewer whole (needed other behind) first second
    (λ key need. or_right (is_key key (Register left)) (needed one behind key || needed other behind key)
    (or_right (needed one behind key) (needed other behind key) need)) h) in
    let test = λ (state : State). int_lt (state.held (Register left)) below in
    needed-decides rest after _ _
    (chosen-alike behind (test first) (test second) (run one first) (run other first) (run one second) (run other second)
    (ap (λ n. int_lt n below) same) a b)
