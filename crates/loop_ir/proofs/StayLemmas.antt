-- Steps leave alone the registers and places that they may not set.
use Rattle.std.specs.Prelude.{◌≡◌, zero, suc, Bool, true, false, ◌||◌, ℤ, pos, int_lt, if◌then◌else◌}
use Rattle.std.proofs.Common.{refl, ◌∙◌}
use Rattle.std.proofs.lemmas.Bool.{true≢false}
use Rattle.loop_ir.specs.Kept.{may_set}
use Rattle.loop_ir.specs.Needed.{among, sets}
use Rattle.loop_ir.specs.Running.{Key, Register, Pointer, State, acted, counted, holding, is_key, repeated, run}
use Rattle.loop_ir.specs.Steps.{Action, Set, Copy, One, Two, Place, Spot, Walk, Read, Write, Steps, End, Then, For, If}

first-fails : (a b : Bool) → (a || b) ≡ false → a ≡ false
first-fails true b h = absurd (true≢false h)
first-fails false b h = refl

second-fails : (a b : Bool) → (a || b) ≡ false → b ≡ false
second-fails true b h = absurd (true≢false h)
second-fails false b h = h

not-chosen : (test : Bool) (one other : ℤ) → test ≡ false → (if test then one else other) ≡ other
not-chosen true one other h = absurd (true≢false h)
not-chosen false one other h = refl

-- another key is set
other-set : (to : Key) (number : ℤ) (state : State) (key : Key) → is_key key to ≡ false → (holding to number state).held key ≡ state.held key
other-set to number state key h = not-chosen (is_key key to) number (state.held key) h

only-set : (to : Key) (number : ℤ) (state : State) (key : Key) → (is_key key to || false) ≡ false
    → (holding to number state).held key ≡ state.held key
only-set to number state key h = other-set to number state key (first-fails (is_key key to) false h)

acted-stays : (action : Action) (state : State) (key : Key) → among (sets action) key ≡ false → (acted action state).held key ≡ state.held key
acted-stays (Set to value) state key h = only-set (Register to) _ state key h
acted-stays (Copy to from) state key h = only-set (Register to) _ state key h
acted-stays (One op to from) state key h = only-set (Register to) _ state key h
acted-stays (Two op to left right) state key h = only-set (Register to) _ state key h
acted-stays (Place to word) state key h = only-set (Pointer to) _ state key h
acted-stays (Spot to word by) state key h = only-set (Pointer to) _ state key h
acted-stays (Walk place words) state key h = only-set (Pointer place) _ state key h
acted-stays (Read to area place) state key h = only-set (Register to) _ state key h
acted-stays (Write area place from) state key h = refl

repeated-stays : (turn : State → State) (key : Key) → ((state : State) → (turn state).held key ≡ state.held key)
    → (count : _) (state : State) → (repeated turn count state).held key ≡ state.held key
repeated-stays turn key h zero state = refl
repeated-stays turn key h (suc count) state = h (repeated turn count state) ∙ repeated-stays turn key h count state

chosen-stays : (test : Bool) (one other state : State) (key : Key) → one.held key ≡ state.held key → other.held key ≡ state.held key
    → (if test then one else other).held key ≡ state.held key
chosen-stays true one other state key g h = g
chosen-stays false one other state key g h = h

pub others-stay : (steps : Steps) (key : Key) (state : State) → may_set steps key ≡ false → (run steps state).held key ≡ state.held key
others-stay End key state h = refl
others-stay (Then action rest) key state h =
    others-stay rest key (acted action state) (second-fails (among (sets action) key) (may_set rest key) h)
    ∙ acted-stays action state key (first-fails (among (sets action) key) (may_set rest key) h)
others-stay (For counter turns body rest) key state h =
    let other = first-fails (is_key key (Register counter)) (may_set body key || may_set rest key) h in
    let inner = second-fails (is_key key (Register counter)) (may_set body key || may_set rest key) h in
    let turn = λ (before : State). counted counter (run body before) in
    let begun = holding (Register counter) (pos 0) state in
    let turned : (before : State) → (turn before).held key ≡ before.held key = λ before.
    other-set (Register counter) _ (run body before) key other
    ∙ others-stay body key before (first-fails (may_set body key) (may_set rest key) inner) in
    others-stay rest key (repeated turn turns begun) (second-fails (may_set body key) (may_set rest key) inner)
    ∙ repeated-stays turn key turned turns begun ∙ other-set (Register counter) (pos 0) state key other
others-stay (If left below one other rest) key state h =
    let inner = second-fails (may_set one key) (may_set other key || may_set rest key) h in
    others-stay rest key _ (second-fails (may_set other key) (may_set rest key) inner)
    ∙ chosen-stays (int_lt (state.held (Register left)) below) (run one state) (run other state) state key
    (others-stay one key state (first-fails (may_set one key) (may_set other key || may_set rest key) h))
    (others-stay other key state (first-fails (may_set other key) (may_set rest key) inner))
