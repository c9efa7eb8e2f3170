-- Registers and words fit 64 signed bits after steps, where they did before them.
use Rattle.std.specs.Prelude.{◌≡◌, ℕ, zero, suc, ◌+◌, ◌^◌, ◌<◌, Bool, true, false, ℤ, pos, negsuc, ◌+ℤ◌, List, [], ◌∷◌, int_lt, slice_index_or, slice_set, if◌then◌else◌}
use Rattle.std.specs.List.{AllByRecursion}
use Rattle.std.proofs.Common.{ap, ◌∙◌, sym, subst, arith}
use Rattle.moa_tree.specs.declared.operator.Op.{Op}
use Rattle.moa_tree.specs.declared.operator.Unary.{Unary}
use Rattle.moa_tree.specs.Operators.{apply, apply_unary}
use Rattle.loop_ir.specs.Fitting.{Fits64, HoldsFit, SetFits, SetsFit}
use Rattle.loop_ir.specs.Kept.{KeepsCounters, may_set}
use Rattle.loop_ir.specs.Running.{Key, Register, Pointer, State, acted, counted, holding, is_key, repeated, run, with_word, word_at}
use Rattle.loop_ir.specs.Steps.{Action, Set, Copy, One, Two, Place, Spot, Walk, Read, Write, Steps, End, Then, For, If}
use Rattle.loop_ir.proofs.KeyLemmas.{key-self}
use Rattle.loop_ir.proofs.StayLemmas.{others-stay}

-- ---- words

nothing-fits : Fits64 (pos 0)
nothing-fits = record { sfits = omega arith }

element-fits : (words : List ℤ) (place : ℕ) → AllByRecursion Fits64 words → Fits64 (slice_index_or words place (pos 0))
element-fits [] place h = nothing-fits
element-fits (word ∷ words) zero h = h.0
element-fits (word ∷ words) (suc place) h = element-fits words place h.1

word-fits : (words : List ℤ) (word : ℤ) → AllByRecursion Fits64 words → Fits64 (word_at words word)
word-fits words (pos place) h = element-fits words place h
word-fits words (negsuc place) h = nothing-fits

put-fits : (words : List ℤ) (place : ℕ) (value : ℤ) → Fits64 value → AllByRecursion Fits64 words → AllByRecursion Fits64 (slice_set words place value)
put-fits [] place value f h = tt
put-fits (word ∷ words) zero value f h = (f, h.1)
put-fits (word ∷ words) (suc place) value f h = (h.0, put-fits words place value f h.1)

words-fit : (words : List ℤ) (word value : ℤ) → Fits64 value → AllByRecursion Fits64 words → AllByRecursion Fits64 (with_word words word value)
words-fit words (pos place) value f h = put-fits words place value f h
words-fit words (negsuc place) value f h = h

-- ---- registers

chosen-fits : (test : Bool) (one other : ℤ) → Fits64 one → Fits64 other → Fits64 (if test then one else other)
chosen-fits true one other f g = f
chosen-fits false one other f g = g

register-fits : (to : ℕ) (value : ℤ) (state : State) → Fits64 value → HoldsFit state → HoldsFit (holding (Register to) value state)
register-fits to value state f h = record {
  registers = λ number. chosen-fits (is_key (Register number) (Register to)) value (state.held (Register number)) f (h.registers number);
  words = h.words;
}

place-fits : (to : ℕ) (word : ℤ) (state : State) → HoldsFit state → HoldsFit (holding (Pointer to) word state)
place-fits to word state h = record { registers = h.registers; words = h.words }

-- what a register holds that was just set
held-set : (to : Key) (number : ℤ) (state : State) → (holding to number state).held to ≡ number
held-set to number state = ap (λ test. if test then number else state.held to) (key-self to)

-- ---- turns and choices

-- before a turn of a loop
record Turns (counter count : ℕ) (state : State) : Type 0 where
  pub fit : HoldsFit state
  pub counted_is : state.held (Register counter) ≡ pos count

one-more : (count : ℕ) (number : ℤ) → number ≡ pos count → number +ℤ pos 1 ≡ pos (suc count)
one-more count number h = ap (λ z. z +ℤ pos 1) h ∙ (let e : count + 1 ≡ suc count = omega arith in ap pos e)

-- the counter is as many as the turns that were made
turns-fit : (counter : ℕ) (body : Steps) → may_set body (Register counter) ≡ false
    → ((state : State) → HoldsFit state → HoldsFit (run body state))
    → (count : ℕ) (state : State) → count < 2 ^ 63 → Turns counter 0 state
    → Turns counter count (repeated (λ before. counted counter (run body before)) count state)
turns-fit counter body kept fits zero state few h = h
turns-fit counter body kept fits (suc count) state few h =
    let before = repeated (λ before. counted counter (run body before)) count state in
    let so_far : Turns counter count before = turns-fit counter body kept fits count state (omega (arith, few)) h in
    let after = run body before in
    let more : after.held (Register counter) +ℤ pos 1 ≡ pos (suc count) =
    one-more count (after.held (Register counter)) (others-stay body (Register counter) before kept ∙ so_far.counted_is) in
    record {
      fit = register-fits counter (after.held (Register counter) +ℤ pos 1) after
          (subst Fits64 (sym more) (record { sfits = few })) (fits before so_far.fit);
      counted_is = held-set (Register counter) (after.held (Register counter) +ℤ pos 1) after ∙ more;
    }

either-fits : (test : Bool) (one other : State) → HoldsFit one → HoldsFit other → HoldsFit (if test then one else other)
either-fits true one other f g = f
either-fits false one other f g = g

-- ---- steps

-- operators on numbers that fit
pub record OperatorsFit : Type 0 where
  pub two : (op : Op) (left right : ℤ) → Fits64 left → Fits64 right → Fits64 (apply op left right)
  pub one : (op : Unary) (of : ℤ) → Fits64 of → Fits64 (apply_unary op of)

module _ (operators : OperatorsFit) where
  acted-fits : (action : Action) (state : State) → SetFits action → HoldsFit state → HoldsFit (acted action state)
  acted-fits (Set to value) state f h = register-fits to value state f h
  acted-fits (Copy to from) state f h = register-fits to _ state (h.registers from) h
  acted-fits (One op to from) state f h = register-fits to _ state (operators.one op _ (h.registers from)) h
  acted-fits (Two op to left right) state f h = register-fits to _ state (operators.two op _ _ (h.registers left) (h.registers right)) h
  acted-fits (Place to word) state f h = place-fits to _ state h
  acted-fits (Spot to word by) state f h = place-fits to _ state h
  acted-fits (Walk place words) state f h = place-fits place _ state h
  acted-fits (Read to area place) state f h =
      let set = register-fits to _ state (word-fits state.words (state.held (Pointer place)) h.words) h in
      record { registers = set.registers; words = h.words }
  acted-fits (Write area place from) state f h = record {
    registers = h.registers;
    words = words-fit state.words (state.held (Pointer place)) (state.held (Register from)) (h.registers from) h.words;
  }

  pub run-fits : (steps : Steps) (state : State) → KeepsCounters steps → SetsFit steps → HoldsFit state → HoldsFit (run steps state)
  run-fits End state kept small h = h
  run-fits (Then action rest) state kept small h = run-fits rest (acted action state) kept small.1 (acted-fits action state small.0 h)
  run-fits (For counter turns body rest) state kept small h =
      let begun = holding (Register counter) (pos 0) state in
      let start : Turns counter 0 begun = record {
        fit = register-fits counter (pos 0) state nothing-fits h;
        counted_is = held-set (Register counter) (pos 0) state;
      } in
      let done = turns-fit counter body kept.0.0 (λ before fit. run-fits body before kept.1.0 small.0 fit) turns begun kept.0.1 start in
      run-fits rest _ kept.1.1 small.1 done.fit
  run-fits (If left below one other rest) state kept small h =
      run-fits rest _ kept.1.1 small.1.1
      (either-fits (int_lt (state.held (Register left)) below) (run one state) (run other state)
      (run-fits one state kept.0 small.0 h) (run-fits other state kept.1.0 small.1.0 h))
