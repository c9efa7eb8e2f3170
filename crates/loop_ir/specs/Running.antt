-- What nests do, whether or not what they read and write is there. This project's own.
use Rattle.std.specs.Prelude.{ℕ, zero, suc, ◌==◌, Bool, false, ℤ, pos, negsuc, ◌+ℤ◌, List, [], ◌∷◌, int_lt, slice_index_or, slice_set, if◌then◌else◌}
use Rattle.moa_tree.specs.Operators.{apply, apply_unary}
use Rattle.loop_ir.specs.Steps.{Action, Set, Copy, One, Two, Place, Spot, Walk, Read, Write, Steps, End, Then, For, If}

-- what holds a number: a register or a place
pub data Key : Type 0 where
  Register : ℕ → Key
  Pointer : ℕ → Key

abbrev pub is_key : Key → Key → Bool
is_key (Register number) (Register other) = number == other
is_key (Pointer number) (Pointer other) = number == other
is_key _ _ = false

-- an access of an area at a word, counted from the end of the spill words
pub data Access : Type 0 where
  ReadsWord : (area : ℕ) → (word : ℤ) → Access
  WritesWord : (area : ℕ) → (word : ℤ) → Access

-- the numbers that are held, the words of all areas, and the accesses that were made, the last one first
pub record State : Type 0 where
  pub held : Key → ℤ
  pub words : List ℤ
  pub trace : List Access

abbrev pub holding : Key → ℤ → State → State
holding key number state = record {
  held = λ other. if is_key other key then number else state.held other;
  words = state.words;
  trace = state.trace;
}

-- the word of this number, and the words with another one there; outside them is 0, and nothing changes
abbrev pub word_at : List ℤ → ℤ → ℤ
word_at words (pos place) = slice_index_or words place (pos 0)
word_at words (negsuc place) = pos 0

abbrev pub with_word : List ℤ → ℤ → ℤ → List ℤ
with_word words (pos place) value = slice_set words place value
with_word words (negsuc place) value = words

abbrev pub made : Access → State → State
made access state = record { held = state.held; words = state.words; trace = access ∷ state.trace }

abbrev pub acted : Action → State → State
acted (Set to value) state = holding (Register to) value state
acted (Copy to from) state = holding (Register to) (state.held (Register from)) state
acted (One op to from) state = holding (Register to) (apply_unary op (state.held (Register from))) state
acted (Two op to left right) state = holding (Register to) (apply op (state.held (Register left)) (state.held (Register right))) state
acted (Place to word) state = holding (Pointer to) word state
acted (Spot to word by) state = holding (Pointer to) (word +ℤ state.held (Register by)) state
acted (Walk place words) state = holding (Pointer place) (state.held (Pointer place) +ℤ words) state
acted (Read to area place) state =
    let word = state.held (Pointer place) in
    made (ReadsWord area word) (holding (Register to) (word_at state.words word) state)
acted (Write area place from) state =
    let word = state.held (Pointer place) in
    record {
      held = state.held;
      words = with_word state.words word (state.held (Register from));
      trace = WritesWord area word ∷ state.trace;
    }

-- so many turns, the last one outermost
abbrev pub repeated : {X : Type 0} → (X → X) → ℕ → X → X
repeated turn zero x = x
repeated turn (suc count) x = turn (repeated turn count x)

-- a counter is one more
abbrev pub counted : ℕ → State → State
counted counter state = holding (Register counter) (state.held (Register counter) +ℤ pos 1) state

-- the state to which steps lead
abbrev pub run : Steps → State → State
run End state = state
run (Then action rest) state = run rest (acted action state)
run (For counter turns body rest) state =
    run rest (repeated (λ before. counted counter (run body before)) turns (holding (Register counter) (pos 0) state))
run (If left below one other rest) state = run rest (if int_lt (state.held (Register left)) below then run one state else run other state)

-- nests, one after another
abbrev pub run_all : List Steps → State → State
run_all [] state = state
run_all (nest ∷ nests) state = run_all nests (run nest state)
