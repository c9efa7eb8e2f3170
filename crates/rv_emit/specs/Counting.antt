-- Counters that nothing reads count down, from the turns to 0. This project's own.
use Rattle.std.specs.Prelude.{not, ◌||◌, ℕ, pos, negsuc, ◌+ℤ◌, int_lt, if◌then◌else◌}
use Rattle.loop_ir.specs.Needed.{Keys, among, none, reads}
use Rattle.loop_ir.specs.Running.{Register, State, acted, holding, is_key, repeated}
use Rattle.loop_ir.specs.Steps.{Steps, End, Then, For, If}

-- what steps read
abbrev pub reads_of : Steps → Keys
reads_of End = none
reads_of (Then action rest) = λ key. among (reads action) key || reads_of rest key
reads_of (For counter turns body rest) = λ key. reads_of body key || reads_of rest key
reads_of (If left below one other rest) =
    λ key. is_key key (Register left) || (reads_of one key || (reads_of other key || reads_of rest key))

abbrev pub counts_down : Steps → Keys
counts_down steps key = not (reads_of steps key)

-- the number from which a counter goes, and the state when it has gone on
abbrev pub begun : Keys → ℕ → ℕ → State → State
begun down counter turns state =
    holding (Register counter) (if down (Register counter) then pos turns else pos 0) state

abbrev pub gone_on : Keys → ℕ → State → State
gone_on down counter state =
    holding (Register counter) (state.held (Register counter) +ℤ (if down (Register counter) then negsuc 0 else pos 1)) state

-- the state to which steps lead where these counters count down
abbrev pub run_counting : Keys → Steps → State → State
run_counting down End state = state
run_counting down (Then action rest) state = run_counting down rest (acted action state)
run_counting down (For counter turns body rest) state =
    run_counting down rest
    (repeated (λ before. gone_on down counter (run_counting down body before)) turns (begun down counter turns state))
run_counting down (If left below one other rest) state =
    run_counting down rest
    (if int_lt (state.held (Register left)) below then run_counting down one state else run_counting down other state)
