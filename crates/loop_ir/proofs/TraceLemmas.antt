-- What steps do to the trace of accesses.
use Rattle.std.specs.Prelude.{◌≡◌, ℕ, zero, suc, Bool, true, false, pos, List, [], ◌∷◌, ◌++◌, int_lt, if◌then◌else◌}
use Rattle.std.specs.List.{AllByRecursion}
use Rattle.std.proofs.Common.{refl, ap, sym, subst, ◌∙◌, append_assoc}
use Rattle.shapes_core.specs.declared.area.Area.{Area}
use Rattle.loop_ir.specs.Inside.{IsDefined, IsInside}
use Rattle.loop_ir.specs.Running.{Access, ReadsWord, WritesWord, Register, Pointer, State, acted, counted, holding, repeated, run}
use Rattle.loop_ir.specs.Steps.{Action, Set, Copy, One, Two, Place, Spot, Walk, Read, Write, Steps, End, Then, For, If}

-- a trace is one before it, with more accesses in front
abbrev pub Grows : State → State → Type 0
Grows before now = (more : List Access) × (now.trace ≡ more ++ before.trace)

grows-on : (first second third : State) → Grows first second → Grows second third → Grows first third
grows-on first second third g h =
    (h.0 ++ g.0, h.1 ∙ ap (λ trace. h.0 ++ trace) g.1 ∙ sym (append_assoc h.0 g.0 first.trace))

acted-grows : (action : Action) (state : State) → Grows state (acted action state)
acted-grows (Set to value) state = ([], refl)
acted-grows (Copy to from) state = ([], refl)
acted-grows (One op to from) state = ([], refl)
acted-grows (Two op to left right) state = ([], refl)
acted-grows (Place to word) state = ([], refl)
acted-grows (Spot to word by) state = ([], refl)
acted-grows (Walk place words) state = ([], refl)
acted-grows (Read to area place) state = (ReadsWord area (state.held (Pointer place)) ∷ [], refl)
acted-grows (Write area place from) state = (WritesWord area (state.held (Pointer place)) ∷ [], refl)

repeated-grows : (turn : State → State) → ((state : State) → Grows state (turn state))
    → (count : ℕ) (state : State) → Grows state (repeated turn count state)
repeated-grows turn h zero state = ([], refl)
repeated-grows turn h (suc count) state =
    grows-on state (repeated turn count state) (turn (repeated turn count state))
    (repeated-grows turn h count state) (h (repeated turn count state))

chosen-grows : (test : Bool) (state one other : State) → Grows state one → Grows state other → Grows state (if test then one else other)
chosen-grows true state one other g h = g
chosen-grows false state one other g h = h

pub run-grows : (steps : Steps) (state : State) → Grows state (run steps state)
run-grows End state = ([], refl)
run-grows (Then action rest) state =
    grows-on state (acted action state) (run rest (acted action state)) (acted-grows action state) (run-grows rest (acted action state))
run-grows (For counter turns body rest) state =
    let turn = λ (before : State). counted counter (run body before) in
    let behind = repeated turn turns (holding (Register counter) (pos 0) state) in
    grows-on state behind (run rest behind)
    (repeated-grows turn (run-grows body) turns (holding (Register counter) (pos 0) state))
    (run-grows rest behind)
run-grows (If left below one other rest) state =
    let behind = if int_lt (state.held (Register left)) below then run one state else run other state in
    grows-on state behind (run rest behind)
    (chosen-grows (int_lt (state.held (Register left)) below) state (run one state) (run other state) (run-grows one state) (run-grows other state))
    (run-grows rest behind)

all-behind : (P : Access → Type 0) (more trace : List Access) → AllByRecursion P (more ++ trace) → AllByRecursion P trace
all-behind P [] trace h = h
all-behind P (access ∷ more) trace h = all-behind P more trace h.1

pub was-defined : (areas : List Area) (steps : Steps) (state : State) → IsDefined areas (run steps state) → IsDefined areas state
was-defined areas steps state h =
    let grown = run-grows steps state in
    all-behind (IsInside areas) grown.0 state.trace (subst (AllByRecursion (IsInside areas)) grown.1 h)
