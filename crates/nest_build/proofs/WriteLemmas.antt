-- A nest writes its own area alone.
use Rattle.std.specs.Prelude.{ℕ, zero, suc, ◌<◌, ℤ, pos, List, [], ◌∷◌, ◌++◌, ⊤}
use Rattle.std.specs.List.{AllByRecursion}
use Rattle.std.proofs.Common.{refl, ap, sym, ◌∙◌, append_assoc}
use Rattle.shapes_core.specs.declared.area.Area.{Area}
use Rattle.normal_form.specs.declared.entry.Entry.{Entry}
use Rattle.normal_form.specs.declared.entry.Entry.TheVariants.{At, Plus, Minus}
use Rattle.stride_form.specs.Operational.{Operational}
use Rattle.loop_ir.specs.Running.{Access as Touch, ReadsWord, WritesWord, Register, Pointer, State, acted, counted, holding, repeated, run}
use Rattle.loop_ir.specs.Steps.{Action, Set, Copy, One, Two, Place, Spot, Walk, Read, Write, Steps, End, Then, For, If}
use Rattle.nest_build.specs.Bounds.{AddsOwn, IsOwnWrite}
use Rattle.nest_build.specs.Nests.{nest_of}
use Rattle.nest_build.specs.Parts.{entries, literals, low_of}
use Rattle.nest_build.proofs.BodyLemmas.{first_place}
use Rattle.nest_build.proofs.EachLemmas.{EachStep, EntrySets, IsStepOf, last_place, nest-each}
use Rattle.nest_build.proofs.RunLemmas.{all-both}

-- any number will do
abbrev pub Any : ℤ → Type 0
Any value = ⊤

pub all-any : (values : List ℤ) → AllByRecursion Any values
all-any [] = tt
all-any (value ∷ values) = (tt, all-any values)

sets-any : (low : ℕ → ℕ) (entry : Entry) → EntrySets Any low entry
sets-any low (At constant) = tt
sets-any low (Plus var add) = tt
sets-any low (Minus var add) = tt

pub all-set-any : (low : ℕ → ℕ) (list : List Entry) → AllByRecursion (EntrySets Any low) list
all-set-any low [] = tt
all-set-any low (entry ∷ list) = (sets-any low entry, all-set-any low list)

own-none : (own : ℕ) (trace : List Touch) → AddsOwn own trace trace
own-none own trace = record { more = []; same = refl; each = tt }

own-on : (own : ℕ) (first second third : List Touch) → AddsOwn own first second → AddsOwn own second third → AddsOwn own first third
own-on own first second third a b = record {
  more = b.more ++ a.more;
  same = b.same ∙ ap (λ trace. b.more ++ trace) a.same ∙ sym (append_assoc b.more a.more first);
  each = all-both (IsOwnWrite own) b.more a.more b.each a.each;
}

acted-own : (F : ℤ → Type 0) (registers places own : ℕ) (action : Action) (state : State) → IsStepOf F registers places own action
    → AddsOwn own state.trace (acted action state).trace
acted-own F registers places own (Set to value) state h = own-none own state.trace
acted-own F registers places own (Copy to from) state h = own-none own state.trace
acted-own F registers places own (One op to from) state h = own-none own state.trace
acted-own F registers places own (Two op to left right) state h = own-none own state.trace
acted-own F registers places own (Place to word) state h = own-none own state.trace
acted-own F registers places own (Spot to word by) state h = own-none own state.trace
acted-own F registers places own (Walk place words) state h = own-none own state.trace
acted-own F registers places own (Read to area place) state h =
    record { more = ReadsWord area (state.held (Pointer place)) ∷ []; same = refl; each = (tt, tt) }
acted-own F registers places own (Write area place from) state h =
    record { more = WritesWord area (state.held (Pointer place)) ∷ []; same = refl; each = (h.0, tt) }

repeated-own : (own : ℕ) (turn : State → State) → ((state : State) → AddsOwn own state.trace (turn state).trace)
    → (count : ℕ) (state : State) → AddsOwn own state.trace (repeated turn count state).trace
repeated-own own turn h zero state = own-none own state.trace
repeated-own own turn h (suc count) state =
    let before = repeated turn count state in
    own-on own state.trace before.trace (turn before).trace (repeated-own own turn h count state) (h before)

steps-own : (F : ℤ → Type 0) (registers places own : ℕ) (Q : ℕ → Type 0) (steps : Steps) (state : State)
    → EachStep (IsStepOf F registers places own) Q steps → AddsOwn own state.trace (run steps state).trace
steps-own F registers places own Q End state h = own-none own state.trace
steps-own F registers places own Q (Then action rest) state h =
    let middle = acted action state in
    own-on own state.trace middle.trace (run rest middle).trace
    (acted-own F registers places own action state h.0) (steps-own F registers places own Q rest middle h.1)
steps-own F registers places own Q (For counter turns body rest) state h =
    let turn = λ (before : State). counted counter (run body before) in
    let behind = repeated turn turns (holding (Register counter) (pos 0) state) in
    own-on own state.trace behind.trace (run rest behind).trace
    (repeated-own own turn (λ before. steps-own F registers places own Q body before h.1.0) turns
    (holding (Register counter) (pos 0) state))
    (steps-own F registers places own Q rest behind h.1.1)
steps-own F registers places own Q (If left below one other rest) state h = absurd h

pub nest-writes-own : (areas : List Area) (own : ℕ) (shape : List ℕ) (region : List (ℕ × ℕ)) (form : Operational) (state : State)
    → AddsOwn own state.trace (run (nest_of areas own shape region form) state).trace
nest-writes-own areas own shape region form state =
    steps-own Any (first_place region form) (last_place region form) own (λ counter. counter < first_place region form)
    (nest_of areas own shape region form) state
    (nest-each Any areas own shape region form (all-any (literals form)) (all-set-any (low_of region) (entries form)))
