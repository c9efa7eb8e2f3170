-- The nest of a job: a loop for each axis of its region, and a place for each access, which walks along its area. This project's own, after
-- the starts, strides and loop counts of Mullin and Thibault (1994).
use Rattle.std.specs.Prelude.{ℕ, suc, ◌+◌, ℤ, pos, ◌+ℤ◌, ◌-ℤ◌, ◌*ℤ◌, List, [], ◌∷◌, ◌++◌, length, map, ◌==◌, zero, Option, None, Some, if◌then◌else◌}
use Rattle.std.specs.List.{flat_map}
use Rattle.std.specs.Ordering.{int_eq}
use Rattle.shapes_core.specs.declared.area.Area.{Area}
use Rattle.moa_tree.specs.declared.operator.Op.TheVariants.{Add, Sub}
use Rattle.normal_form.specs.declared.entry.Entry.{Entry}
use Rattle.normal_form.specs.declared.entry.Entry.TheVariants.{At, Plus, Minus}
use Rattle.normal_form.specs.Forms.{Lit, Index, Get, Un, Bin}
use Rattle.normal_form.specs.Moves.{variables}
use Rattle.stride_form.specs.declared.access.Access.{Access}
use Rattle.stride_form.specs.Accesses.{access_of, walked}
use Rattle.stride_form.specs.Operational.{Operational}
use Rattle.loop_ir.specs.Steps.{Action, Set, One, Two, Place, Walk, Read, Write, Steps, End, Then, For, joined}
use Rattle.nest_build.specs.Parts.{Loop, accesses, behind_value, counter_of, literals, loops_from, low_of, values_of}

abbrev pub listed : List Action → Steps
listed [] = End
listed (action ∷ actions) = Then action (listed actions)

-- ---- places

-- a place of a nest: the word to which it is set, and its strides along variables
pub record Spot : Type 0 where
  pub place : ℕ
  pub word : ℤ
  pub strides : List (ℕ × ℤ)

-- where the areas begin
abbrev pub start_of : List Area → ℕ → ℕ
start_of [] number = 0
start_of (area ∷ areas) zero = area.start
start_of (area ∷ areas) (suc number) = start_of areas number

-- the places of these accesses, from this number on, each at its first word in the region
abbrev pub spots_from : List Area → List (ℕ × ℕ) → ℕ → List Access → List Spot
spots_from areas region place [] = []
spots_from areas region place (access ∷ others) =
    record {
      place = place;
      word = pos (start_of areas access.area) +ℤ (access.start +ℤ walked (low_of region) access.strides);
      strides = access.strides;
    } ∷ spots_from areas region (suc place) others

-- the elements of the job's own array, at the index vector of its variables
abbrev pub own_access : ℕ → List ℕ → Access
own_access area shape = access_of (record { area = area; shape = shape; at = variables (length shape) })

-- how far an access moves along a variable: the sum of its strides there
abbrev pub stride_along : List (ℕ × ℤ) → ℕ → ℤ
stride_along [] var = pos 0
stride_along (first ∷ others) var = if first.0 == var then first.1 +ℤ stride_along others var else stride_along others var

-- each place walks along a variable so many times, where it has a stride there
abbrev pub walk_by : ℕ → ℤ → List Action
walk_by place words = if int_eq words (pos 0) then [] else Walk place words ∷ []

abbrev pub walks : List Spot → ℕ → ℤ → List Action
walks spots var times = flat_map (λ spot. walk_by spot.place (times *ℤ stride_along spot.strides var)) spots

-- ---- values

-- the steps that make a value, and the register that holds it
pub record Made : Type 0 where
  pub steps : List Action
  pub value : ℕ

-- the number of an entry, in a register: a constant, and the counter of its variable added or taken away
abbrev pub counted_by : ℕ → ℤ → Option ℕ → (ℕ → Action) → List Action
counted_by free constant None with_counter = Set free constant ∷ []
counted_by free constant (Some counter) with_counter = Set free constant ∷ with_counter counter ∷ []

abbrev pub indexed : List Loop → (ℕ → ℕ) → ℕ → Entry → List Action
indexed loops low free (At constant) = Set free constant ∷ []
indexed loops low free (Plus var add) = counted_by free (add +ℤ pos (low var)) (counter_of loops var) (λ counter. Two Add free free counter)
indexed loops low free (Minus var add) = counted_by free (add -ℤ pos (low var)) (counter_of loops var) (λ counter. Two Sub free free counter)

-- the value of a form, in the first register that is free; its literals and places are numbered from here on
abbrev pub made_of : List Loop → (ℕ → ℕ) → ℕ → ℕ → ℕ → Operational → Made
made_of loops low free literal place (Lit value) = record { steps = []; value = literal }
made_of loops low free literal place (Index entry) = record { steps = indexed loops low free entry; value = free }
made_of loops low free literal place (Get access) = record { steps = Read free access.area place ∷ []; value = free }
made_of loops low free literal place (Un op of) =
    let made = made_of loops low free literal place of in
    record { steps = made.steps ++ One op free made.value ∷ []; value = free }
made_of loops low free literal place (Bin op left right) =
    let one = made_of loops low free literal place left in
    let other = made_of loops low (behind_value free left) (literal + length (literals left)) (place + length (accesses left)) right in
    record { steps = one.steps ++ (other.steps ++ Two op free one.value other.value ∷ []); value = free }
made_of loops low free literal place _ = record { steps = []; value = free }

-- ---- loops

-- loops within another one: each place is brought back behind its loop
abbrev pub inner_loops : List Spot → List Loop → Steps → Steps
inner_loops spots [] body = body
inner_loops spots (loop ∷ loops) body =
    For loop.counter loop.turns (joined (inner_loops spots loops body) (listed (walks spots loop.var (pos 1))))
    (listed (walks spots loop.var (pos 0 -ℤ pos loop.turns)))

-- all loops: behind the outermost one no place is needed
abbrev pub all_loops : List Spot → List Loop → Steps → Steps
all_loops spots [] body = body
all_loops spots (loop ∷ loops) body =
    For loop.counter loop.turns (joined (inner_loops spots loops body) (listed (walks spots loop.var (pos 1)))) End

-- ---- the nest

-- literals are set once, in registers from this one on
abbrev pub sets_from : ℕ → List ℤ → List Action
sets_from register [] = []
sets_from register (value ∷ values) = Set register value ∷ sets_from (suc register) values

-- the nest of an output's job in this area, with an array of this shape, on a region, where the form is straight. Registers are numbered from 0
-- on: the counters, the literals, the values; and places behind them.
abbrev pub nest_of : List Area → ℕ → List ℕ → List (ℕ × ℕ) → Operational → Steps
nest_of areas own shape region form =
    let loops = loops_from 0 0 region in
    let literal = length loops in
    let free = literal + length (literals form) in
    let place = free + values_of form in
    let spots = spots_from areas region place (accesses form ++ own_access own shape ∷ []) in
    let made = made_of loops (low_of region) free literal place form in
    joined (listed (sets_from literal (literals form)))
    (joined (listed (map (λ spot. Place spot.place spot.word) spots))
    (all_loops spots loops (listed (made.steps ++ Write own (place + length (accesses form)) made.value ∷ []))))
