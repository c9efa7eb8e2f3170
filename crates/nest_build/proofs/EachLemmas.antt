-- Each step of a nest is over its own registers and places, sets what is set there, and writes its own area alone.
use Rattle.std.specs.Prelude.{◌≡◌, ℕ, suc, ◌+◌, ◌<◌, ◌≤◌, max, Bool, true, false, ℤ, pos, ◌+ℤ◌, ◌-ℤ◌, ◌*ℤ◌}
use Rattle.std.specs.Prelude.{List, [], ◌∷◌, ◌++◌, length, map, Option, None, Some, if◌then◌else◌, ⊤}
use Rattle.std.specs.List.{AllByRecursion}
use Rattle.std.specs.Ordering.{int_eq}
use Rattle.std.proofs.Common.{refl, arith}
use Rattle.std.proofs.lemmas.List.{length-append}
use Rattle.shapes_core.specs.declared.area.Area.{Area}
use Rattle.moa_tree.specs.declared.operator.Op.{Op}
use Rattle.moa_tree.specs.declared.operator.Op.TheVariants.{Add, Sub}
use Rattle.normal_form.specs.declared.entry.Entry.{Entry}
use Rattle.normal_form.specs.declared.entry.Entry.TheVariants.{At, Plus, Minus}
use Rattle.normal_form.specs.Forms.{Lit, Index, Get, Un, Bin, Case, Fold, Let}
use Rattle.stride_form.specs.Operational.{Operational}
use Rattle.loop_ir.specs.Steps.{Action, Set, Copy, One, Two, Place, Spot as By, Walk, Read, Write, Steps, End, Then, For, If, joined}
use Rattle.nest_build.specs.Nests.{Spot, all_loops, counted_by, indexed, inner_loops, listed, made_of, nest_of, own_access}
use Rattle.nest_build.specs.Nests.{sets_from, spots_from, stride_along, walk_by, walks}
use Rattle.nest_build.specs.Parts.{Loop, accesses, behind_value, counter_of, entries, literals, loops_from, low_of, values_of}
use Rattle.nest_build.proofs.BodyLemmas.{body_steps, first_free, first_literal, first_place}
use Rattle.nest_build.proofs.PartLemmas.{AreCounted, AreSpots, counter-below, loops-counted, spots-are}
use Rattle.nest_build.proofs.RunLemmas.{all-both, all-parts}

-- ---- each step

-- so is each action, and the counter of each loop, where there is no choice
abbrev pub EachStep : (Action → Type 0) → (ℕ → Type 0) → Steps → Type 0
EachStep P Q End = ⊤
EachStep P Q (Then action rest) = P action × EachStep P Q rest
EachStep P Q (For counter turns body rest) = Q counter × (EachStep P Q body × EachStep P Q rest)
EachStep P Q (If left below one other rest) = ⊥

-- an action over so many registers and places, which sets registers to such numbers and writes one area alone
abbrev pub IsStepOf : (ℤ → Type 0) → ℕ → ℕ → ℕ → Action → Type 0
IsStepOf F registers places own (Set to value) = (to < registers) × F value
IsStepOf F registers places own (Copy to from) = ⊥
IsStepOf F registers places own (One op to from) = (to < registers) × (from < registers)
IsStepOf F registers places own (Two op to left right) = (to < registers) × ((left < registers) × (right < registers))
IsStepOf F registers places own (Place to word) = to < places
IsStepOf F registers places own (By to word by) = ⊥
IsStepOf F registers places own (Walk place words) = place < places
IsStepOf F registers places own (Read to area place) = (to < registers) × (place < places)
IsStepOf F registers places own (Write area place from) = (area ≡ own) × ((place < places) × (from < registers))

-- the number that an entry sets
abbrev pub EntrySets : (ℤ → Type 0) → (ℕ → ℕ) → Entry → Type 0
EntrySets F low (At constant) = F constant
EntrySets F low (Plus var add) = F (add +ℤ pos (low var))
EntrySets F low (Minus var add) = F (add -ℤ pos (low var))

-- where the places of a form end
abbrev pub last_place : List (ℕ × ℕ) → Operational → ℕ
last_place region form = first_place region form + suc (length (accesses form))

behind-sum : (free : ℕ) (form : Operational) → behind_value free form ≡ free + behind_value 0 form
behind-sum free (Lit value) = omega arith
behind-sum free (Index entry) = omega arith
behind-sum free (Get access) = omega arith
behind-sum free (Un op of) = omega arith
behind-sum free (Bin op left right) = omega arith
behind-sum free (Case entry below one other) = omega arith
behind-sum free (Fold op var first last of) = omega arith
behind-sum free (Let var bind of) = omega arith

one-room : (free v registers : ℕ) → free + max 1 v ≤ registers → (free < registers) × (free + v ≤ registers)
one-room free v registers h = (grind arith, grind arith)

two-room : (free l r b registers : ℕ) → free + max 1 (max l (b + r)) ≤ registers
    → (free < registers) × ((free + l ≤ registers) × (free + b + r ≤ registers))
two-room free l r b registers h = (grind arith, (grind arith, grind arith))

module _ (F : ℤ → Type 0) (registers places own : ℕ) where
  abbrev P : Action → Type 0
  P = IsStepOf F registers places own

  abbrev Q : ℕ → Type 0
  Q counter = counter < registers

  each-joined : (first second : Steps) → EachStep P Q first → EachStep P Q second → EachStep P Q (joined first second)
  each-joined End second h k = k
  each-joined (Then action rest) second h k = (h.0, each-joined rest second h.1 k)
  each-joined (For counter turns body rest) second h k = (h.0, (h.1.0, each-joined rest second h.1.1 k))
  each-joined (If left below one other rest) second h k = absurd h

  each-listed : (actions : List Action) → AllByRecursion P actions → EachStep P Q (listed actions)
  each-listed [] h = tt
  each-listed (action ∷ actions) h = (h.0, each-listed actions h.1)

  -- ---- literals, places and walks

  sets-each : (register : ℕ) (values : List ℤ) → register + length values ≤ registers → AllByRecursion F values
      → AllByRecursion P (sets_from register values)
  sets-each register [] h k = tt
  sets-each register (value ∷ values) h k = ((omega (arith, h), k.0), sets-each (suc register) values (omega (arith, h)) k.1)

  placed-each : (first last : ℕ) (spots : List Spot) → last ≤ places → AreSpots first last spots
      → AllByRecursion P (map (λ spot. Place spot.place spot.word) spots)
  placed-each first last [] h k = tt
  placed-each first last (spot ∷ spots) h k = (omega (arith, h, k.0.1), placed-each first last spots h k.1)

  walk-each : (test : Bool) (place : ℕ) (words : ℤ) → place < places → AllByRecursion P (if test then [] else Walk place words ∷ [])
  walk-each true place words h = tt
  walk-each false place words h = (h, tt)

  walks-each : (first last : ℕ) (spots : List Spot) (var : ℕ) (times : ℤ) → last ≤ places → AreSpots first last spots
      → AllByRecursion P (walks spots var times)
  walks-each first last [] var times h k = tt
  walks-each first last (spot ∷ spots) var times h k =
      let words = times *ℤ stride_along spot.strides var in
      all-both P (walk_by spot.place words) (walks spots var times)
      (walk-each (int_eq words (pos 0)) spot.place words (omega (arith, h, k.0.1))) (walks-each first last spots var times h k.1)

  -- ---- values

  counted-each : (op : Op) (free : ℕ) (constant : ℤ) (o : Option ℕ) → free < registers → F constant
      → ((counter : ℕ) → o ≡ Some counter → counter < registers)
      → AllByRecursion P (counted_by free constant o (λ counter. Two op free free counter))
  counted-each op free constant None h f known = ((h, f), tt)
  counted-each op free constant (Some counter) h f known = ((h, f), ((h, (h, known counter refl)), tt))

  module _ (loops : List Loop) (low : ℕ → ℕ) (known : (var counter : ℕ) → counter_of loops var ≡ Some counter → counter < registers) where
    indexed-each : (free : ℕ) (entry : Entry) → free < registers → EntrySets F low entry → AllByRecursion P (indexed loops low free entry)
    indexed-each free (At constant) h f = ((h, f), tt)
    indexed-each free (Plus var add) h f = counted-each Add free (add +ℤ pos (low var)) (counter_of loops var) h f (known var)
    indexed-each free (Minus var add) h f = counted-each Sub free (add -ℤ pos (low var)) (counter_of loops var) h f (known var)

    value-below : (form : Operational) (free literal place : ℕ) → free + values_of form ≤ registers
        → literal + length (literals form) ≤ registers → (made_of loops low free literal place form).value < registers
    value-below (Lit value) free literal place h k = omega (arith, k)
    value-below (Index entry) free literal place h k = omega (arith, h)
    value-below (Get access) free literal place h k = omega (arith, h)
    value-below (Un op of) free literal place h k = (one-room free (values_of of) registers h).0
    value-below (Bin op left right) free literal place h k =
        (two-room free (values_of left) (values_of right) (behind_value 0 left) registers h).0
    value-below (Case entry below one other) free literal place h k = omega (arith, h)
    value-below (Fold op var first last of) free literal place h k = omega (arith, h)
    value-below (Let var bind of) free literal place h k = omega (arith, h)

    made-each : (form : Operational) (free literal place : ℕ) → free + values_of form ≤ registers
        → literal + length (literals form) ≤ registers → place + length (accesses form) ≤ places
        → AllByRecursion (EntrySets F low) (entries form)
        → AllByRecursion P (made_of loops low free literal place form).steps
    made-each (Lit value) free literal place h k l e = tt
    made-each (Index entry) free literal place h k l e = indexed-each free entry (omega (arith, h)) e.0
    made-each (Get access) free literal place h k l e = ((omega (arith, h), omega (arith, l)), tt)
    made-each (Un op of) free literal place h k l e =
        let made = made_of loops low free literal place of in
        let room = one-room free (values_of of) registers h in
        all-both P made.steps (One op free made.value ∷ []) (made-each of free literal place room.1 k l e)
        ((room.0, value-below of free literal place room.1 k), tt)
    made-each (Bin op left right) free literal place h k l e =
        let behind = behind_value free left in
        let lits = literal + length (literals left) in
        let more = place + length (accesses left) in
        let one = made_of loops low free literal place left in
        let other = made_of loops low behind lits more right in
        let room = two-room free (values_of left) (values_of right) (behind_value 0 left) registers h in
        let same = behind-sum free left in
        let far : behind + values_of right ≤ registers = omega (arith, same, room.1.1) in
        let long = length-append (literals left) (literals right) in
        let wide = length-append (accesses left) (accesses right) in
        let last : lits + length (literals right) ≤ registers = omega (arith, k, long) in
        let first : literal + length (literals left) ≤ registers = omega (arith, k, long) in
        let parts = all-parts (EntrySets F low) (entries left) (entries right) e in
        all-both P one.steps (other.steps ++ Two op free one.value other.value ∷ [])
        (made-each left free literal place room.1.0 first (omega (arith, l, wide)) parts.0)
        (all-both P other.steps (Two op free one.value other.value ∷ [])
        (made-each right behind lits more far last (omega (arith, l, wide)) parts.1)
        ((room.0, (value-below left free literal place room.1.0 first, value-below right behind lits more far last)), tt))
    made-each (Case entry below one other) free literal place h k l e = tt
    made-each (Fold op var first last of) free literal place h k l e = tt
    made-each (Let var bind of) free literal place h k l e = tt

  -- ---- loops

  module _ (spots : List Spot) (first last : ℕ) (few : last ≤ places) (are : AreSpots first last spots)
      (body : Steps) (each : EachStep P Q body) where
    turn-each : (var : ℕ) (steps : Steps) → EachStep P Q steps → EachStep P Q (joined steps (listed (walks spots var (pos 1))))
    turn-each var steps h =
        each-joined steps (listed (walks spots var (pos 1))) h
        (each-listed (walks spots var (pos 1)) (walks-each first last spots var (pos 1) few are))

    inner-each : (depth : ℕ) (loops : List Loop) → depth + length loops ≤ registers → AreCounted depth loops
        → EachStep P Q (inner_loops spots loops body)
    inner-each depth [] h counted = each
    inner-each depth (loop ∷ loops) h counted = (
      omega (arith, h, counted.0),
      (
        turn-each loop.var (inner_loops spots loops body) (inner-each (suc depth) loops (omega (arith, h)) counted.1),
        each-listed (walks spots loop.var (pos 0 -ℤ pos loop.turns))
            (walks-each first last spots loop.var (pos 0 -ℤ pos loop.turns) few are),
      ),
    )

    all-each : (loops : List Loop) → length loops ≤ registers → AreCounted 0 loops → EachStep P Q (all_loops spots loops body)
    all-each [] h counted = each
    all-each (loop ∷ loops) h counted = (
      omega (arith, h, counted.0),
      (turn-each loop.var (inner_loops spots loops body) (inner-each 1 loops (omega (arith, h)) counted.1), tt),
    )

-- ---- the nest

pub nest-each : (F : ℤ → Type 0) (areas : List Area) (own : ℕ) (shape : List ℕ) (region : List (ℕ × ℕ)) (form : Operational)
    → AllByRecursion F (literals form) → AllByRecursion (EntrySets F (low_of region)) (entries form)
    → EachStep (IsStepOf F (first_place region form) (last_place region form) own) (λ counter. counter < first_place region form)
    (nest_of areas own shape region form)
nest-each F areas own shape region form lits sets =
    let registers = first_place region form in
    let places = last_place region form in
    let loops = loops_from 0 0 region in
    let literal = first_literal region in
    let free = first_free region form in
    let all = accesses form ++ own_access own shape ∷ [] in
    let spots = spots_from areas region registers all in
    let long : length all ≡ length (accesses form) + 1 = length-append (accesses form) (own_access own shape ∷ []) in
    let are = spots-are areas region registers places registers all (omega arith) (omega (arith, long)) in
    let counted = loops-counted 0 0 region in
    let known = λ (var counter : ℕ). λ (e : counter_of loops var ≡ Some counter).
    let under = counter-below 0 loops var counter counted e in
    let below : counter < registers = omega (arith, under) in below in
    let made = made_of loops (low_of region) free literal registers form in
    let last = Write own (registers + length (accesses form)) made.value ∷ [] in
    let value = value-below F registers places own loops (low_of region) known form free literal registers (omega arith) (omega arith) in
    let steps = made-each F registers places own loops (low_of region) known form free literal registers (omega arith) (omega arith)
    (omega arith) sets in
    let write : AllByRecursion (IsStepOf F registers places own) last = ((refl, (omega arith, value)), tt) in
    let body = listed (body_steps own region form) in
    let inside = each-listed F registers places own (body_steps own region form)
    (all-both (IsStepOf F registers places own) made.steps last steps write) in
    let around = all-each F registers places own spots registers places (omega arith) are body inside loops (omega arith) counted in
    let placings = map (λ spot. Place spot.place spot.word) spots in
    each-joined F registers places own (listed (sets_from literal (literals form))) _
    (each-listed F registers places own (sets_from literal (literals form))
    (sets-each F registers places own literal (literals form) (omega arith) lits))
    (each-joined F registers places own (listed placings) (all_loops spots loops body)
    (each-listed F registers places own placings (placed-each F registers places own registers places spots (omega arith) are)) around)
