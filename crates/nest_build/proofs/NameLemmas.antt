-- A nest names few registers and places, and sets registers to numbers that fit.
use Rattle.std.specs.Prelude.{◌≡◌, ℕ, zero, suc, ◌+◌, ◌-◌, ◌*◌, ◌<◌, ◌≤◌, ◌==◌, max, nat_le, Bool, true, false, ℤ, pos, negsuc, ◌+ℤ◌, ◌-ℤ◌}
use Rattle.std.specs.Prelude.{List, [], ◌∷◌, length, if◌then◌else◌}
use Rattle.std.specs.Int.{w64}
use Rattle.std.specs.List.{AllByRecursion}
use Rattle.std.proofs.Common.{refl, arith}
use Rattle.std.proofs.lemmas.Bool.{and_parts, leb-true}
use Rattle.std.proofs.lemmas.Int.{fits_signed_from_abs, ints}
use Rattle.std.proofs.lemmas.List.{length-append}
use Rattle.shapes_core.specs.Limits.{greatest_extent, most_axes}
use Rattle.shapes_core.specs.declared.area.Area.{Area}
use Rattle.shapes_core.specs.Shape.{IsShape, are_small}
use Rattle.normal_form.specs.declared.entry.Entry.{Entry}
use Rattle.normal_form.specs.declared.entry.Entry.TheVariants.{At, Plus, Minus}
use Rattle.normal_form.specs.Forms.{Lit, Index, Get, Un, Bin, Case, Fold, Let}
use Rattle.normal_form.specs.Kept.{IsBox, IsEntry, job_variables}
use Rattle.stride_form.specs.Operational.{Operational}
use Rattle.loop_ir.specs.Costs.{named}
use Rattle.loop_ir.specs.Fitting.{Fits64, SetFits, SetsFit}
use Rattle.loop_ir.specs.Kept.{EachNamed}
use Rattle.loop_ir.specs.Needed.{Keys}
use Rattle.loop_ir.specs.Running.{Pointer, Register}
use Rattle.loop_ir.specs.Steps.{Action, Set, Copy, One, Two, Place, Spot, Walk, Read, Write, Steps, End, Then, For, If}
use Rattle.nest_build.specs.Bounds.{terms}
use Rattle.nest_build.specs.Gives.{IsBuildable}
use Rattle.nest_build.specs.Nests.{nest_of}
use Rattle.nest_build.specs.Parts.{Loop, accesses, behind_value, entries, literals, loops_from, low_of, values_of}
use Rattle.nest_build.proofs.BodyLemmas.{first_place}
use Rattle.nest_build.proofs.EachLemmas.{EachStep, EntrySets, IsStepOf, last_place, nest-each}
use Rattle.nest_build.proofs.RegionLemmas.{AreSmall, extents-small}
use Rattle.nest_build.proofs.WriteLemmas.{Any, all-any, all-set-any}

-- ---- how many there are

un-room : (v l t : ℕ) → v + l ≤ t → max 1 v + l ≤ 1 + t
un-room v l t h = grind arith

bin-room : (v w b l m s t : ℕ) → v + l ≤ s → w + m ≤ t → b ≤ 1 → max 1 (max v (b + w)) + (l + m) ≤ 1 + (s + t)
bin-room v w b l m s t h k one = grind arith

behind-one : (form : Operational) → behind_value 0 form ≤ 1
behind-one (Lit value) = omega arith
behind-one (Index entry) = omega arith
behind-one (Get access) = omega arith
behind-one (Un op of) = omega arith
behind-one (Bin op left right) = omega arith
behind-one (Case entry below one other) = omega arith
behind-one (Fold op var first last of) = omega arith
behind-one (Let var bind of) = omega arith

registers-few : (form : Operational) → values_of form + length (literals form) ≤ terms form
registers-few (Lit value) = omega arith
registers-few (Index entry) = omega arith
registers-few (Get access) = omega arith
registers-few (Un op of) = un-room (values_of of) (length (literals of)) (terms of) (registers-few of)
registers-few (Bin op left right) =
    let long = length-append (literals left) (literals right) in
    let room = bin-room (values_of left) (values_of right) (behind_value 0 left) (length (literals left)) (length (literals right))
    (terms left) (terms right) (registers-few left) (registers-few right) (behind-one left) in
    omega (arith, long, room)
registers-few (Case entry below one other) = omega arith
registers-few (Fold op var first last of) = omega arith
registers-few (Let var bind of) = omega arith

pub accesses-few : (form : Operational) → length (accesses form) ≤ terms form
accesses-few (Lit value) = omega arith
accesses-few (Index entry) = omega arith
accesses-few (Get access) = omega arith
accesses-few (Un op of) = omega (arith, accesses-few of)
accesses-few (Bin op left right) =
    omega (arith, length-append (accesses left) (accesses right), accesses-few left, accesses-few right)
accesses-few (Case entry below one other) = omega arith
accesses-few (Fold op var first last of) = omega arith
accesses-few (Let var bind of) = omega arith

chosen-few : (test : Bool) (skipped : List Loop) (loop : Loop) (loops : List Loop) (n : ℕ) → length skipped ≤ n → length loops ≤ n
    → length (if test then skipped else loop ∷ loops) ≤ suc n
chosen-few true skipped loop loops n h k = omega (arith, h)
chosen-few false skipped loop loops n h k = omega (arith, k)

loops-few : (counter var : ℕ) (region : List (ℕ × ℕ)) → length (loops_from counter var region) ≤ length region
loops-few counter var [] = omega arith
loops-few counter var (pair ∷ pairs) =
    chosen-few (pair.1 - pair.0 == 1) (loops_from counter (suc var) pairs)
    (record { counter = counter; var = var; turns = pair.1 - pair.0 }) (loops_from (suc counter) (suc var) pairs)
    (length pairs) (loops-few counter (suc var) pairs) (loops-few (suc counter) (suc var) pairs)

box-length : (region : List (ℕ × ℕ)) (shape : List ℕ) → IsBox region shape → length region ≡ length shape
box-length [] [] h = refl
box-length [] (n ∷ shape) h = absurd h
box-length (pair ∷ region) [] h = absurd h
box-length (pair ∷ region) (n ∷ shape) h = let e = box-length region shape h.1 in omega (arith, e)

pub six-loops : (region : List (ℕ × ℕ)) (shape : List ℕ) → IsBox region shape → IsShape shape → length (loops_from 0 0 region) ≤ 6
six-loops region shape box shaped =
    let axes : length shape ≤ 6 = leb-true (length shape) most_axes
    (and_parts (nat_le (length shape) most_axes) (are_small shape) shaped).0 in
    let e = box-length region shape box in
    let few = loops-few 0 0 region in
    omega (arith, axes, e, few)

-- ---- what is named

module _ (keys : Keys) (F : ℤ → Type 0) (registers places own : ℕ)
    (known : (number : ℕ) → number < registers → keys (Register number) ≡ true)
    (placed : (number : ℕ) → number < places → keys (Pointer number) ≡ true) where
  action-named : (action : Action) → IsStepOf F registers places own action → AllByRecursion (λ key. keys key ≡ true) (named action)
  action-named (Set to value) h = (known to h.0, tt)
  action-named (Copy to from) h = absurd h
  action-named (One op to from) h = (known to h.0, (known from h.1, tt))
  action-named (Two op to left right) h = (known to h.0, (known left h.1.0, (known right h.1.1, tt)))
  action-named (Place to word) h = (placed to h, tt)
  action-named (Spot to word by) h = absurd h
  action-named (Walk place words) h = (placed place h, tt)
  action-named (Read to area place) h = (known to h.0, (placed place h.1, tt))
  action-named (Write area place from) h = (placed place h.1.0, (known from h.1.1, tt))

  steps-named : (steps : Steps) → EachStep (IsStepOf F registers places own) (λ counter. counter < registers) steps
      → EachNamed (λ key. keys key ≡ true) steps
  steps-named End h = tt
  steps-named (Then action rest) h = (action-named action h.0, steps-named rest h.1)
  steps-named (For counter turns body rest) h = (known counter h.0, (steps-named body h.1.0, steps-named rest h.1.1))
  steps-named (If left below one other rest) h = absurd h

pub nest-names-few : (keys : Keys) (areas : List Area) (own : ℕ) (shape : List ℕ) (region : List (ℕ × ℕ)) (form : Operational)
    → IsBuildable areas own shape region form
    → ((number : ℕ) → number < 6 + terms form → keys (Register number) ≡ true)
    → ((number : ℕ) → number < 7 + 2 * terms form → keys (Pointer number) ≡ true)
    → EachNamed (λ key. keys key ≡ true) (nest_of areas own shape region form)
nest-names-few keys areas own shape region form built known placed =
    let loops = six-loops region shape built.box built.within in
    let few = registers-few form in
    let wide = accesses-few form in
    steps-named keys Any (first_place region form) (last_place region form) own
    (λ number under. known number (omega (arith, under, loops, few)))
    (λ number under. placed number (omega (arith, under, loops, few, wide)))
    (nest_of areas own shape region form)
    (nest-each Any areas own shape region form (all-any (literals form)) (all-set-any (low_of region) (entries form)))

-- ---- what is set

low-small : (region : List (ℕ × ℕ)) (shape : List ℕ) → IsBox region shape → AreSmall shape → (var : ℕ) → low_of region var ≤ greatest_extent
low-small [] shape h small var = omega arith
low-small (pair ∷ region) [] h small var = absurd h
low-small (pair ∷ region) (n ∷ shape) h small zero = omega (arith, h.0.0, h.0.1, small.0)
low-small (pair ∷ region) (n ∷ shape) h small (suc var) = low-small region shape h.1 small.1 var

entry-fits : (variables : List ℕ) (low : ℕ → ℕ) (entry : Entry) → ((var : ℕ) → low var ≤ greatest_extent)
    → IsEntry variables entry greatest_extent → EntrySets Fits64 low entry
entry-fits variables low (At (pos constant)) least h = fits_signed_from_abs w64 (pos constant) (omega (arith, ints, h))
entry-fits variables low (At (negsuc constant)) least h = absurd h
entry-fits variables low (Plus var add) least h =
    fits_signed_from_abs w64 (add +ℤ pos (low var)) (omega (arith, ints, h.1, least var))
entry-fits variables low (Minus var add) least h =
    fits_signed_from_abs w64 (add -ℤ pos (low var)) (omega (arith, ints, h.1, least var))

entries-fit : (variables : List ℕ) (low : ℕ → ℕ) (list : List Entry) → ((var : ℕ) → low var ≤ greatest_extent)
    → AllByRecursion (λ entry. IsEntry variables entry greatest_extent) list → AllByRecursion (EntrySets Fits64 low) list
entries-fit variables low [] least h = tt
entries-fit variables low (entry ∷ list) least h = (entry-fits variables low entry least h.0, entries-fit variables low list least h.1)

action-fits : (registers places own : ℕ) (action : Action) → IsStepOf Fits64 registers places own action → SetFits action
action-fits registers places own (Set to value) h = h.1
action-fits registers places own (Copy to from) h = tt
action-fits registers places own (One op to from) h = tt
action-fits registers places own (Two op to left right) h = tt
action-fits registers places own (Place to word) h = tt
action-fits registers places own (Spot to word by) h = tt
action-fits registers places own (Walk place words) h = tt
action-fits registers places own (Read to area place) h = tt
action-fits registers places own (Write area place from) h = tt

steps-fit : (registers places own : ℕ) (Q : ℕ → Type 0) (steps : Steps) → EachStep (IsStepOf Fits64 registers places own) Q steps
    → SetsFit steps
steps-fit registers places own Q End h = tt
steps-fit registers places own Q (Then action rest) h =
    (action-fits registers places own action h.0, steps-fit registers places own Q rest h.1)
steps-fit registers places own Q (For counter turns body rest) h =
    (steps-fit registers places own Q body h.1.0, steps-fit registers places own Q rest h.1.1)
steps-fit registers places own Q (If left below one other rest) h = absurd h

pub nest-sets-what-fits : (areas : List Area) (own : ℕ) (shape : List ℕ) (region : List (ℕ × ℕ)) (form : Operational)
    → IsBuildable areas own shape region form → AllByRecursion Fits64 (literals form) → SetsFit (nest_of areas own shape region form)
nest-sets-what-fits areas own shape region form built lits =
    let least = low-small region shape built.box (extents-small shape built.within) in
    steps-fit (first_place region form) (last_place region form) own (λ counter. counter < first_place region form)
    (nest_of areas own shape region form)
    (nest-each Fits64 areas own shape region form lits (entries-fit (job_variables shape) (low_of region) (entries form) least built.small))
