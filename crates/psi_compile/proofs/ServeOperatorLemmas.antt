-- The operators that nests compute are those of the source's expressions.
use Rattle.std.specs.Prelude.{◌≡◌, ℕ, suc, ◌+◌, Bool, true, false, ℤ, pos, ◌+ℤ◌, ◌-ℤ◌, ◌*ℤ◌, List, [], ◌∷◌, ◌++◌, length, map, slice_get}
use Rattle.std.specs.Prelude.{Option, None, Some}
use Rattle.std.specs.List.{AllByRecursion, list_all, zip, flat_map}
use Rattle.std.specs.Ordering.{int_eq}
use Rattle.std.proofs.Common.{refl, cond}
use Rattle.shapes_core.specs.declared.area.Area.{Area}
use Rattle.moa_tree.specs.declared.operator.Op.{Op}
use Rattle.moa_tree.specs.declared.operator.Op.TheVariants.{Add, Sub}
use Rattle.moa_tree.specs.Expr.{Item}
use Rattle.moa_tree.specs.Subexpressions.{subexpressions_of}
use Rattle.normal_form.specs.declared.entry.Entry.{Entry}
use Rattle.normal_form.specs.declared.entry.Entry.TheVariants.{At, Plus, Minus}
use Rattle.normal_form.specs.Forms.{Lit, Index, Get, Un, Bin, Case, Fold, Let, Normal}
use Rattle.shape_check.specs.Jobs.{TreeJob, jobs}
use Rattle.shape_check.specs.Layout.{areas}
use Rattle.psi_rules.specs.Jobs.{forms}
use Rattle.psi_rules.specs.Scopes.{job_shapes}
use Rattle.stride_form.specs.Operational.{Operational}
use Rattle.stride_form.specs.Rules.{operational_on}
use Rattle.loop_ir.specs.Steps.{Action, Set, Copy, One, Two, Place, Spot, Walk, Read, Write, Steps, End, Then, For, If, joined}
use Rattle.nest_build.specs.Nests.{Spot as Seat, all_loops, counted_by, indexed, inner_loops, listed, made_of, nest_of, own_access}
use Rattle.nest_build.specs.Nests.{sets_from, spots_from, walk_by, walks, stride_along}
use Rattle.nest_build.specs.Parts.{Loop, accesses, behind_value, counter_of, literals, loops_from, low_of, values_of}
use Rattle.nest_jobs.specs.Leads.{nests, nests_of}
use Rattle.nest_jobs.specs.Plain.{ArePlain}
use Rattle.psi_compile.specs.Compiled.{uses}
use Rattle.register_map.specs.Homes.{Given}
use Rattle.rv_emit.specs.Pricing.{are_base, is_base_action, is_base_op}
use Rattle.rv_emit.specs.Simulating.{are_steady, is_steady, is_steady_action, is_steady_op}
use Rattle.psi_compile.proofs.ServeListLemmas.{each-append}

module _ (test : Op → Bool) where
  -- ---- forms

  -- the operators of a straight form pass
  abbrev pub FormPasses : Operational → Type 0
  FormPasses (Un op of) = FormPasses of
  FormPasses (Bin op left right) = (test op ≡ true) × FormPasses left × FormPasses right
  FormPasses _ = Unit {0}

  -- ---- steps

  -- an action computes with an operator that passes, and so do steps, among which no choice is
  abbrev pub ActionPasses : Action → Type 0
  ActionPasses (Two op to left right) = test op ≡ true
  ActionPasses _ = Unit {0}

  abbrev pub Passes : Steps → Type 0
  Passes End = Unit {0}
  Passes (Then action rest) = ActionPasses action × Passes rest
  Passes (For counter turns body rest) = Passes body × Passes rest
  Passes (If left below one other rest) = ⊥

  joined-passes : (steps others : Steps) → Passes steps → Passes others → Passes (joined steps others)
  joined-passes End others h k = k
  joined-passes (Then action rest) others h k = (h.0, joined-passes rest others h.1 k)
  joined-passes (For counter turns body rest) others h k = (h.0, joined-passes rest others h.1 k)
  joined-passes (If left below one other rest) others h k = h

  abbrev EachAction : List Action → Type 0
  EachAction actions = AllByRecursion ActionPasses actions

  listed-passes : (actions : List Action) → EachAction actions → Passes (listed actions)
  listed-passes [] h = tt
  listed-passes (action ∷ actions) h = (h.0, listed-passes actions h.1)

  -- ---- walks

  walk-passes : (place : ℕ) (words : ℤ) → EachAction (walk_by place words)
  walk-passes place words = here (int_eq words (pos 0))
    where
      here : (none : Bool) → EachAction (cond none [] (Walk place words ∷ []))
      here true = tt
      here false = (tt, tt)

  walks-pass : (spots : List Seat) (var : ℕ) (times : ℤ) → EachAction (walks spots var times)
  walks-pass [] var times = tt
  walks-pass (spot ∷ spots) var times =
      each-append ActionPasses (walk_by spot.place (times *ℤ stride_along spot.strides var)) (walks spots var times)
      (walk-passes spot.place (times *ℤ stride_along spot.strides var)) (walks-pass spots var times)

  -- ---- values

  counted-passes : (free : ℕ) (constant : ℤ) (counter : Option ℕ) (op : Op) → test op ≡ true
      → EachAction (counted_by free constant counter (λ n. Two op free free n))
  counted-passes free constant None op h = (tt, tt)
  counted-passes free constant (Some counter) op h = (tt, (h, tt))

  module _ (adds : test Add ≡ true) (subtracts : test Sub ≡ true) where
    indexed-passes : (loops : List Loop) (low : ℕ → ℕ) (free : ℕ) (entry : Entry) → EachAction (indexed loops low free entry)
    indexed-passes loops low free (At constant) = (tt, tt)
    indexed-passes loops low free (Plus var add) = counted-passes free (add +ℤ pos (low var)) (counter_of loops var) Add adds
    indexed-passes loops low free (Minus var add) = counted-passes free (add -ℤ pos (low var)) (counter_of loops var) Sub subtracts

    made-passes : (loops : List Loop) (low : ℕ → ℕ) (free literal place : ℕ) (form : Operational) → FormPasses form
        → EachAction (made_of loops low free literal place form).steps
    made-passes loops low free literal place (Lit value) h = tt
    made-passes loops low free literal place (Index entry) h = indexed-passes loops low free entry
    made-passes loops low free literal place (Get access) h = (tt, tt)
    made-passes loops low free literal place (Un op of) h =
        let made = made_of loops low free literal place of in
        each-append ActionPasses made.steps (One op free made.value ∷ []) (made-passes loops low free literal place of h) (tt, tt)
    made-passes loops low free literal place (Bin op left right) h =
        let one = made_of loops low free literal place left in
        let other = made_of loops low (behind_value free left) (literal + length (literals left)) (place + length (accesses left)) right in
        each-append ActionPasses one.steps (other.steps ++ Two op free one.value other.value ∷ [])
        (made-passes loops low free literal place left h.1)
        (each-append ActionPasses other.steps (Two op free one.value other.value ∷ [])
        (made-passes loops low (behind_value free left) (literal + length (literals left)) (place + length (accesses left)) right h.2)
        (h.0, tt))
    made-passes loops low free literal place (Case entry below first second) h = tt
    made-passes loops low free literal place (Fold op var low' high of) h = tt
    made-passes loops low free literal place (Let var bind of) h = tt

    -- ---- loops

    inner-passes : (spots : List Seat) (loops : List Loop) (body : Steps) → Passes body → Passes (inner_loops spots loops body)
    inner-passes spots [] body h = h
    inner-passes spots (loop ∷ loops) body h = (
      joined-passes (inner_loops spots loops body) (listed (walks spots loop.var (pos 1))) (inner-passes spots loops body h)
          (listed-passes (walks spots loop.var (pos 1)) (walks-pass spots loop.var (pos 1))),
      listed-passes (walks spots loop.var (pos 0 -ℤ pos loop.turns)) (walks-pass spots loop.var (pos 0 -ℤ pos loop.turns)),
    )

    all-passes : (spots : List Seat) (loops : List Loop) (body : Steps) → Passes body → Passes (all_loops spots loops body)
    all-passes spots [] body h = h
    all-passes spots (loop ∷ loops) body h = (
      joined-passes (inner_loops spots loops body) (listed (walks spots loop.var (pos 1))) (inner-passes spots loops body h)
          (listed-passes (walks spots loop.var (pos 1)) (walks-pass spots loop.var (pos 1))),
      tt,
    )

    sets-pass : (register : ℕ) (values : List ℤ) → EachAction (sets_from register values)
    sets-pass register [] = tt
    sets-pass register (value ∷ values) = (tt, sets-pass (suc register) values)

    places-pass : (spots : List Seat) → EachAction (map (λ spot. Place spot.place spot.word) spots)
    places-pass [] = tt
    places-pass (spot ∷ spots) = (tt, places-pass spots)

    -- ---- nests

    nest-passes : (areas : List Area) (own : ℕ) (shape : List ℕ) (region : List (ℕ × ℕ)) (form : Operational) → FormPasses form
        → Passes (nest_of areas own shape region form)
    nest-passes areas own shape region form h =
        let loops = loops_from 0 0 region in
        let literal = length loops in
        let free = literal + length (literals form) in
        let place = free + values_of form in
        let spots = spots_from areas region place (accesses form ++ own_access own shape ∷ []) in
        let made = made_of loops (low_of region) free literal place form in
        let body = listed (made.steps ++ Write own (place + length (accesses form)) made.value ∷ []) in
        let sets = listed (sets_from literal (literals form)) in
        let places = listed (map (λ spot. Place spot.place spot.word) spots) in
        joined-passes sets (joined places (all_loops spots loops body))
        (listed-passes (sets_from literal (literals form)) (sets-pass literal (literals form)))
        (joined-passes places (all_loops spots loops body)
        (listed-passes (map (λ spot. Place spot.place spot.word) spots) (places-pass spots))
        (all-passes spots loops body
        (listed-passes (made.steps ++ Write own (place + length (accesses form)) made.value ∷ [])
        (each-append ActionPasses made.steps (Write own (place + length (accesses form)) made.value ∷ [])
        (made-passes loops (low_of region) free literal place form h) (tt, tt)))))

    pub nests-pass : (areas : List Area) (jobs : List TreeJob) (shapes : List (List ℕ)) (list : List (Option Normal))
        → ((number : ℕ) (form : Normal) (region : List (ℕ × ℕ)) → slice_get list number ≡ Some (Some form)
        → FormPasses (operational_on region form))
        → AllByRecursion Passes (nests_of areas jobs shapes list)
    nests-pass areas [] shapes list h = tt
    nests-pass areas (job ∷ jobs) [] list h = tt
    nests-pass areas (job ∷ jobs) (shape ∷ shapes) [] h = tt
    nests-pass areas (job ∷ jobs) (shape ∷ shapes) (None ∷ list) h =
        (tt, nests-pass areas jobs shapes list (λ number form region e. h (suc number) form region e))
    nests-pass areas (job ∷ jobs) (shape ∷ shapes) (Some form ∷ list) h =
        let region : List (ℕ × ℕ) = map (λ n. (0, n)) shape in (
          nest-passes areas job.job.area shape region (operational_on region form) (h 0 form region refl),
          nests-pass areas jobs shapes list (λ number other box e. h (suc number) other box e),
        )

-- ---- steady nests, and those of the base instruction set

steady-action : (action : Action) → ActionPasses is_steady_op action → is_steady_action action ≡ true
steady-action (Set to value) h = refl
steady-action (Copy to from) h = refl
steady-action (One op to from) h = refl
steady-action (Two op to left right) h = h
steady-action (Place to word) h = refl
steady-action (Spot to word by) h = refl
steady-action (Walk place words) h = refl
steady-action (Read to area place) h = refl
steady-action (Write area place from) h = refl

steady-steps : (steps : Steps) → Passes is_steady_op steps → is_steady steps ≡ true
steady-steps End h = refl
steady-steps (Then action rest) h = rw (steady-action action h.0, steady-steps rest h.1) refl
steady-steps (For counter turns body rest) h = rw (steady-steps body h.0, steady-steps rest h.1) refl
steady-steps (If left below one other rest) h = absurd h

base-action : (action : Action) → ActionPasses is_base_op action → is_base_action action ≡ true
base-action (Set to value) h = refl
base-action (Copy to from) h = refl
base-action (One op to from) h = refl
base-action (Two op to left right) h = h
base-action (Place to word) h = refl
base-action (Spot to word by) h = refl
base-action (Walk place words) h = refl
base-action (Read to area place) h = refl
base-action (Write area place from) h = refl

base-steps : (steps : Steps) → Passes is_base_op steps → are_base steps ≡ true
base-steps End h = refl
base-steps (Then action rest) h = rw (base-action action h.0, base-steps rest h.1) refl
base-steps (For counter turns body rest) h = rw (base-steps body h.0, base-steps rest h.1) refl
base-steps (If left below one other rest) h = absurd h

-- of nests that all pass, those with homes do
zip-passes : (test : Steps → Bool) (P : Steps → Type 0) → ((steps : Steps) → P steps → test steps ≡ true)
    → (list : List Steps) (homes : List Given) → AllByRecursion P list → list_all (λ nest. test nest.0) (zip list homes) ≡ true
zip-passes test P f [] homes h = refl
zip-passes test P f (nest ∷ list) [] h = refl
zip-passes test P f (nest ∷ list) (given ∷ homes) h = rw (f nest h.0, zip-passes test P f list homes h.1) refl

-- the operators in the forms of a plain program are those of its source, on each region
abbrev pub TakesOperators : Type 0
TakesOperators =
    (test : Op → Bool) (items : List Item) → ArePlain items
    → AllByRecursion (λ expr. uses test expr ≡ true) (flat_map subexpressions_of items) → (number : ℕ) (form : Normal)
    (region : List (ℕ × ℕ)) → slice_get (forms items) number ≡ Some (Some form) → FormPasses test (operational_on region form)

pub steady-nests : TakesOperators → (items : List Item) (homes : List Given) → ArePlain items
    → AllByRecursion (λ expr. uses is_steady_op expr ≡ true) (flat_map subexpressions_of items)
    → are_steady (zip (nests items) homes) ≡ true
steady-nests law items homes plain used =
    zip-passes is_steady (Passes is_steady_op) steady-steps (nests items) homes
    (nests-pass is_steady_op refl refl (areas items) (jobs items) (job_shapes items) (forms items) (law is_steady_op items plain used))

pub base-nests : TakesOperators → (items : List Item) (homes : List Given) → ArePlain items
    → AllByRecursion (λ expr. uses is_base_op expr ≡ true) (flat_map subexpressions_of items)
    → list_all (λ nest. are_base nest.0) (zip (nests items) homes) ≡ true
base-nests law items homes plain used =
    zip-passes are_base (Passes is_base_op) base-steps (nests items) homes
    (nests-pass is_base_op refl refl (areas items) (jobs items) (job_shapes items) (forms items) (law is_base_op items plain used))
