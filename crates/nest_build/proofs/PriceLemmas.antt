-- What the actions of nests cost, and lists of them.
use Rattle.std.specs.Prelude.{◌≡◌, ℕ, suc, ◌+◌, ◌*◌, ◌≤◌, Bool, true, false, ℤ, pos, ◌+ℤ◌, ◌-ℤ◌, ◌*ℤ◌, FitsSigned}
use Rattle.std.specs.Prelude.{List, [], ◌∷◌, ◌++◌, length, map, Option, None, Some, if◌then◌else◌}
use Rattle.std.specs.Int.{w32}
use Rattle.std.specs.List.{AllByRecursion}
use Rattle.std.specs.Ordering.{int_eq}
use Rattle.std.proofs.Common.{refl, arith}
use Rattle.std.proofs.lemmas.List.{length-append}
use Rattle.moa_tree.specs.declared.operator.Op.{Op}
use Rattle.moa_tree.specs.declared.operator.Op.TheVariants.{Add, Sub}
use Rattle.moa_tree.specs.declared.operator.Unary.{Unary}
use Rattle.normal_form.specs.declared.entry.Entry.{Entry}
use Rattle.normal_form.specs.declared.entry.Entry.TheVariants.{At, Plus, Minus}
use Rattle.normal_form.specs.Forms.{Lit, Index, Get, Un, Bin, Case, Fold, Let}
use Rattle.stride_form.specs.Operational.{Operational}
use Rattle.loop_ir.specs.Costs.{Prices, action_cost, cost, loop_cost, time}
use Rattle.loop_ir.specs.Running.{Pointer, Register}
use Rattle.loop_ir.specs.Steps.{Action, Set, One, Two, Place, Walk, Read, Write}
use Rattle.nest_build.specs.Bounds.{AreLow, terms}
use Rattle.nest_build.specs.Nests.{Spot, counted_by, indexed, listed, made_of, sets_from, stride_along, walk_by, walks}
use Rattle.nest_build.specs.Parts.{Loop, accesses, behind_value, counter_of, literals}

pub listed-time : (prices : Prices) (actions : List Action) → time prices (listed actions) ≡ cost prices (listed actions)
listed-time prices [] = refl
listed-time prices (action ∷ actions) = let e = listed-time prices actions in omega (arith, e)

pub append-cost : (prices : Prices) (actions others : List Action)
    → cost prices (listed (actions ++ others)) ≡ cost prices (listed actions) + cost prices (listed others)
append-cost prices [] others = omega arith
append-cost prices (action ∷ actions) others = let e = append-cost prices actions others in omega (arith, e)

module _ (prices : Prices) (low : AreLow prices) where
  set-cost : (to : ℕ) (value : ℤ) → action_cost prices (Set to value) ≤ 22
  set-cost to value = omega (arith, low.most value, low.width (Register to))

  one-cost : (op : Unary) (to from : ℕ) → action_cost prices (One op to from) ≤ 20
  one-cost op to from = omega (arith, low.width (Register to), low.width (Register from))

  two-cost : (op : Op) (to left right : ℕ) → action_cost prices (Two op to left right) ≤ 26
  two-cost op to left right = omega (arith, low.width (Register to), low.width (Register left), low.width (Register right))

  place-cost : (to : ℕ) (word : ℤ) → FitsSigned w32 word → action_cost prices (Place to word) ≤ 16
  place-cost to word h = omega (arith, low.short word h, low.width (Pointer to))

  walk-cost : (place : ℕ) (words : ℤ) → FitsSigned w32 words → action_cost prices (Walk place words) ≤ 16
  walk-cost place words h = omega (arith, low.short words h, low.width (Pointer place))

  read-cost : (to area place : ℕ) → action_cost prices (Read to area place) ≤ 20
  read-cost to area place = omega (arith, low.width (Register to), low.width (Pointer place))

  pub write-cost : (area place from : ℕ) → action_cost prices (Write area place from) ≤ 20
  write-cost area place from = omega (arith, low.width (Pointer place), low.width (Register from))

  pub around-cost : (counter turns : ℕ) → FitsSigned w32 (pos turns) → loop_cost prices counter turns ≤ 34
  around-cost counter turns h = omega (arith, low.short (pos turns) h, low.width (Register counter))

  -- ---- lists

  pub sets-cost : (register : ℕ) (values : List ℤ) → cost prices (listed (sets_from register values)) ≤ 22 * length values
  sets-cost register [] = omega arith
  sets-cost register (value ∷ values) = omega (arith, set-cost register value, sets-cost (suc register) values)

  pub placed-cost : (spots : List Spot) → AllByRecursion (λ spot. FitsSigned w32 spot.word) spots
      → cost prices (listed (map (λ spot. Place spot.place spot.word) spots)) ≤ 16 * length spots
  placed-cost [] h = omega arith
  placed-cost (spot ∷ spots) h = omega (arith, place-cost spot.place spot.word h.0, placed-cost spots h.1)

  walk-choice : (test : Bool) (place : ℕ) (words : ℤ) → FitsSigned w32 words
      → cost prices (listed (if test then [] else Walk place words ∷ [])) ≤ 16
  walk-choice true place words h = omega arith
  walk-choice false place words h = omega (arith, walk-cost place words h)

  pub walks-cost : (spots : List Spot) (var : ℕ) (times : ℤ)
      → AllByRecursion (λ spot. FitsSigned w32 (times *ℤ stride_along spot.strides var)) spots
      → cost prices (listed (walks spots var times)) ≤ 16 * length spots
  walks-cost [] var times h = omega arith
  walks-cost (spot ∷ spots) var times h =
      let words = times *ℤ stride_along spot.strides var in
      let one = walk-choice (int_eq words (pos 0)) spot.place words h.0 in
      let others = walks-cost spots var times h.1 in
      let e = append-cost prices (walk_by spot.place words) (walks spots var times) in
      omega (arith, one, others, e)

  -- ---- values

  counted-cost : (op : Op) (free : ℕ) (constant : ℤ) (o : Option ℕ)
      → cost prices (listed (counted_by free constant o (λ counter. Two op free free counter))) ≤ 48
  counted-cost op free constant None = omega (arith, set-cost free constant)
  counted-cost op free constant (Some counter) = omega (arith, set-cost free constant, two-cost op free free counter)

  indexed-cost : (loops : List Loop) (least : ℕ → ℕ) (free : ℕ) (entry : Entry) → cost prices (listed (indexed loops least free entry)) ≤ 48
  indexed-cost loops least free (At constant) = omega (arith, set-cost free constant)
  indexed-cost loops least free (Plus var add) = counted-cost Add free (add +ℤ pos (least var)) (counter_of loops var)
  indexed-cost loops least free (Minus var add) = counted-cost Sub free (add -ℤ pos (least var)) (counter_of loops var)

  -- with what is done for its literals and accesses
  pub made-cost : (loops : List Loop) (least : ℕ → ℕ) (free literal place : ℕ) (form : Operational)
      → cost prices (listed (made_of loops least free literal place form).steps)
      + (22 * length (literals form) + 208 * length (accesses form)) ≤ 240 * terms form
  made-cost loops least free literal place (Lit value) = omega arith
  made-cost loops least free literal place (Index entry) = let h = indexed-cost loops least free entry in omega (arith, h)
  made-cost loops least free literal place (Get access) = let h = read-cost free access.area place in omega (arith, h)
  made-cost loops least free literal place (Un op of) =
      let made = made_of loops least free literal place of in
      let h = made-cost loops least free literal place of in
      let last = one-cost op free made.value in
      let e = append-cost prices made.steps (One op free made.value ∷ []) in
      omega (arith, h, last, e)
  made-cost loops least free literal place (Bin op left right) =
      let behind = behind_value free left in
      let lits = literal + length (literals left) in
      let more = place + length (accesses left) in
      let one = made_of loops least free literal place left in
      let other = made_of loops least behind lits more right in
      let h = made-cost loops least free literal place left in
      let k = made-cost loops least behind lits more right in
      let last = two-cost op free one.value other.value in
      let d = append-cost prices one.steps (other.steps ++ Two op free one.value other.value ∷ []) in
      let e = append-cost prices other.steps (Two op free one.value other.value ∷ []) in
      let long = length-append (literals left) (literals right) in
      let wide = length-append (accesses left) (accesses right) in
      omega (arith, h, k, last, d, e, long, wide)
  made-cost loops least free literal place (Case entry below one other) = omega arith
  made-cost loops least free literal place (Fold op var first last of) = omega arith
  made-cost loops least free literal place (Let var bind of) = omega arith
