-- No step of a nest sets the counter of a loop around it, and loops turn less than 2 ^ 63 times.
use Rattle.std.specs.Prelude.{◌≡◌, ℕ, suc, ◌+◌, ◌-◌, ◌^◌, ◌<◌, ◌≤◌, ◌==◌, nat_le, Bool, true, false, ◌||◌, ℤ, pos, ◌+ℤ◌, ◌-ℤ◌, ◌*ℤ◌}
use Rattle.std.specs.Prelude.{List, [], ◌∷◌, ◌++◌, length, map, Option, None, Some, if◌then◌else◌}
use Rattle.std.specs.List.{AllByRecursion, list_all}
use Rattle.std.specs.Ordering.{int_eq}
use Rattle.std.proofs.Common.{refl, arith}
use Rattle.std.proofs.lemmas.Bool.{and_parts, leb-true, ne_eqb, true≢false}
use Rattle.shapes_core.specs.Limits.{greatest_extent, most_axes}
use Rattle.shapes_core.specs.declared.area.Area.{Area}
use Rattle.shapes_core.specs.Shape.{IsShape, are_small, span}
use Rattle.moa_tree.specs.declared.operator.Op.{Op}
use Rattle.moa_tree.specs.declared.operator.Op.TheVariants.{Add, Sub}
use Rattle.normal_form.specs.declared.entry.Entry.{Entry}
use Rattle.normal_form.specs.declared.entry.Entry.TheVariants.{At, Plus, Minus}
use Rattle.normal_form.specs.Forms.{Lit, Index, Get, Un, Bin, Case, Fold, Let}
use Rattle.normal_form.specs.Kept.{IsBox}
use Rattle.stride_form.specs.Operational.{Operational}
use Rattle.loop_ir.specs.Kept.{KeepsCounters, may_set}
use Rattle.loop_ir.specs.Needed.{among, sets}
use Rattle.loop_ir.specs.Running.{Key, Register, is_key}
use Rattle.loop_ir.specs.Steps.{Action, One, Two, Place, Walk, Write, Steps, End, Then, For, If, joined}
use Rattle.nest_build.specs.Nests.{Spot, all_loops, counted_by, indexed, inner_loops, listed, made_of, nest_of, own_access}
use Rattle.nest_build.specs.Nests.{sets_from, spots_from, stride_along, walk_by, walks}
use Rattle.nest_build.specs.Parts.{Loop, accesses, behind_value, counter_of, literals, loops_from, low_of, values_of}
use Rattle.nest_build.proofs.NeedLemmas.{first_fails}
use Rattle.nest_build.proofs.PartLemmas.{AreCounted, loops-counted}

-- one list of steps behind another keeps counters where both do
abbrev pub JoinKeeps : Type 0
JoinKeeps = (first second : Steps) → KeepsCounters first → KeepsCounters second → KeepsCounters (joined first second)

-- ---- what steps may set

both-fail : (a b : Bool) → a ≡ false → b ≡ false → (a || b) ≡ false
both-fail true b h k = absurd (true≢false h)
both-fail false b h k = k

second_fails : (a b : Bool) → (a || b) ≡ false → b ≡ false
second_fails true b h = absurd (true≢false h)
second_fails false b h = h

joined-spare : (first second : Steps) (key : Key) → may_set first key ≡ false → may_set second key ≡ false
    → may_set (joined first second) key ≡ false
joined-spare End second key h k = k
joined-spare (Then action rest) second key h k =
    both-fail (among (sets action) key) _ (first_fails (among (sets action) key) (may_set rest key) h)
    (joined-spare rest second key (second_fails (among (sets action) key) (may_set rest key) h) k)
joined-spare (For counter turns body rest) second key h k =
    let own = is_key key (Register counter) in
    let inner = second_fails own (may_set body key || may_set rest key) h in
    both-fail own _ (first_fails own (may_set body key || may_set rest key) h)
    (both-fail (may_set body key) _ (first_fails (may_set body key) (may_set rest key) inner)
    (joined-spare rest second key (second_fails (may_set body key) (may_set rest key) inner) k))
joined-spare (If left below one other rest) second key h k =
    let inner = second_fails (may_set one key) (may_set other key || may_set rest key) h in
    both-fail (may_set one key) _ (first_fails (may_set one key) (may_set other key || may_set rest key) h)
    (both-fail (may_set other key) _ (first_fails (may_set other key) (may_set rest key) inner)
    (joined-spare rest second key (second_fails (may_set other key) (may_set rest key) inner) k))

append-spare : (actions others : List Action) (key : Key) → may_set (listed actions) key ≡ false → may_set (listed others) key ≡ false
    → may_set (listed (actions ++ others)) key ≡ false
append-spare [] others key h k = k
append-spare (action ∷ actions) others key h k =
    let own = among (sets action) key in
    let rest = may_set (listed actions) key in
    both-fail own _ (first_fails own rest h) (append-spare actions others key (second_fails own rest h) k)

-- ---- walks set places alone

walk-spare : (test : Bool) (place : ℕ) (words : ℤ) (number : ℕ)
    → may_set (listed (if test then [] else Walk place words ∷ [])) (Register number) ≡ false
walk-spare true place words number = refl
walk-spare false place words number = refl

walks-spare : (spots : List Spot) (var : ℕ) (times : ℤ) (number : ℕ) → may_set (listed (walks spots var times)) (Register number) ≡ false
walks-spare [] var times number = refl
walks-spare (spot ∷ spots) var times number =
    let words = times *ℤ stride_along spot.strides var in
    append-spare (walk_by spot.place words) (walks spots var times) (Register number)
    (walk-spare (int_eq words (pos 0)) spot.place words number) (walks-spare spots var times number)

-- ---- values are set from the first free register on

-- a register before another one is not set with it
before-set : (number free : ℕ) (rest : Bool) → number < free → rest ≡ false → ((number == free || false) || rest) ≡ false
before-set number free rest h k =
    both-fail (number == free || false) rest (both-fail (number == free) false (ne_eqb number free (λ e. omega (arith, e, h))) refl) k

counted-spare : (op : Op) (free : ℕ) (constant : ℤ) (o : Option ℕ) (number : ℕ) → number < free
    → may_set (listed (counted_by free constant o (λ counter. Two op free free counter))) (Register number) ≡ false
counted-spare op free constant None number h = before-set number free false h refl
counted-spare op free constant (Some counter) number h = before-set number free _ h (before-set number free false h refl)

indexed-spare : (loops : List Loop) (low : ℕ → ℕ) (free : ℕ) (entry : Entry) (number : ℕ) → number < free
    → may_set (listed (indexed loops low free entry)) (Register number) ≡ false
indexed-spare loops low free (At constant) number h = before-set number free false h refl
indexed-spare loops low free (Plus var add) number h = counted-spare Add free (add +ℤ pos (low var)) (counter_of loops var) number h
indexed-spare loops low free (Minus var add) number h = counted-spare Sub free (add -ℤ pos (low var)) (counter_of loops var) number h

behind-rises : (free : ℕ) (form : Operational) → free ≤ behind_value free form
behind-rises free (Lit value) = omega arith
behind-rises free (Index entry) = omega arith
behind-rises free (Get access) = omega arith
behind-rises free (Un op of) = omega arith
behind-rises free (Bin op left right) = omega arith
behind-rises free (Case entry below one other) = omega arith
behind-rises free (Fold op var first last of) = omega arith
behind-rises free (Let var bind of) = omega arith

made-spare : (loops : List Loop) (low : ℕ → ℕ) (free literal place : ℕ) (form : Operational) (number : ℕ) → number < free
    → may_set (listed (made_of loops low free literal place form).steps) (Register number) ≡ false
made-spare loops low free literal place (Lit value) number h = refl
made-spare loops low free literal place (Index entry) number h = indexed-spare loops low free entry number h
made-spare loops low free literal place (Get access) number h = before-set number free false h refl
made-spare loops low free literal place (Un op of) number h =
    let made = made_of loops low free literal place of in
    append-spare made.steps (One op free made.value ∷ []) (Register number) (made-spare loops low free literal place of number h)
    (before-set number free false h refl)
made-spare loops low free literal place (Bin op left right) number h =
    let behind = behind_value free left in
    let lits = literal + length (literals left) in
    let places = place + length (accesses left) in
    let one = made_of loops low free literal place left in
    let other = made_of loops low behind lits places right in
    let last = Two op free one.value other.value ∷ [] in
    append-spare one.steps (other.steps ++ last) (Register number) (made-spare loops low free literal place left number h)
    (append-spare other.steps last (Register number)
    (made-spare loops low behind lits places right number (omega (arith, h, behind-rises free left)))
    (before-set number free false h refl))
made-spare loops low free literal place (Case entry below one other) number h = refl
made-spare loops low free literal place (Fold op var first last of) number h = refl
made-spare loops low free literal place (Let var bind of) number h = refl

-- ---- loops

listed-keeps : (actions : List Action) → KeepsCounters (listed actions)
listed-keeps [] = tt
listed-keeps (action ∷ actions) = listed-keeps actions

-- loops turn less than 2 ^ 63 times
abbrev AreShort : List Loop → Type 0
AreShort loops = AllByRecursion (λ loop. loop.turns < 2 ^ 63) loops

chosen-short : (test : Bool) (skipped : List Loop) (loop : Loop) (loops : List Loop) → AreShort skipped → loop.turns < 2 ^ 63
    → AreShort loops → AreShort (if test then skipped else loop ∷ loops)
chosen-short true skipped loop loops h few k = h
chosen-short false skipped loop loops h few k = (few, k)

loops-short : (counter var : ℕ) (region : List (ℕ × ℕ)) (shape : List ℕ) → list_all (λ extent. nat_le extent greatest_extent) shape ≡ true
    → IsBox region shape → AreShort (loops_from counter var region)
loops-short counter var [] shape small box = tt
loops-short counter var (pair ∷ pairs) [] small box = absurd box
loops-short counter var (pair ∷ pairs) (extent ∷ shape) small box =
    let parts = and_parts (nat_le extent greatest_extent) (list_all (λ other. nat_le other greatest_extent) shape) small in
    let few = leb-true extent greatest_extent parts.0 in
    chosen-short (pair.1 - pair.0 == 1) (loops_from counter (suc var) pairs) (record { counter = counter; var = var; turns = pair.1 - pair.0 })
    (loops_from (suc counter) (suc var) pairs) (loops-short counter (suc var) pairs shape parts.1 box.1)
    (omega (arith, few, box.0.1)) (loops-short (suc counter) (suc var) pairs shape parts.1 box.1)

turn-spare : (spots : List Spot) (var : ℕ) (steps : Steps) (number : ℕ) → may_set steps (Register number) ≡ false
    → may_set (joined steps (listed (walks spots var (pos 1)))) (Register number) ≡ false
turn-spare spots var steps number h =
    joined-spare steps (listed (walks spots var (pos 1))) (Register number) h (walks-spare spots var (pos 1) number)

inner-spare : (spots : List Spot) (body : Steps) (depth : ℕ) (loops : List Loop) (number : ℕ) → AreCounted depth loops → number < depth
    → may_set body (Register number) ≡ false → may_set (inner_loops spots loops body) (Register number) ≡ false
inner-spare spots body depth [] number counted h k = k
inner-spare spots body depth (loop ∷ loops) number counted h k =
    both-fail (number == loop.counter) _ (ne_eqb number loop.counter (λ e. omega (arith, e, counted.0, h)))
    (both-fail (may_set (joined (inner_loops spots loops body) (listed (walks spots loop.var (pos 1)))) (Register number)) _
    (turn-spare spots loop.var (inner_loops spots loops body) number
    (inner-spare spots body (suc depth) loops number counted.1 (omega (arith, h)) k))
    (walks-spare spots loop.var (pos 0 -ℤ pos loop.turns) number))

module _ (law : JoinKeeps) (spots : List Spot) (body : Steps) (kept : KeepsCounters body) where
  -- the steps set no register before this one
  abbrev SparesBelow : ℕ → Type 0
  SparesBelow bound = (number : ℕ) → number < bound → may_set body (Register number) ≡ false

  turn-keeps : (var : ℕ) (steps : Steps) → KeepsCounters steps → KeepsCounters (joined steps (listed (walks spots var (pos 1))))
  turn-keeps var steps h = law steps (listed (walks spots var (pos 1))) h (listed-keeps (walks spots var (pos 1)))

  -- a loop keeps its counter, since it is before those of the loops within
  counter-spare : (depth : ℕ) (loop : Loop) (loops : List Loop) → AreCounted depth (loop ∷ loops) → SparesBelow (suc depth + length loops)
      → may_set (joined (inner_loops spots loops body) (listed (walks spots loop.var (pos 1)))) (Register loop.counter) ≡ false
  counter-spare depth loop loops counted spares =
      turn-spare spots loop.var (inner_loops spots loops body) loop.counter
      (inner-spare spots body (suc depth) loops loop.counter counted.1 (omega (arith, counted.0)) (spares loop.counter (omega (arith, counted.0))))

  inner-keeps : (depth bound : ℕ) (loops : List Loop) → depth + length loops ≤ bound → AreCounted depth loops → AreShort loops → SparesBelow bound
      → KeepsCounters (inner_loops spots loops body)
  inner-keeps depth bound [] e counted short spares = kept
  inner-keeps depth bound (loop ∷ loops) e counted short spares = (
    (counter-spare depth loop loops counted (λ number h. spares number (omega (arith, h, e))), short.0),
    (
      turn-keeps loop.var (inner_loops spots loops body)
          (inner-keeps (suc depth) bound loops (omega (arith, e)) counted.1 short.1 spares),
      listed-keeps (walks spots loop.var (pos 0 -ℤ pos loop.turns)),
    ),
  )

  all-keeps : (loops : List Loop) → AreCounted 0 loops → AreShort loops → SparesBelow (length loops) → KeepsCounters (all_loops spots loops body)
  all-keeps [] counted short spares = kept
  all-keeps (loop ∷ loops) counted short spares = (
    (counter-spare 0 loop loops counted (λ number h. spares number (omega (arith, h))), short.0),
    (
      turn-keeps loop.var (inner_loops spots loops body)
          (inner-keeps 1 (suc (length loops)) loops (omega arith) counted.1 short.1 spares),
      tt,
    ),
  )

-- ---- the nest

pub nest-keeps-counters : JoinKeeps → (areas : List Area) (own : ℕ) (shape : List ℕ) (region : List (ℕ × ℕ)) (form : Operational)
    → IsShape shape → IsBox region shape → KeepsCounters (nest_of areas own shape region form)
nest-keeps-counters law areas own shape region form shaped box =
    let loops = loops_from 0 0 region in
    let literal = length loops in
    let free = literal + length (literals form) in
    let place = free + values_of form in
    let spots = spots_from areas region place (accesses form ++ own_access own shape ∷ []) in
    let made = made_of loops (low_of region) free literal place form in
    let write = Write own (place + length (accesses form)) made.value ∷ [] in
    let actions = made.steps ++ write in
    let placings = map (λ spot. Place spot.place spot.word) spots in
    let sets_first = sets_from literal (literals form) in
    let few = and_parts (nat_le (length shape) most_axes) (are_small shape) shaped in
    let small = and_parts (list_all (λ extent. nat_le extent greatest_extent) shape) (nat_le (span shape) greatest_extent) few.1 in
    let whole = all-keeps law spots (listed actions) (listed-keeps actions) loops (loops-counted 0 0 region)
    (loops-short 0 0 region shape small.0 box)
    (λ number h. append-spare made.steps write (Register number)
    (made-spare loops (low_of region) free literal place form number (omega (arith, h))) refl) in
    law (listed sets_first) _ (listed-keeps sets_first) (law (listed placings) (all_loops spots loops (listed actions)) (listed-keeps placings) whole)
