-- Nests need nothing: literals and places are set in front, and counters by their loops.
use Rattle.std.specs.Prelude.{◌≡◌, ◌⊎◌, ℕ, suc, ◌+◌, ◌==◌, ◌<◌, ◌≤◌, Bool, true, false, ℤ, pos, ◌+ℤ◌, ◌-ℤ◌, ◌*ℤ◌}
use Rattle.std.specs.Prelude.{List, [], ◌∷◌, ◌++◌, length, map, if◌then◌else◌}
use Rattle.std.specs.List.{AllByRecursion}
use Rattle.std.specs.Ordering.{int_eq}
use Rattle.std.proofs.Common.{refl, subst, inl, inr, arith}
use Rattle.std.proofs.lemmas.Bool.{eqb-false}
use Rattle.std.proofs.lemmas.List.{length-append}
use Rattle.shapes_core.specs.declared.area.Area.{Area}
use Rattle.stride_form.specs.declared.access.Access.{Access}
use Rattle.stride_form.specs.Accesses.{walked}
use Rattle.stride_form.specs.Operational.{Operational}
use Rattle.loop_ir.specs.Needed.{Keys, among, needed, none}
use Rattle.loop_ir.specs.Running.{Key, Register, Pointer, is_key}
use Rattle.loop_ir.specs.Steps.{Action, Set, Place, Walk, Write, Steps, End, joined}
use Rattle.nest_build.specs.Nests.{Spot, all_loops, inner_loops, listed, made_of, nest_of, own_access}
use Rattle.nest_build.specs.Nests.{sets_from, spots_from, start_of, stride_along, walk_by, walks}
use Rattle.nest_build.specs.Parts.{Loop, accesses, is_straight, literals, loops_from, low_of, values_of}
use Rattle.nest_build.proofs.NeedLemmas.{JoinNeeds, Or, Within, append-within, first_fails, for-within, join-within, none-within, then-within}
use Rattle.nest_build.proofs.PartLemmas.{AreCounted, AreSpots, counter-below, loops-counted, spots-are}
use Rattle.nest_build.proofs.ValueNeedLemmas.{Feeds, made-within}

-- what is known within so many loops: their counters, the registers from one on and before another, and such places
abbrev Known : ℕ → ℕ → ℕ → ℕ → ℕ → Key → Type 0
Known depth low high first last (Register number) = (number < depth) ⊎ ((low ≤ number) × (number < high))
Known depth low high first last (Pointer number) = (first ≤ number) × (number < last)

-- ---- literals and places

register-set : (low first last register : ℕ) (key : Key) → Known 0 low (suc register) first last key
    → among (Register register ∷ []) key ≡ false → Known 0 low register first last key
register-set low first last register (Register number) (inl below) other = inl below
register-set low first last register (Register number) (inr within) other =
    let differs = eqb-false number register (first_fails (number == register) false other) in
    inr (within.0, omega (arith, within.1, differs))
register-set low first last register (Pointer number) within other = within

sets-within : (low first last register : ℕ) (values : List ℤ) (after : Keys) → Within after (Known 0 low (register + length values) first last)
    → Within (needed (listed (sets_from register values)) after) (Known 0 low register first last)
sets-within low first last register [] after h =
    let e : register + 0 ≡ register = omega arith in subst (λ n. Within after (Known 0 low n first last)) e h
sets-within low first last register (value ∷ values) after h =
    let e : register + suc (length values) ≡ suc register + length values = omega arith in
    then-within (Known 0 low register first last) (Known 0 low (suc register) first last) (Set register value)
    (listed (sets_from (suc register) values)) after tt (register-set low first last register)
    (sets-within low first last (suc register) values after (subst (λ n. Within after (Known 0 low n first last)) e h))

place-set : (low high first place : ℕ) (key : Key) → Known 0 low high first (suc place) key
    → among (Pointer place ∷ []) key ≡ false → Known 0 low high first place key
place-set low high first place (Register number) within other = within
place-set low high first place (Pointer number) within other =
    let differs = eqb-false number place (first_fails (number == place) false other) in
    (within.0, omega (arith, within.1, differs))

-- each place is set to its first word
abbrev placings : List Spot → List Action
placings spots = map (λ spot. Place spot.place spot.word) spots

places-within : (areas : List Area) (region : List (ℕ × ℕ)) (low high first place : ℕ) (accesses : List Access) (after : Keys)
    → Within after (Known 0 low high first (place + length accesses))
    → Within (needed (listed (placings (spots_from areas region place accesses))) after) (Known 0 low high first place)
places-within areas region low high first place [] after h =
    let e : place + 0 ≡ place = omega arith in subst (λ n. Within after (Known 0 low high first n)) e h
places-within areas region low high first place (access ∷ others) after h =
    let e : place + suc (length others) ≡ suc place + length others = omega arith in
    let word = pos (start_of areas access.area) +ℤ (access.start +ℤ walked (low_of region) access.strides) in
    then-within (Known 0 low high first place) (Known 0 low high first (suc place)) (Place place word)
    (listed (placings (spots_from areas region (suc place) others))) after tt (place-set low high first place)
    (places-within areas region low high first (suc place) others after (subst (λ n. Within after (Known 0 low high first n)) e h))

-- ---- loops

chosen-within : (P : Key → Type 0) (test : Bool) (place : ℕ) (words : ℤ) (after : Keys) → P (Pointer place) → Within after P
    → Within (needed (listed (if test then [] else Walk place words ∷ [])) after) P
chosen-within P true place words after own h = h
chosen-within P false place words after own h = then-within P P (Walk place words) End after (own, tt) (λ key known other. known) h

walks-within : (P : Key → Type 0) (spots : List Spot) (var : ℕ) (times : ℤ) (after : Keys) → AllByRecursion (λ spot. P (Pointer spot.place)) spots
    → Within after P → Within (needed (listed (walks spots var times)) after) P
walks-within P [] var times after all h = h
walks-within P (spot ∷ spots) var times after all h =
    let words = times *ℤ stride_along spot.strides var in
    append-within P (walk_by spot.place words) (walks spots var times) after
    (chosen-within P (int_eq words (pos 0)) spot.place words _ all.0 (walks-within P spots var times after all.1 h))

-- a turn of the first one of loops
abbrev turn : List Spot → Loop → List Loop → Steps → Steps
turn spots loop loops body = joined (inner_loops spots loops body) (listed (walks spots loop.var (pos 1)))

module _ (law : JoinNeeds) (low high first last : ℕ) (spots : List Spot) (placed : AreSpots first last spots) where
  -- what is known within so many loops
  abbrev At : ℕ → Key → Type 0
  At depth = Known depth low high first last

  deeper : (depth : ℕ) (key : Key) → At depth key → At (suc depth) key
  deeper depth (Register number) (inl below) = inl (omega (arith, below))
  deeper depth (Register number) (inr within) = inr within
  deeper depth (Pointer number) within = within

  counter-set : (depth counter : ℕ) → counter ≡ depth → (key : Key) → At (suc depth) key → is_key key (Register counter) ≡ false → At depth key
  counter-set depth counter e (Register number) (inl below) other =
      let differs = eqb-false number counter other in inl (omega (arith, below, differs, e))
  counter-set depth counter e (Register number) (inr within) other = inr within
  counter-set depth counter e (Pointer number) within other = within

  -- steps need within so many loops what is known there, where so does what is behind them
  abbrev NeedsKnown : Steps → ℕ → Type 0
  NeedsKnown steps depth = (after : Keys) → Within after (At depth) → Within (needed steps after) (At depth)

  turn-within : (depth var : ℕ) (steps : Steps) → NeedsKnown steps (suc depth)
      → Within (needed (joined steps (listed (walks spots var (pos 1)))) none) (At (suc depth))
  turn-within depth var steps h =
      join-within law (At (suc depth)) steps (listed (walks spots var (pos 1))) none
      (h _ (walks-within (At (suc depth)) spots var (pos 1) none placed (none-within (At (suc depth)))))

  inner-within : (body : Steps) (depth inner : ℕ) (loops : List Loop) → depth + length loops ≡ inner → AreCounted depth loops
      → NeedsKnown body inner → NeedsKnown (inner_loops spots loops body) depth
  inner-within body depth inner [] e counted h =
      let same : inner ≡ depth = omega (arith, e) in subst (NeedsKnown body) same h
  inner-within body depth inner (loop ∷ loops) e counted h = λ after known.
      let same : suc depth + length loops ≡ inner = omega (arith, e) in
      let more : Within after (At (suc depth)) = λ key need. deeper depth key (known key need) in
      let back = listed (walks spots loop.var (pos 0 -ℤ pos loop.turns)) in
      for-within (At depth) (At (suc depth)) loop.counter loop.turns (turn spots loop loops body) back after
      (counter-set depth loop.counter counted.0)
      (turn-within depth loop.var (inner_loops spots loops body) (inner-within body (suc depth) inner loops same counted.1 h))
      (walks-within (At (suc depth)) spots loop.var (pos 0 -ℤ pos loop.turns) after placed more)

  all-within : (body : Steps) (loops : List Loop) → AreCounted 0 loops → NeedsKnown body (length loops)
      → Within (needed (all_loops spots loops body) none) (At 0)
  all-within body [] counted h = h none (none-within (At 0))
  all-within body (loop ∷ loops) counted h =
      let same : 1 + length loops ≡ suc (length loops) = omega arith in
      for-within (At 0) (At 1) loop.counter loop.turns (turn spots loop loops body) End none (counter-set 0 loop.counter counted.0)
      (turn-within 0 loop.var (inner_loops spots loops body) (inner-within body 1 (suc (length loops)) loops same counted.1 h))
      (none-within (At 1))

-- ---- the nest

body-within : (region : List (ℕ × ℕ)) (loops : List Loop) (own place last : ℕ) (form : Operational)
    → AreCounted 0 loops → is_straight form ≡ true → place + length (accesses form) < last → (after : Keys)
    → let literal = length loops in let free = literal + length (literals form) in
    let made = made_of loops (low_of region) free literal place form in
    Within after (Known literal literal free place last)
    → Within (needed (listed (made.steps ++ Write own (place + length (accesses form)) made.value ∷ [])) after)
    (Known literal literal free place last)
body-within region loops own place last form counted straight more after h =
    let literal = length loops in
    let free = literal + length (literals form) in
    let made = made_of loops (low_of region) free literal place form in
    let P = Known literal literal free place last in
    let feeds : Feeds P loops literal place form = record {
      counters = λ var counter e. inl (omega (arith, counter-below 0 loops var counter counted e));
      literals = λ number h k. inr (h, k);
      places = λ number h k. (h, omega (arith, k, more));
    } in
    let target = place + length (accesses form) in
    append-within P made.steps (Write own target made.value ∷ []) after
    (made-within P loops (low_of region) free literal place form _ straight feeds
    (then-within (Or P (Register made.value)) P (Write own target made.value) End after (inl (omega arith, more), (inr refl, tt))
    (λ key known other. inl known) h))

none-known : (low first : ℕ) (key : Key) → Known 0 low low first first key → ⊥
none-known low first (Register number) (inl below) = omega (arith, below)
none-known low first (Register number) (inr within) = omega (arith, within.0, within.1)
none-known low first (Pointer number) within = omega (arith, within.0, within.1)

fails : (b : Bool) → (b ≡ true → ⊥) → b ≡ false
fails true h = absurd (h refl)
fails false h = refl

pub nest-needs-nothing : JoinNeeds → (areas : List Area) (own : ℕ) (shape : List ℕ) (region : List (ℕ × ℕ)) (form : Operational) (key : Key)
    → is_straight form ≡ true → needed (nest_of areas own shape region form) none key ≡ false
nest-needs-nothing law areas own shape region form key straight =
    let loops = loops_from 0 0 region in
    let literal = length loops in
    let free = literal + length (literals form) in
    let place = free + values_of form in
    let all = accesses form ++ own_access own shape ∷ [] in
    let last = place + length all in
    let spots = spots_from areas region place all in
    let made = made_of loops (low_of region) free literal place form in
    let body = listed (made.steps ++ Write own (place + length (accesses form)) made.value ∷ []) in
    let counted = loops-counted 0 0 region in
    let long : length all ≡ length (accesses form) + 1 = length-append (accesses form) (own_access own shape ∷ []) in
    let whole = all-within law literal free place last spots (spots-are areas region place last place all (omega arith) (omega arith))
    body loops counted (body-within region loops own place last form counted straight (omega (arith, long))) in
    let placed = join-within law (Known 0 literal free place place) (listed (placings spots)) (all_loops spots loops body) none
    (places-within areas region literal free place place all _ whole) in
    let begun = join-within law (Known 0 literal literal place place) (listed (sets_from literal (literals form))) _ none
    (sets-within literal place place literal (literals form) _ placed) in
    fails (needed (nest_of areas own shape region form) none key) (λ need. none-known literal place key (begun key need))
