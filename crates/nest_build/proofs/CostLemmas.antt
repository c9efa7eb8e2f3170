-- What loops and nests cost, and the steps that they take.
use Rattle.std.specs.Prelude.{◌≡◌, ℕ, zero, suc, ◌+◌, ◌-◌, ◌*◌, ◌≤◌, ◌==◌, Bool, true, false, pos, ◌-ℤ◌}
use Rattle.std.specs.Prelude.{List, [], ◌∷◌, ◌++◌, length, map, if◌then◌else◌}
use Rattle.std.specs.List.{AllByRecursion}
use Rattle.std.proofs.Common.{refl, ap, sym, ◌∙◌, arith}
use Rattle.std.proofs.Math.Nat.{mul-le-mul_left, mul-le-mul_right}
use Rattle.std.proofs.lemmas.Bool.{eqb-true}
use Rattle.std.proofs.lemmas.List.{length-append}
use Rattle.shapes_core.specs.Limits.{most_words}
use Rattle.shapes_core.specs.declared.area.Area.{Area}
use Rattle.stride_form.specs.declared.access.Access.{Access}
use Rattle.stride_form.specs.Operational.{Operational}
use Rattle.loop_ir.specs.Costs.{Prices, cost, loop_cost, time}
use Rattle.loop_ir.specs.Steps.{Action, Place, Steps, Write, joined}
use Rattle.nest_build.specs.Bounds.{AreLow, places_in, terms}
use Rattle.nest_build.specs.Gives.{AreLaidOut, IsBuildable}
use Rattle.nest_build.specs.Nests.{Spot, all_loops, inner_loops, listed, nest_of, own_access, sets_from, spots_from, walks}
use Rattle.nest_build.specs.Parts.{Loop, accesses, literals, loops_from, low_of}
use Rattle.nest_build.proofs.BodyLemmas.{body_steps, first_free, first_literal, first_place, made_in}
use Rattle.nest_build.proofs.NameLemmas.{six-loops}
use Rattle.nest_build.proofs.PriceLemmas.{append-cost, around-cost, listed-time, made-cost, placed-cost, sets-cost, walks-cost, write-cost}
use Rattle.nest_build.proofs.RegionLemmas.{OffsetLaw, box-ranges}
use Rattle.nest_build.proofs.ShortLemmas.{BelowLaw, IsShort, all-reached, loops-short, region-loops, words-short}

-- one list of steps behind another costs what both cost
abbrev pub JoinCosts : Type 0
JoinCosts = (prices : Prices) (first second : Steps) → cost prices (joined first second) ≡ cost prices first + cost prices second

abbrev pub JoinTimes : Type 0
JoinTimes = (prices : Prices) (first second : Steps) → time prices (joined first second) ≡ time prices first + time prices second

-- ---- arithmetic

next-times : (n c : ℕ) → suc n * c ≡ c + n * c
next-times n c = omega arith

six-times : (n c : ℕ) → n ≤ 6 → n * c ≤ 6 * c
six-times n c h = mul-le-mul_right c h

-- a loop whose turns are two or more takes no more than its turns times what bounds a turn with three times what is around it
turn-sum : (around walk c steps r k : ℕ) → around + walk ≤ c → steps + 3 * c ≤ r
    → around + suc (suc k) * (around + (steps + walk)) + walk + 3 * c ≤ suc (suc k) * r
turn-sum around walk c steps r zero h e = omega (arith, h, e)
turn-sum around walk c steps r (suc k) h e =
    let before = turn-sum around walk c steps r k h e in
    let one = next-times (suc (suc k)) (around + (steps + walk)) in
    let other = next-times (suc (suc k)) r in
    omega (arith, h, e, before, one, other)

turns-sum : (around walk c steps r t : ℕ) → around + walk ≤ c → steps + 3 * c ≤ r → 2 ≤ t
    → around + t * (around + (steps + walk)) + walk + 3 * c ≤ t * r
turns-sum around walk c steps r zero h e two = absurd (omega (arith, two))
turns-sum around walk c steps r (suc zero) h e two = absurd (omega (arith, two))
turns-sum around walk c steps r (suc (suc k)) h e two = turn-sum around walk c steps r k h e

-- ---- turns of loops

-- how many times the body of loops is done
abbrev turned : List Loop → ℕ
turned [] = 1
turned (loop ∷ loops) = loop.turns * turned loops

chosen-turned : (turns n : ℕ) (test : Bool) (skipped : List Loop) (loop : Loop) (loops : List Loop) → test ≡ (turns == 1)
    → loop.turns ≡ turns → turned skipped ≡ n → turned loops ≡ n → turned (if test then skipped else loop ∷ loops) ≡ turns * n
chosen-turned turns n true skipped loop loops e same h k =
    let one : turns ≡ 1 = eqb-true turns 1 (sym e) in
    let once : n ≡ 1 * n = omega arith in
    h ∙ once ∙ ap (λ t. t * n) (sym one)
chosen-turned turns n false skipped loop loops e same h k = ap (λ t. t * turned loops) same ∙ ap (λ m. turns * m) k

region-turned : (counter var : ℕ) (region : List (ℕ × ℕ)) → turned (loops_from counter var region) ≡ places_in region
region-turned counter var [] = refl
region-turned counter var (pair ∷ pairs) =
    chosen-turned (pair.1 - pair.0) (places_in pairs) (pair.1 - pair.0 == 1) (loops_from counter (suc var) pairs)
    (record { counter = counter; var = var; turns = pair.1 - pair.0 }) (loops_from (suc counter) (suc var) pairs) refl refl
    (region-turned counter (suc var) pairs) (region-turned (suc counter) (suc var) pairs)

-- ---- loops

module _ (prices : Prices) (low : AreLow prices) (spots : List Spot) (body : Steps) where
  -- what a place walks on and back
  abbrev on : Loop → List Action
  on loop = walks spots loop.var (pos 1)

  abbrev back : Loop → List Action
  back loop = walks spots loop.var (pos 0 -ℤ pos loop.turns)

  module _ (law : JoinCosts) where
    inner-cost : (c : ℕ) → 34 + 32 * length spots ≤ c → (loops : List Loop) → AllByRecursion (IsShort spots) loops
        → cost prices (inner_loops spots loops body) ≤ length loops * c + cost prices body
    inner-cost c h [] short = omega arith
    inner-cost c h (loop ∷ loops) short =
        let inner = inner-cost c h loops short.1 in
        let around = around-cost prices low loop.counter loop.turns short.0.turns in
        let forth = walks-cost prices low spots loop.var (pos 1) short.0.on in
        let behind = walks-cost prices low spots loop.var (pos 0 -ℤ pos loop.turns) short.0.back in
        let e = law prices (inner_loops spots loops body) (listed (on loop)) in
        let next = next-times (length loops) c in
        omega (arith, h, inner, around, forth, behind, e, next)

    all-cost : (c : ℕ) → 34 + 32 * length spots ≤ c → (loops : List Loop) → AllByRecursion (IsShort spots) loops
        → cost prices (all_loops spots loops body) ≤ length loops * c + cost prices body
    all-cost c h [] short = omega arith
    all-cost c h (loop ∷ loops) short =
        let inner = inner-cost c h loops short.1 in
        let around = around-cost prices low loop.counter loop.turns short.0.turns in
        let forth = walks-cost prices low spots loop.var (pos 1) short.0.on in
        let e = law prices (inner_loops spots loops body) (listed (on loop)) in
        let next = next-times (length loops) c in
        omega (arith, h, inner, around, forth, e, next)

  module _ (law : JoinTimes) where
    -- what a turn takes beside the loops within it
    turn-time : (loop : Loop) (loops : List Loop)
        → time prices (joined (inner_loops spots loops body) (listed (on loop)))
        ≡ time prices (inner_loops spots loops body) + cost prices (listed (on loop))
    turn-time loop loops =
        law prices (inner_loops spots loops body) (listed (on loop))
        ∙ ap (λ n. time prices (inner_loops spots loops body) + n) (listed-time prices (on loop))

    inner-time : (c : ℕ) → 34 + 16 * length spots ≤ c → (loops : List Loop) → AllByRecursion (IsShort spots) loops
        → time prices (inner_loops spots loops body) + 3 * c ≤ turned loops * (time prices body + 3 * c)
    inner-time c h [] short = omega arith
    inner-time c h (loop ∷ loops) short =
        let inner = inner-time c h loops short.1 in
        let around = around-cost prices low loop.counter loop.turns short.0.turns in
        let forth = walks-cost prices low spots loop.var (pos 1) short.0.on in
        let behind = walks-cost prices low spots loop.var (pos 0 -ℤ pos loop.turns) short.0.back in
        let bound = turned loops * (time prices body + 3 * c) in
        let sum = turns-sum 34 (16 * length spots) c (time prices (inner_loops spots loops body)) bound loop.turns h inner short.0.two in
        let turn : loop_cost prices loop.counter loop.turns + time prices (joined (inner_loops spots loops body) (listed (on loop)))
        ≤ 34 + (time prices (inner_loops spots loops body) + 16 * length spots) = omega (arith, around, forth, turn-time loop loops) in
        let turns = mul-le-mul_left loop.turns turn in
        let last = listed-time prices (back loop) in
        let same : loop.turns * turned loops * (time prices body + 3 * c) ≡ loop.turns * bound = grind arith in
        omega (arith, sum, turns, around, behind, last, same)

    all-time : (c : ℕ) → 34 + 16 * length spots ≤ c → (loops : List Loop) → AllByRecursion (IsShort spots) loops
        → time prices (all_loops spots loops body) + 3 * c ≤ turned loops * (time prices body + 3 * c)
    all-time c h [] short = omega arith
    all-time c h (loop ∷ loops) short =
        let whole = inner-time c h (loop ∷ loops) short in
        omega (arith, whole)

-- ---- the nest

final-time : (sets placed made t c p n : ℕ) → t + 3 * c ≤ p * (made + 20 + 3 * c) → made + 20 + 3 * c ≤ 240 * (1 + n)
    → sets + placed ≤ 240 * (1 + n) → 1 + (sets + (placed + t)) ≤ 1024 * ((1 + p) * (1 + n))
final-time sets placed made t c p n h k l =
    let more = mul-le-mul_left p k in
    let next = next-times p (1 + n) in
    let same : p * (240 * (1 + n)) ≡ 240 * (p * (1 + n)) = grind arith in
    omega (arith, h, more, next, same, l)

-- what bounds the steps of loops, where their turns are counted and their body has no loop
more-time : (t p q b d c : ℕ) → q ≡ p → b ≡ d → t ≤ q * (b + 3 * c) → t ≤ p * (d + 20 + 3 * c)
more-time t p q b d c same e h =
    let wide : b + 3 * c ≤ d + 20 + 3 * c = omega (arith, e) in
    let far = mul-le-mul_left q wide in
    let at : q * (d + 20 + 3 * c) ≡ p * (d + 20 + 3 * c) = ap (λ n. n * (d + 20 + 3 * c)) same in
    omega (arith, h, far, at)

module _ (prices : Prices) (areas : List Area) (words own : ℕ) (shape : List ℕ) (region : List (ℕ × ℕ)) (form : Operational)
    (offset : OffsetLaw) (below : BelowLaw) (low : AreLow prices) (laid : AreLaidOut areas words) (small : words ≤ most_words)
    (built : IsBuildable areas own shape region form) where
  abbrev all : List Access
  all = accesses form ++ own_access own shape ∷ []

  abbrev spots : List Spot
  spots = spots_from areas region (first_place region form) all

  abbrev loops : List Loop
  loops = loops_from 0 0 region

  abbrev sets : Steps
  sets = listed (sets_from (first_literal region) (literals form))

  abbrev placings : Steps
  placings = listed (map (λ spot. Place spot.place spot.word) spots)

  abbrev body : Steps
  body = listed (body_steps own region form)

  spots-length : (place : ℕ) (list : List Access) → length (spots_from areas region place list) ≡ length list
  spots-length place [] = refl
  spots-length place (access ∷ list) = let e = spots-length (suc place) list in omega (arith, e)

  all-short : AllByRecursion (IsShort spots) loops
  all-short =
      loops-short areas words laid small region (box-ranges region shape built.box) all (first_place region form)
      (all-reached offset below areas own shape region form built) loops (region-loops region shape built.box built.within)

  -- there is a place for each access and one more
  count : length spots ≡ length (accesses form) + 1
  count = spots-length (first_place region form) all ∙ length-append (accesses form) (own_access own shape ∷ [])

  sets-few : cost prices sets ≤ 22 * length (literals form)
  sets-few = sets-cost prices low (first_literal region) (literals form)

  placed-few : cost prices placings ≤ 16 * length spots
  placed-few =
      placed-cost prices low spots
      (words-short areas words laid small region (box-ranges region shape built.box) all (first_place region form)
      (all-reached offset below areas own shape region form built))

  body-few : cost prices body + (22 * length (literals form) + 208 * length (accesses form)) ≤ 240 * terms form + 20
  body-few =
      let made = made_in region form in
      let e = append-cost prices made.steps (Write own (first_place region form + length (accesses form)) made.value ∷ []) in
      let h = made-cost prices low loops (low_of region) (first_free region form) (first_literal region) (first_place region form) form in
      let last = write-cost prices low own (first_place region form + length (accesses form)) made.value in
      omega (arith, e, h, last)

  pub nest-costs-little : JoinCosts → 1 + cost prices (nest_of areas own shape region form) ≤ 240 * (2 + terms form)
  nest-costs-little law =
      let c = 34 + 32 * length spots in
      let around = all-cost prices low spots body law c (omega arith) loops all-short in
      let six = six-times (length loops) c (six-loops region shape built.box built.within) in
      let d = law prices sets (joined placings (all_loops spots loops body)) in
      let e = law prices placings (all_loops spots loops body) in
      let total : cost prices (nest_of areas own shape region form)
      ≡ cost prices sets + (cost prices placings + cost prices (all_loops spots loops body)) =
      d ∙ ap (λ n. cost prices sets + n) e in
      omega (arith, around, six, total, sets-few, placed-few, body-few, count)

  pub nest-takes-few : JoinTimes → 1 + time prices (nest_of areas own shape region form) ≤ 1024 * ((1 + places_in region) * (1 + terms form))
  nest-takes-few law =
      let c = 34 + 16 * length spots in
      let around = all-time prices low spots body law c (omega arith) loops all-short in
      let turns = region-turned 0 0 region in
      let t = time prices (all_loops spots loops body) in
      let d = law prices sets (joined placings (all_loops spots loops body)) in
      let e = law prices placings (all_loops spots loops body) in
      let total : time prices (nest_of areas own shape region form) ≡ time prices sets + (time prices placings + t) =
      d ∙ ap (λ n. time prices sets + n) e in
      let first = listed-time prices (sets_from (first_literal region) (literals form)) in
      let second = listed-time prices (map (λ spot. Place spot.place spot.word) spots) in
      let third = listed-time prices (body_steps own region form) in
      let whole : t + 3 * c ≤ places_in region * (cost prices body + 20 + 3 * c) =
      more-time (t + 3 * c) (places_in region) (turned loops) (time prices body) (cost prices body) c turns third around in
      let last = final-time (cost prices sets) (cost prices placings) (cost prices body) t c (places_in region) (terms form) whole
      (omega (arith, body-few, count)) (omega (arith, sets-few, placed-few, body-few, count)) in
      omega (arith, total, first, second, last)
