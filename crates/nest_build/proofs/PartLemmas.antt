-- The loops of a region are counted in order, and the places of its accesses are numbered in order.
use Rattle.std.specs.Prelude.{◌≡◌, ℕ, suc, ◌+◌, ◌-◌, ◌==◌, ◌<◌, ◌≤◌, Bool, true, false, List, [], ◌∷◌, length, Option, None, Some, if◌then◌else◌, ⊤}
use Rattle.std.specs.List.{AllByRecursion}
use Rattle.std.proofs.Common.{refl, subst, arith}
use Rattle.shapes_core.specs.declared.area.Area.{Area}
use Rattle.stride_form.specs.declared.access.Access.{Access}
use Rattle.nest_build.specs.Nests.{Spot, spots_from}
use Rattle.nest_build.specs.Parts.{Loop, counter_of, loops_from}

-- the first loop has this counter, and each later one the next
abbrev pub AreCounted : ℕ → List Loop → Type 0
AreCounted depth [] = ⊤
AreCounted depth (loop ∷ loops) = (loop.counter ≡ depth) × AreCounted (suc depth) loops

-- the places are among these
abbrev pub AreSpots : ℕ → ℕ → List Spot → Type 0
AreSpots first last spots = AllByRecursion (λ spot. (first ≤ spot.place) × (spot.place < last)) spots

chosen-counted : (test : Bool) (depth : ℕ) (skipped : List Loop) (loop : Loop) (loops : List Loop) → AreCounted depth skipped
    → loop.counter ≡ depth → AreCounted (suc depth) loops → AreCounted depth (if test then skipped else loop ∷ loops)
chosen-counted true depth skipped loop loops h e k = h
chosen-counted false depth skipped loop loops h e k = (e, k)

pub loops-counted : (depth var : ℕ) (region : List (ℕ × ℕ)) → AreCounted depth (loops_from depth var region)
loops-counted depth var [] = tt
loops-counted depth var (pair ∷ pairs) =
    chosen-counted (pair.1 - pair.0 == 1) depth (loops_from depth (suc var) pairs) (record { counter = depth; var = var; turns = pair.1 - pair.0 })
    (loops_from (suc depth) (suc var) pairs) (loops-counted depth (suc var) pairs) refl (loops-counted (suc depth) (suc var) pairs)

-- the number of a counter, where there is one
abbrev CounterBelow : ℕ → Option ℕ → Type 0
CounterBelow bound None = ⊤
CounterBelow bound (Some counter) = counter < bound

chosen-below : (test : Bool) (own bound : ℕ) (o : Option ℕ) → own < bound → CounterBelow bound o
    → CounterBelow bound (if test then Some own else o)
chosen-below true own bound o h k = h
chosen-below false own bound o h k = k

counters-below : (depth bound : ℕ) (loops : List Loop) (var : ℕ) → AreCounted depth loops → depth + length loops ≤ bound
    → CounterBelow bound (counter_of loops var)
counters-below depth bound [] var counted h = tt
counters-below depth bound (loop ∷ loops) var counted h =
    chosen-below (loop.var == var) loop.counter bound (counter_of loops var) (omega (arith, counted.0, h))
    (counters-below (suc depth) bound loops var counted.1 (omega (arith, h)))

pub counter-below : (depth : ℕ) (loops : List Loop) (var counter : ℕ) → AreCounted depth loops → counter_of loops var ≡ Some counter
    → counter < depth + length loops
counter-below depth loops var counter counted e =
    subst (CounterBelow (depth + length loops)) e (counters-below depth (depth + length loops) loops var counted (omega arith))

pub spots-are : (areas : List Area) (region : List (ℕ × ℕ)) (first last place : ℕ) (accesses : List Access) → first ≤ place
    → place + length accesses ≤ last → AreSpots first last (spots_from areas region place accesses)
spots-are areas region first last place [] h k = tt
spots-are areas region first last place (access ∷ others) h k =
    ((h, omega (arith, k)), spots-are areas region first last (suc place) others (omega (arith, h)) (omega (arith, k)))
