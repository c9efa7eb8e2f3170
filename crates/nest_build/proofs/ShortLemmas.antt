-- Walks are short: the places of an access are in its area at each index vector of the region, so its strides are too.
use Rattle.std.specs.Prelude.{◌≡◌, ◌⊎◌, ℕ, zero, suc, ◌+◌, ◌-◌, ◌<◌, ◌≤◌, ◌==◌, Bool, true, false, ℤ, pos, ◌+ℤ◌, ◌-ℤ◌, ◌*ℤ◌}
use Rattle.std.specs.Prelude.{FitsSigned, List, [], ◌∷◌, ◌++◌, slice_get, slice_index_or, Some, unsigned_abs, if◌then◌else◌}
use Rattle.std.specs.Int.{w32}
use Rattle.std.specs.List.{AllByRecursion}
use Rattle.std.proofs.Common.{refl, ap, sym, subst, ◌∙◌, arith, inl, inr}
use Rattle.std.proofs.lemmas.Bool.{cases_eq, eqb-false}
use Rattle.std.proofs.lemmas.Int.{fits_signed_from_abs, ints}
use Rattle.shapes_core.specs.Limits.{greatest_extent, most_words}
use Rattle.shapes_core.specs.declared.area.Area.{Area}
use Rattle.shapes_core.specs.Gamma.{IsIndex, gamma}
use Rattle.shapes_core.specs.Shape.{IsShape, total}
use Rattle.normal_form.specs.Assignments.{Assignment, assigned, bound}
use Rattle.normal_form.specs.Kept.{IsBox, IsInBox}
use Rattle.stride_form.specs.declared.access.Access.{Access}
use Rattle.stride_form.specs.Operational.{Operational}
use Rattle.stride_form.specs.Accesses.{place_of, walked}
use Rattle.nest_build.specs.Gives.{AreLaidOut, IsBuildable, IsReachedWithin}
use Rattle.nest_build.specs.Nests.{Spot, own_access, spots_from, start_of, stride_along}
use Rattle.nest_build.specs.Parts.{Loop, accesses, loops_from, low_of}
use Rattle.nest_build.proofs.BoxLemmas.{AreRanges}
use Rattle.nest_build.proofs.RegionLemmas.{AreSmall, OffsetLaw, box-index, extents-small, own-place, start-there}
use Rattle.nest_build.proofs.RunLemmas.{all-both}
use Rattle.nest_build.proofs.StrideLemmas.{bound-here, bound-other, minus-times, once, times-suc, walked-far}

-- ---- index vectors with one entry moved

abbrev lows : List (ℕ × ℕ) → List ℕ
lows [] = []
lows (pair ∷ pairs) = pair.0 ∷ lows pairs

abbrev moved : List (ℕ × ℕ) → ℕ → ℕ → List ℕ
moved [] var k = []
moved (pair ∷ pairs) zero k = (pair.0 + k) ∷ lows pairs
moved (pair ∷ pairs) (suc var) k = pair.0 ∷ moved pairs var k

lows-in : (region : List (ℕ × ℕ)) → AreRanges region → IsInBox (lows region) region
lows-in [] h = tt
lows-in (pair ∷ pairs) h = ((omega arith, h.0), lows-in pairs h.1)

moved-in : (region : List (ℕ × ℕ)) (var k : ℕ) (pair : ℕ × ℕ) → AreRanges region → slice_get region var ≡ Some pair → k < pair.1 - pair.0
    → IsInBox (moved region var k) region
moved-in [] var k pair h e under = tt
moved-in (first ∷ pairs) zero k pair h e under =
    let same : first ≡ pair = cc in
    let low : first.0 ≡ pair.0 = ap (λ (p : ℕ × ℕ). p.0) same in
    let high : first.1 ≡ pair.1 = ap (λ (p : ℕ × ℕ). p.1) same in
    ((omega arith, omega (arith, under, low, high)), lows-in pairs h.1)
moved-in (first ∷ pairs) (suc var) k pair h e under = ((omega arith, h.0), moved-in pairs var k pair h.1 e under)

lows-at : (region : List (ℕ × ℕ)) (var : ℕ) → slice_index_or (lows region) var 0 ≡ low_of region var
lows-at [] var = refl
lows-at (pair ∷ pairs) zero = refl
lows-at (pair ∷ pairs) (suc var) = lows-at pairs var

moved-here : (region : List (ℕ × ℕ)) (var k : ℕ) (pair : ℕ × ℕ) → slice_get region var ≡ Some pair
    → slice_index_or (moved region var k) var 0 ≡ low_of region var + k
moved-here [] var k pair e = absurd (cc)
moved-here (first ∷ pairs) zero k pair e = refl
moved-here (first ∷ pairs) (suc var) k pair e = moved-here pairs var k pair e

moved-other : (region : List (ℕ × ℕ)) (var k other : ℕ) → (other ≡ var → ⊥)
    → slice_index_or (moved region var k) other 0 ≡ low_of region other
moved-other [] var k other ne = refl
moved-other (first ∷ pairs) zero k zero ne = absurd (ne refl)
moved-other (first ∷ pairs) zero k (suc other) ne = lows-at pairs other
moved-other (first ∷ pairs) (suc var) k zero ne = refl
moved-other (first ∷ pairs) (suc var) k (suc other) ne = moved-other pairs var k other (λ e. ne (ap suc e))

moved-choice : (region : List (ℕ × ℕ)) (var k other : ℕ) (pair : ℕ × ℕ) → slice_get region var ≡ Some pair
    → (other ≡ var) ⊎ (other ≡ var → ⊥) → assigned (moved region var k) other ≡ bound (low_of region) var (low_of region var + k) other
moved-choice region var k other pair e (inl same) =
    ap (λ n. slice_index_or (moved region var k) n 0) same ∙ moved-here region var k pair e
    ∙ sym (bound-here (low_of region) var (low_of region var + k))
    ∙ ap (bound (low_of region) var (low_of region var + k)) (sym same)
moved-choice region var k other pair e (inr ne) =
    moved-other region var k other ne ∙ sym (bound-other (low_of region) var (low_of region var + k) other ne)

moved-at : (region : List (ℕ × ℕ)) (var k : ℕ) (pair : ℕ × ℕ) → slice_get region var ≡ Some pair
    → assigned (moved region var k) ≡ bound (low_of region) var (low_of region var + k)
moved-at region var k pair e = λ i other. moved-choice region var k other pair e (cases_eq other var) i

lows-are : (region : List (ℕ × ℕ)) → assigned (lows region) ≡ low_of region
lows-are region = λ i var. lows-at region var i

-- ---- loops are over axes of the region

-- a loop over an axis of a region, with as many turns as the axis has places: two or more, and few
abbrev pub IsLoopOf : List (ℕ × ℕ) → Loop → Type 0
IsLoopOf region loop =
    (pair : ℕ × ℕ) × ((slice_get region loop.var ≡ Some pair) × ((loop.turns ≡ pair.1 - pair.0)
    × ((2 ≤ loop.turns) × (loop.turns ≤ greatest_extent))))

chosen-loops : (P : Loop → Type 0) (turns : ℕ) (test : Bool) (skipped : List Loop) (loop : Loop) (loops : List Loop) → test ≡ (turns == 1)
    → AllByRecursion P skipped → ((turns ≡ 1 → ⊥) → P loop) → AllByRecursion P loops
    → AllByRecursion P (if test then skipped else loop ∷ loops)
chosen-loops P turns true skipped loop loops e h own k = h
chosen-loops P turns false skipped loop loops e h own k = (own (eqb-false turns 1 (sym e)), k)

loops-of : (whole : List (ℕ × ℕ)) (counter var : ℕ) (region : List (ℕ × ℕ)) (shape : List ℕ) → IsBox region shape → AreSmall shape
    → ((i : ℕ) (pair : ℕ × ℕ) → slice_get region i ≡ Some pair → slice_get whole (var + i) ≡ Some pair)
    → AllByRecursion (IsLoopOf whole) (loops_from counter var region)
loops-of whole counter var [] shape box small there = tt
loops-of whole counter var (pair ∷ pairs) [] box small there = absurd box
loops-of whole counter var (pair ∷ pairs) (n ∷ shape) box small there =
    let turns = pair.1 - pair.0 in
    let here : var + 0 ≡ var = omega arith in
    let at : slice_get whole var ≡ Some pair = subst (λ k. slice_get whole k ≡ Some pair) here (there 0 pair refl) in
    let later = λ (i : ℕ) (other : ℕ × ℕ) (e : slice_get pairs i ≡ Some other).
    let next : var + suc i ≡ suc var + i = omega arith in
    subst (λ k. slice_get whole k ≡ Some other) next (there (suc i) other e) in
    chosen-loops (IsLoopOf whole) turns (turns == 1) (loops_from counter (suc var) pairs)
    (record { counter = counter; var = var; turns = turns }) (loops_from (suc counter) (suc var) pairs) refl
    (loops-of whole counter (suc var) pairs shape box.1 small.1 later)
    (λ ne. (pair, (at, (refl, (two ne (omega (arith, box.0.0)), omega (arith, box.0.1, small.0))))))
    (loops-of whole (suc counter) (suc var) pairs shape box.1 small.1 later)
  where
    two : {t : ℕ} → (t ≡ 1 → ⊥) → 1 ≤ t → 2 ≤ t
    two ne h = grind arith

pub region-loops : (region : List (ℕ × ℕ)) (shape : List ℕ) → IsBox region shape → IsShape shape
    → AllByRecursion (IsLoopOf region) (loops_from 0 0 region)
region-loops region shape box shaped =
    loops-of region 0 0 region shape box (extents-small shape shaped)
    (λ i pair e. let same : i ≡ 0 + i = omega arith in subst (λ k. slice_get region k ≡ Some pair) same e)

-- ---- accesses in their areas

-- an access that is reached at each index vector of a region
abbrev pub IsReached : List Area → List (ℕ × ℕ) → Access → Type 0
IsReached areas region access = (index : List ℕ) → IsInBox index region → IsReachedWithin areas index access

each-reached : (areas : List Area) (region : List (ℕ × ℕ)) (list : List Access)
    → ((index : List ℕ) → IsInBox index region → AllByRecursion (IsReachedWithin areas index) list)
    → AllByRecursion (IsReached areas region) list
each-reached areas region [] h = tt
each-reached areas region (access ∷ list) h =
    ((λ index inside. (h index inside).0), each-reached areas region list (λ index inside. (h index inside).1))

abbrev pub BelowLaw : Type 0
BelowLaw = (index shape : List ℕ) → IsIndex index shape → gamma index shape < total shape

own-reached : OffsetLaw → BelowLaw → (areas : List Area) (own : ℕ) (shape : List ℕ) (region : List (ℕ × ℕ)) (form : Operational)
    → IsBuildable areas own shape region form → IsReached areas region (own_access own shape)
own-reached offset below areas own shape region form built = λ index inside.
    let within = box-index index region shape inside built.box in
    let under = below index shape within in
    let same : total built.area.shape ≡ total shape = ap (λ list. total list) built.shaped in
    record {
      area = built.area;
      there = built.there;
      place = gamma index shape;
      same = own-place offset own index shape within;
      below = omega (arith, under, same);
    }

pub all-reached : OffsetLaw → BelowLaw → (areas : List Area) (own : ℕ) (shape : List ℕ) (region : List (ℕ × ℕ)) (form : Operational)
    → IsBuildable areas own shape region form → AllByRecursion (IsReached areas region) (accesses form ++ own_access own shape ∷ [])
all-reached offset below areas own shape region form built =
    all-both (IsReached areas region) (accesses form) (own_access own shape ∷ []) (each-reached areas region (accesses form) built.reached)
    (own-reached offset below areas own shape region form built, tt)

-- ---- strides

step-short : (start low far here : ℤ) (p q : ℕ) → start +ℤ low ≡ pos p → start +ℤ far ≡ pos q → far ≡ low +ℤ here
    → p < most_words → q < most_words → unsigned_abs here < most_words
step-short start low far here p q a b c h k = omega (arith, ints, a, b, c, h, k)

all-short : (t : ℕ) (x : ℤ) → unsigned_abs (pos 1 *ℤ x) < most_words → unsigned_abs (pos t *ℤ x) < most_words
    → unsigned_abs ((pos 0 -ℤ pos (suc t)) *ℤ x) < 268435456
all-short t x h k = omega (arith, ints, h, k, once x, times-suc t x, minus-times (suc t) x)

module _ (areas : List Area) (words : ℕ) (laid : AreLaidOut areas words) (small : words ≤ most_words)
    (region : List (ℕ × ℕ)) (ranges : AreRanges region) where
  -- the place at an index vector is a small number
  place-small : (access : Access) (index : List ℕ) (m : Assignment) → assigned index ≡ m → IsReachedWithin areas index access
      → (p : ℕ) × ((place_of m access ≡ pos p) × (start_of areas access.area + p < most_words))
  place-small access index m e h =
      let under = laid.within access.area h.area h.there in
      let begun = start-there areas access.area h.area h.there in
      (h.place, (ap (λ n. place_of n access) (sym e) ∙ h.same, omega (arith, under, begun, h.below, small)))

  word-short : (access : Access) → IsReached areas region access
      → FitsSigned w32 (pos (start_of areas access.area) +ℤ (access.start +ℤ walked (low_of region) access.strides))
  word-short access h =
      let at = place-small access (lows region) (low_of region) (lows-are region) (h (lows region) (lows-in region ranges)) in
      fits_signed_from_abs w32 _ (omega (arith, ints, at.1.0, at.1.1))

  gap-short : (access : Access) (var k : ℕ) (pair : ℕ × ℕ) → IsReached areas region access → slice_get region var ≡ Some pair
      → k < pair.1 - pair.0 → unsigned_abs (pos k *ℤ stride_along access.strides var) < most_words
  gap-short access var k pair h e under =
      let low = low_of region in
      let none : 0 < pair.1 - pair.0 = omega (arith, under) in
      let first = place-small access (moved region var 0) (bound low var (low var + 0)) (moved-at region var 0 pair e)
      (h (moved region var 0) (moved-in region var 0 pair ranges e none)) in
      let last = place-small access (moved region var k) (bound low var (low var + k)) (moved-at region var k pair e)
      (h (moved region var k) (moved-in region var k pair ranges e under)) in
      let here : low var + 0 ≡ low var = omega arith in
      let begun : place_of (bound low var (low var)) access ≡ pos first.0 =
      subst (λ n. place_of (bound low var n) access ≡ pos first.0) here first.1.0 in
      step-short access.start (walked (bound low var (low var)) access.strides) (walked (bound low var (low var + k)) access.strides)
      (pos k *ℤ stride_along access.strides var) first.0 last.0 begun last.1.0 (walked-far low var (low var) k access.strides)
      (omega (arith, first.1.1)) (omega (arith, last.1.1))

  -- a place walks by numbers of 32 signed bits
  abbrev WalksShort : ℕ → ℤ → Spot → Type 0
  WalksShort var times spot = FitsSigned w32 (times *ℤ stride_along spot.strides var)

  turn-short : (access : Access) (loop : Loop) → IsReached areas region access → IsLoopOf region loop
      → FitsSigned w32 (pos 1 *ℤ stride_along access.strides loop.var)
  turn-short access loop h l =
      let under : 1 < l.0.1 - l.0.0 = omega (arith, l.1.1.0, l.1.1.1.0) in
      let short = gap-short access loop.var 1 l.0 h l.1.0 under in
      fits_signed_from_abs w32 _ (omega (arith, short))

  back-choice : (access : Access) (var turns : ℕ) (pair : ℕ × ℕ) → IsReached areas region access → slice_get region var ≡ Some pair
      → turns ≡ pair.1 - pair.0 → 2 ≤ turns → FitsSigned w32 ((pos 0 -ℤ pos turns) *ℤ stride_along access.strides var)
  back-choice access var zero pair h e same two = absurd (omega (arith, two))
  back-choice access var (suc t) pair h e same two =
      let under : 1 < pair.1 - pair.0 = omega (arith, same, two) in
      let last : t < pair.1 - pair.0 = omega (arith, same) in
      let short = all-short t (stride_along access.strides var) (gap-short access var 1 pair h e under)
      (gap-short access var t pair h e last) in
      fits_signed_from_abs w32 _ (omega (arith, short))

  back-short : (access : Access) (loop : Loop) → IsReached areas region access → IsLoopOf region loop
      → FitsSigned w32 ((pos 0 -ℤ pos loop.turns) *ℤ stride_along access.strides loop.var)
  back-short access loop h l = back-choice access loop.var loop.turns l.0 h l.1.0 l.1.1.0 l.1.1.1.0

  turns-short : (list : List Access) (place : ℕ) (loop : Loop) → AllByRecursion (IsReached areas region) list → IsLoopOf region loop
      → AllByRecursion (WalksShort loop.var (pos 1)) (spots_from areas region place list)
  turns-short [] place loop h l = tt
  turns-short (access ∷ list) place loop h l = (turn-short access loop h.0 l, turns-short list (suc place) loop h.1 l)

  backs-short : (list : List Access) (place : ℕ) (loop : Loop) → AllByRecursion (IsReached areas region) list → IsLoopOf region loop
      → AllByRecursion (WalksShort loop.var (pos 0 -ℤ pos loop.turns)) (spots_from areas region place list)
  backs-short [] place loop h l = tt
  backs-short (access ∷ list) place loop h l = (back-short access loop h.0 l, backs-short list (suc place) loop h.1 l)

  pub words-short : (list : List Access) (place : ℕ) → AllByRecursion (IsReached areas region) list
      → AllByRecursion (λ spot. FitsSigned w32 spot.word) (spots_from areas region place list)
  words-short [] place h = tt
  words-short (access ∷ list) place h = (word-short access h.0, words-short list (suc place) h.1)

-- a loop of two or more turns, which are a number of 32 signed bits, as is each walk in it and behind it
pub record IsShort (spots : List Spot) (loop : Loop) : Type 0 where
  pub turns : FitsSigned w32 (pos loop.turns)
  pub two : 2 ≤ loop.turns
  pub on : AllByRecursion (λ spot. FitsSigned w32 (pos 1 *ℤ stride_along spot.strides loop.var)) spots
  pub back : AllByRecursion (λ spot. FitsSigned w32 ((pos 0 -ℤ pos loop.turns) *ℤ stride_along spot.strides loop.var)) spots

pub loops-short : (areas : List Area) (words : ℕ) → AreLaidOut areas words → words ≤ most_words → (region : List (ℕ × ℕ)) → AreRanges region
    → (list : List Access) (place : ℕ) → AllByRecursion (IsReached areas region) list
    → (loops : List Loop) → AllByRecursion (IsLoopOf region) loops → AllByRecursion (IsShort (spots_from areas region place list)) loops
loops-short areas words laid small region ranges list place h [] l = tt
loops-short areas words laid small region ranges list place h (loop ∷ loops) l = (
  record {
    turns = fits_signed_from_abs w32 (pos loop.turns) (omega (arith, ints, l.0.1.1.1.1));
    two = l.0.1.1.1.0;
    on = turns-short areas words laid small region ranges list place loop h l.0;
    back = backs-short areas words laid small region ranges list place loop h l.0;
  },
  loops-short areas words laid small region ranges list place h loops l.1,
)
