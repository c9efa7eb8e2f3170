-- What is known at an index vector of a region: small numbers, counters, and the place of the own element.
use Rattle.std.specs.Prelude.{◌≡◌, ℕ, zero, suc, ◌+◌, ◌<◌, ◌≤◌, ◌==◌, nat_le, Bool, true, false, ℤ, pos, ◌+ℤ◌, List, [], ◌∷◌, length, map}
use Rattle.std.specs.Prelude.{slice_get, slice_index_or, unsigned_abs, Option, None, Some, if◌then◌else◌}
use Rattle.std.specs.List.{AllByRecursion, list_all, range_with_len}
use Rattle.std.proofs.Common.{refl, ap, ap₂, sym, subst, ◌∙◌, arith}
use Rattle.std.proofs.lemmas.Bool.{and_parts, cond-false, eqb-false, eqb-true, leb-true}
use Rattle.std.proofs.lemmas.Int.{ints}
use Rattle.shapes_core.specs.Limits.{greatest_extent, most_axes}
use Rattle.shapes_core.specs.declared.area.Area.{Area}
use Rattle.shapes_core.specs.Gamma.{IsIndex, gamma}
use Rattle.shapes_core.specs.Shape.{IsShape, are_small, span}
use Rattle.normal_form.specs.declared.entry.Entry.{Entry}
use Rattle.normal_form.specs.Assignments.{Assignment, assigned, bound, number, places}
use Rattle.normal_form.specs.Forms.{Element}
use Rattle.normal_form.specs.Kept.{IsBox, IsInBox}
use Rattle.normal_form.specs.Moves.{variable, variables}
use Rattle.normal_form.specs.Stands.{AreIndex, StandFor}
use Rattle.stride_form.specs.Accesses.{access_of, place_of}
use Rattle.nest_build.specs.Nests.{own_access, start_of}
use Rattle.nest_build.specs.Parts.{Loop, counter_of, low_of}
use Rattle.nest_build.proofs.BoxLemmas.{AreRanges}
use Rattle.nest_build.proofs.LoopLemmas.{Covers, Rises, opening}
use Rattle.nest_build.proofs.StrideLemmas.{bound-other}
use Rattle.nest_build.proofs.ValueLemmas.{CountsTo, Within}

-- ---- small numbers

abbrev pub AreSmall : List ℕ → Type 0
AreSmall shape = AllByRecursion (λ n. n ≤ greatest_extent) shape

small-each : (shape : List ℕ) → list_all (λ extent. nat_le extent greatest_extent) shape ≡ true → AreSmall shape
small-each [] h = tt
small-each (n ∷ shape) h =
    let parts = and_parts (nat_le n greatest_extent) (list_all (λ extent. nat_le extent greatest_extent) shape) h in
    (leb-true n greatest_extent parts.0, small-each shape parts.1)

pub extents-small : (shape : List ℕ) → IsShape shape → AreSmall shape
extents-small shape h =
    let small = (and_parts (nat_le (length shape) most_axes) (are_small shape) h).1 in
    small-each shape (and_parts (list_all (λ extent. nat_le extent greatest_extent) shape) (nat_le (span shape) greatest_extent) small).0

pub box-ranges : (region : List (ℕ × ℕ)) (shape : List ℕ) → IsBox region shape → AreRanges region
box-ranges [] shape h = tt
box-ranges (pair ∷ region) [] h = absurd h
box-ranges (pair ∷ region) (n ∷ shape) h = (h.0.0, box-ranges region shape h.1)

pub box-index : (index : List ℕ) (region : List (ℕ × ℕ)) (shape : List ℕ) → IsInBox index region → IsBox region shape → IsIndex index shape
box-index [] [] [] h b = tt
box-index [] [] (n ∷ shape) h b = absurd b
box-index [] (pair ∷ region) shape h b = absurd h
box-index (k ∷ index) [] shape h b = absurd h
box-index (k ∷ index) (pair ∷ region) [] h b = absurd b
box-index (k ∷ index) (pair ∷ region) (n ∷ shape) h b = (omega (arith, h.0.1, b.0.1), box-index index region shape h.1 b.1)

within-box : (index : List ℕ) (region : List (ℕ × ℕ)) (shape : List ℕ) → IsInBox index region → IsBox region shape → AreSmall shape
    → Within (low_of region) (assigned index)
within-box [] [] shape h b small var = (omega arith, omega arith)
within-box [] (pair ∷ region) shape h b small var = absurd h
within-box (k ∷ index) [] shape h b small var = absurd h
within-box (k ∷ index) (pair ∷ region) [] h b small var = absurd b
within-box (k ∷ index) (pair ∷ region) (n ∷ shape) h b small zero = (h.0.0, omega (arith, h.0.1, b.0.1, small.0))
within-box (k ∷ index) (pair ∷ region) (n ∷ shape) h b small (suc var) = within-box index region shape h.1 b.1 small.1 var

pub within-region : (index : List ℕ) (region : List (ℕ × ℕ)) (shape : List ℕ) → IsInBox index region → IsBox region shape → IsShape shape
    → Within (low_of region) (assigned index)
within-region index region shape h b shaped = within-box index region shape h b (extents-small shape shaped)

-- ---- counters

counts-choice : (low : ℕ → ℕ) (m : Assignment) (base : ℕ) (known : ℕ → ℤ) (var counter : ℕ) (rest : Option ℕ) (test : Bool)
    → (test ≡ true → (counter < base) × (pos (low var) +ℤ known counter ≡ pos (m var)))
    → (test ≡ false → CountsTo low m base known var rest)
    → CountsTo low m base known var (if test then Some counter else rest)
counts-choice low m base known var counter rest true f g = f refl
counts-choice low m base known var counter rest false f g = g refl

pub counts-to : (low : ℕ → ℕ) (m : Assignment) (base : ℕ) (known : ℕ → ℤ) (loops : List Loop) (var : ℕ)
    → AllByRecursion (λ loop. loop.counter < base) loops
    → AllByRecursion (λ loop. pos (low loop.var) +ℤ known loop.counter ≡ pos (m loop.var)) loops
    → (counter_of loops var ≡ None → m var ≡ low var) → CountsTo low m base known var (counter_of loops var)
counts-to low m base known [] var under at none = none refl
counts-to low m base known (loop ∷ loops) var under at none =
    counts-choice low m base known var loop.counter (counter_of loops var) (loop.var == var)
    (λ same. (under.0, subst (λ v. pos (low v) +ℤ known loop.counter ≡ pos (m v)) (eqb-true loop.var var same) at.0))
    (λ other. counts-to low m base known loops var under.1 at.1
    (λ e. none (cond-false (loop.var == var) (Some loop.counter) (counter_of loops var) other ∙ e)))

none-parts : (test : Bool) (counter : ℕ) (rest : Option ℕ) → (if test then Some counter else rest) ≡ None → (test ≡ false) × (rest ≡ None)
none-parts true counter rest h = absurd (cc)
none-parts false counter rest h = (refl, h)

pub uncounted : (low : ℕ → ℕ) (loops : List Loop) (m goal : Assignment) (var : ℕ) → Covers low loops m goal → counter_of loops var ≡ None
    → goal var ≡ m var
uncounted low [] m goal var c e = ap (λ (f : Assignment). f var) c
uncounted low (loop ∷ loops) m goal var c e =
    let parts = none-parts (loop.var == var) loop.counter (counter_of loops var) e in
    uncounted low loops (bound m loop.var (low loop.var + c.0)) goal var c.1.1 parts.1
    ∙ bound-other m loop.var (low loop.var + c.0) var (λ same. eqb-false loop.var var parts.0 (sym same))

pub counters-below : (literal counter var : ℕ) (loops : List Loop) → Rises literal counter var loops
    → AllByRecursion (λ loop. loop.counter < literal) loops
counters-below literal counter var [] h = tt
counters-below literal counter var (loop ∷ loops) h = (h.1.0, counters-below literal (suc loop.counter) (suc loop.var) loops h.1.1.1)

pub all-opening : (P : Loop → Type 0) (loops opened : List Loop) → AllByRecursion P (opening loops opened)
    → AllByRecursion P loops × AllByRecursion P opened
all-opening P [] opened h = (tt, h)
all-opening P (loop ∷ loops) opened h =
    let rest = all-opening P loops (loop ∷ opened) h in ((rest.1.0, rest.0), rest.1.1)

-- ---- the own element

pub start-there : (areas : List Area) (number : ℕ) (area : Area) → slice_get areas number ≡ Some area → start_of areas number ≡ area.start
start-there [] number area h = absurd (cc)
start-there (first ∷ areas) zero area h = let e : first ≡ area = cc in ap (λ (a : Area). a.start) e
start-there (first ∷ areas) (suc number) area h = start-there areas number area h

-- the place of an access is the row-major offset of its load's entries
abbrev pub OffsetLaw : Type 0
OffsetLaw = (m : Assignment) (element : Element) → AreIndex m element.at element.shape
    → place_of m (access_of element) ≡ pos (gamma (places m element.at) element.shape)

variables-stand : (index : List ℕ) (start : ℕ) (rest : List ℕ) → ((k : ℕ) → slice_index_or index (start + k) 0 ≡ slice_index_or rest k 0)
    → StandFor (assigned index) (map variable (range_with_len start (length rest))) rest
variables-stand index start [] same = refl
variables-stand index start (place ∷ rest) same =
    let here : start + 0 ≡ start = omega arith in
    let first : slice_index_or index start 0 ≡ place = subst (λ k. slice_index_or index k 0 ≡ place) here (same 0) in
    let later = λ (k : ℕ). let e : start + suc k ≡ start + 1 + k = omega arith in
    subst (λ n. slice_index_or index n 0 ≡ slice_index_or rest k 0) e (same (suc k)) in
    let head : number (assigned index) (variable start) ≡ pos place = omega (arith, ints, first) in
    ap (λ z. z ∷ map (number (assigned index)) (map variable (range_with_len (start + 1) (length rest)))) head
    ∙ ap (λ numbers. pos place ∷ numbers) (variables-stand index (start + 1) rest later)

places-stand : (m : Assignment) (entries : List Entry) (index : List ℕ) → StandFor m entries index → places m entries ≡ index
places-stand m [] [] h = refl
places-stand m [] (k ∷ index) h = absurd (cc)
places-stand m (entry ∷ entries) [] h = absurd (cc)
places-stand m (entry ∷ entries) (k ∷ index) h =
    let first : number m entry ≡ pos k = cc in
    let others : StandFor m entries index = cc in
    ap₂ (λ front back. front ∷ back) (ap unsigned_abs first) (places-stand m entries index others)

index-length : (index shape : List ℕ) → IsIndex index shape → length index ≡ length shape
index-length [] [] h = refl
index-length [] (n ∷ shape) h = absurd h
index-length (k ∷ index) [] h = absurd h
index-length (k ∷ index) (n ∷ shape) h = ap suc (index-length index shape h.1)

pub own-place : OffsetLaw → (own : ℕ) (index shape : List ℕ) → IsIndex index shape
    → place_of (assigned index) (own_access own shape) ≡ pos (gamma index shape)
own-place law own index shape h =
    let stand : StandFor (assigned index) (variables (length shape)) index =
    subst (λ n. StandFor (assigned index) (map variable (range_with_len 0 n)) index) (index-length index shape h)
    (variables-stand index 0 index (λ k. ap (λ n. slice_index_or index n 0) (omega arith))) in
    law (assigned index) (record { area = own; shape = shape; at = variables (length shape) })
    (record { index = index; stand = stand; within = h })
    ∙ ap (λ list. pos (gamma list shape)) (places-stand (assigned index) (variables (length shape)) index stand)
