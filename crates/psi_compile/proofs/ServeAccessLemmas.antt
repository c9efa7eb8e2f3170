-- The loads and stores of a program's lines are fine: of spill words, or of words of areas, of which none of an input is stored to.
use Rattle.std.specs.Prelude.{◌≡◌, ℕ, ◌+◌, ◌*◌, ◌%◌, ◌≤◌, Bool, true, false, not, ◌&&◌, ◌||◌, ◌==◌, nat_le, ℤ, All, IsTrue, List, [], ◌++◌}
use Rattle.std.specs.Prelude.{reverse, unsigned_abs}
use Rattle.std.specs.List.{AllByRecursion, list_any, sum_by}
use Rattle.std.proofs.Common.{refl, ap, sym, subst, ◌∙◌, arith}
use Rattle.std.proofs.lemmas.List.{append-nil}
use Rattle.std.proofs.lemmas.List.Elements.{All-from_recursion}
use Rattle.std.proofs.lemmas.Bool.{false≢true, le-leb}
use Rattle.std.proofs.lemmas.Bool.Decides.{Decides-eqb}
use Rattle.std.proofs.Math.Nat.{add-mul-mod_self_left}
use Rattle.shapes_core.specs.declared.area.Area.{Area}
use Rattle.shapes_core.specs.Shape.{total}
use Rattle.moa_tree.specs.Expr.{Item}
use Rattle.shape_check.specs.Jobs.{input_count}
use Rattle.shape_check.specs.Layout.{areas, words}
use Rattle.loop_ir.specs.Inside.{IsInside, IsWordOf}
use Rattle.loop_ir.specs.Running.{Access as Touch, ReadsWord, State, WritesWord}
use Rattle.nest_build.specs.Gives.{AddsInside, AreLaidOut}
use Rattle.rv_line.specs.declared.assembly.Header.{Header}
use Rattle.rv_emit.specs.Showing.{AreInOrder, AreTouches, IsTouch, access_of, is_spill, is_whole}
use Rattle.rv_steps.specs.Good.{is_fine_access, is_in_area, is_input, is_within}
use Rattle.rv_steps.specs.Machine.{Access, Loads, NoAccess, Stores}
use Rattle.psi_compile.proofs.ServeAreaLemmas.{not-input}
use Rattle.psi_compile.proofs.ServeListLemmas.{both, each-both, each-filtered, each-follows, each-mapped, each-reverse, some-passes}
use Rattle.psi_compile.proofs.ServeNestLemmas.{AddsLow, IsLowWrite}

-- ---- tests

and-true : (a b : Bool) → a ≡ true → b ≡ true → (a && b) ≡ true
and-true a b h k = rw (h, k) refl

left-true : (a b : Bool) → a ≡ true → (a || b) ≡ true
left-true a b h = rw h refl

right-true : (a b : Bool) → b ≡ true → (a || b) ≡ true
right-true true b h = refl
right-true false b h = h

not-false : (a : Bool) → not a ≡ false → a ≡ true
not-false true h = refl
not-false false h = absurd (false≢true (sym h))

-- ---- spill words

-- a whole spill word is aligned, and lies in the spill words
whole-parts : (base spill at size : ℕ) → is_whole base spill at size ≡ true
    → ((at % size == 0) ≡ true) × (is_within base 0 spill at size ≡ true)
whole-parts base spill at size h =
    let outer = both (at % 8 == 0) (size == 8 && is_within base 0 spill at size) h in
    let inner = both (size == 8) (is_within base 0 spill at size) outer.1 in
    let same : size ≡ 8 = (Decides-eqb size 8).0 inner.0 in
    (subst (λ n. (at % n == 0) ≡ true) (sym same) outer.0, inner.1)

module _ (header : Header) (areas : List Area) (base : ℕ) where
  abbrev IsFine : Access → Type 0
  IsFine access = IsTrue (is_fine_access header areas base access)

  fine-spill : (access : Access) → is_spill base header.spill access ≡ true → IsFine access
  fine-spill NoAccess h = refl
  fine-spill (Loads at size) h =
      let parts = whole-parts base header.spill at size h in
      and-true (at % size == 0) (is_within base 0 header.spill at size || list_any (is_in_area base header.spill at size) areas) parts.0
      (left-true (is_within base 0 header.spill at size) (list_any (is_in_area base header.spill at size) areas) parts.1)
  fine-spill (Stores at size) h =
      let parts = whole-parts base header.spill at size h in
      let others = list_any (λ area. is_in_area base header.spill at size area && not (is_input area.kind)) areas in
      and-true (at % size == 0) (is_within base 0 header.spill at size || others) parts.0
      (left-true (is_within base 0 header.spill at size) others parts.1)

  -- ---- words of areas

  word-aligned : base % 8 ≡ 0 → (place : ℕ) → ((base + 8 * place) % 8 == 0) ≡ true
  word-aligned aligned place = (Decides-eqb ((base + 8 * place) % 8) 0).1 (add-mul-mod_self_left base 8 place ∙ aligned)

  word-within : (number : ℕ) (word : ℤ) (h : IsWordOf areas number word)
      → is_in_area base header.spill (base + 8 * (header.spill + unsigned_abs word)) 8 h.area ≡ true
  word-within number word h =
      let same : unsigned_abs word ≡ h.place = ap unsigned_abs h.same in
      let at = base + 8 * (header.spill + unsigned_abs word) in
      let first = base + 8 * (header.spill + h.area.start) in
      let behind = base + 8 * (header.spill + h.area.start + total h.area.shape) in
      let low : first ≤ at = omega (arith, same, h.begun) in
      let high : at + 8 ≤ behind = omega (arith, same, h.within) in
      and-true (nat_le first at) (nat_le (at + 8) behind) (le-leb first at low) (le-leb (at + 8) behind high)

  fine-load : base % 8 ≡ 0 → (number : ℕ) (word : ℤ) → IsWordOf areas number word → IsFine (access_of base header.spill (ReadsWord number word))
  fine-load aligned number word h =
      let at = base + 8 * (header.spill + unsigned_abs word) in
      and-true (at % 8 == 0) (is_within base 0 header.spill at 8 || list_any (is_in_area base header.spill at 8) areas)
      (word-aligned aligned (header.spill + unsigned_abs word))
      (right-true (is_within base 0 header.spill at 8) (list_any (is_in_area base header.spill at 8) areas)
      (some-passes (is_in_area base header.spill at 8) areas number h.area h.there (word-within number word h)))

  fine-store : base % 8 ≡ 0 → (number : ℕ) (word : ℤ) (h : IsWordOf areas number word) → is_input h.area.kind ≡ false
      → IsFine (access_of base header.spill (WritesWord number word))
  fine-store aligned number word h output =
      let at = base + 8 * (header.spill + unsigned_abs word) in
      let test : Area → Bool = λ area. is_in_area base header.spill at 8 area && not (is_input area.kind) in
      and-true (at % 8 == 0) (is_within base 0 header.spill at 8 || list_any test areas)
      (word-aligned aligned (header.spill + unsigned_abs word))
      (right-true (is_within base 0 header.spill at 8) (list_any test areas)
      (some-passes test areas number h.area h.there
      (and-true (is_in_area base header.spill at 8 h.area) (not (is_input h.area.kind)) (word-within number word h) (ap not output))))

-- ---- all accesses

fine-touch : (header : Header) (items : List Item) (base : ℕ) → base % 8 ≡ 0 → (touch : Touch) → IsInside (areas items) touch
    → IsLowWrite (sum_by input_count items) touch → IsFine header (areas items) base (access_of base header.spill touch)
fine-touch header items base aligned (ReadsWord number word) h low = fine-load header (areas items) base aligned number word h
fine-touch header items base aligned (WritesWord number word) h low =
    fine-store header (areas items) base aligned number word h (not-input items number h.area h.there low)

-- what was added to no accesses are those that are there
added : (more touches trace : List Touch) → trace ≡ more ++ [] → trace ≡ touches ++ [] → more ≡ touches
added more touches trace h k = sym (append-nil more) ∙ sym h ∙ k ∙ append-nil touches

pub all-fine : (header : Header) (items : List Item) (base : ℕ) (accesses : List Access) (touches trace : List Touch) → base % 8 ≡ 0
    → AddsInside (areas items) [] trace → AddsLow (sum_by input_count items) [] trace → trace ≡ touches ++ []
    → AreInOrder base header.spill accesses touches → All (λ access. IsTrue (is_fine_access header (areas items) base access)) accesses
all-fine header items base accesses touches trace aligned inside low same order =
    let fine : Access → Type 0 = IsFine header (areas items) base in
    let there = subst (AllByRecursion (IsInside (areas items))) (added inside.more touches trace inside.same same) inside.inside in
    let written = subst (AllByRecursion (IsLowWrite (sum_by input_count items))) (added low.more touches trace low.same same) low.each in
    let each =
    each-both (IsInside (areas items)) (IsLowWrite (sum_by input_count items)) (λ touch. fine (access_of base header.spill touch))
    (fine-touch header items base aligned) touches there written in
    let turned = each-mapped fine (access_of base header.spill) (reverse touches)
    (each-reverse (λ touch. fine (access_of base header.spill touch)) touches each) in
    All-from_recursion fine accesses
    (each-filtered fine (λ access. not (is_spill base header.spill access))
    (λ access h. fine-spill header (areas items) base access (not-false (is_spill base header.spill access) h)) accesses
    (subst (AllByRecursion fine) (sym order) turned))

-- ---- the accesses are of words

touch-there : (items : List Item) → AreLaidOut (areas items) (words items) → (touch : Touch) → IsInside (areas items) touch
    → IsTouch (words items) touch
touch-there items laid (ReadsWord number word) h =
    let within = laid.within number h.area h.there in record { place = h.place; same = h.same; within = omega (arith, within, h.within) }
touch-there items laid (WritesWord number word) h =
    let within = laid.within number h.area h.there in record { place = h.place; same = h.same; within = omega (arith, within, h.within) }

pub all-touches : (items : List Item) → AreLaidOut (areas items) (words items) → (state : State) → AddsInside (areas items) [] state.trace
    → AreTouches (words items) state
all-touches items laid state inside =
    subst (AllByRecursion (IsTouch (words items))) (sym (inside.same ∙ append-nil inside.more))
    (each-follows (IsInside (areas items)) (IsTouch (words items)) (touch-there items laid) inside.more inside.inside)
