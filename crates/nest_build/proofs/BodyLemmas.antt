-- The body of a nest writes one value: that of the form at the index vector to which the counters and places have come.
use Rattle.std.specs.Prelude.{◌≡◌, ◌≢◌, ◌⊎◌, ℕ, suc, ◌+◌, ◌<◌, ◌≤◌, ℤ, pos, ◌+ℤ◌, List, [], ◌∷◌, ◌++◌, length, slice_index_or, slice_set}
use Rattle.std.specs.Prelude.{unsigned_abs}
use Rattle.std.specs.List.{AllByRecursion}
use Rattle.std.proofs.Common.{refl, ap, ap₂, sym, subst, ◌∙◌, arith, inl, inr}
use Rattle.std.proofs.lemmas.Bool.{cases_eq}
use Rattle.std.proofs.lemmas.List.{get_or-set_other, get_or-set_same, length-set}
use Rattle.shapes_core.specs.Limits.{greatest_extent}
use Rattle.shapes_core.specs.declared.area.Area.{Area}
use Rattle.shapes_core.specs.Gamma.{IsIndex, gamma, ungamma}
use Rattle.shapes_core.specs.Shape.{total}
use Rattle.normal_form.specs.Assignments.{Assignment, assigned}
use Rattle.normal_form.specs.Kept.{IsEntry, IsInBox, job_variables}
use Rattle.normal_form.specs.Meaning.{meaning}
use Rattle.stride_form.specs.declared.access.Access.{Access}
use Rattle.stride_form.specs.Accesses.{access_value, place_of}
use Rattle.stride_form.specs.Operational.{Operational}
use Rattle.loop_ir.specs.Inside.{IsInside, IsWordOf}
use Rattle.loop_ir.specs.Running.{Pointer, Register, State, WritesWord, acted, run, with_word}
use Rattle.loop_ir.specs.Steps.{Action, Write}
use Rattle.nest_build.specs.Gives.{AddsInside, AreLaidOut, IsBuildable, IsReachedWithin, store_of}
use Rattle.nest_build.specs.Nests.{Made, listed, made_of, own_access, start_of}
use Rattle.nest_build.specs.Parts.{accesses, counter_of, entries, literals, loops_from, low_of, values_of}
use Rattle.nest_build.proofs.BoxLemmas.{IsOfRegion, loops-rise, region-covered}
use Rattle.nest_build.proofs.DoesLemmas.{Does, IsTouched, IsWritten, Touches}
use Rattle.nest_build.proofs.LoopLemmas.{Acts, Ready, opening, word_of}
use Rattle.nest_build.proofs.RegionLemmas.{OffsetLaw, all-opening, box-index, box-ranges, counters-below, counts-to}
use Rattle.nest_build.proofs.RegionLemmas.{own-place, start-there, uncounted, within-region}
use Rattle.nest_build.proofs.RunLemmas.{Numbered, RunsJoin, adds-on, adds-one, numbered-parts, run-append}
use Rattle.nest_build.proofs.ValueLemmas.{CountsTo, Gets, IsLiteral, IsRead, IsSmallEntry, evaluates, small-entry}

-- the laws of lower layers on which the proof stands
pub record Laws : Type 0 where
  pub runs : RunsJoin
  pub offset : OffsetLaw
  pub below : (index shape : List ℕ) → IsIndex index shape → gamma index shape < total shape
  pub undone : (index shape : List ℕ) → IsIndex index shape → ungamma shape (gamma index shape) ≡ index

-- ---- a write

written-one : (place : Assignment → ℕ) (value : Assignment → ℤ) (m : Assignment) (before after : List ℤ) (word : ℕ)
    → after ≡ slice_set before (place m) (value m) → place m < length before → (word ≡ place m) ⊎ (word ≡ place m → ⊥)
    → IsWritten place value (λ other. other ≡ m) before after word
written-one place value m before after word e under (inl same) =
    inr (
      m,
      (
        refl,
        (
          sym same,
          ap (λ list. slice_index_or list word (pos 0)) e
              ∙ ap (λ n. slice_index_or (slice_set before (place m) (value m)) n (pos 0)) same
              ∙ get_or-set_same before (place m) (value m) (pos 0) under,
        ),
      ),
    )
written-one place value m before after word e under (inr other) =
    inl (
      ap (λ list. slice_index_or list word (pos 0)) e ∙ get_or-set_other before (place m) word (value m) (pos 0) other,
      λ n h at. other (sym at ∙ ap place h),
    )

write-does : (areas : List Area) (place : Assignment → ℕ) (value : Assignment → ℤ) (m : Assignment) (before after : State)
    → after.words ≡ slice_set before.words (place m) (value m) → place m < length before.words → AddsInside areas before.trace after.trace
    → Does areas place value (λ other. other ≡ m) before after
write-does areas place value m before after e under trace = record {
  sized = ap (λ list. length list) e ∙ length-set before.words (place m) (value m);
  each = λ word. written-one place value m before.words after.words word e under (cases_eq word (place m));
  trace = trace;
}

all-map : {X : Type 0} (P Q : X → Type 0) (xs : List X) → ((x : X) → P x → Q x) → AllByRecursion P xs → AllByRecursion Q xs
all-map P Q [] f h = tt
all-map P Q (x ∷ xs) f h = (f x h.0, all-map P Q xs f h.1)

all-zip : {X : Type 0} (P Q R : X → Type 0) (xs : List X) → ((x : X) → P x → Q x → R x) → AllByRecursion P xs → AllByRecursion Q xs
    → AllByRecursion R xs
all-zip P Q R [] f h k = tt
all-zip P Q R (x ∷ xs) f h k = (f x h.0 k.0, all-zip P Q R xs f h.1 k.1)

numbered-within : {X : Type 0} (P Q : ℕ → X → Type 0) (least end n : ℕ) (xs : List X) → least ≤ n → n + length xs ≤ end
    → ((k : ℕ) (x : X) → least ≤ k → k < end → P k x → Q k x) → Numbered P n xs → Numbered Q n xs
numbered-within P Q least end n [] le few f h = tt
numbered-within P Q least end n (x ∷ xs) le few f h =
    (f n x le (omega (arith, few)) h.0, numbered-within P Q least end (suc n) xs (omega (arith, le)) (omega (arith, few)) f h.1)

-- ---- the word of an element

abbrev pub place_in : List Area → ℕ → List ℕ → Assignment → ℕ
place_in areas own shape m = start_of areas own + unsigned_abs (place_of m (own_access own shape))

abbrev pub value_in : List Area → List ℤ → Operational → Assignment → ℤ
value_in areas words form m = meaning (access_value (store_of areas words)) m form

-- the first register of a literal, the first one behind them, and the first place
abbrev pub first_literal : List (ℕ × ℕ) → ℕ
first_literal region = length (loops_from 0 0 region)

abbrev pub first_free : List (ℕ × ℕ) → Operational → ℕ
first_free region form = first_literal region + length (literals form)

abbrev pub first_place : List (ℕ × ℕ) → Operational → ℕ
first_place region form = first_free region form + values_of form

abbrev pub made_in : List (ℕ × ℕ) → Operational → Made
made_in region form =
    made_of (loops_from 0 0 region) (low_of region) (first_free region form) (first_literal region) (first_place region form) form

abbrev pub body_steps : ℕ → List (ℕ × ℕ) → Operational → List Action
body_steps own region form =
    (made_in region form).steps ++ Write own (first_place region form + length (accesses form)) (made_in region form).value ∷ []

module _ (laws : Laws) (areas : List Area) (own : ℕ) (shape : List ℕ) (region : List (ℕ × ℕ)) (form : Operational) (original : List ℤ)
    (laid : AreLaidOut areas (length original)) (built : IsBuildable areas own shape region form) where
  abbrev place : Assignment → ℕ
  place = place_in areas own shape

  abbrev value : Assignment → ℤ
  value = value_in areas original form

  abbrev reached : List Access
  reached = accesses form ++ own_access own shape ∷ []

  -- the word of an element is by its row-major offset
  pub place-at : (index : List ℕ) → IsInBox index region → place (assigned index) ≡ start_of areas own + gamma index shape
  place-at index inside =
      ap (λ z. start_of areas own + unsigned_abs z)
      (own-place laws.offset own index shape (box-index index region shape inside built.box))

  own-word : (index : List ℕ) → IsInBox index region → IsWordOf areas own (pos (place (assigned index)))
  own-word index inside =
      let e = place-at index inside in
      let s = start-there areas own built.area built.there in
      let u = laws.below index shape (box-index index region shape inside built.box) in
      let t : total built.area.shape ≡ total shape = ap (λ list. total list) built.shaped in
      record {
        area = built.area;
        there = built.there;
        place = place (assigned index);
        same = refl;
        begun = omega (arith, e, s);
        within = omega (arith, e, s, u, t);
      }

  own-inside : (index : List ℕ) → IsInBox index region → place (assigned index) < length original
  own-inside index inside =
      let w = own-word index inside in
      let e = place-at index inside in
      let s = start-there areas own built.area built.there in
      let u = laws.below index shape (box-index index region shape inside built.box) in
      let t : total built.area.shape ≡ total shape = ap (λ list. total list) built.shaped in
      omega (arith, e, s, u, t, laid.within own built.area built.there)

  -- ---- what is read

  read-choice : (number word : ℕ) (words : List ℤ) → number ≢ own → IsWordOf areas number (pos word)
      → IsTouched place (IsOfRegion region) original words word → slice_index_or words word (pos 0) ≡ slice_index_or original word (pos 0)
  read-choice number word words other there (inl same) = same
  read-choice number word words other there (inr late) =
      let inside = late.1.0.1.0 in
      let at : place (assigned late.1.0.0) ≡ word = ap place (sym late.1.0.1.1) ∙ late.1.1 in
      absurd (other (laid.apart number own (pos word) there (subst (λ w. IsWordOf areas own (pos w)) at (own-word late.1.0.0 inside))))

  reads-one : (m : Assignment) (index : List ℕ) (words : List ℤ) → m ≡ assigned index → Touches place (IsOfRegion region) original words
      → (access : Access) → IsReachedWithin areas index access → access.area ≢ own → IsRead areas m words (store_of areas original) access
  reads-one m index words e touched access within other =
      let word = start_of areas access.area + within.place in
      let s = start-there areas access.area within.area within.there in
      let at : place_of m access ≡ pos within.place = ap (λ n. place_of n access) e ∙ within.same in
      let there : IsWordOf areas access.area (pos word) = record {
        area = within.area;
        there = within.there;
        place = word;
        same = refl;
        begun = omega (arith, s);
        within = omega (arith, s, within.below);
      } in
      record {
        place = within.place;
        same = at;
        inside = there;
        value = read-choice access.area word words other there (touched.each word)
            ∙ ap (λ z. slice_index_or original (start_of areas access.area + unsigned_abs z) (pos 0)) (sym at);
      }

  -- ---- the body at an index vector

  module _ (fixed : ℕ → ℤ) (lits : Numbered (λ r v. fixed r ≡ v) (first_literal region) (literals form)) where
    abbrev IsReady : Assignment → State → Type 0
    IsReady m state =
        Ready laws.runs areas region (first_place region form) reached (first_literal region) (first_free region form) fixed
        (IsOfRegion region) place value original (opening (loops_from 0 0 region) []) m state

    counts-at : (index : List ℕ) (state : State) → IsInBox index region → IsReady (assigned index) state
        → (var : ℕ) → CountsTo (low_of region) (assigned index) (first_free region form) (λ r. state.held (Register r)) var
        (counter_of (loops_from 0 0 region) var)
    counts-at index state inside ready var =
        let loops = loops_from 0 0 region in
        let few = counters-below (first_literal region) 0 0 loops (loops-rise (first_literal region) region 0 0 (omega arith)) in
        counts-to (low_of region) (assigned index) (first_free region form) (λ r. state.held (Register r)) loops var
        (all-map (λ loop. loop.counter < first_literal region) (λ loop. loop.counter < first_free region form) loops
        (λ loop under. omega (arith, under)) few)
        (all-opening (λ loop. pos (low_of region loop.var) +ℤ state.held (Register loop.counter) ≡ pos (assigned index loop.var)) loops []
        ready.counters).0
        (λ none. uncounted (low_of region) loops (low_of region) (assigned index) var
        (region-covered region index (box-ranges region shape built.box) inside) none)

    made-at : (index : List ℕ) (state : State) → IsInBox index region → IsReady (assigned index) state
        → Gets areas (first_free region form) (made_in region form).steps (made_in region form).value state (value (assigned index))
    made-at index state inside ready =
        let literal = first_literal region in
        let free = first_free region form in
        let known = λ (r : ℕ). state.held (Register r) in
        let pointed = λ (p : ℕ). state.held (Pointer p) in
        let at = numbered-parts (λ p access. state.held (Pointer p) ≡ word_of areas (assigned index) access) (first_place region form)
        (accesses form) (own_access own shape ∷ []) ready.places in
        evaluates areas (loops_from 0 0 region) (low_of region) (assigned index) free known pointed state.words (store_of areas original)
        (counts-at index state inside ready) (within-region index region shape inside built.box built.within)
        form free literal (first_place region form) state built.straight (omega arith)
        (numbered-within (λ r v. fixed r ≡ v) (IsLiteral free known) literal free literal (literals form) (omega arith) (omega arith)
        (λ r v from under e. (under, ready.literals r from under ∙ e)) lits)
        at.0
        (all-zip (IsReachedWithin areas index) (λ access. access.area ≢ own) (IsRead areas (assigned index) state.words (store_of areas original))
        (accesses form) (reads-one (assigned index) index state.words refl ready.touched) (built.reached index inside) built.others)
        (all-map (λ entry. IsEntry (job_variables shape) entry greatest_extent) IsSmallEntry (entries form)
        (λ entry h. small-entry (job_variables shape) entry greatest_extent h) built.small)
        (record { registers = λ r under. refl; places = λ p. refl; same = refl })

    -- the last step finds its word and its value
    own-at : (index : List ℕ) (state : State) → IsInBox index region → IsReady (assigned index) state
        → state.held (Pointer (first_place region form + length (accesses form))) ≡ pos (place (assigned index))
    own-at index state inside ready =
        let at = numbered-parts (λ p access. state.held (Pointer p) ≡ word_of areas (assigned index) access) (first_place region form)
        (accesses form) (own_access own shape ∷ []) ready.places in
        let e = own-place laws.offset own index shape (box-index index region shape inside built.box) in
        at.1.0 ∙ ap (λ z. pos (start_of areas own) +ℤ z) e ∙ ap pos (sym (place-at index inside))

    acts-at : (index : List ℕ) (state : State) → IsInBox index region → IsReady (assigned index) state
        → Acts laws.runs areas region (first_place region form) reached (first_literal region) (first_free region form) fixed
        (IsOfRegion region) place value original (listed (body_steps own region form)) (assigned index) state
    acts-at index state inside ready =
        let free = first_free region form in
        let m = assigned index in
        let made = made_in region form in
        let p = first_place region form + length (accesses form) in
        let write = Write own p made.value in
        let middle = run (listed made.steps) state in
        let final = acted write middle in
        let g = made-at index state inside ready in
        let same = run-append made.steps (write ∷ []) state in
        let at : middle.held (Pointer p) ≡ pos (place m) = g.leaves.places p ∙ own-at index state inside ready in
        let words : final.words ≡ slice_set state.words (place m) (value m) =
        ap₂ (λ word held. with_word middle.words word held) at g.holds ∙ ap (λ list. slice_set list (place m) (value m)) g.leaves.words in
        let trace : AddsInside areas state.trace final.trace =
        adds-on areas state.trace middle.trace final.trace g.leaves.trace
        (adds-one areas (WritesWord own (middle.held (Pointer p))) middle.trace
        (subst (λ word. IsInside areas (WritesWord own word)) (sym at) (own-word index inside))) in
        let long : place m < length state.words = omega (arith, own-inside index inside, ready.touched.sized) in
        record {
          does = subst (λ after. Does areas place value (λ other. other ≡ m) state after) (sym same)
              (write-does areas place value m state final words long trace);
          registers = λ r under. ap (λ (after : State). after.held (Register r)) same ∙ g.leaves.kept r under;
          pointers = λ q. ap (λ (after : State). after.held (Pointer q)) same ∙ g.leaves.places q;
        }

    pub body-acts : (m : Assignment) (state : State) → IsOfRegion region m → IsReady m state
        → Acts laws.runs areas region (first_place region form) reached (first_literal region) (first_free region form) fixed
        (IsOfRegion region) place value original (listed (body_steps own region form)) m state
    body-acts m state known ready =
        subst (λ n. IsReady n state → Acts laws.runs areas region (first_place region form) reached (first_literal region)
        (first_free region form) fixed (IsOfRegion region) place value original (listed (body_steps own region form)) n state)
        (sym known.1.1) (acts-at known.0 state known.1.0) ready
