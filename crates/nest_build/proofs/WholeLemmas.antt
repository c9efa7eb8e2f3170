-- The whole nest: literals and places are set, loops write the values of the region, and nothing else changes.
use Rattle.std.specs.Prelude.{◌≡◌, ◌≢◌, ℕ, ◌+◌, ℤ, pos, List, [], ◌∷◌, ◌++◌, length, map, slice_index_or}
use Rattle.std.proofs.Common.{refl, ap, sym, subst, ◌∙◌, arith, inl, inr}
use Rattle.shapes_core.specs.declared.area.Area.{Area}
use Rattle.shapes_core.specs.Gamma.{gamma, ungamma}
use Rattle.normal_form.specs.Assignments.{Assignment, assigned}
use Rattle.normal_form.specs.Kept.{IsInBox}
use Rattle.stride_form.specs.Operational.{Operational}
use Rattle.loop_ir.specs.Running.{Register, State, run}
use Rattle.loop_ir.specs.Steps.{Place, joined}
use Rattle.nest_build.specs.Gives.{AddsInside, AreLaidOut, Gives, IsBuildable}
use Rattle.nest_build.specs.Nests.{all_loops, listed, nest_of, own_access, sets_from, spots_from, start_of}
use Rattle.nest_build.specs.Parts.{accesses, literals, loops_from, low_of}
use Rattle.nest_build.proofs.BodyLemmas.{Laws, body-acts, body_steps, first_free, first_literal, first_place, place-at, place_in, value_in}
use Rattle.nest_build.proofs.BoxLemmas.{IsOfRegion, covered-region, loops-rise, lows-low, region-covered}
use Rattle.nest_build.proofs.DoesLemmas.{Does, IsWritten, Touches, does-within, touches-none}
use Rattle.nest_build.proofs.LoopLemmas.{Covers, all-go}
use Rattle.nest_build.proofs.RegionLemmas.{box-index, box-ranges}
use Rattle.nest_build.proofs.SetLemmas.{places-go, sets-go}

module _ (laws : Laws) (areas : List Area) (own : ℕ) (shape : List ℕ) (region : List (ℕ × ℕ)) (form : Operational) (state : State)
    (laid : AreLaidOut areas (length state.words)) (built : IsBuildable areas own shape region form) where
  abbrev IsCovered : Assignment → Type 0
  IsCovered = Covers (low_of region) (loops_from 0 0 region) (low_of region)

  covered-known : (m : Assignment) → IsCovered m → IsOfRegion region m
  covered-known m c = covered-region region m (box-ranges region shape built.box) c

  -- behind what is set, the loops write each value
  whole-does : Does areas (place_in areas own shape) (value_in areas state.words form) IsCovered state
      (run (nest_of areas own shape region form) state)
  whole-does =
      let place = place_in areas own shape in
      let value = value_in areas state.words form in
      let literal = first_literal region in
      let first = first_place region form in
      let reached = accesses form ++ own_access own shape ∷ [] in
      let spots = spots_from areas region first reached in
      let sets = listed (sets_from literal (literals form)) in
      let placed = listed (map (λ spot. Place spot.place spot.word) spots) in
      let loops = loops_from 0 0 region in
      let body = listed (body_steps own region form) in
      let middle = run sets state in
      let begun = run placed middle in
      let s = sets-go (literals form) literal state in
      let p = places-go areas region reached first middle in
      let words : begun.words ≡ state.words = p.words ∙ s.words in
      let fixed = λ (r : ℕ). middle.held (Register r) in
      let acts = body-acts laws areas own shape region form state.words laid built fixed s.literals in
      let done = all-go laws.runs areas region first reached literal (first_free region form) fixed (IsOfRegion region) place value state.words
      (omega arith) loops body (low_of region) begun (loops-rise literal region 0 0 (omega arith)) (lows-low (low_of region) loops)
      covered-known acts
      (record {
        counters = tt;
        literals = λ r from under. p.registers r;
        places = p.places;
        touched = subst (λ list. Touches place (IsOfRegion region) state.words list) (sym words)
            (touches-none place (IsOfRegion region) state.words);
      }) in
      let last = run (all_loops spots loops body) begun in
      let same : run (nest_of areas own shape region form) state ≡ last =
      laws.runs sets (joined placed (all_loops spots loops body)) state ∙ laws.runs placed (all_loops spots loops body) middle in
      subst (λ after. Does areas place value IsCovered state after) (sym same)
      (does-within areas place value IsCovered state begun last last words (p.trace ∙ s.trace) refl refl done)

  pub whole-inside : AddsInside areas state.trace (run (nest_of areas own shape region form) state).trace
  whole-inside = whole-does.trace

  -- ---- words

  same-index : (index other : List ℕ) → IsInBox index region → IsInBox other region
      → place_in areas own shape (assigned index) ≡ place_in areas own shape (assigned other) → index ≡ other
  same-index index other h k e =
      let a = place-at laws areas own shape region form state.words laid built index h in
      let b = place-at laws areas own shape region form state.words laid built other k in
      let same : gamma index shape ≡ gamma other shape = omega (arith, a, b, e) in
      sym (laws.undone index shape (box-index index region shape h built.box)) ∙ ap (λ n. ungamma shape n) same
      ∙ laws.undone other shape (box-index other region shape k built.box)

  value-choice : (after : List ℤ) (index : List ℕ) (word : ℕ) → IsInBox index region → word ≡ start_of areas own + gamma index shape
      → IsWritten (place_in areas own shape) (value_in areas state.words form) IsCovered state.words after word
      → slice_index_or after word (pos 0) ≡ value_in areas state.words form (assigned index)
  value-choice after index word h e (inl kept) =
      absurd (kept.1 (assigned index) (region-covered region index (box-ranges region shape built.box) h)
      (place-at laws areas own shape region form state.words laid built index h ∙ sym e))
  value-choice after index word h e (inr late) =
      let known = covered-known late.0 late.1.0 in
      let at : place_in areas own shape (assigned known.0) ≡ word =
      ap (place_in areas own shape) (sym known.1.1) ∙ late.1.1.0 in
      let same : known.0 ≡ index = same-index known.0 index known.1.0 h
      (at ∙ e ∙ sym (place-at laws areas own shape region form state.words laid built index h)) in
      late.1.1.1 ∙ ap (λ m. value_in areas state.words form m) (known.1.1 ∙ ap (λ list. assigned list) same)

  other-choice : (after : List ℤ) (word : ℕ) → ((index : List ℕ) → IsInBox index region → word ≢ start_of areas own + gamma index shape)
      → IsWritten (place_in areas own shape) (value_in areas state.words form) IsCovered state.words after word
      → slice_index_or after word (pos 0) ≡ slice_index_or state.words word (pos 0)
  other-choice after word none (inl kept) = kept.0
  other-choice after word none (inr late) =
      let known = covered-known late.0 late.1.0 in
      absurd (none known.0 known.1.0 (sym late.1.1.0 ∙ ap (place_in areas own shape) known.1.1
      ∙ place-at laws areas own shape region form state.words laid built known.0 known.1.0))

  pub whole-gives : Gives areas own shape region form state.words (run (nest_of areas own shape region form) state).words
  whole-gives =
      let after = run (nest_of areas own shape region form) state in
      record {
        sized = whole-does.sized;
        values = λ index h. value-choice after.words index (start_of areas own + gamma index shape) h refl
            (whole-does.each (start_of areas own + gamma index shape));
        others = λ word none. other-choice after.words word none (whole-does.each word);
      }
