-- The inputs of a block before a run hold the arrays.
use Rattle.std.proofs.Common.{◌≡◌, ℕ, ◌+◌, ◌-◌, ◌*◌, ◌<◌, ◌≤◌, ◌^◌, ℤ, pos, negsuc, List, [], ◌∷◌, ◌++◌, ◌∙◌, length, map, refl, sym, ap, subst, cond, arith, append_assoc, length-append, FitsSigned}
use Rattle.std.proofs.Math.Seq.{drop-append_seam}
use Rattle.std.proofs.lemmas.Int.{ints, to_z-of_z}
use Rattle.std.proofs.lemmas.List.{take-append-le, take_all}
use Rattle.std.proofs.lemmas.List.Elements.{All-head, All-tail}
use Rattle.std.proofs.lemmas.Nat.{from_le_bytes-to_le_bytes_8}
use Rattle.std.specs.Int.{from_le_bytes, to_le_bytes, w64}
use Rattle.std.specs.List.{All, filter, flat_map, range_with_len}
use Rattle.shapes_core.specs.Shape.{total}
use Rattle.shapes_core.specs.declared.area.Area.{Area}
use Rattle.shapes_core.specs.declared.area.AreaKind.{AreaKind}
use Rattle.shapes_core.specs.declared.area.AreaKind.TheVariants.{In, Out, Scan}
use Rattle.shapes_core.specs.declared.area.Declared.{Declared}
use Rattle.rv_line.specs.Fits.{AreInOrder, AreOuts, ArePacked, AreScans}
use Rattle.rv_steps.specs.Effects.{signed_value, word_of}
use Rattle.rv_steps.specs.Good.{area_values, is_input, values_at}
use Rattle.rv_steps.specs.Machine.{value_at}
use Rattle.array_run.specs.Starts.{bytes_of, input_in, inputs}
use Rattle.array_run.proofs.AreaLemmas.{no_inputs_in_outs, no_inputs_in_scans}
use Rattle.array_run.proofs.BlockLemmas.{AreWhole, bytes_counted}

word_small : (value : ℤ) → FitsSigned w64 value → word_of value < 2 ^ 64
word_small (pos n) fits = omega (arith, ints)
word_small (negsuc n) fits = omega (arith, ints)

-- a word behind some bytes
word_there : (before bytes behind : List ℕ) → length bytes ≡ 8
    → value_at w64 (before ++ (bytes ++ behind)) (length before) ≡ from_le_bytes w64 bytes
unfolding value_at
word_there before bytes behind eight =
    let size : length before + 8 - length before ≡ 8 = omega arith in
    let fits : 8 ≤ length bytes = omega arith in
    rw (size, drop-append_seam before (bytes ++ behind), take-append-le 8 bytes behind fits)
    (ap (from_le_bytes w64) (take_all 8 bytes (omega arith)))

value_there : (before behind : List ℕ) (value : ℤ) (place : ℕ) → FitsSigned w64 value → length before ≡ place
    → signed_value (value_at w64 (before ++ (to_le_bytes w64 (word_of value) ++ behind)) place) ≡ value
value_there before behind value place fits here =
    ap (λ at. signed_value (value_at w64 (before ++ (to_le_bytes w64 (word_of value) ++ behind)) at)) (sym here)
    ∙ ap signed_value (word_there before (to_le_bytes w64 (word_of value)) behind refl
    ∙ from_le_bytes-to_le_bytes_8 (word_of value) (word_small value fits))
    ∙ to_z-of_z w64 value fits

values_there : (values : List ℤ) (before behind : List ℕ) (word i : ℕ) → All (FitsSigned w64) values → length before ≡ 8 * (word + i)
    → map (λ k. signed_value (value_at w64 (before ++ (bytes_of values ++ behind)) (8 * (word + k)))) (range_with_len i (length values))
    ≡ values
values_there [] before behind word i fits here = refl
values_there (value ∷ values) before behind word i fits here =
    let first = value_there before (bytes_of values ++ behind) value (8 * (word + i))
    (All-head (FitsSigned w64) value values fits) here in
    let size : length (before ++ to_le_bytes w64 (word_of value)) ≡ 8 * (word + (i + 1)) =
    omega (arith, here, length-append before (to_le_bytes w64 (word_of value))) in
    let others = subst (λ (block : List ℕ). map (λ k. signed_value (value_at w64 block (8 * (word + k))))
    (range_with_len (i + 1) (length values)) ≡ values)
    (append_assoc before (to_le_bytes w64 (word_of value)) (bytes_of values ++ behind))
    (values_there values (before ++ to_le_bytes w64 (word_of value)) behind word (i + 1)
    (All-tail (FitsSigned w64) value values fits) size) in
    ap (λ it. it ∷ map (λ k. signed_value (value_at w64 (before ++ (bytes_of (value ∷ values) ++ behind)) (8 * (word + k))))
    (range_with_len (i + 1) (length values))) first
    ∙ ap (λ those. value ∷ those) others

-- the values of an area whose words stand behind some bytes
area_there : (values : List ℤ) (before behind : List ℕ) (spill : ℕ) (area : Area) → All (FitsSigned w64) values
    → length values ≡ total area.shape
    → length before ≡ 8 * (spill + area.start) → area_values spill (before ++ (bytes_of values ++ behind)) area ≡ values
area_there values before behind spill area fits whole here =
    ap (values_at (before ++ (bytes_of values ++ behind)) (spill + area.start)) (sym whole)
    ∙ values_there values before behind (spill + area.start) 0 fits (omega (arith, here))

abbrev are_inputs : List Area → List Area
are_inputs areas = filter (λ area. is_input area.kind) areas

-- the areas hold the arrays, behind some bytes
abbrev Hold : ℕ → List Area → List Declared → ℕ → List ℕ → Type 0
Hold spill filtered declared start behind = (before : List ℕ) (arrays : List (List ℤ)) → AreWhole declared arrays
    → All (All (FitsSigned w64)) arrays
    → length before ≡ 8 * (spill + start) → map (area_values spill (before ++ (flat_map bytes_of arrays ++ behind))) filtered ≡ arrays

no_input_filtered : (kind : AreaKind) (area : Area) (filtered : List Area) (others : List Declared)
    → input_in kind area.shape ++ others ≡ []
    → (others ≡ [] → filtered ≡ []) → cond (is_input kind) (area ∷ filtered) filtered ≡ []
no_input_filtered (In name) area filtered others none follow = cc
no_input_filtered (Out name) area filtered others none follow = follow none
no_input_filtered (Scan number) area filtered others none follow = follow none

nothing_filtered : (areas : List Area) → inputs areas ≡ [] → are_inputs areas ≡ []
nothing_filtered [] none = refl
nothing_filtered (area ∷ areas) none = no_input_filtered area.kind area (are_inputs areas) (inputs areas) none (nothing_filtered areas)

nothing_held : (spill start : ℕ) (filtered : List Area) (declared : List Declared) (behind : List ℕ) → declared ≡ [] → filtered ≡ []
    → Hold spill filtered declared start behind
nothing_held spill start filtered declared behind none empty = rw (none, empty) (nothing_there spill start behind)
  where
    nothing_there : (spill start : ℕ) (behind : List ℕ) → Hold spill [] [] start behind
    nothing_there spill start behind before [] whole fits here = refl
    nothing_there spill start behind before (values ∷ arrays) whole fits here = absurd whole

held_first : (spill : ℕ) (kind : AreaKind) (area : Area) (kinds : List AreaKind) (filtered : List Area) (others : List Declared)
    (start : ℕ) (behind : List ℕ)
    → area.start ≡ start → AreInOrder (kind ∷ kinds) → (AreInOrder kinds → Hold spill filtered others (start + total area.shape) behind)
    → (AreOuts kinds → others ≡ []) → (AreScans 1 kinds → others ≡ []) → (others ≡ [] → filtered ≡ [])
    → Hold spill (cond (is_input kind) (area ∷ filtered) filtered) (input_in kind area.shape ++ others) start behind
held_first spill (In name) area kinds filtered others start behind at order held none last follow before [] whole fits here = absurd whole
held_first spill (In name) area kinds filtered others start behind at order held none last follow before
    (values ∷ arrays) whole fits here =
    let first = area_there values before (flat_map bytes_of arrays ++ behind) spill area
    (All-head (All (FitsSigned w64)) values arrays fits) whole.0
    (omega (arith, here, at)) in
    let size : length (before ++ bytes_of values) ≡ 8 * (spill + (start + total area.shape)) =
    omega (arith, here, length-append before (bytes_of values), bytes_counted values, whole.0) in
    let further = subst (λ (block : List ℕ). map (area_values spill block) filtered ≡ arrays)
    (append_assoc before (bytes_of values) (flat_map bytes_of arrays ++ behind))
    (held order (before ++ bytes_of values) arrays whole.1 (All-tail (All (FitsSigned w64)) values arrays fits) size) in
    subst (λ (block : List ℕ). map (area_values spill block) (area ∷ filtered) ≡ values ∷ arrays)
    (ap (λ bytes. before ++ bytes) (sym (append_assoc (bytes_of values) (flat_map bytes_of arrays) behind)))
    (ap (λ those. those ∷ map (area_values spill (before ++ (bytes_of values ++ (flat_map bytes_of arrays ++ behind)))) filtered) first
    ∙ ap (λ those. values ∷ those) further)
held_first spill (Out name) area kinds filtered others start behind at order held none last follow before arrays whole fits here =
    nothing_held spill start filtered others behind (none order) (follow (none order)) before arrays whole fits here
held_first spill (Scan number) area kinds filtered others start behind at order held none last follow before arrays whole fits here =
    nothing_held spill start filtered others behind (last order.1) (follow (last order.1)) before arrays whole fits here

pub inputs_held : (spill start : ℕ) (areas : List Area) (behind : List ℕ) → ArePacked start areas
    → AreInOrder (map (λ area. area.kind) areas)
    → Hold spill (are_inputs areas) (inputs areas) start behind
inputs_held spill start [] behind packed order = nothing_held spill start [] [] behind refl refl
inputs_held spill start (area ∷ areas) behind packed order =
    held_first spill area.kind area (map (λ area. area.kind) areas) (are_inputs areas) (inputs areas) start behind packed.0 order
    (inputs_held spill (start + total area.shape) areas behind packed.1) (no_inputs_in_outs areas) (no_inputs_in_scans 1 areas)
    (nothing_filtered areas)
