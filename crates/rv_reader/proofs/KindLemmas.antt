-- What is checked of a row is the same of numbers as they are kept, and of a scan that is allowed only with the next number.
use Rattle.std.proofs.Common.{◌≡◌, ℕ, suc, ◌+◌, ◌-◌, ◌<◌, ◌^◌, List, [], ◌∷◌, length, get_or, refl, sym, ap, subst, ◌∙◌, arith}
use Rattle.std.specs.Prelude.{Bool, true, false, ◌==◌, codes, cond, map, min, nat_le}
use Rattle.std.specs.List.{last_or, list_all, slice_split}
use Rattle.std.specs.Option.{option_map}
use Rattle.std.specs.declared.option.Option.{Option}
use Rattle.std.specs.declared.option.Option.TheVariants.{None, Some}
use Rattle.std.specs.declared.result.Result.{Result}
use Rattle.std.specs.declared.result.Result.TheVariants.{Err}
use Rattle.std.proofs.lemmas.Bool.{and_left, and_parts, and_right, leb-true, eqb-true, eqb-false, ne_eqb}
use Rattle.std.proofs.lemmas.Bool.Decides.{nat_tests}
use Rattle.shapes_core.specs.Limits.{greatest_extent}
use Rattle.shapes_core.specs.Shape.{are_small, is_shape, span}
use Rattle.shapes_core.specs.declared.area.Area.{Area}
use Rattle.shapes_core.specs.declared.area.AreaKind.{AreaKind}
use Rattle.shapes_core.specs.declared.area.AreaKind.TheVariants.{In, Out, Scan}
use Rattle.rv_reader.specs.AreaRows.{area_from, area_of_parts, checked, kind_of, kinds, may_follow, numbered, numbers_of, row_of, words_of}
use Rattle.rv_reader.specs.Cuts.{same}
use Rattle.rv_reader.specs.Kinds.{allowed, next_number}
use Rattle.rv_reader.specs.Marks.{capped}
use Rattle.rv_reader.specs.Operands.{number_of}

-- a number as it is kept is the next one where it is
pub scan_same : (next : ℕ) (found : Option ℕ) → next < 2 ^ 32 → allowed next (numbered found) ≡ allowed next (numbered (option_map capped found))
scan_same next None small = refl
scan_same next (Some n) small = by_test (n == next) refl
  where
    by_test : (b : Bool) → (n == next) ≡ b → cond b (Some (Scan n)) None ≡ allowed next (Some (Scan (capped n)))
    by_test true is =
        let e = eqb-true n next is in
        let kept : min n (2 ^ 64 - 1) ≡ n = omega (arith, e) in
        rw (kept, is) refl
    by_test false is =
        let other = eqb-false n next is in
        rw (ne_eqb (min n (2 ^ 64 - 1)) next (λ e. other (omega (arith, e)))) refl

-- a scan of another number is refused in any case
pub allowed_same : (before : List Area) (spill start next : ℕ) (kind : Option AreaKind) (offset : Option ℕ) (shape : Option (List ℕ)) → next ≡ next_number (last_or None (kinds before))
    → checked before (area_from spill start (allowed next kind) offset shape) ≡ checked before (area_from spill start kind offset shape)
allowed_same before spill start next None offset shape is = refl
allowed_same before spill start next (Some (In name)) offset shape is = refl
allowed_same before spill start next (Some (Out name)) offset shape is = refl
allowed_same before spill start next (Some (Scan number)) offset shape is = by_test (number == next) refl
  where
    refused : (last : Option AreaKind) → next ≡ next_number last → (number == next) ≡ false → may_follow last (Scan number) ≡ false
    refused None e h = ap (λ k. number == k) (sym e) ∙ h
    refused (Some (In name)) e h = ap (λ k. number == k) (sym e) ∙ h
    refused (Some (Out name)) e h = ap (λ k. number == k) (sym e) ∙ h
    refused (Some (Scan last)) e h = ap (λ k. number == k) (sym e) ∙ h

    other : (number == next) ≡ false → (o : Option ℕ) (s : Option (List ℕ)) → checked before (area_from spill start None o s) ≡ checked before (area_from spill start (Some (Scan number)) o s)
    other h None s = refl
    other h (Some o) None = refl
    other h (Some o) (Some s) = by_place (o == spill + start)
      where
        by_place : (b : Bool) → checked before None ≡ checked before (cond b (Some (record { kind = Scan number; shape = s; start = start })) None)
        by_place false = refl
        by_place true = rw (refused (last_or None (kinds before)) is h) refl

    by_test : (b : Bool) → (number == next) ≡ b → checked before (area_from spill start (cond b (Some (Scan number)) None) offset shape) ≡ checked before (area_from spill start (Some (Scan number)) offset shape)
    by_test true h = refl
    by_test false h = other h offset shape

last_from : (first : Option AreaKind) (areas : List Area) (d : Area) → 0 < length areas → last_or first (kinds areas) ≡ Some (get_or areas (length areas - 1) d).kind
last_from first [] d some = absurd (omega arith)
last_from first (area ∷ []) d some = refl
last_from first (area ∷ other ∷ areas) d some =
    let one : suc (length areas) - 1 ≡ length areas = omega arith in
    let two : suc (suc (length areas)) - 1 ≡ suc (length areas) = omega arith in
    last_from (Some area.kind) (other ∷ areas) d (omega arith)
    ∙ ap (λ i. Some (get_or (other ∷ areas) i d).kind) one
    ∙ ap (λ i. Some (get_or (area ∷ other ∷ areas) i d).kind) (sym two)

-- the last of some areas
pub last_kind : (areas : List Area) (d : Area) → 0 < length areas → last_or None (kinds areas) ≡ Some (get_or areas (length areas - 1) d).kind
last_kind areas d some = last_from None areas d some

pub no_last : (areas : List Area) → length areas ≡ 0 → last_or None (kinds areas) ≡ None
no_last [] e = refl
no_last (area ∷ areas) e = absurd (omega arith)

-- extents as they are kept are a shape where they are one
small_extents : (extents : List ℕ) → list_all (λ extent. nat_le extent greatest_extent) extents ≡ true → map capped extents ≡ extents
small_extents [] all = refl
small_extents (extent ∷ extents) all =
    let parts = and_parts (nat_le extent greatest_extent) (list_all (λ e. nat_le e greatest_extent) extents) all in
    let le = leb-true extent greatest_extent parts.0 in
    let kept : min extent (2 ^ 64 - 1) ≡ extent = omega arith in
    rw (kept, small_extents extents parts.1) refl

large_extents : (extents : List ℕ) → list_all (λ extent. nat_le extent greatest_extent) (map capped extents) ≡ list_all (λ extent. nat_le extent greatest_extent) extents
large_extents [] = refl
large_extents (extent ∷ extents) =
    let kept : nat_le (min extent (2 ^ 64 - 1)) greatest_extent ≡ nat_le extent greatest_extent = grind (arith, nat_tests) in
    rw (kept, large_extents extents) refl

pub shape_same : (extents : List ℕ) → is_shape extents ≡ true → map capped extents ≡ extents
shape_same extents is =
    let small = and_parts (nat_le (length extents) 6) (are_small extents) is in
    small_extents extents (and_parts (list_all (λ extent. nat_le extent greatest_extent) extents) (nat_le (span extents) greatest_extent) small.1).0

pub shape_kept : (extents : List ℕ) → is_shape (map capped extents) ≡ is_shape extents
shape_kept extents = by_test (list_all (λ extent. nat_le extent greatest_extent) extents) refl
  where
    by_test : (b : Bool) → list_all (λ extent. nat_le extent greatest_extent) extents ≡ b → is_shape (map capped extents) ≡ is_shape extents
    by_test true all = ap is_shape (small_extents extents all)
    by_test false none =
        and_right (nat_le (length (map capped extents)) 6) (are_small (map capped extents)) (and_left (list_all (λ extent. nat_le extent greatest_extent) (map capped extents)) (nat_le (span (map capped extents)) greatest_extent) (large_extents extents ∙ none))
        ∙ sym (and_right (nat_le (length extents) 6) (are_small extents) (and_left (list_all (λ extent. nat_le extent greatest_extent) extents) (nat_le (span extents) greatest_extent) none))

-- what is checked of an area is the same of numbers as they are kept
pub checked_same : (before : List Area) (spill start : ℕ) (kind : Option AreaKind) (offset : Option ℕ) (shape : Option (List ℕ)) → spill + start < 2 ^ 64 - 1
    → checked before (area_from spill start kind offset shape) ≡ checked before (area_from spill start kind (option_map capped offset) (option_map (map capped) shape))
checked_same before spill start None offset shape small = refl
checked_same before spill start (Some kind) None shape small = refl
checked_same before spill start (Some kind) (Some n) None small = refl
checked_same before spill start (Some kind) (Some n) (Some shape) small = by_place (n == spill + start) refl
  where
    area : List ℕ → Area
    area s = record { kind = kind; shape = s; start = start }

    by_shape : (follows shaped : Bool) → may_follow (last_or None (kinds before)) kind ≡ follows → is_shape shape ≡ shaped → checked before (Some (record { kind = kind; shape = shape; start = start })) ≡ checked before (Some (record { kind = kind; shape = map capped shape; start = start }))
    by_shape false shaped f s = rw f refl
    by_shape true false f s = rw (f, shape_kept shape, s) refl
    by_shape true true f s = ap (λ e. checked before (Some (record { kind = kind; shape = e; start = start }))) (sym (shape_same shape s))

    by_place : (b : Bool) → (n == spill + start) ≡ b → checked before (cond b (Some (record { kind = kind; shape = shape; start = start })) None) ≡ checked before (area_from spill start (Some kind) (Some (capped n)) (Some (map capped shape)))
    by_place true is =
        let e = eqb-true n (spill + start) is in
        let kept : min n (2 ^ 64 - 1) ≡ n = omega (arith, e, small) in
        by_shape _ _ refl refl ∙ rw (kept, is) refl
    by_place false is =
        let other = eqb-false n (spill + start) is in
        rw (ne_eqb (min n (2 ^ 64 - 1)) (spill + start) (λ e. other (omega (arith, e, small)))) refl

-- a row with fewer parts than an area needs
pub too_few : (spill start : ℕ) (parts : List (List ℕ)) → length parts < 4 → area_of_parts spill start parts ≡ None
too_few spill start [] h = refl
too_few spill start (a ∷ []) h = refl
too_few spill start (a ∷ b ∷ []) h = refl
too_few spill start (a ∷ b ∷ c ∷ []) h = refl
too_few spill start (a ∷ b ∷ c ∷ d ∷ more) h = absurd (omega arith)

-- a row by its parts, with numbers as they are kept
pub row_same : (before : List Area) (spill next : ℕ) (row mark tag word offset : List ℕ) (extents : List (List ℕ)) → spill + words_of before < 2 ^ 64 - 1 → next ≡ next_number (last_or None (kinds before)) → slice_split (λ byte. byte == 32) row ≡ mark ∷ tag ∷ word ∷ offset ∷ extents → same mark (codes "#") ≡ true
    → row_of spill before row ≡ checked before (area_from spill (words_of before) (allowed next (kind_of tag word)) (option_map capped (number_of offset)) (option_map (map capped) (numbers_of extents)))
row_same before spill next row mark tag word offset extents small is split marked =
    ap (λ parts. checked before (area_of_parts spill (words_of before) parts)) split
    ∙ ap (λ b. checked before (cond b (area_from spill (words_of before) (kind_of tag word) (number_of offset) (numbers_of extents)) None)) marked
    ∙ checked_same before spill (words_of before) (kind_of tag word) (number_of offset) (numbers_of extents) small
    ∙ sym (allowed_same before spill (words_of before) next (kind_of tag word) (option_map capped (number_of offset)) (option_map (map capped) (numbers_of extents)) is)

pub row_unmarked : (before : List Area) (spill : ℕ) (row mark tag word offset : List ℕ) (extents : List (List ℕ)) → slice_split (λ byte. byte == 32) row ≡ mark ∷ tag ∷ word ∷ offset ∷ extents → same mark (codes "#") ≡ false → row_of spill before row ≡ Err 4
row_unmarked before spill row mark tag word offset extents split marked =
    ap (λ parts. checked before (area_of_parts spill (words_of before) parts)) split
    ∙ ap (λ b. checked before (cond b (area_from spill (words_of before) (kind_of tag word) (number_of offset) (numbers_of extents)) None)) marked

pub row_short : (before : List Area) (spill : ℕ) (row : List ℕ) → length (slice_split (λ byte. byte == 32) row) < 4 → row_of spill before row ≡ Err 4
row_short before spill row few = ap (checked before) (too_few spill (words_of before) (slice_split (λ byte. byte == 32) row) few)

-- a row is what is checked of its parts
pub row_read : (before given : List Area) (spill words next : ℕ) (row mark tag word offset : List ℕ) (extents : List (List ℕ)) (kind : Option AreaKind) (number : Option ℕ) (shape : Option (List ℕ)) (result : Result Area ℕ)
    → slice_split (λ byte. byte == 32) row ≡ mark ∷ tag ∷ word ∷ offset ∷ extents → same mark (codes "#") ≡ true → spill + words < 2 ^ 64 - 1 → words ≡ words_of before → next ≡ next_number (last_or None (kinds before)) → given ≡ before
    → kind ≡ allowed next (kind_of tag word) → number ≡ option_map capped (number_of offset) → shape ≡ option_map (map capped) (numbers_of extents) → result ≡ checked given (area_from spill words kind number shape) → row_of spill before row ≡ result
row_read before given spill words next row mark tag word offset extents kind number shape result split marked small words_are is same_areas k n s found =
    row_same before spill next row mark tag word offset extents (subst (λ w. spill + w < 2 ^ 64 - 1) words_are small) is split marked ∙ sym (found ∙ alike)
  where
    alike : checked given (area_from spill words kind number shape) ≡ checked before (area_from spill (words_of before) (allowed next (kind_of tag word)) (option_map capped (number_of offset)) (option_map (map capped) (numbers_of extents)))
    alike = rw (same_areas, words_are, k, n, s) refl
