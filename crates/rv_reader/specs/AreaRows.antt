-- What one area's row is, or the cause with which it is refused: 4 where it is malformed, out of order, or has another scan number or
-- offset than those before it ask for, 12 where the area is too large, 5 where its name is repeated. This project's own.
use Rattle.std.specs.Prelude.{ℕ, ◌+◌, ◌==◌, Bool, true, false, not, List, [], ◌∷◌, map, codes, sum_by, if◌then◌else◌}
use Rattle.std.specs.List.{list_any, last_or, slice_split}
use Rattle.std.specs.declared.option.Option.{Option}
use Rattle.std.specs.declared.option.Option.TheVariants.{None, Some}
use Rattle.std.specs.declared.result.Result.{Result}
use Rattle.std.specs.declared.result.Result.TheVariants.{Ok, Err}
use Rattle.shapes_core.specs.Name.{is_name}
use Rattle.shapes_core.specs.Shape.{is_shape, total}
use Rattle.shapes_core.specs.declared.area.Area.{Area}
use Rattle.shapes_core.specs.declared.area.AreaKind.{AreaKind}
use Rattle.shapes_core.specs.declared.area.AreaKind.TheVariants.{In, Out, Scan}
use Rattle.rv_line.specs.Fits.{area_names}
use Rattle.rv_reader.specs.Cuts.{same}
use Rattle.rv_reader.specs.Operands.{number_of}

-- numbers, one for each text
abbrev pub both_of : Option ℕ → Option (List ℕ) → Option (List ℕ)
both_of (Some number) (Some numbers) = Some (number ∷ numbers)
both_of _ _ = None

abbrev pub numbers_of : List (List ℕ) → Option (List ℕ)
numbers_of [] = Some []
numbers_of (text ∷ texts) = both_of (number_of text) (numbers_of texts)

abbrev pub named : (List ℕ → AreaKind) → List ℕ → Option AreaKind
named kind word = if is_name word then Some (kind word) else None

abbrev pub numbered : Option ℕ → Option AreaKind
numbered None = None
numbered (Some number) = Some (Scan number)

-- the name of an input or an output, or the number of a scan
abbrev pub kind_of : List ℕ → List ℕ → Option AreaKind
kind_of tag word =
    if same tag (codes "in") then named (λ name. In name) word
    else (if same tag (codes "out") then named (λ name. Out name) word
    else (if same tag (codes "scan") then numbered (number_of word)
    else None))

-- an area that is to begin at this word of the block, behind so many spill words, if it does
abbrev pub area_from : ℕ → ℕ → Option AreaKind → Option ℕ → Option (List ℕ) → Option Area
area_from spill start (Some kind) (Some offset) (Some shape) =
    if offset == spill + start then Some (record { kind = kind; shape = shape; start = start }) else None
area_from spill start _ _ _ = None

-- `#`, what the area is, its offset and its extents
abbrev pub area_of_parts : ℕ → ℕ → List (List ℕ) → Option Area
area_of_parts spill start (mark ∷ tag ∷ word ∷ offset ∷ extents) =
    if same mark (codes "#") then area_from spill start (kind_of tag word) (number_of offset) (numbers_of extents) else None
area_of_parts spill start _ = None

-- the parts of a row are separated by exactly one space
abbrev pub area_of : ℕ → ℕ → List ℕ → Option Area
area_of spill start row = area_of_parts spill start (slice_split (λ byte. byte == 32) row)

-- inputs come first, then outputs, then the scans from 0 on: what may stand behind the last one, or first
abbrev pub may_follow : Option AreaKind → AreaKind → Bool
may_follow None (Scan number) = number == 0
may_follow None (In name) = true
may_follow None (Out name) = true
may_follow (Some (In last)) (Scan number) = number == 0
may_follow (Some (In last)) (In name) = true
may_follow (Some (In last)) (Out name) = true
may_follow (Some (Out last)) (Scan number) = number == 0
may_follow (Some (Out last)) (In name) = false
may_follow (Some (Out last)) (Out name) = true
may_follow (Some (Scan last)) (Scan number) = number == last + 1
may_follow (Some (Scan last)) (In name) = false
may_follow (Some (Scan last)) (Out name) = false

-- whether an area of this name stands among these
abbrev pub is_repeated : List (List ℕ) → AreaKind → Bool
is_repeated others (In name) = list_any (same name) others
is_repeated others (Out name) = list_any (same name) others
is_repeated others (Scan number) = false

abbrev pub kinds : List Area → List AreaKind
kinds areas = map (λ area. area.kind) areas

-- the words that areas take
abbrev pub words_of : List Area → ℕ
words_of areas = sum_by (λ area. total area.shape) areas

-- the area of a row, if it may stand behind these
abbrev pub checked : List Area → Option Area → Result Area ℕ
checked before None = Err 4
checked before (Some area) =
    if not (may_follow (last_or None (kinds before)) area.kind) then Err 4
    else (if not (is_shape area.shape) then Err 12
    else (if is_repeated (area_names (kinds before)) area.kind then Err 5
    else Ok area))

-- what a row is, behind these areas
abbrev pub row_of : ℕ → List Area → List ℕ → Result Area ℕ
row_of spill before row = checked before (area_of spill (words_of before) row)
