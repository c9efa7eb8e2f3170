-- Index vectors and the row-major offset. After Mullin, A Mathematics of Arrays (1988), where the offset is gamma.
use Rattle.std.specs.Prelude.{ℕ, suc, ◌+◌, ◌*◌, ◌/◌, ◌%◌, ◌<◌, List, [], ◌∷◌, map, drop}
use Rattle.std.specs.List.{AllZip, flat_map, range_with_len}
use Rattle.shapes_core.specs.Shape.{span, total}

-- an index vector of a shape: one number an axis, each below the extent of its axis
abbrev pub IsIndex : List ℕ → List ℕ → Type 0
IsIndex index shape = AllZip (λ k n. k < n) index shape

-- the place of an element among all elements of its array, the last axis fastest
abbrev pub gamma : List ℕ → List ℕ → ℕ
gamma [] shape = 0
gamma (k ∷ index) [] = 0
gamma (k ∷ index) (n ∷ shape) = k * total shape + gamma index shape

-- the index vector of a shape whose gamma is an offset below the total
abbrev pub ungamma : List ℕ → ℕ → List ℕ
ungamma [] offset = []
ungamma (n ∷ shape) offset = offset / total shape ∷ ungamma shape (offset % total shape)

-- every index vector of a shape, the last axis fastest
abbrev pub rows : List ℕ → List (List ℕ)
rows [] = [] ∷ []
rows (n ∷ shape) = flat_map (λ k. map (λ index. k ∷ index) (rows shape)) (range_with_len 0 n)

-- how far apart two elements lie that are neighbours along an axis: the product of the extents after it, each 0 taken as 1
abbrev pub weight : List ℕ → ℕ → ℕ
weight shape axis = span (drop (suc axis) shape)

-- the entry of an offset's index vector at an axis of this weight and extent
abbrev pub digit : ℕ → ℕ → ℕ → ℕ
digit flat weight extent = (flat / weight) % extent

-- the digits of an offset, one an axis
abbrev pub digits : List ℕ → ℕ → List ℕ
digits [] offset = []
digits (n ∷ shape) offset = digit offset (span shape) n ∷ digits shape offset
