-- What an operator does with the axes of a shape or an index vector. After Mullin, A Mathematics of Arrays (1988). What is done to an index
-- vector is done to a list with one item an axis, whatever an item is, by what is done to one item.
use Rattle.std.specs.Prelude.{ℕ, zero, suc, ◌+◌, ◌-◌, ℤ, pos, negsuc, ◌+ℤ◌, List, [], ◌∷◌, map, slice_index, slice_index_or, slice_set, take, drop, unsigned_abs, nat_lt, ◌==◌, length, if◌then◌else◌}
use Rattle.std.specs.Int.{int_rem_euclid}
use Rattle.std.specs.List.{position_or_len, range_with_len}

-- the numbers of a list, as extents or places
abbrev pub naturals : List ℤ → List ℕ
naturals list = map unsigned_abs list

-- the shape that two pointwise operands have in common: the longer one
abbrev pub common : List ℕ → List ℕ → List ℕ
common shape other = if nat_lt (length shape) (length other) then other else shape

-- the index vector for one pointwise operand: the last entries, one for each axis of the operand
abbrev pub own_index : {X : Type 0} → List ℕ → List X → List X
own_index shape index = drop (length index - length shape) index

-- a shape after a function of each number of the list and its axis; the axes that the list does not reach stay
abbrev pub each_extent : (ℤ → ℕ → ℕ) → List ℤ → List ℕ → List ℕ
each_extent f [] shape = shape
each_extent f (k ∷ list) [] = []
each_extent f (k ∷ list) (n ∷ shape) = f k n ∷ each_extent f list shape

-- the same of an index vector, where the function also sees the extent of the operand
abbrev pub each_place : {X : Type 0} → (ℤ → ℕ → X → X) → List ℤ → List ℕ → List X → List X
each_place f [] shape index = index
each_place f (k ∷ list) [] index = index
each_place f (k ∷ list) (n ∷ shape) [] = []
each_place f (k ∷ list) (n ∷ shape) (i ∷ index) = f k n i ∷ each_place f list shape index

-- how many `take k` keeps, and where place i of what is kept stands among n: from the front, or from the back for a negative k
abbrev pub taken : ℤ → ℕ → ℕ
taken k n = unsigned_abs k

abbrev pub taken_from : ℤ → ℕ → ℕ → ℕ
taken_from (pos k) n i = i
taken_from (negsuc k) n i = i + n - unsigned_abs (negsuc k)

-- how many `drop k` leaves, and where place i of what is left stood: behind the front that went, or in front for a negative k
abbrev pub remaining : ℤ → ℕ → ℕ
remaining k n = n - unsigned_abs k

abbrev pub remaining_from : ℤ → ℕ → ℕ → ℕ
remaining_from (pos k) n i = i + k
remaining_from (negsuc k) n i = i

-- place i counted from the back
abbrev pub mirrored : ℕ → ℕ → ℕ
mirrored n i = n - 1 - i

-- (i + by) mod n, never negative
abbrev pub turned : ℤ → ℕ → ℕ → ℕ
turned by n i = unsigned_abs (int_rem_euclid (pos i +ℤ by) (pos n))

-- place i behind the first n, counted from there
abbrev pub behind : ℕ → ℕ → ℕ
behind n i = i - n

-- the index vector with a function of the extent and its place on one axis
abbrev pub on_axis : {X : Type 0} → ℕ → (ℕ → X → X) → List ℕ → List X → List X
on_axis axis f [] index = index
on_axis axis f (n ∷ shape) [] = []
on_axis zero f (n ∷ shape) (i ∷ index) = f n i ∷ index
on_axis (suc axis) f (n ∷ shape) (i ∷ index) = i ∷ on_axis axis f shape index

-- a shape with the extent of a second one added on one axis
abbrev pub joined : ℕ → List ℕ → List ℕ → List ℕ
joined axis shape other = slice_set shape axis (slice_index shape axis + slice_index other axis)

-- a list without its last entry
abbrev pub but_last : List ℕ → List ℕ
but_last list = take (length list - 1) list

-- the entries that a permutation selects, and the index vector with entry j at axis p_j, or the first argument where none is there
abbrev pub selected : List ℕ → List ℕ → List ℕ
selected permutation shape = map (λ axis. slice_index shape axis) permutation

abbrev pub restored : {X : Type 0} → X → List ℕ → List X → List X
restored other permutation index =
    map (λ axis. slice_index_or index (position_or_len (λ p. p == axis) permutation) other) (range_with_len 0 (length permutation))
