-- The printed form of an array: its head, and then one line for each row of the last axis. This project's own.
use Rattle.std.specs.Prelude.{ℕ, zero, suc, ◌-◌, ◌/◌, ℤ, List, [], ◌∷◌, ◌++◌, length, map, take, drop, codes, slice_get, unwrap_or}
use Rattle.std.specs.Fmt.{decimal, signed_decimal}
use Rattle.std.specs.List.{flat_map, join_with_byte}
use Rattle.shapes_core.specs.declared.area.Declared.{Declared}
use Rattle.shapes_core.specs.Shape.{total}

-- how many values a row of the last axis has: 1 for a scalar
abbrev pub row_length : List ℕ → ℕ
row_length shape = unwrap_or (slice_get shape (length shape - 1)) 1

-- how many rows there are: none where there is no value
abbrev pub row_count : List ℕ → ℕ
row_count shape = total shape / row_length shape

-- the line of a row: its values, a blank between two
abbrev pub row_line : List ℤ → List ℕ
row_line values = join_with_byte 32 (map signed_decimal values) ++ codes "\n"

-- the lines of so many rows of this length
abbrev pub row_lines : ℕ → ℕ → List ℤ → List ℕ
row_lines zero width values = []
row_lines (suc count) width values = row_line (take width values) ++ row_lines count width (drop width values)

abbrev pub head_line : Declared → List ℕ
head_line array = codes "array " ++ (array.name ++ (flat_map (λ extent. 32 ∷ decimal extent) array.shape ++ codes "\n"))

abbrev pub printed : Declared → List ℤ → List ℕ
printed array values = head_line array ++ row_lines (row_count array.shape) (row_length array.shape) values
