-- Strides, one behind the other. This project's own.
use Rattle.std.specs.Prelude.{ℕ, ℤ, pos, Bool, true, false, List, [], ◌∷◌, ◌++◌, codes, if◌then◌else◌}
use Rattle.std.specs.Ordering.{int_eq}
use Rattle.form_text.specs.Spelling.{stride_text}

-- what stands before the first stride, and before a later one
abbrev pub lead : Bool → List ℕ
lead true = codes "; "
lead false = codes " "

-- the strides that are not 0, behind a start or behind others
abbrev pub rest_text : Bool → List (ℕ × ℤ) → List ℕ
rest_text first [] = []
rest_text first (stride ∷ others) =
    if int_eq stride.1 (pos 0) then rest_text first others else lead first ++ (stride_text stride ++ rest_text false others)
