-- Instructions that fit, one behind the other.
use Rattle.std.proofs.Common.{◌≡◌, ℕ, ◌+◌, List, [], ◌∷◌, ◌++◌, length, add_assoc, add-zero, one-add}
use Rattle.rv_line.specs.Fits.{FitLines, FitsLine}
use Rattle.rv_line.specs.declared.line.Line.{Line}

-- instructions that stand one behind the other
pub FitLines-append : (count at : ℕ) (xs ys : List Line) → FitLines count at xs → FitLines count (at + length xs) ys → FitLines count at (xs ++ ys)
FitLines-append count at [] ys first second = rw (add-zero at) at second
FitLines-append count at (x ∷ xs) ys first second =
    (first.0, FitLines-append count (at + 1) xs ys first.1 (rw (add_assoc at 1 (length xs), one-add (length xs)) second))

-- one more instruction
pub FitLines_push : (count at number : ℕ) (xs : List Line) (y : Line) → FitLines count at xs → at + length xs ≡ number → FitsLine count number y → FitLines count at (xs ++ y ∷ [])
FitLines_push count at number xs y first is second = FitLines-append count at xs (y ∷ []) first (rw is (second, tt))
