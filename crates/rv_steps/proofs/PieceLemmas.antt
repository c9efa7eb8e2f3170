-- The lines of a piece of a program.
use Rattle.std.proofs.Common.{◌≡◌, ℕ, zero, suc, ◌+◌, ◌<◌, subst, List, [], ◌∷◌, ◌++◌, length, Some, take, drop, refl, sym, ap, ◌∙◌, arith, length-append}
use Rattle.std.proofs.lemmas.List.{drop-drop, drop-take, drop_at, take-take, take_at}
use Rattle.std.proofs.Math.Nat.{add-zero, zero-add, suc-add}
use Rattle.std.specs.Prelude.{slice_get}
use Rattle.rv_line.specs.Fits.{FitLines}
use Rattle.rv_line.specs.declared.line.Line.{Line}
use Rattle.rv_steps.specs.Pieces.{StandsAt}

slice_get-take : {X : Type 0} (n : ℕ) (xs : List X) (i : ℕ) → i < n → slice_get (take n xs) i ≡ slice_get xs i
slice_get-take zero xs i below = absurd (omega arith)
slice_get-take (suc n) [] i below = refl
slice_get-take (suc n) (x ∷ xs) zero below = refl
slice_get-take (suc n) (x ∷ xs) (suc i) below = slice_get-take n xs i (omega arith)

slice_get-drop : {X : Type 0} (k : ℕ) (xs : List X) (i : ℕ) → slice_get (drop k xs) i ≡ slice_get xs (k + i)
slice_get-drop zero xs i = rw zero-add refl
slice_get-drop (suc k) [] i = refl
slice_get-drop (suc k) (x ∷ xs) i = rw suc-add (slice_get-drop k xs i)

pub piece-line : (lines : List Line) (k : ℕ) (piece : List Line) (i : ℕ) → StandsAt lines k piece → i < length piece → slice_get lines (k + i) ≡ slice_get piece i
piece-line lines k piece i stands below =
    sym (slice_get-drop k lines i) ∙ sym (slice_get-take (length piece) (drop k lines) i below) ∙ ap (λ (xs : List Line). slice_get xs i) stands

pub piece-first : (lines : List Line) (k : ℕ) (line : Line) (rest : List Line) → StandsAt lines k (line ∷ rest) → slice_get lines k ≡ Some line
piece-first lines k line rest stands = ap (λ (i : ℕ). slice_get lines i) (sym (add-zero k)) ∙ piece-line lines k (line ∷ rest) 0 stands (omega arith)

pub piece-stands : (front piece back : List Line) → StandsAt (front ++ (piece ++ back)) (length front) piece
piece-stands front piece back =
    ap (λ (xs : List Line). take (length piece) xs) (drop_at front (piece ++ back) (length front) refl) ∙ take_at piece back (length piece) refl

-- a piece of two parts
pub piece-front : (lines : List Line) (k : ℕ) (front back : List Line) → StandsAt lines k (front ++ back) → StandsAt lines k front
piece-front lines k front back stands =
    sym (take-take (length front) (length (front ++ back)) (drop k lines) (omega (arith, length-append front back)))
    ∙ ap (λ (xs : List Line). take (length front) xs) stands
    ∙ take_at front back (length front) refl

pub piece-back : (lines : List Line) (k : ℕ) (front back : List Line) → StandsAt lines k (front ++ back) → StandsAt lines (k + length front) back
piece-back lines k front back stands =
    ap (λ (xs : List Line). take (length back) xs) (sym (drop-drop (length front) k lines))
    ∙ sym (drop-take (length front) (length back) (drop k lines))
    ∙ ap (λ (n : ℕ). drop (length front) (take n (drop k lines))) (sym (length-append front back))
    ∙ ap (λ (xs : List Line). drop (length front) xs) stands
    ∙ drop_at front back (length front) refl

-- lines that fit one after another
pub piece-fits : (count at : ℕ) (front back : List Line) → FitLines count at front → FitLines count (at + length front) back → FitLines count at (front ++ back)
piece-fits count at [] back first second = rw add-zero at second
piece-fits count at (line ∷ front) back first second =
    (first.0, piece-fits count (at + 1) front back first.1 (subst (λ (k : ℕ). FitLines count k back) (omega arith) second))
