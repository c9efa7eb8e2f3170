-- Folds. This project's own, after the reductions of Mullin, A Mathematics of Arrays (1988), which go from the left here.
use Rattle.std.specs.Prelude.{◌≡◌, ℕ, suc, ℤ, pos, List, [], ◌∷◌, ◌++◌, map, slice_index, slice_set}
use Rattle.std.specs.List.{fold, insert, range_with_len}
use Rattle.std.specs.declared.option.Option.{Option}
use Rattle.std.specs.declared.option.Option.TheVariants.{None, Some}
use Rattle.std.proofs.Common.{refl}
use Rattle.moa_tree.specs.declared.operator.Op.{Op}
use Rattle.moa_tree.specs.Operators.{apply, identity}

-- the value of a fold over no element: the identity of its operator
abbrev pub none_folded : Option ℤ → ℤ
none_folded None = pos 0
none_folded (Some value) = value

-- the numbers folded by the operator, from the left
abbrev pub fold_of : Op → List ℤ → ℤ
fold_of op numbers = fold (apply op) (none_folded (identity op)) numbers

-- the fold of f 0, f 1 and so on, `count` numbers in all
abbrev pub fold_below : Op → ℕ → (ℕ → ℤ) → ℤ
fold_below op count f = fold_of op (map f (range_with_len 0 count))

-- the fold along one axis of an array of this shape, given by its value at an index vector
abbrev pub fold_along : Op → ℕ → List ℕ → (List ℕ → ℤ) → List ℕ → ℤ
fold_along op axis shape f index = fold_below op (slice_index shape axis) (λ k. f (insert index axis k))

-- the same up to and with the place of an index vector of the array on that axis
abbrev pub fold_until : Op → ℕ → (List ℕ → ℤ) → List ℕ → ℤ
fold_until op axis f index = fold_below op (suc (slice_index index axis)) (λ k. f (slice_set index axis k))

-- a fold over no element gives the identity
pub fold-none : (op : Op) → fold_of op [] ≡ none_folded (identity op)
fold-none op = refl

fold-more : {A B : Type 0} (f : B → A → B) (b : B) (front : List A) (last : A) → fold f b (front ++ last ∷ []) ≡ f (fold f b front) last
fold-more f b [] last = refl
fold-more f b (x ∷ front) last = fold-more f (f b x) front last

-- and a fold over one element more applies the operator to the fold so far and that element
pub fold-last : (op : Op) (numbers : List ℤ) (last : ℤ) → fold_of op (numbers ++ last ∷ []) ≡ apply op (fold_of op numbers) last
fold-last op numbers last = fold-more (apply op) (none_folded (identity op)) numbers last
