-- The lines of a report, one after another.
use Rattle.std.proofs.Common.{◌≡◌, ℕ, zero, suc, ◌+◌, ◌≤◌, List, [], ◌∷◌, ◌++◌, length, take, Some, slice_get, refl, ap, arith}
use Rattle.std.proofs.lemmas.Grind.{common_steps}
use Rattle.std.specs.List.{flat_map, zip}
use Rattle.moa_tree.specs.Expr.{Item}
use Rattle.moa_tree.specs.ShapeOf.{Shapes}
use Rattle.shape_check.specs.Layout.{gathered, shape_of_item, shapes_after, statement_shapes}

-- one pair more
pub pair-more : {X Y Z : Type 0} (f : X × Y → List Z) (xs : List X) (ys : List Y) (n : ℕ) (x : X) (y : Y) → slice_get xs n ≡ Some x → slice_get ys n ≡ Some y → flat_map f (take (n + 1) (zip xs ys)) ≡ flat_map f (take n (zip xs ys)) ++ f (x, y)
pair-more f [] ys n x y p q = absurd (cc)
pair-more f (a ∷ xs) [] n x y p q = absurd (cc)
pair-more f (a ∷ xs) (b ∷ ys) zero x y p q = grind (arith, common_steps, p, q)
pair-more f (a ∷ xs) (b ∷ ys) (suc n) x y p q = grind (arith, common_steps, pair-more f xs ys n x y p q)

shapes-len : (shapes : Shapes) (items : List Item) → length (gathered (λ s item. shape_of_item s item ∷ []) shapes items) ≡ length items
shapes-len shapes [] = refl
shapes-len shapes (item ∷ items) = ap suc (shapes-len (shapes_after shapes item) items)

-- each statement has a shape
pub statement_shapes-len : (items : List Item) → length (statement_shapes items) ≡ length items
statement_shapes-len items = shapes-len [] items

-- all pairs
pub pairs-all : {X Y : Type 0} (xs : List X) (ys : List Y) (n : ℕ) → length ys ≡ length xs → length xs ≤ n → take n (zip xs ys) ≡ zip xs ys
pairs-all [] ys n e h = grind (arith, common_steps, e, h)
pairs-all (x ∷ xs) [] n e h = absurd (omega (arith, e))
pairs-all (x ∷ xs) (y ∷ ys) zero e h = absurd (omega (arith, h))
pairs-all (x ∷ xs) (y ∷ ys) (suc n) e h = ap (λ t. (x, y) ∷ t) (pairs-all xs ys n (omega (arith, e)) (omega (arith, h)))
