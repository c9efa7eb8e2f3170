-- What the rules of an accepted expression's operator say of entries within its shape: what is made of them is within its operands' shapes.
-- This project's own.
use Rattle.std.specs.Prelude.{◌≡◌, ℕ, ◌+◌, ◌-◌, ◌<◌, ℤ, pos, List, [], ◌∷◌, ◌++◌, drop, length, map, reverse, slice_index, slice_index_or, take}
use Rattle.std.specs.List.{insert, remove}
use Rattle.shapes_core.specs.Limits.{greatest_extent}
use Rattle.shapes_core.specs.Shape.{IsShape}
use Rattle.moa_tree.specs.declared.operator.Op.{Op}
use Rattle.moa_tree.specs.Axes.{but_last, common, each_extent, each_place, naturals, on_axis, own_index, remaining, restored, selected, taken}
use Rattle.moa_tree.specs.Expr.{Expr, Two, Psi, Take, Drop, Reverse, Transpose, Permute, Cat, Outer, Inner, Reduce}
use Rattle.moa_tree.specs.ShapeOf.{Shapes, shape_of}
use Rattle.normal_form.specs.declared.entry.Entry.TheVariants.{At}
use Rattle.normal_form.specs.Keeps.{MovesWithin}
use Rattle.normal_form.specs.Moves.{mirrored_entry, remaining_entry, taken_entry}
use Rattle.psi_rules.specs.Operands.{IsAccepted}

-- arrays of the same axes behind the first one, which they have
pub record AreAlike (first second : List ℕ) : Type 0 where
  pub some : 0 < length first
  pub more : 0 < length second
  pub same : drop 1 first ≡ drop 1 second

-- an accepted expression has a shape, and entries of it lead to entries of its operands, whose constants grow by an extent at most
pub record OperandsWithin (shapes : Shapes) (room : ℕ) : Type 0 where
  pub shaped : (expr : Expr) → IsAccepted shapes expr → IsShape (shape_of shapes expr)
  pub two : (op : Op) (left right : Expr) → IsAccepted shapes (Two op left right)
      → let s = shape_of shapes left in let t = shape_of shapes right in
      MovesWithin room room (λ entries. own_index s entries) (common s t) s
      × MovesWithin room room (λ entries. own_index t entries) (common s t) t
  pub psi : (list : List ℤ) (of : Expr) → IsAccepted shapes (Psi list of)
      → let s = shape_of shapes of in MovesWithin room room (λ entries. map At list ++ entries) (drop (length list) s) s
  pub takes : (list : List ℤ) (of : Expr) → IsAccepted shapes (Take list of)
      → let s = shape_of shapes of in MovesWithin room (room + greatest_extent) (each_place taken_entry list s) (each_extent taken list s) s
  pub drops : (list : List ℤ) (of : Expr) → IsAccepted shapes (Drop list of)
      → let s = shape_of shapes of in MovesWithin room (room + greatest_extent) (each_place remaining_entry list s)
      (each_extent remaining list s) s
  pub reverses : (of : Expr) → IsAccepted shapes (Reverse of)
      → let s = shape_of shapes of in MovesWithin room (room + greatest_extent) (on_axis 0 mirrored_entry s) s s
  pub transposes : (of : Expr) → IsAccepted shapes (Transpose of)
      → let s = shape_of shapes of in MovesWithin room room (λ entries. reverse entries) (reverse s) s
  pub permutes : (list : List ℤ) (of : Expr) → IsAccepted shapes (Permute list of)
      → let s = shape_of shapes of in MovesWithin room room (restored (At (pos 0)) (naturals list)) (selected (naturals list) s) s
  pub cat : (left right : Expr) → IsAccepted shapes (Cat left right) → AreAlike (shape_of shapes left) (shape_of shapes right)
  pub outer : (op : Op) (left right : Expr) → IsAccepted shapes (Outer op left right)
      → let s = shape_of shapes left in let t = shape_of shapes right in
      MovesWithin room room (λ entries. take (length s) entries) (s ++ t) s
      × MovesWithin room room (λ entries. drop (length s) entries) (s ++ t) t
  pub inner : (fold op : Op) (left right : Expr) → IsAccepted shapes (Inner fold op left right)
      → let s = shape_of shapes left in let t = shape_of shapes right in let axes = length s - 1 in let whole = slice_index s axes ∷
      (but_last s ++ drop 1 t) in
      (slice_index s axes ≡ slice_index t 0) × (0 < length t)
      × MovesWithin room room (λ entries. take axes (drop 1 entries) ++ slice_index_or entries 0 (At (pos 0)) ∷ []) whole s
      × MovesWithin room room (λ entries. slice_index_or entries 0 (At (pos 0)) ∷ drop axes (drop 1 entries)) whole t
  pub reduces : (fold : Op) (of : Expr) → IsAccepted shapes (Reduce fold of)
      → let s = shape_of shapes of in
      (0 < length s)
      × MovesWithin room room (λ entries. insert (drop 1 entries) 0 (slice_index_or entries 0 (At (pos 0))))
      (slice_index s 0 ∷ remove s 0) s
