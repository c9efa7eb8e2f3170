-- What the rules of an accepted expression's operator say of its operands. This project's own.
use Rattle.std.specs.Prelude.{◌≡◌, ℕ, ◌+◌, ◌-◌, ◌<◌, true, false, ℤ, pos, List, [], ◌∷◌, ◌++◌, drop, length, map, nat_lt, reverse, slice_index, slice_index_or, take, Ok}
use Rattle.std.specs.List.{insert, remove}
use Rattle.shapes_core.specs.Gamma.{IsIndex}
use Rattle.shapes_core.specs.Shape.{total}
use Rattle.moa_tree.specs.declared.operator.Op.{Op}
use Rattle.moa_tree.specs.declared.operator.Unary.{Unary}
use Rattle.moa_tree.specs.Axes.{behind, but_last, common, each_extent, each_place, joined, mirrored, naturals, on_axis, own_index, remaining, remaining_from, restored, selected, taken, taken_from}
use Rattle.moa_tree.specs.Expr.{Expr, One, Two, Psi, Take, Drop, Reverse, Rotate, Transpose, Permute, Cat, Reshape, Ravel, Outer, Inner, Reduce, Scan}
use Rattle.moa_tree.specs.ShapeOf.{Shapes, shape_of}
use Rattle.shape_check.specs.Verdict.{verdict}
use Rattle.normal_form.specs.declared.entry.Entry.TheVariants.{At}
use Rattle.normal_form.specs.Moves.{mirrored_entry, remaining_entry, taken_entry}
use Rattle.normal_form.specs.Stands.{Moves}

-- an expression that is accepted
abbrev pub IsAccepted : Shapes → Expr → Type 0
IsAccepted shapes expr = verdict shapes 0 expr ≡ Ok (shape_of shapes expr)

-- where two arrays are joined, and from which of them each element comes
pub record IsJoin (first second shape : List ℕ) : Type 0 where
  pub some : 0 < length shape
  pub extent : slice_index shape 0 ≡ slice_index first 0 + slice_index second 0
  pub front : (index : List ℕ) → IsIndex index shape → nat_lt (slice_index index 0) (slice_index first 0) ≡ true → IsIndex index first
  pub back : (index : List ℕ) → IsIndex index shape → nat_lt (slice_index index 0) (slice_index first 0) ≡ false
      → IsIndex (on_axis 0 behind first index) second

-- the operands of an accepted expression are accepted, and entries of its shape lead to entries of theirs, as its index vectors do
pub record OperandsMove (shapes : Shapes) : Type 0 where
  pub one : (op : Unary) (of : Expr) → IsAccepted shapes (One op of) → IsAccepted shapes of
  pub two : (op : Op) (left right : Expr) → IsAccepted shapes (Two op left right)
      → let s = shape_of shapes left in let t = shape_of shapes right in
      IsAccepted shapes left × IsAccepted shapes right
      × Moves (λ entries. own_index s entries) (λ index. own_index s index) (common s t) s
      × Moves (λ entries. own_index t entries) (λ index. own_index t index) (common s t) t
  pub psi : (list : List ℤ) (of : Expr) → IsAccepted shapes (Psi list of)
      → IsAccepted shapes of
      × Moves (λ entries. map At list ++ entries) (λ index. naturals list ++ index) (drop (length list) (shape_of shapes of)) (shape_of shapes of)
  pub takes : (list : List ℤ) (of : Expr) → IsAccepted shapes (Take list of)
      → let s = shape_of shapes of in
      IsAccepted shapes of × Moves (each_place taken_entry list s) (each_place taken_from list s) (each_extent taken list s) s
  pub drops : (list : List ℤ) (of : Expr) → IsAccepted shapes (Drop list of)
      → let s = shape_of shapes of in
      IsAccepted shapes of × Moves (each_place remaining_entry list s) (each_place remaining_from list s) (each_extent remaining list s) s
  pub reverses : (of : Expr) → IsAccepted shapes (Reverse of)
      → let s = shape_of shapes of in IsAccepted shapes of × Moves (on_axis 0 mirrored_entry s) (on_axis 0 mirrored s) s s
  pub rotates : (by : ℤ) (of : Expr) → IsAccepted shapes (Rotate by of) → IsAccepted shapes of × (0 < length (shape_of shapes of))
  pub transposes : (of : Expr) → IsAccepted shapes (Transpose of)
      → IsAccepted shapes of × Moves (λ entries. reverse entries) (λ index. reverse index) (reverse (shape_of shapes of)) (shape_of shapes of)
  pub permutes : (list : List ℤ) (of : Expr) → IsAccepted shapes (Permute list of)
      → let s = shape_of shapes of in
      IsAccepted shapes of × Moves (restored (At (pos 0)) (naturals list)) (restored 0 (naturals list)) (selected (naturals list) s) s
  pub cat : (left right : Expr) → IsAccepted shapes (Cat left right)
      → let s = shape_of shapes left in let t = shape_of shapes right in
      IsAccepted shapes left × IsAccepted shapes right × IsJoin s t (joined 0 s t)
  pub reshapes : (list : List ℤ) (of : Expr) → IsAccepted shapes (Reshape list of)
      → IsAccepted shapes of × (total (naturals list) ≡ total (shape_of shapes of))
  pub ravels : (of : Expr) → IsAccepted shapes (Ravel of) → IsAccepted shapes of
  pub outer : (op : Op) (left right : Expr) → IsAccepted shapes (Outer op left right)
      → let s = shape_of shapes left in let t = shape_of shapes right in
      IsAccepted shapes left × IsAccepted shapes right
      × Moves (λ entries. take (length s) entries) (λ index. take (length s) index) (s ++ t) s
      × Moves (λ entries. drop (length s) entries) (λ index. drop (length s) index) (s ++ t) t
  pub inner : (fold op : Op) (left right : Expr) → IsAccepted shapes (Inner fold op left right)
      → let s = shape_of shapes left in let t = shape_of shapes right in let axes = length s - 1 in
      IsAccepted shapes left × IsAccepted shapes right
      × Moves (λ entries. take axes (drop 1 entries) ++ slice_index_or entries 0 (At (pos 0)) ∷ [])
      (λ index. take axes (drop 1 index) ++ slice_index index 0 ∷ []) (slice_index s axes ∷ (but_last s ++ drop 1 t)) s
      × Moves (λ entries. slice_index_or entries 0 (At (pos 0)) ∷ drop axes (drop 1 entries))
      (λ index. slice_index index 0 ∷ drop axes (drop 1 index)) (slice_index s axes ∷ (but_last s ++ drop 1 t)) t
  pub reduces : (fold : Op) (of : Expr) → IsAccepted shapes (Reduce fold of)
      → let s = shape_of shapes of in
      IsAccepted shapes of
      × Moves (λ entries. insert (drop 1 entries) 0 (slice_index_or entries 0 (At (pos 0)))) (λ index. insert (drop 1 index) 0 (slice_index index 0))
      (slice_index s 0 ∷ remove s 0) s
  pub scans : (fold : Op) (of : Expr) → IsAccepted shapes (Scan fold of) → IsAccepted shapes of
