-- The laws of formers over one store, as one record; and what the rules of joins and turns say.
use Rattle.std.specs.Prelude.{◌≡◌, ℕ, ◌+◌, ◌<◌, true, false, ℤ, pos, List, [], ◌∷◌, drop, length, nat_lt, not, slice_index, slice_index_or}
use Rattle.std.proofs.Common.{refl, arith}
use Rattle.std.proofs.lemmas.Bool.{false≢true}
use Rattle.shapes_core.specs.Gamma.{IsIndex, gamma, ungamma}
use Rattle.shapes_core.specs.Shape.{total}
use Rattle.moa_tree.specs.declared.operator.Op.{Op}
use Rattle.moa_tree.specs.declared.operator.Unary.{Unary}
use Rattle.moa_tree.specs.Axes.{behind, joined, on_axis, turned}
use Rattle.moa_tree.specs.Folds.{fold_below}
use Rattle.moa_tree.specs.Operators.{apply, apply_unary}
use Rattle.moa_tree.specs.Values.{either_part}
use Rattle.shape_check.specs.Rules.{is_scalar}
use Rattle.normal_form.specs.declared.entry.Entry.{Entry}
use Rattle.normal_form.specs.declared.entry.Entry.TheVariants.{At}
use Rattle.normal_form.specs.Formers.{Former, Making, folding, joining, just, on_both, on_one, reshaping, turning}
use Rattle.normal_form.specs.Forms.{Lit, Index, Get, Un, Bin}
use Rattle.normal_form.specs.Meaning.{Store}
use Rattle.normal_form.specs.Moves.{behind_entry}
use Rattle.normal_form.specs.Stands.{Moves, Represents}
use Rattle.psi_rules.specs.Operands.{IsJoin}

-- what formers give over a store
pub record FormerLaws (s : Store) : Type 0 where
  pub constant : (value : ℤ) → Represents s (λ entries. just (Lit value)) [] (λ index. value)
  pub numbers : (n : ℕ)
      → Represents s (λ entries. just (Index (slice_index_or entries 0 (At (pos 0))))) (n ∷ []) (λ index. pos (slice_index index 0))
  pub stored : (area : ℕ) (shape : List ℕ)
      → Represents s (λ entries. just (Get (record { area = area; shape = shape; at = entries }))) shape (λ index. s area (gamma index shape))
  pub one : (op : Unary) (of : Former) (shape : List ℕ) (at : List ℕ → ℤ)
      → Represents s of shape at → Represents s (λ entries. on_one (Un op) (of entries)) shape (λ index. apply_unary op (at index))
  pub moved : (of : Former) (shape operand : List ℕ) (at : List ℕ → ℤ) (move : List Entry → List Entry) (places : List ℕ → List ℕ)
      → Represents s of operand at → Moves move places shape operand
      → Represents s (λ entries. of (move entries)) shape (λ index. at (places index))
  pub two : (op : Op) (left right : Former) (shape : List ℕ) (at over : List ℕ → ℤ) → Represents s left shape at
      → Represents s right shape over
      → Represents s (λ entries. on_both (Bin op) (left entries) (right entries)) shape (λ index. apply op (at index) (over index))
  pub turns : (by : ℤ) (of : Former) (shape : List ℕ) (at : List ℕ → ℤ) → 0 < length shape → Represents s of shape at
      → Represents s
      (λ entries. turning (turned by (slice_index shape 0) 0) (slice_index shape 0) (slice_index_or entries 0 (At (pos 0)))
      (λ entry. of (on_axis 0 (λ extent old. entry) shape entries)))
      shape (λ index. at (on_axis 0 (turned by) shape index))
  pub joins : (left right : Former) (shape first second : List ℕ) (at over : List ℕ → ℤ)
      → 0 < length shape → slice_index shape 0 ≡ slice_index first 0 + slice_index second 0
      → ((index : List ℕ) → IsIndex index shape → nat_lt (slice_index index 0) (slice_index first 0) ≡ true → IsIndex index first)
      → ((index : List ℕ) → IsIndex index shape → nat_lt (slice_index index 0) (slice_index first 0) ≡ false
      → IsIndex (on_axis 0 behind first index) second)
      → Represents s left first at → Represents s right second over
      → Represents s
      (λ entries. joining (slice_index first 0) (slice_index second 0) (slice_index_or entries 0 (At (pos 0)))
      (left entries) (right (on_axis 0 behind_entry first entries)))
      shape (either_part 0 first at over)
  pub folds : (op : Op) (n : ℕ) (item : List Entry → Entry → Making) (shape : List ℕ) (at : List ℕ → ℕ → ℤ)
      → Represents s (λ entries. item (drop 1 entries) (slice_index_or entries 0 (At (pos 0)))) (n ∷ shape)
      (λ index. at (drop 1 index) (slice_index index 0))
      → Represents s (λ entries. folding op n (item entries)) shape (λ index. fold_below op n (at index))
  pub reshapes : (of : Former) (shape operand : List ℕ) (at : List ℕ → ℤ) → total shape ≡ total operand → Represents s of operand at
      → Represents s (λ entries. reshaping shape operand entries of) shape (λ index. at (ungamma operand (gamma index shape)))

pub some-axis : (shape : List ℕ) → not (is_scalar shape) ≡ true → 0 < length shape
some-axis [] h = absurd (false≢true h)
some-axis (n ∷ shape) h = omega arith

pub join-law : (s t : List ℕ) → not (is_scalar s) ≡ true
    → ((index : List ℕ) → IsIndex index (joined 0 s t) → nat_lt (slice_index index 0) (slice_index s 0) ≡ true → IsIndex index s)
    → ((index : List ℕ) → IsIndex index (joined 0 s t) → nat_lt (slice_index index 0) (slice_index s 0) ≡ false
    → IsIndex (on_axis 0 behind s index) t)
    → IsJoin s t (joined 0 s t)
join-law [] t full front back = absurd (false≢true full)
join-law (n ∷ s) t full front back = record { some = omega arith; extent = refl; front = front; back = back }
