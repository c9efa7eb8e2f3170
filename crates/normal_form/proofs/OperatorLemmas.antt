-- What is made of operators gives the arrays that they do.
use Rattle.std.specs.Prelude.{ℕ, ◌<◌, ℤ, pos, List, [], ◌∷◌, length, slice_index, slice_index_or}
use Rattle.std.proofs.Common.{ap, le_refl, le_trans, arith}
use Rattle.shapes_core.specs.Gamma.{IsIndex, gamma}
use Rattle.moa_tree.specs.declared.operator.Op.{Op}
use Rattle.moa_tree.specs.declared.operator.Unary.{Unary}
use Rattle.moa_tree.specs.Operators.{apply, apply_unary}
use Rattle.normal_form.specs.declared.entry.Entry.{Entry}
use Rattle.normal_form.specs.declared.entry.Entry.TheVariants.{At}
use Rattle.normal_form.specs.Formers.{Former, just, on_both, on_one}
use Rattle.normal_form.specs.Forms.{Index, Get, Un, Bin}
use Rattle.normal_form.specs.Meaning.{Store}
use Rattle.normal_form.specs.Stands.{Moves, Represents}
use Rattle.normal_form.proofs.FreshLemmas.{below-later, first-number, places-of}
use Rattle.normal_form.proofs.GivesLemmas.{gives-number, gives-one, gives-two}

index-full : (n : ℕ) (index : List ℕ) → IsIndex index (n ∷ []) → 0 < length index
index-full n [] inside = absurd inside
index-full n (i ∷ index) inside = omega arith

pub number-represents : (s : Store) (n : ℕ)
    → Represents s (λ entries. just (Index (slice_index_or entries 0 (At (pos 0))))) (n ∷ []) (λ index. pos (slice_index index 0))
number-represents s n = record {
  grows = λ entries next. le_refl next;
  gives = λ m entries next index below stand inside. gives-number s m (slice_index_or entries 0 (At (pos 0))) (slice_index index 0)
      (first-number m entries index (index-full n index inside) stand);
}

pub stored-represents : (s : Store) (area : ℕ) (shape : List ℕ)
    → Represents s (λ entries. just (Get (record { area = area; shape = shape; at = entries }))) shape (λ index. s area (gamma index shape))
stored-represents s area shape = record {
  grows = λ entries next. le_refl next;
  gives = λ m entries next index below stand inside. record {
    fine = record { index = index; stand = stand; within = inside };
    means = ap (λ places. s area (gamma places shape)) (places-of m entries index stand);
  };
}

pub one-represents : (s : Store) (op : Unary) (of : Former) (shape : List ℕ) (at : List ℕ → ℤ) → Represents s of shape at
    → Represents s (λ entries. on_one (Un op) (of entries)) shape (λ index. apply_unary op (at index))
one-represents s op of shape at h = record {
  grows = h.grows;
  gives = λ m entries next index below stand inside.
      gives-one s m op (of entries next).0 (at index) (h.gives m entries next index below stand inside);
}

pub moved-represents : (s : Store) (of : Former) (shape operand : List ℕ) (at : List ℕ → ℤ)
    (move : List Entry → List Entry) (places : List ℕ → List ℕ) → Represents s of operand at → Moves move places shape operand
    → Represents s (λ entries. of (move entries)) shape (λ index. at (places index))
moved-represents s of shape operand at move places h moves = record {
  grows = λ entries next. h.grows (move entries) next;
  gives = λ m entries next index below stand inside. h.gives m (move entries) next (places index)
      (moves.below entries next below) (moves.stands m entries index stand inside) (moves.within index inside);
}

pub two-represents : (s : Store) (op : Op) (left right : Former) (shape : List ℕ) (at over : List ℕ → ℤ)
    → Represents s left shape at → Represents s right shape over
    → Represents s (λ entries. on_both (Bin op) (left entries) (right entries)) shape (λ index. apply op (at index) (over index))
two-represents s op left right shape at over h k = record {
  grows = λ entries next. le_trans (h.grows entries next) (k.grows entries (left entries next).1);
  gives = λ m entries next index below stand inside.
      let later = (left entries next).1 in
      gives-two s m op (left entries next).0 (right entries later).0 (at index) (over index)
      (h.gives m entries next index below stand inside)
      (k.gives m entries later index (below-later next later entries (h.grows entries next) below) stand inside);
}
