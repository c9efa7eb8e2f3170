-- What a fold over the items of an axis in front keeps.
use Rattle.std.specs.Prelude.{ℕ, zero, suc, ◌<◌, ◌≤◌, pos, List, ◌∷◌, drop, slice_index_or}
use Rattle.std.proofs.Common.{arith, le_refl}
use Rattle.shapes_core.specs.Limits.{greatest_extent}
use Rattle.moa_tree.specs.declared.operator.Op.{Op}
use Rattle.normal_form.specs.declared.entry.Entry.{Entry}
use Rattle.normal_form.specs.declared.entry.Entry.TheVariants.{At}
use Rattle.normal_form.specs.Cutting.{Scope}
use Rattle.normal_form.specs.Formers.{Making, folding}
use Rattle.normal_form.specs.Keeps.{AreEarlier, AreWithin, IsKeptIn, Keeps}
use Rattle.normal_form.specs.Kept.{IsFoldOperator}
use Rattle.normal_form.specs.Moves.{variable}
use Rattle.normal_form.proofs.KeepLemmas.{earlier-fresh, earlier-next, entries-extend, extends-next, variable-within}

-- what is made of each item keeps what an array with an axis of this extent in front does
abbrev pub KeptItems : ℕ → ℕ → (List Entry → Entry → Making) → ℕ → List ℕ → Type 0
KeptItems own room item n shape = Keeps own room (λ entries. item (drop 1 entries) (slice_index_or entries 0 (At (pos 0)))) (n ∷ shape)

folding-rises : (own room : ℕ) (op : Op) (n : ℕ) (item : List Entry → Entry → Making) (shape : List ℕ) → KeptItems own room item n shape
    → (entries : List Entry) (next : ℕ) → next ≤ (folding op n (item entries) next).1
folding-rises own room op zero item shape h entries next = le_refl next
folding-rises own room op (suc n) item shape h entries next = omega (arith, h.grows (variable next ∷ entries) (suc next))

folding-keeps : (own room : ℕ) (op : Op) (n : ℕ) (item : List Entry → Entry → Making) (shape : List ℕ)
    → IsFoldOperator op → n ≤ greatest_extent → KeptItems own room item n shape
    → (scope : Scope) (next : ℕ) (entries : List Entry) → AreEarlier next scope → AreWithin room scope entries shape
    → IsKeptIn own scope (folding op n (item entries) next).0
folding-keeps own room op zero item shape folds least h scope next entries earlier within = record { kept = tt; varying = tt; roomy = tt }
folding-keeps own room op (suc n) item shape folds least h scope next entries earlier within =
    let some : 0 < suc n = omega arith in
    let made = h.keeps ((next, 0) ∷ scope) (suc next) (variable next ∷ entries) (earlier-next next 0 scope earlier) (
      variable-within room next 0 scope (suc n) some (omega arith),
      entries-extend room scope ((next, 0) ∷ scope) entries shape (extends-next next 0 scope earlier) within,
    ) in
    record {
      kept = (folds, (some, (least, (earlier-fresh next scope earlier, made.kept))));
      varying = made.varying;
      roomy = made.roomy;
    }

pub fold-keeps : (own room : ℕ) (op : Op) (n : ℕ) (item : List Entry → Entry → Making) (shape : List ℕ)
    → IsFoldOperator op → n ≤ greatest_extent → KeptItems own room item n shape
    → Keeps own room (λ entries. folding op n (item entries)) shape
fold-keeps own room op n item shape folds least h = record {
  grows = folding-rises own room op n item shape h;
  keeps = folding-keeps own room op n item shape folds least h;
}
