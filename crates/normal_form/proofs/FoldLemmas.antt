-- A fold over the items of an axis in front.
use Rattle.std.specs.Prelude.{◌≡◌, ℕ, zero, suc, ◌+◌, ◌-◌, ◌<◌, ◌≤◌, ℤ, pos, List, ◌∷◌, drop, slice_index, slice_index_or}
use Rattle.std.proofs.Common.{refl, ap, ap₂, subst, ◌∙◌, arith, le_refl}
use Rattle.shapes_core.specs.Gamma.{IsIndex}
use Rattle.moa_tree.specs.declared.operator.Op.{Op}
use Rattle.moa_tree.specs.Folds.{fold_below}
use Rattle.normal_form.specs.declared.entry.Entry.{Entry}
use Rattle.normal_form.specs.declared.entry.Entry.TheVariants.{At}
use Rattle.normal_form.specs.Assignments.{Assignment, bound}
use Rattle.normal_form.specs.Formers.{Making, folding}
use Rattle.normal_form.specs.Meaning.{Store}
use Rattle.normal_form.specs.Moves.{variable}
use Rattle.normal_form.specs.Stands.{AreBelow, Gives, Represents, StandFor}
use Rattle.normal_form.proofs.FreshLemmas.{below-later, bound-agrees, bound-number, stand-agree}
use Rattle.normal_form.proofs.GivesLemmas.{fold-same, gives-fold}

-- what is made of each item gives the items as an array with an axis of this extent in front
abbrev pub Items : Store → (List Entry → Entry → Making) → ℕ → List ℕ → (List ℕ → ℕ → ℤ) → Type 0
Items s item n shape at = Represents s (λ entries. item (drop 1 entries) (slice_index_or entries 0 (At (pos 0)))) (n ∷ shape)
    (λ index. at (drop 1 index) (slice_index index 0))

folding-grows : (s : Store) (op : Op) (n : ℕ) (item : List Entry → Entry → Making) (shape : List ℕ) (at : List ℕ → ℕ → ℤ)
    → Items s item n shape at
    → (entries : List Entry) (next : ℕ) → next ≤ (folding op n (item entries) next).1
folding-grows s op zero item shape at h entries next = le_refl next
folding-grows s op (suc n) item shape at h entries next = omega (arith, h.grows (variable next ∷ entries) (suc next))

-- the form of an item, at the next variable
item-gives : (s : Store) (n : ℕ) (item : List Entry → Entry → Making) (shape : List ℕ) (at : List ℕ → ℕ → ℤ)
    → Items s item n shape at
    → (m : Assignment) (entries : List Entry) (next : ℕ) (index : List ℕ)
    → AreBelow next entries → StandFor m entries index → IsIndex index shape
    → (k : ℕ) → k < n → Gives s (bound m next k) (item entries (variable next) (suc next)).0 (at index k)
item-gives s n item shape at h m entries next index below stand inside k least =
    let other = bound m next k in
    h.gives other (variable next ∷ entries) (suc next) (k ∷ index)
    (omega arith, below-later next (suc next) entries (omega arith) below)
    (ap₂ (λ front rest. front ∷ rest) (bound-number m next k) (stand-agree next m other entries index (bound-agrees m next k) below stand))
    (least, inside)

folding-gives : (s : Store) (op : Op) (n : ℕ) (item : List Entry → Entry → Making) (shape : List ℕ) (at : List ℕ → ℕ → ℤ)
    → Items s item n shape at
    → (m : Assignment) (entries : List Entry) (next : ℕ) (index : List ℕ)
    → AreBelow next entries → StandFor m entries index → IsIndex index shape
    → Gives s m (folding op n (item entries) next).0 (fold_below op n (at index))
folding-gives s op zero item shape at h m entries next index below stand inside = record { fine = tt; means = refl }
folding-gives s op (suc n) item shape at h m entries next index below stand inside =
    subst (Gives s m (folding op (suc n) (item entries) next).0)
    (ap (λ count. fold_below op count (λ k. at index (0 + k))) (let e : suc n - 0 ≡ suc n = omega arith in e)
    ∙ fold-same op (suc n) (λ k. at index (0 + k)) (at index) (λ k least. ap (at index) (let e : 0 + k ≡ k = omega arith in e)))
    (gives-fold s m op next 0 (suc n) (item entries (variable next) (suc next)).0 (at index)
    (λ k least high. item-gives s (suc n) item shape at h m entries next index below stand inside k high))

pub fold-represents : (s : Store) (op : Op) (n : ℕ) (item : List Entry → Entry → Making) (shape : List ℕ) (at : List ℕ → ℕ → ℤ)
    → Items s item n shape at
    → Represents s (λ entries. folding op n (item entries)) shape (λ index. fold_below op n (at index))
fold-represents s op n item shape at h = record {
  grows = folding-grows s op n item shape at h;
  gives = folding-gives s op n item shape at h;
}
