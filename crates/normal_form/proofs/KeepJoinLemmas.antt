-- What a join keeps: a constant chooses its part, and any other entry is one of both.
use Rattle.std.specs.Prelude.{◌≡◌, ℕ, zero, suc, ◌+◌, ◌-◌, ◌<◌, ◌≤◌, Bool, true, false, ℤ, pos, negsuc, ◌+ℤ◌, ◌-ℤ◌, int_lt, List, [], ◌∷◌, slice_index_or, unsigned_abs, if◌then◌else◌}
use Rattle.std.proofs.Common.{refl, subst, sym, arith, le_refl}
use Rattle.std.proofs.lemmas.Bool.{ltb-false, ltb-true}
use Rattle.std.proofs.lemmas.Int.{ints}
use Rattle.shapes_core.specs.Limits.{greatest_extent}
use Rattle.moa_tree.specs.Axes.{on_axis}
use Rattle.normal_form.specs.declared.entry.Entry.{Entry}
use Rattle.normal_form.specs.declared.entry.Entry.TheVariants.{At, Plus, Minus}
use Rattle.normal_form.specs.Cutting.{Scope, carried}
use Rattle.normal_form.specs.Formers.{Former, Making, joining}
use Rattle.normal_form.specs.Keeps.{AreEarlier, AreWithin, IsKeptIn, IsWithin, Keeps}
use Rattle.normal_form.specs.Constants.{greatest_constant}
use Rattle.normal_form.specs.Moves.{behind_entry}
use Rattle.normal_form.proofs.JoinLemmas.{behind-number, joining-grows}
use Rattle.normal_form.proofs.KeepLemmas.{earlier-later, entry-is, entry-roomy, further-entries}

-- ---- entries of the second part

abs-less : (add : ℤ) (n carry room : ℕ) → unsigned_abs add + carry ≤ room → n ≤ greatest_extent
    → unsigned_abs (add +ℤ (pos 0 -ℤ pos n)) + carry ≤ room + greatest_extent
abs-less (pos a) n carry room h least = omega (arith, ints, h, least)
abs-less (negsuc a) n carry room h least = omega (arith, ints, h, least)

constant-behind : (room c n m : ℕ) (scope : Scope) → n ≤ c → c < n + m → IsWithin room scope (behind_entry n (At (pos c))) m
constant-behind room c n m scope least below =
    let inside : c - n < m = omega (arith, least, below) in
    subst (λ z. IsWithin room scope (At z) m) (sym (behind-number n c least)) inside

-- behind no item of the first part
all-behind : (room m : ℕ) (scope : Scope) (entry : Entry) → IsWithin room scope entry m
    → IsWithin (room + greatest_extent) scope (behind_entry 0 entry) m
all-behind room m scope (At (pos c)) h = constant-behind (room + greatest_extent) c 0 m scope (omega arith) (omega (arith, h))
all-behind room m scope (At (negsuc c)) h = absurd h
all-behind room m scope (Plus var add) h = (h.0, h.1, abs-less add 0 (carried scope var) room h.2 (omega arith))
all-behind room m scope (Minus var add) h = (h.0, h.1, abs-less add 0 (carried scope var) room h.2 (omega arith))

-- ---- one of two parts

chosen-keeps : (own : ℕ) (scope : Scope) (test : Bool) (first second : Making) (next : ℕ)
    → (test ≡ true → IsKeptIn own scope (first next).0) → (test ≡ false → IsKeptIn own scope (second next).0)
    → IsKeptIn own scope ((if test then first else second) next).0
chosen-keeps own scope true first second next h k = h refl
chosen-keeps own scope false first second next h k = k refl

-- a part keeps it at an entry of its axis
abbrev pub KeptLater : ℕ → ℕ → Scope → ℕ → Entry → ℕ → Making → Type 0
KeptLater own room scope next entry m second = (later : ℕ) → next ≤ later → IsWithin room scope entry m → IsKeptIn own scope (second later).0

module _ (own room : ℕ) (scope : Scope) (next : ℕ) (first second : Making) (small : room ≤ greatest_constant)
    (grows : next ≤ (first next).1) where
  joining-keeps : (n m : ℕ) (entry : Entry) → n + m ≤ greatest_extent → IsWithin room scope entry (n + m)
      → (IsWithin room scope entry n → IsKeptIn own scope (first next).0)
      → KeptLater own (room + greatest_extent) scope next (behind_entry n entry) m second
      → IsKeptIn own scope (joining n m entry first second next).0
  joining-keeps zero m entry least h one two =
      let e : 0 + m ≡ m = omega arith in
      two next (le_refl next) (all-behind room m scope entry (subst (IsWithin room scope entry) e h))
  joining-keeps (suc n) zero entry least h one two =
      let e : suc n + 0 ≡ suc n = omega arith in one (subst (IsWithin room scope entry) e h)
  joining-keeps (suc n) (suc m) (At (pos c)) least h one two =
      chosen-keeps own scope (int_lt (pos c) (pos (suc n))) first second next
      (λ yes. one (ltb-true c (suc n) yes))
      (λ no. two next (le_refl next) (constant-behind (room + greatest_extent) c (suc n) (suc m) scope (ltb-false c (suc n) no) h))
  joining-keeps (suc n) (suc m) (At (negsuc c)) least h one two = absurd h
  joining-keeps (suc n) (suc m) (Plus var add) least h one two =
      let some : 0 < suc n = omega arith in
      let others : 0 < suc m = omega arith in
      let short : suc n ≤ greatest_extent = omega (arith, least) in
      let here = one (some, h.1, h.2) in
      let behind = two (first next).1 grows (others, h.1, abs-less add (suc n) (carried scope var) room h.2 short) in
      record {
        kept = (entry-is room scope (Plus var add) (suc n + suc m) greatest_extent small least h, ((refl, (some, short)), (here.kept, behind.kept)));
        varying = (tt, (here.varying, behind.varying));
        roomy = (entry-roomy room scope (Plus var add) (suc n + suc m) small h, (here.roomy, behind.roomy));
      }
  joining-keeps (suc n) (suc m) (Minus var add) least h one two =
      let some : 0 < suc n = omega arith in
      let others : 0 < suc m = omega arith in
      let short : suc n ≤ greatest_extent = omega (arith, least) in
      let here = one (some, h.1, h.2) in
      let behind = two (first next).1 grows (others, h.1, abs-less add (suc n) (carried scope var) room h.2 short) in
      record {
        kept = (entry-is room scope (Minus var add) (suc n + suc m) greatest_extent small least h, ((refl, (some, short)), (here.kept, behind.kept)));
        varying = (tt, (here.varying, behind.varying));
        roomy = (entry-roomy room scope (Minus var add) (suc n + suc m) small h, (here.roomy, behind.roomy));
      }

-- ---- the whole

joined-keeps : (own room : ℕ) (left right : Former) (n m : ℕ) (shape : List ℕ) → room ≤ greatest_constant → n + m ≤ greatest_extent
    → Keeps own room left (n ∷ shape) → Keeps own (room + greatest_extent) right (m ∷ shape)
    → (scope : Scope) (next : ℕ) (entries : List Entry) → AreEarlier next scope → AreWithin room scope entries ((n + m) ∷ shape)
    → IsKeptIn own scope (joining n m (slice_index_or entries 0 (At (pos 0))) (left entries)
    (right (on_axis 0 behind_entry (n ∷ shape) entries)) next).0
joined-keeps own room left right n m shape small least h k scope next [] earlier within = absurd within
joined-keeps own room left right n m shape small least h k scope next (entry ∷ entries) earlier within =
    joining-keeps own room scope next (left (entry ∷ entries)) (right (behind_entry n entry ∷ entries)) small
    (h.grows (entry ∷ entries) next)
    n m entry least within.0
    (λ here. h.keeps scope next (entry ∷ entries) earlier (here, within.1))
    (λ later more here. k.keeps scope later (behind_entry n entry ∷ entries) (earlier-later next later scope more earlier)
    (here, further-entries room scope entries shape within.1))

pub join-keeps : (own room : ℕ) (left right : Former) (n m : ℕ) (shape : List ℕ) → room ≤ greatest_constant → n + m ≤ greatest_extent
    → Keeps own room left (n ∷ shape) → Keeps own (room + greatest_extent) right (m ∷ shape)
    → Keeps own room
    (λ entries. joining n m (slice_index_or entries 0 (At (pos 0))) (left entries) (right (on_axis 0 behind_entry (n ∷ shape) entries)))
    ((n + m) ∷ shape)
join-keeps own room left right n m shape small least h k = record {
  grows = λ entries. joining-grows n m (slice_index_or entries 0 (At (pos 0))) (left entries)
      (right (on_axis 0 behind_entry (n ∷ shape) entries)) (h.grows entries) (k.grows (on_axis 0 behind_entry (n ∷ shape) entries));
  keeps = joined-keeps own room left right n m shape small least h k;
}
