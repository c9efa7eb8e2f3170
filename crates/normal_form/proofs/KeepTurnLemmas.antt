-- What a turn of the first axis keeps: an entry that is turned is one of the axis.
use Rattle.std.specs.Prelude.{ℕ, zero, suc, ◌+◌, ◌<◌, ◌≤◌, ℤ, pos, negsuc, ◌+ℤ◌, List, [], ◌∷◌, slice_index_or}
use Rattle.std.specs.Int.{int_rem_euclid}
use Rattle.std.proofs.Common.{arith, le_refl, mod-lt}
use Rattle.shapes_core.specs.Limits.{greatest_extent}
use Rattle.moa_tree.specs.Axes.{on_axis, turned}
use Rattle.normal_form.specs.declared.entry.Entry.{Entry}
use Rattle.normal_form.specs.declared.entry.Entry.TheVariants.{At, Plus, Minus}
use Rattle.normal_form.specs.declared.term.Bind.TheVariants.{Turn}
use Rattle.normal_form.specs.Cutting.{IsVariable, Scope}
use Rattle.normal_form.specs.Formers.{Former, turning}
use Rattle.normal_form.specs.Keeps.{AreEarlier, AreWithin, IsKeptIn, IsWithin, Keeps}
use Rattle.normal_form.specs.Constants.{greatest_constant}
use Rattle.normal_form.specs.Moves.{turned_constant}
use Rattle.normal_form.proofs.KeepLemmas.{HandsOn, IsBound, entries-extend, entry-is, entry-reaches, entry-roomy, entry-some, further-entries, further-entry, on-binding, on-now}
use Rattle.normal_form.proofs.TurnLemmas.{turned-below, turning-grows}

rest-below : (z : ℤ) (n room : ℕ) (scope : Scope) → 0 < n → IsWithin room scope (At (int_rem_euclid z (pos n))) n
rest-below (pos a) n room scope h = mod-lt a h
rest-below (negsuc a) n room scope h = omega (arith, h)

-- a turn of an entry with a variable
turn-bound : (room : ℕ) (scope : Scope) (by n : ℕ) (entry : Entry) → room ≤ greatest_constant → n ≤ greatest_extent → by < n
    → IsVariable entry → IsWithin room scope entry n → IsBound (room + greatest_extent) scope (Turn entry by n)
turn-bound room scope by n entry small least below varies h = record {
  binds = (entry-is room scope entry n n small (le_refl n) h, (below, least));
  varying = varies;
  roomy = entry-roomy room scope entry n small h;
  carrying = omega (arith, entry-reaches room scope entry n h, least);
}

turning-hands : (own room : ℕ) (scope : Scope) (next by n : ℕ) (entry : Entry) → room ≤ greatest_constant → n ≤ greatest_extent → by < n
    → AreEarlier next scope → IsWithin room scope entry n
    → HandsOn own (λ further new. IsWithin (room + greatest_extent) further new n) scope next (turning by n entry)
turning-hands own room scope next zero n entry small least below earlier h =
    on-now own (λ further new. IsWithin (room + greatest_extent) further new n) scope next entry earlier (further-entry room scope entry n h)
turning-hands own room scope next (suc by) n (At constant) small least below earlier h =
    on-now own (λ further new. IsWithin (room + greatest_extent) further new n) scope next (At (turned_constant (suc by) n constant)) earlier
    (rest-below (constant +ℤ pos (suc by)) n (room + greatest_extent) scope (entry-some room scope (At constant) n h))
turning-hands own room scope next (suc by) n (Plus var add) small least below earlier h =
    on-binding own (room + greatest_extent) scope next (Turn (Plus var add) (suc by) n) n earlier h.0
    (turn-bound room scope (suc by) n (Plus var add) small least below tt h)
turning-hands own room scope next (suc by) n (Minus var add) small least below earlier h =
    on-binding own (room + greatest_extent) scope next (Turn (Minus var add) (suc by) n) n earlier h.0
    (turn-bound room scope (suc by) n (Minus var add) small least below tt h)

turned-keeps : (own room : ℕ) (by : ℤ) (of : Former) (n : ℕ) (shape : List ℕ) → room ≤ greatest_constant → n ≤ greatest_extent
    → Keeps own (room + greatest_extent) of (n ∷ shape)
    → (scope : Scope) (next : ℕ) (entries : List Entry) → AreEarlier next scope → AreWithin room scope entries (n ∷ shape)
    → IsKeptIn own scope (turning (turned by n 0) n (slice_index_or entries 0 (At (pos 0)))
    (λ entry. of (on_axis 0 (λ extent old. entry) (n ∷ shape) entries)) next).0
turned-keeps own room by of n shape small least h scope next [] earlier within = absurd within
turned-keeps own room by of n shape small least h scope next (entry ∷ entries) earlier within =
    turning-hands own room scope next (turned by n 0) n entry small least
    (turned-below by n 0 (entry-some room scope entry n within.0)) earlier within.0
    (λ new. of (new ∷ entries))
    (λ further later new more rises after fit. h.keeps further later (new ∷ entries) after
    (fit, entries-extend (room + greatest_extent) scope further entries shape more (further-entries room scope entries shape within.1)))

pub turn-keeps : (own room : ℕ) (by : ℤ) (of : Former) (n : ℕ) (shape : List ℕ) → room ≤ greatest_constant → n ≤ greatest_extent
    → Keeps own (room + greatest_extent) of (n ∷ shape)
    → Keeps own room
    (λ entries. turning (turned by n 0) n (slice_index_or entries 0 (At (pos 0)))
    (λ entry. of (on_axis 0 (λ extent old. entry) (n ∷ shape) entries)))
    (n ∷ shape)
turn-keeps own room by of n shape small least h = record {
  grows = λ entries. turning-grows (turned by n 0) n (slice_index_or entries 0 (At (pos 0)))
      (λ entry. of (on_axis 0 (λ extent old. entry) (n ∷ shape) entries))
      (λ entry. h.grows (on_axis 0 (λ extent old. entry) (n ∷ shape) entries));
  keeps = turned-keeps own room by of n shape small least h;
}
