-- What is kept is near: the constants of entries that are kept, as they are and resolved, and what is known of variables.
use Rattle.std.specs.Prelude.{ℕ, ◌*◌, ◌≤◌, pos, negsuc, List, [], ◌∷◌}
use Rattle.std.proofs.Common.{arith}
use Rattle.shapes_core.specs.Limits.{greatest_extent}
use Rattle.shapes_core.specs.Shape.{IsShape, span}
use Rattle.shapes_core.proofs.SpanLemmas.{span_within}
use Rattle.normal_form.specs.declared.entry.Entry.{Entry}
use Rattle.normal_form.specs.declared.entry.Entry.TheVariants.{At, Plus, Minus}
use Rattle.normal_form.specs.declared.term.Bind.{Bind}
use Rattle.normal_form.specs.declared.term.Bind.TheVariants.{Turn, Flat, Digit}
use Rattle.normal_form.specs.Kept.{AreEntries, IsBinding, IsEntry}
use Rattle.stride_form.specs.declared.facts.Fact.{Fact}
use Rattle.stride_form.specs.declared.facts.Fact.TheVariants.{Range, Alias, Offset, DigitOf}
use Rattle.stride_form.specs.Kept.{IsOpBinding, IsOpEntry, most_constant}
use Rattle.stride_form.specs.KeptFacts.{IsBeside, IsKeptFact}
use Rattle.stride_form.specs.Small.{AreNearEntries, IsNear, IsNearBind, IsSmallFact}
use Rattle.stride_form.proofs.WalkLemmas.{AreOpEntries, first-extent, small-rest-of}

pub near-entry : (known : List ℕ) (entry : Entry) (n : ℕ) → n ≤ greatest_extent → IsEntry known entry n → IsNear most_constant entry
near-entry known (At (pos constant)) n small h = omega (arith, small, h)
near-entry known (At (negsuc constant)) n small h = elim h [ ]
near-entry known (Plus var add) n small h = omega (arith, h.1)
near-entry known (Minus var add) n small h = omega (arith, h.1)

pub near-resolved : (known : List ℕ) (entry : Entry) (n : ℕ) → n ≤ greatest_extent → IsOpEntry known entry n → IsNear most_constant entry
near-resolved known (At (pos constant)) n small h = omega (arith, small, h)
near-resolved known (At (negsuc constant)) n small h = elim h [ ]
near-resolved known (Plus var add) n small h = h.1
near-resolved known (Minus var add) n small h = h.1

near-list : (known : List ℕ) (entries : List Entry) (shape : List ℕ) → span shape ≤ greatest_extent → AreEntries known entries shape
    → AreNearEntries entries
near-list known [] [] small h = tt
near-list known [] (n ∷ shape) small h = elim h [ ]
near-list known (entry ∷ entries) [] small h = elim h [ ]
near-list known (entry ∷ entries) (n ∷ shape) small h =
    (near-entry known entry n (first-extent n shape small) h.0, near-list known entries shape (small-rest-of n shape small) h.1)

pub near-entries : (known : List ℕ) (entries : List Entry) (shape : List ℕ) → IsShape shape → AreEntries known entries shape → AreNearEntries entries
near-entries known entries shape shaped h = near-list known entries shape (span_within shape shaped) h

near-resolved-list : (known : List ℕ) (entries : List Entry) (shape : List ℕ) → span shape ≤ greatest_extent → AreOpEntries known entries shape
    → AreNearEntries entries
near-resolved-list known [] [] small h = tt
near-resolved-list known [] (n ∷ shape) small h = elim h [ ]
near-resolved-list known (entry ∷ entries) [] small h = elim h [ ]
near-resolved-list known (entry ∷ entries) (n ∷ shape) small h =
    (near-resolved known entry n (first-extent n shape small) h.0, near-resolved-list known entries shape (small-rest-of n shape small) h.1)

pub near-resolved-entries : (known : List ℕ) (entries : List Entry) (shape : List ℕ) → IsShape shape → AreOpEntries known entries shape
    → AreNearEntries entries
near-resolved-entries known entries shape shaped h = near-resolved-list known entries shape (span_within shape shaped) h

pub near-binding : (known : List ℕ) (bind : Bind) → IsBinding known bind → IsNearBind bind
near-binding known (Turn of by extent) h = near-entry known of extent h.1.1 h.0
near-binding known (Flat of shape) h = near-entries known of shape h.1 h.0
near-binding known (Digit of weight extent) h = near-entry known of greatest_extent (omega arith) h.0

pub near-resolved-binding : (known : List ℕ) (bind : Bind) → IsOpBinding known bind → IsNearBind bind
near-resolved-binding known (Turn of by extent) h = near-resolved known of extent h.1.1 h.0
near-resolved-binding known (Flat of shape) h = near-resolved-entries known of shape h.1 h.0
near-resolved-binding known (Digit of weight extent) h = near-resolved known of greatest_extent (omega arith) h.0

near-beside : (known : List ℕ) (most : ℕ) (entry : Entry) → IsBeside known most entry → IsNear most entry
near-beside known most (At constant) h = absurd h
near-beside known most (Plus var add) h = h.1
near-beside known most (Minus var add) h = h.1

pub small-fact : (known : List ℕ) (fact : Fact) → IsKeptFact known fact → IsSmallFact fact
small-fact known (Range low high) h = h
small-fact known (Alias entry) h = near-beside known (2 * greatest_extent) entry h
small-fact known (Offset total walk) h = h.0
small-fact known (DigitOf of weight extent) h = h.1
