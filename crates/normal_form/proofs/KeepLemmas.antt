-- What operators keep, and what stays of entries while variables come.
use Rattle.std.specs.Prelude.{◌≡◌, ◌≢◌, ℕ, suc, ◌+◌, ◌<◌, ◌≤◌, Bool, ℤ, pos, negsuc, List, [], ◌∷◌, slice_index_or, if◌then◌else◌}
use Rattle.std.specs.List.{AllByRecursion, Contains}
use Rattle.std.proofs.Common.{refl, ap, ◌∙◌, arith, le_refl, le_trans}
use Rattle.std.proofs.lemmas.Bool.{eq-eqb, ne_eqb}
use Rattle.std.proofs.lemmas.List.Elements.{All-contains, All-from_recursion}
use Rattle.shapes_core.specs.Limits.{greatest_extent}
use Rattle.shapes_core.specs.Shape.{IsShape}
use Rattle.moa_tree.specs.declared.operator.Op.{Op}
use Rattle.moa_tree.specs.declared.operator.Unary.{Unary}
use Rattle.normal_form.specs.declared.entry.Entry.{Entry}
use Rattle.normal_form.specs.declared.entry.Entry.TheVariants.{At, Plus, Minus}
use Rattle.normal_form.specs.declared.term.Bind.{Bind}
use Rattle.normal_form.specs.Cutting.{IsRoomyBinding, IsRoomyEntry, IsVaryingBinding, Scope, carried, carries, reach}
use Rattle.normal_form.specs.Formers.{Former, Making, binding, just, on_both, on_one}
use Rattle.normal_form.specs.Forms.{Lit, Index, Get, Un, Bin}
use Rattle.normal_form.specs.Keeps.{AreEarlier, AreWithin, IsKeptIn, IsWithin, Keeps, MovesWithin, variables_in}
use Rattle.normal_form.specs.Constants.{greatest_constant}
use Rattle.normal_form.specs.Kept.{AreEntries, IsBinding, IsEntry}
use Rattle.normal_form.specs.Moves.{variable}

-- ---- known variables

earlier-below : (next : ℕ) (scope : Scope) → AreEarlier next scope → (var : ℕ) → Contains (variables_in scope) var → var < next
earlier-below next scope h var here =
    All-contains (λ var. var < next) (variables_in scope) var (All-from_recursion (λ var. var < next) (variables_in scope) h) here

pub earlier-fresh : (next : ℕ) (scope : Scope) → AreEarlier next scope → Contains (variables_in scope) next → ⊥
earlier-fresh next scope h here = let below = earlier-below next scope h next here in absurd (omega (arith, below))

pub earlier-later : (next later : ℕ) (scope : Scope) → next ≤ later → AreEarlier next scope → AreEarlier later scope
earlier-later next later [] more h = tt
earlier-later next later (first ∷ scope) more h = (omega (arith, h.0), earlier-later next later scope more h.1)

-- with the next variable
pub earlier-next : (next carry : ℕ) (scope : Scope) → AreEarlier next scope → AreEarlier (suc next) ((next, carry) ∷ scope)
earlier-next next carry scope h = (omega arith, earlier-later next (suc next) scope (omega arith) h)

-- variables that are known are known later, and turns in their place would add the same
abbrev pub Extends : Scope → Scope → Type 0
Extends scope further =
    (var : ℕ) → Contains (variables_in scope) var → Contains (variables_in further) var × (carried further var ≡ carried scope var)

pub extends-same : (scope : Scope) → Extends scope scope
extends-same scope var here = (here, refl)

pub extends-both : (scope further last : Scope) → Extends scope further → Extends further last → Extends scope last
extends-both scope further last more again var here =
    let first = more var here in let second = again var first.0 in (second.0, second.1 ∙ first.1)

carried-apart : (scope : Scope) (next carry var : ℕ) → var < next → carried ((next, carry) ∷ scope) var ≡ carried scope var
carried-apart scope next carry var below =
    ap (λ (test : Bool). if test then carry else carried scope var) (ne_eqb var next (λ e. omega (arith, below, e)))

carried-here : (scope : Scope) (next carry : ℕ) → carried ((next, carry) ∷ scope) next ≡ carry
carried-here scope next carry = ap (λ (test : Bool). if test then carry else carried scope next) (eq-eqb next next refl)

pub extends-next : (next carry : ℕ) (scope : Scope) → AreEarlier next scope → Extends scope ((next, carry) ∷ scope)
extends-next next carry scope earlier var here =
    ((suc here.0, omega (arith, here.1), here.2), carried-apart scope next carry var (earlier-below next scope earlier var here))

pub known-next : (next carry : ℕ) (scope : Scope) → Contains (variables_in ((next, carry) ∷ scope)) next
known-next next carry scope = (0, omega arith, refl)

-- ---- entries

pub entry-extends : (room : ℕ) (scope further : Scope) (entry : Entry) (n : ℕ) → Extends scope further
    → IsWithin room scope entry n → IsWithin room further entry n
entry-extends room scope further (At (pos constant)) n more h = h
entry-extends room scope further (At (negsuc constant)) n more h = h
entry-extends room scope further (Plus var add) n more h =
    let same = more var h.1 in (h.0, same.0, omega (arith, h.2, same.1))
entry-extends room scope further (Minus var add) n more h =
    let same = more var h.1 in (h.0, same.0, omega (arith, h.2, same.1))

pub entries-extend : (room : ℕ) (scope further : Scope) (entries : List Entry) (shape : List ℕ) → Extends scope further
    → AreWithin room scope entries shape → AreWithin room further entries shape
entries-extend room scope further [] [] more h = tt
entries-extend room scope further [] (n ∷ shape) more h = absurd h
entries-extend room scope further (entry ∷ entries) [] more h = absurd h
entries-extend room scope further (entry ∷ entries) (n ∷ shape) more h =
    (entry-extends room scope further entry n more h.0, entries-extend room scope further entries shape more h.1)

pub entry-is : (room : ℕ) (scope : Scope) (entry : Entry) (n most : ℕ) → room ≤ greatest_constant → n ≤ most
    → IsWithin room scope entry n → IsEntry (variables_in scope) entry most
entry-is room scope (At (pos constant)) n most small least h = omega (arith, least, h)
entry-is room scope (At (negsuc constant)) n most small least h = h
entry-is room scope (Plus var add) n most small least h = (h.1, omega (arith, h.2, small))
entry-is room scope (Minus var add) n most small least h = (h.1, omega (arith, h.2, small))

pub entries-are : (room : ℕ) (scope : Scope) (entries : List Entry) (shape : List ℕ) → room ≤ greatest_constant
    → AreWithin room scope entries shape → AreEntries (variables_in scope) entries shape
entries-are room scope [] [] small h = tt
entries-are room scope [] (n ∷ shape) small h = absurd h
entries-are room scope (entry ∷ entries) [] small h = absurd h
entries-are room scope (entry ∷ entries) (n ∷ shape) small h =
    (entry-is room scope entry n n small (le_refl n) h.0, entries-are room scope entries shape small h.1)

-- what would be added to an entry is within the room
pub entry-reaches : (room : ℕ) (scope : Scope) (entry : Entry) (n : ℕ) → IsWithin room scope entry n → reach scope entry ≤ room
entry-reaches room scope (At (pos constant)) n h = omega arith
entry-reaches room scope (At (negsuc constant)) n h = absurd h
entry-reaches room scope (Plus var add) n h = h.2
entry-reaches room scope (Minus var add) n h = h.2

pub entry-roomy : (room : ℕ) (scope : Scope) (entry : Entry) (n : ℕ) → room ≤ greatest_constant → IsWithin room scope entry n
    → IsRoomyEntry scope entry
entry-roomy room scope entry n small h = le_trans (entry-reaches room scope entry n h) small

pub entries-roomy : (room : ℕ) (scope : Scope) (entries : List Entry) (shape : List ℕ) → room ≤ greatest_constant
    → AreWithin room scope entries shape → AllByRecursion (IsRoomyEntry scope) entries
entries-roomy room scope [] shape small h = tt
entries-roomy room scope (entry ∷ entries) [] small h = absurd h
entries-roomy room scope (entry ∷ entries) (n ∷ shape) small h =
    (entry-roomy room scope entry n small h.0, entries-roomy room scope entries shape small h.1)

-- entries may have greater constants
pub further-entry : (room : ℕ) (scope : Scope) (entry : Entry) (n : ℕ) → IsWithin room scope entry n
    → IsWithin (room + greatest_extent) scope entry n
further-entry room scope (At (pos c)) n h = h
further-entry room scope (At (negsuc c)) n h = h
further-entry room scope (Plus var add) n h = (h.0, h.1, omega (arith, h.2))
further-entry room scope (Minus var add) n h = (h.0, h.1, omega (arith, h.2))

pub further-entries : (room : ℕ) (scope : Scope) (entries : List Entry) (shape : List ℕ) → AreWithin room scope entries shape
    → AreWithin (room + greatest_extent) scope entries shape
further-entries room scope [] [] h = tt
further-entries room scope [] (n ∷ shape) h = absurd h
further-entries room scope (entry ∷ entries) [] h = absurd h
further-entries room scope (entry ∷ entries) (n ∷ shape) h =
    (further-entry room scope entry n h.0, further-entries room scope entries shape h.1)

-- an axis that has an entry has an item
pub entry-some : (room : ℕ) (scope : Scope) (entry : Entry) (n : ℕ) → IsWithin room scope entry n → 0 < n
entry-some room scope (At (pos constant)) n h = omega (arith, h)
entry-some room scope (At (negsuc constant)) n h = absurd h
entry-some room scope (Plus var add) n h = h.0
entry-some room scope (Minus var add) n h = h.0

pub entries-some : (room : ℕ) (scope : Scope) (entries : List Entry) (shape : List ℕ) → AreWithin room scope entries shape
    → AllByRecursion (λ n. 0 < n) shape
entries-some room scope [] [] h = tt
entries-some room scope [] (n ∷ shape) h = absurd h
entries-some room scope (entry ∷ entries) [] h = absurd h
entries-some room scope (entry ∷ entries) (n ∷ shape) h = (entry-some room scope entry n h.0, entries-some room scope entries shape h.1)

-- the next variable alone
pub variable-within : (room next carry : ℕ) (scope : Scope) (n : ℕ) → 0 < n → carry ≤ room
    → IsWithin room ((next, carry) ∷ scope) (variable next) n
variable-within room next carry scope n some least =
    (some, known-next next carry scope, omega (arith, least, carried-here scope next carry))

-- ---- steps

-- what follows is kept, whatever fits is handed to it
abbrev pub KeptOn : {X : Type 0} → ℕ → (Scope → X → Type 0) → Scope → ℕ → (X → Making) → Type 0
KeptOn {X} own fits scope next rest =
    (further : Scope) (later : ℕ) (x : X) → Extends scope further → next ≤ later → AreEarlier later further → fits further x
    → IsKeptIn own further (rest x later).0

-- a step hands what fits to what follows
abbrev pub HandsOn : {X : Type 0} → ℕ → (Scope → X → Type 0) → Scope → ℕ → ((X → Making) → Making) → Type 0
HandsOn {X} own fits scope next step = (rest : X → Making) → KeptOn own fits scope next rest → IsKeptIn own scope (step rest next).0

pub on-now : {X : Type 0} (own : ℕ) (fits : Scope → X → Type 0) (scope : Scope) (next : ℕ) (x : X) → AreEarlier next scope → fits scope x
    → HandsOn own fits scope next (λ rest. rest x)
on-now own fits scope next x earlier fit = λ rest follows. follows scope next x (extends-same scope) (le_refl next) earlier fit

-- a binding of what varies, which leaves room, and adds no more than this much
pub record IsBound (room : ℕ) (scope : Scope) (bind : Bind) : Type 0 where
  pub binds : IsBinding (variables_in scope) bind
  pub varying : IsVaryingBinding bind
  pub roomy : IsRoomyBinding scope bind
  pub carrying : carries scope bind ≤ room

pub on-binding : (own room : ℕ) (scope : Scope) (next : ℕ) (bind : Bind) (n : ℕ) → AreEarlier next scope → 0 < n → IsBound room scope bind
    → HandsOn own (λ further entry. IsWithin room further entry n) scope next (binding bind)
on-binding own room scope next bind n earlier some h = λ rest follows.
    let carry = carries scope bind in
    let made = follows ((next, carry) ∷ scope) (suc next) (variable next) (extends-next next carry scope earlier) (omega arith)
    (earlier-next next carry scope earlier) (variable-within room next carry scope n some h.carrying) in
    record {
      kept = (h.binds, (earlier-fresh next scope earlier, made.kept));
      varying = (h.varying, made.varying);
      roomy = (h.roomy, made.roomy);
    }

-- ---- operators

pub constant-keeps : (own room : ℕ) (value : ℤ) → Keeps own room (λ entries. just (Lit value)) []
constant-keeps own room value = record { grows = λ entries next. le_refl next; keeps = λ scope next entries earlier h. record { kept = tt; varying = tt; roomy = tt } }

first-is : (room : ℕ) (scope : Scope) (entries : List Entry) (n : ℕ) → room ≤ greatest_constant → n ≤ greatest_extent
    → AreWithin room scope entries (n ∷ [])
    → let first = slice_index_or entries 0 (At (pos 0)) in IsEntry (variables_in scope) first greatest_extent × IsRoomyEntry scope first
first-is room scope [] n small least h = absurd h
first-is room scope (entry ∷ entries) n small least h =
    (entry-is room scope entry n greatest_extent small least h.0, entry-roomy room scope entry n small h.0)

pub number-keeps : (own room n : ℕ) → room ≤ greatest_constant → n ≤ greatest_extent
    → Keeps own room (λ entries. just (Index (slice_index_or entries 0 (At (pos 0))))) (n ∷ [])
number-keeps own room n small least = record {
  grows = λ entries next. le_refl next;
  keeps = λ scope next entries earlier h.
      let first = first-is room scope entries n small least h in record { kept = first.0; varying = tt; roomy = first.1 };
}

pub stored-keeps : (own room area : ℕ) (shape : List ℕ) → room ≤ greatest_constant → area ≢ own → IsShape shape
    → Keeps own room (λ entries. just (Get (record { area = area; shape = shape; at = entries }))) shape
stored-keeps own room area shape small other shaped = record {
  grows = λ entries next. le_refl next;
  keeps = λ scope next entries earlier h. record {
    kept = (other, (entries-are room scope entries shape small h, shaped));
    varying = tt;
    roomy = entries-roomy room scope entries shape small h;
  };
}

pub one-keeps : (own room : ℕ) (op : Unary) (of : Former) (shape : List ℕ) → Keeps own room of shape
    → Keeps own room (λ entries. on_one (Un op) (of entries)) shape
one-keeps own room op of shape h = record {
  grows = h.grows;
  keeps = λ scope next entries earlier within.
      let made = h.keeps scope next entries earlier within in record { kept = made.kept; varying = made.varying; roomy = made.roomy };
}

pub moved-keeps : (own room further : ℕ) (of : Former) (shape operand : List ℕ) (move : List Entry → List Entry)
    → Keeps own further of operand → MovesWithin room further move shape operand → Keeps own room (λ entries. of (move entries)) shape
moved-keeps own room further of shape operand move h moves = record {
  grows = λ entries. h.grows (move entries);
  keeps = λ scope next entries earlier within. h.keeps scope next (move entries) earlier (moves scope entries within);
}

pub two-keeps : (own room : ℕ) (op : Op) (left right : Former) (shape : List ℕ) → Keeps own room left shape → Keeps own room right shape
    → Keeps own room (λ entries. on_both (Bin op) (left entries) (right entries)) shape
two-keeps own room op left right shape h k = record {
  grows = λ entries next. le_trans (h.grows entries next) (k.grows entries (left entries next).1);
  keeps = λ scope next entries earlier within.
      let later = (left entries next).1 in
      let first = h.keeps scope next entries earlier within in
      let second = k.keeps scope later entries (earlier-later next later scope (h.grows entries next) earlier) within in
      record {
        kept = (first.kept, second.kept);
        varying = (first.varying, second.varying);
        roomy = (first.roomy, second.roomy);
      };
}
