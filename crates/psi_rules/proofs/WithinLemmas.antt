-- Entries within a shape lead to entries within the shapes of an operator's operands.
use Rattle.std.specs.Prelude.{◌≡◌, ◌==◌, ◌||◌, ℕ, suc, ◌+◌, ◌-◌, ◌<◌, ◌≤◌, true, not, ℤ, pos, negsuc, ◌+ℤ◌, ◌-ℤ◌, List, [], ◌∷◌, ◌++◌, drop, length, map, nat_le, unsigned_abs}
use Rattle.std.specs.List.{AllByRecursion, list_all}
use Rattle.std.proofs.Common.{sym, subst, arith, le_refl, le_trans}
use Rattle.std.proofs.lemmas.Bool.{and_parts, eqb-true, false≢true, le-leb, leb-true, ltb-true}
use Rattle.std.proofs.lemmas.Int.{ints}
use Rattle.std.proofs.lemmas.Slice.Eq.{bytes_eq-Decides}
use Rattle.shapes_core.specs.Limits.{greatest_extent, most_axes}
use Rattle.shapes_core.specs.Shape.{IsShape, are_small, span}
use Rattle.moa_tree.specs.Axes.{each_extent, each_place, on_axis, remaining, taken}
use Rattle.shape_check.specs.Rules.{are_equal, each_entry, is_part, is_place, is_scalar}
use Rattle.normal_form.specs.declared.entry.Entry.{Entry}
use Rattle.normal_form.specs.declared.entry.Entry.TheVariants.{At, Plus, Minus}
use Rattle.normal_form.specs.Cutting.{Scope, carried}
use Rattle.normal_form.specs.Keeps.{AreWithin, IsWithin, MovesWithin}
use Rattle.normal_form.specs.Moves.{mirrored_entry, remaining_entry, taken_entry}
use Rattle.psi_rules.specs.Within.{AreAlike}

-- ---- extents

-- each extent of a shape is small
abbrev pub AreSmall : List ℕ → Type 0
AreSmall shape = AllByRecursion (λ n. n ≤ greatest_extent) shape

small-each : (shape : List ℕ) → list_all (λ extent. nat_le extent greatest_extent) shape ≡ true → AreSmall shape
small-each [] h = tt
small-each (n ∷ shape) h =
    let parts = and_parts (nat_le n greatest_extent) (list_all (λ extent. nat_le extent greatest_extent) shape) h in
    (leb-true n greatest_extent parts.0, small-each shape parts.1)

pub extents-small : (shape : List ℕ) → IsShape shape → AreSmall shape
extents-small shape h =
    let small = (and_parts (nat_le (length shape) most_axes) (are_small shape) h).1 in
    small-each shape (and_parts (list_all (λ extent. nat_le extent greatest_extent) shape) (nat_le (span shape) greatest_extent) small).0

-- ---- wider

wider : (room further : ℕ) (scope : Scope) (entry : Entry) (n m : ℕ) → room ≤ further → n ≤ m
    → IsWithin room scope entry n → IsWithin further scope entry m
wider room further scope (At (pos c)) n m more long h = omega (arith, long, h)
wider room further scope (At (negsuc c)) n m more long h = h
wider room further scope (Plus var add) n m more long h = (omega (arith, long, h.0), h.1, le_trans h.2 more)
wider room further scope (Minus var add) n m more long h = (omega (arith, long, h.0), h.1, le_trans h.2 more)

all-wider : (room further : ℕ) (scope : Scope) (entries : List Entry) (shape : List ℕ) → room ≤ further
    → AreWithin room scope entries shape → AreWithin further scope entries shape
all-wider room further scope [] [] more h = tt
all-wider room further scope [] (n ∷ shape) more h = absurd h
all-wider room further scope (entry ∷ entries) [] more h = absurd h
all-wider room further scope (entry ∷ entries) (n ∷ shape) more h =
    (wider room further scope entry n n more (le_refl n) h.0, all-wider room further scope entries shape more h.1)

-- ---- psi

constant-within : (room : ℕ) (scope : Scope) (k : ℤ) (n : ℕ) → is_place k n ≡ true → IsWithin room scope (At k) n
constant-within room scope (pos c) n h = ltb-true c n h
constant-within room scope (negsuc c) n h = absurd (false≢true h)

pub psi-within : (room : ℕ) (list : List ℤ) (shape : List ℕ) → nat_le (length list) (length shape) ≡ true
    → each_entry is_place list shape ≡ true
    → MovesWithin room room (λ entries. map At list ++ entries) (drop (length list) shape) shape
psi-within room [] shape short each scope entries h = h
psi-within room (k ∷ list) [] short each scope entries h =
    absurd (let e : suc (length list) ≤ 0 = leb-true (suc (length list)) 0 short in omega (arith, e))
psi-within room (k ∷ list) (n ∷ shape) short each scope entries h =
    let parts = and_parts (is_place k n) (each_entry is_place list shape) each in
    let shorter : suc (length list) ≤ suc (length shape) = leb-true (suc (length list)) (suc (length shape)) short in (
      constant-within room scope k n parts.0,
      psi-within room list shape (le-leb (length list) (length shape) (omega (arith, shorter))) parts.1 scope entries h,
    )

-- ---- takes and drops

each-within : (f : ℤ → ℕ → Entry → Entry) (g : ℤ → ℕ → ℕ) (room : ℕ) (scope : Scope)
    → ((k : ℤ) (n : ℕ) (entry : Entry) → is_part k n ≡ true → n ≤ greatest_extent
    → IsWithin room scope entry (g k n) → IsWithin (room + greatest_extent) scope (f k n entry) n)
    → (list : List ℤ) (shape : List ℕ) (entries : List Entry) → each_entry is_part list shape ≡ true → AreSmall shape
    → AreWithin room scope entries (each_extent g list shape)
    → AreWithin (room + greatest_extent) scope (each_place f list shape entries) shape
each-within f g room scope one [] shape entries each small h = all-wider room (room + greatest_extent) scope entries shape (omega arith) h
each-within f g room scope one (k ∷ list) [] entries each small h = all-wider room (room + greatest_extent) scope entries [] (omega arith) h
each-within f g room scope one (k ∷ list) (n ∷ shape) [] each small h = absurd h
each-within f g room scope one (k ∷ list) (n ∷ shape) (entry ∷ entries) each small h =
    let parts = and_parts (is_part k n) (each_entry is_part list shape) each in
    (one k n entry parts.0 small.0 h.0, each-within f g room scope one list shape entries parts.1 small.1 h.1)

abs-plus : (add : ℤ) (n k room carry : ℕ) → unsigned_abs add + carry ≤ room → n ≤ greatest_extent → suc k ≤ n
    → unsigned_abs (add +ℤ (pos n -ℤ pos (suc k))) + carry ≤ room + greatest_extent
abs-plus (pos a) n k room carry h least part = omega (arith, ints, h, least, part)
abs-plus (negsuc a) n k room carry h least part = omega (arith, ints, h, least, part)

taken-within : (room : ℕ) (scope : Scope) (k : ℤ) (n : ℕ) (entry : Entry) → is_part k n ≡ true → n ≤ greatest_extent
    → IsWithin room scope entry (taken k n) → IsWithin (room + greatest_extent) scope (taken_entry k n entry) n
taken-within room scope (pos k) n entry part least h =
    wider room (room + greatest_extent) scope entry k n (omega arith) (leb-true k n part) h
taken-within room scope (negsuc k) n (At (pos c)) part least h =
    let within : suc k ≤ n = leb-true (suc k) n part in
    let e : pos c +ℤ (pos n -ℤ pos (suc k)) ≡ pos (c + (n - suc k)) = omega (arith, ints, within) in
    let inside : c + (n - suc k) < n = omega (arith, within, h) in
    subst (λ z. IsWithin (room + greatest_extent) scope (At z) n) (sym e) inside
taken-within room scope (negsuc k) n (At (negsuc c)) part least h = absurd h
taken-within room scope (negsuc k) n (Plus var add) part least h =
    let within : suc k ≤ n = leb-true (suc k) n part in (omega (arith, within), h.1, abs-plus add n k room (carried scope var) h.2 least within)
taken-within room scope (negsuc k) n (Minus var add) part least h =
    let within : suc k ≤ n = leb-true (suc k) n part in (omega (arith, within), h.1, abs-plus add n k room (carried scope var) h.2 least within)

pub take-within : (room : ℕ) (list : List ℤ) (shape : List ℕ) → each_entry is_part list shape ≡ true → IsShape shape
    → MovesWithin room (room + greatest_extent) (each_place taken_entry list shape) (each_extent taken list shape) shape
take-within room list shape each shaped scope entries h =
    each-within taken_entry taken room scope (taken-within room scope) list shape entries each (extents-small shape shaped) h

abs-more : (add : ℤ) (k room carry : ℕ) → unsigned_abs add + carry ≤ room → k ≤ greatest_extent → unsigned_abs (add +ℤ pos k) + carry ≤ room + greatest_extent
abs-more (pos a) k room carry h least = omega (arith, ints, h, least)
abs-more (negsuc a) k room carry h least = omega (arith, ints, h, least)

remaining-within : (room : ℕ) (scope : Scope) (k : ℤ) (n : ℕ) (entry : Entry) → is_part k n ≡ true → n ≤ greatest_extent
    → IsWithin room scope entry (remaining k n) → IsWithin (room + greatest_extent) scope (remaining_entry k n entry) n
remaining-within room scope (pos k) n (At (pos c)) part least h =
    let inside : c + k < n = omega (arith, h) in inside
remaining-within room scope (pos k) n (At (negsuc c)) part least h = absurd h
remaining-within room scope (pos k) n (Plus var add) part least h =
    let within : k ≤ n = leb-true k n part in (omega (arith, h.0), h.1, abs-more add k room (carried scope var) h.2 (le_trans within least))
remaining-within room scope (pos k) n (Minus var add) part least h =
    let within : k ≤ n = leb-true k n part in (omega (arith, h.0), h.1, abs-more add k room (carried scope var) h.2 (le_trans within least))
remaining-within room scope (negsuc k) n entry part least h =
    wider room (room + greatest_extent) scope entry (n - suc k) n (omega arith) (omega arith) h

pub drop-within : (room : ℕ) (list : List ℤ) (shape : List ℕ) → each_entry is_part list shape ≡ true → IsShape shape
    → MovesWithin room (room + greatest_extent) (each_place remaining_entry list shape) (each_extent remaining list shape) shape
drop-within room list shape each shaped scope entries h =
    each-within remaining_entry remaining room scope (remaining-within room scope) list shape entries each (extents-small shape shaped) h

-- ---- reversed axes

abs-from : (add : ℤ) (n room carry : ℕ) → unsigned_abs add + carry ≤ room → 0 < n → n ≤ greatest_extent
    → unsigned_abs (pos n -ℤ pos 1 -ℤ add) + carry ≤ room + greatest_extent
abs-from (pos a) n room carry h some least = omega (arith, ints, h, some, least)
abs-from (negsuc a) n room carry h some least = omega (arith, ints, h, some, least)

mirrored-within : (room : ℕ) (scope : Scope) (n : ℕ) (entry : Entry) → n ≤ greatest_extent → IsWithin room scope entry n
    → IsWithin (room + greatest_extent) scope (mirrored_entry n entry) n
mirrored-within room scope n (At (pos c)) least h =
    let e : pos n -ℤ pos 1 -ℤ pos c ≡ pos (n - 1 - c) = omega (arith, ints, h) in
    let inside : n - 1 - c < n = omega (arith, h) in
    subst (λ z. IsWithin (room + greatest_extent) scope (At z) n) (sym e) inside
mirrored-within room scope n (At (negsuc c)) least h = absurd h
mirrored-within room scope n (Plus var add) least h = (h.0, h.1, abs-from add n room (carried scope var) h.2 h.0 least)
mirrored-within room scope n (Minus var add) least h = (h.0, h.1, abs-from add n room (carried scope var) h.2 h.0 least)

pub reverse-within : (room : ℕ) (shape : List ℕ) → IsShape shape
    → MovesWithin room (room + greatest_extent) (on_axis 0 mirrored_entry shape) shape shape
reverse-within room [] shaped scope entries h = all-wider room (room + greatest_extent) scope entries [] (omega arith) h
reverse-within room (n ∷ shape) shaped scope [] h = absurd h
reverse-within room (n ∷ shape) shaped scope (entry ∷ entries) h = (
  mirrored-within room scope n entry (extents-small (n ∷ shape) shaped).0 h.0,
  all-wider room (room + greatest_extent) scope entries shape (omega arith) h.1,
)

-- ---- shapes that are alike

pub join-alike : (s t : List ℕ) → (length s == length t) ≡ true → not (is_scalar s) ≡ true → are_equal (drop 1 s) (drop 1 t) ≡ true
    → AreAlike s t
join-alike [] t long full same = absurd (false≢true full)
join-alike (n ∷ s) [] long full same = absurd (let e : suc (length s) ≡ 0 = eqb-true (suc (length s)) 0 long in omega (arith, e))
join-alike (n ∷ s) (m ∷ t) long full same = record { some = omega arith; more = omega arith; same = (bytes_eq-Decides s t).0 same }

pub both-some : (s t : List ℕ) → not (is_scalar s || is_scalar t) ≡ true → (0 < length s) × (0 < length t)
both-some [] t h = absurd (false≢true h)
both-some (n ∷ s) [] h = absurd (false≢true h)
both-some (n ∷ s) (m ∷ t) h = (omega arith, omega arith)
