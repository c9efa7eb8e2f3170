-- What a reshape keeps: the offset is a place below the total, and its digits are places of their axes.
use Rattle.std.specs.Prelude.{◌≡◌, ℕ, zero, suc, ◌*◌, ◌/◌, ◌<◌, ◌≤◌, max, ℤ, pos, negsuc, unsigned_abs, Bool, true, false, if◌then◌else◌, IfSome}
use Rattle.std.specs.Prelude.{List, [], ◌∷◌, length, nat_le}
use Rattle.std.specs.declared.option.Option.{Option}
use Rattle.std.specs.declared.option.Option.TheVariants.{None, Some}
use Rattle.std.specs.Option.{option_map}
use Rattle.std.specs.List.{AllByRecursion}
use Rattle.std.proofs.Common.{refl, sym, subst, arith, le_trans, mod-lt}
use Rattle.std.proofs.Math.Nat.{le-max_left, le-max_right, le-mul_of_pos_right, mul-le-mul_right}
use Rattle.std.proofs.lemmas.Bool.{and_parts, leb-true}
use Rattle.shapes_core.specs.Limits.{greatest_extent, most_axes}
use Rattle.shapes_core.specs.Gamma.{IsIndex, digit, gamma}
use Rattle.shapes_core.specs.Shape.{IsShape, are_small, span, total}
use Rattle.normal_form.specs.declared.entry.Entry.{Entry}
use Rattle.normal_form.specs.declared.entry.Entry.TheVariants.{At, Plus, Minus}
use Rattle.normal_form.specs.declared.term.Bind.TheVariants.{Flat, Digit}
use Rattle.normal_form.specs.Cutting.{Scope}
use Rattle.normal_form.specs.Formers.{Former, by_offset, constants, digiting, flattening, offset, spreading, unflattening, varying}
use Rattle.normal_form.specs.Keeps.{AreEarlier, AreWithin, IsWithin, Keeps}
use Rattle.normal_form.specs.Constants.{greatest_constant}
use Rattle.normal_form.specs.Kept.{IsExtent}
use Rattle.normal_form.proofs.KeepLemmas.{HandsOn, entries-are, entries-roomy, entries-some, entry-extends, entry-is, entry-roomy, extends-both, on-binding, on-now}
use Rattle.normal_form.proofs.ReshapeLemmas.{grows-flattening, grows-unflattening}

-- ---- shapes

pub span-small : (shape : List ℕ) → IsShape shape → span shape ≤ greatest_extent
span-small shape h =
    let small = (and_parts (nat_le (length shape) most_axes) (are_small shape) h).1 in
    leb-true (span shape) greatest_extent ((and_parts _ (nat_le (span shape) greatest_extent) small).1)

span-rest : (n : ℕ) (shape : List ℕ) → span shape ≤ span (n ∷ shape)
span-rest n shape =
    let one : 1 * span shape ≤ max n 1 * span shape = mul-le-mul_right (span shape) (le-max_right n 1) in
    omega (arith, one)

span-first : (n : ℕ) (shape : List ℕ) → 0 < span shape → n ≤ span (n ∷ shape)
span-first n shape some = le_trans (le-max_left n 1) (le-mul_of_pos_right (max n 1) some)

-- ---- the offset

index-more : (room : ℕ) (scope : Scope) (constant : ℤ) (n : ℕ) (shape : List ℕ) (o : Option (List ℕ)) → IsWithin room scope (At constant) n
    → IfSome o (λ list. IsIndex list shape) → IfSome (option_map (λ list. unsigned_abs constant ∷ list) o)
    (λ list. IsIndex list (n ∷ shape))
index-more room scope (pos c) n shape None h k = tt
index-more room scope (pos c) n shape (Some list) h k = (h, k)
index-more room scope (negsuc c) n shape o h k = absurd h

constants-index : (room : ℕ) (scope : Scope) (entries : List Entry) (shape : List ℕ) → AreWithin room scope entries shape
    → IfSome (constants entries) (λ list. IsIndex list shape)
constants-index room scope [] [] h = tt
constants-index room scope [] (n ∷ shape) h = absurd h
constants-index room scope (entry ∷ entries) [] h = absurd h
constants-index room scope (At constant ∷ entries) (n ∷ shape) h =
    index-more room scope constant n shape (constants entries) h.0 (constants-index room scope entries shape h.1)
constants-index room scope (Plus var add ∷ entries) (n ∷ shape) h = tt
constants-index room scope (Minus var add ∷ entries) (n ∷ shape) h = tt

-- an entry of an axis
abbrev pub EntryOf : ℕ → ℕ → Scope → Entry → Type 0
EntryOf room n scope entry = IsWithin room scope entry n

-- entries of a shape
abbrev pub EntriesOf : ℕ → List ℕ → Scope → List Entry → Type 0
EntriesOf room shape scope entries = AreWithin room scope entries shape

-- offsets of index vectors are below the total
abbrev pub OffsetsBelow : Type 0
OffsetsBelow = (index shape : List ℕ) → IsIndex index shape → gamma index shape < total shape

module _ (own room : ℕ) (small : room ≤ greatest_constant) where
  offset-hands : OffsetsBelow → (scope : Scope) (next : ℕ) (o : Option (List ℕ)) (shape : List ℕ) (entries : List Entry) → IsShape shape
      → 0 < total shape → AreEarlier next scope → AreWithin room scope entries shape → IfSome o (λ list. IsIndex list shape)
      → HandsOn own (EntryOf room (total shape)) scope next (offset o shape entries)
  offset-hands below scope next (Some list) shape entries shaped some earlier h inside =
      on-now own (EntryOf room (total shape)) scope next (At (pos (gamma list shape))) earlier (below list shape inside)
  offset-hands below scope next None shape entries shaped some earlier h inside =
      on-binding own room scope next (Flat entries shape) (total shape) earlier some record {
        binds = (entries-are room scope entries shape small h, shaped);
        varying = tt;
        roomy = entries-roomy room scope entries shape small h;
        carrying = omega arith;
      }

  only-hands : (scope : Scope) (next n : ℕ) (entries : List Entry) → AreEarlier next scope → AreWithin room scope entries (n ∷ [])
      → HandsOn own (EntryOf room (total (n ∷ []))) scope next (flattening (n ∷ []) entries)
  only-hands scope next n [] earlier h = absurd h
  only-hands scope next n (entry ∷ entries) earlier h =
      let e : n ≡ n * 1 = omega arith in
      on-now own (EntryOf room (total (n ∷ []))) scope next entry earlier (subst (IsWithin room scope entry) e h.0)

  flattening-hands : OffsetsBelow → (scope : Scope) (next : ℕ) (shape : List ℕ) (entries : List Entry) → IsShape shape
      → 0 < total shape → AreEarlier next scope → AreWithin room scope entries shape
      → HandsOn own (EntryOf room (total shape)) scope next (flattening shape entries)
  flattening-hands below scope next [] entries shaped some earlier h =
      offset-hands below scope next (constants entries) [] entries shaped some earlier h (constants-index room scope entries [] h)
  flattening-hands below scope next (n ∷ []) entries shaped some earlier h = only-hands scope next n entries earlier h
  flattening-hands below scope next (n ∷ k ∷ shape) entries shaped some earlier h =
      offset-hands below scope next (constants entries) (n ∷ k ∷ shape) entries shaped some earlier h
      (constants-index room scope entries (n ∷ k ∷ shape) h)

  -- ---- the entries of an offset

  varying-hands : (scope : Scope) (next : ℕ) (flat : Entry) (weight n count : ℕ) → count ≤ greatest_extent → IsExtent weight → IsExtent n
      → AreEarlier next scope → IsWithin room scope flat count → HandsOn own (EntryOf room n) scope next (varying flat weight n)
  varying-hands scope next (At (pos c)) weight n count least heavy some earlier h =
      on-now own (EntryOf room n) scope next (At (pos (digit c weight n))) earlier (mod-lt (c / weight) some.0)
  varying-hands scope next (At (negsuc c)) weight n count least heavy some earlier h = absurd h
  varying-hands scope next (Plus var add) weight n count least heavy some earlier h =
      on-binding own room scope next (Digit (Plus var add) weight n) n earlier some.0 record {
        binds = (entry-is room scope (Plus var add) count greatest_extent small least h, (heavy, some));
        varying = tt;
        roomy = entry-roomy room scope (Plus var add) count small h;
        carrying = omega arith;
      }
  varying-hands scope next (Minus var add) weight n count least heavy some earlier h =
      on-binding own room scope next (Digit (Minus var add) weight n) n earlier some.0 record {
        binds = (entry-is room scope (Minus var add) count greatest_extent small least h, (heavy, some));
        varying = tt;
        roomy = entry-roomy room scope (Minus var add) count small h;
        carrying = omega arith;
      }

  digiting-hands : (scope : Scope) (next : ℕ) (flat : Entry) (weight n count : ℕ) → count ≤ greatest_extent → IsExtent weight → IsExtent n
      → AreEarlier next scope → IsWithin room scope flat count → HandsOn own (EntryOf room n) scope next (digiting flat weight n)
  digiting-hands scope next flat weight zero count least heavy some earlier h = absurd (omega (arith, some.0))
  digiting-hands scope next flat weight (suc zero) count least heavy some earlier h =
      on-now own (EntryOf room 1) scope next (At (pos 0)) earlier (omega arith)
  digiting-hands scope next flat weight (suc (suc n)) count least heavy some earlier h =
      varying-hands scope next flat weight (suc (suc n)) count least heavy some earlier h

  spreading-hands : ((list : List ℕ) → 0 < span list) → (scope : Scope) (next : ℕ) (shape : List ℕ) (flat : Entry) (count : ℕ)
      → count ≤ greatest_extent → span shape ≤ greatest_extent → AllByRecursion (λ n. 0 < n) shape
      → AreEarlier next scope → IsWithin room scope flat count → HandsOn own (EntriesOf room shape) scope next (spreading shape flat)
  spreading-hands heavy scope next [] flat count least short some earlier h = on-now own (EntriesOf room []) scope next [] earlier tt
  spreading-hands heavy scope next (n ∷ shape) flat count least short some earlier h =
      let rest_short = le_trans (span-rest n shape) short in
      let first_short = le_trans (span-first n shape (heavy shape)) short in
      λ rest follows.
      digiting-hands scope next flat (span shape) n count least (heavy shape, rest_short) (some.0, first_short) earlier h
      (λ entry. spreading shape flat (λ entries. rest (entry ∷ entries)))
      (λ further later entry more rises after fit.
      spreading-hands heavy further later shape flat count least rest_short some.1 after
      (entry-extends room scope further flat count more h)
      (λ entries. rest (entry ∷ entries))
      (λ last latest entries again climbs ending fits.
      follows last latest (entry ∷ entries) (extends-both scope further last more again) (le_trans rises climbs) ending
      (entry-extends room further last entry n again fit, fits)))

  unflattening-hands : ((list : List ℕ) → 0 < span list) → (scope : Scope) (next : ℕ) (shape : List ℕ) (flat : Entry)
      → total shape ≤ greatest_extent → span shape ≤ greatest_extent → AllByRecursion (λ n. 0 < n) shape
      → AreEarlier next scope → IsWithin room scope flat (total shape)
      → HandsOn own (EntriesOf room shape) scope next (unflattening shape flat)
  unflattening-hands heavy scope next [] flat least short some earlier h =
      spreading-hands heavy scope next [] flat 1 least short some earlier h
  unflattening-hands heavy scope next (n ∷ []) flat least short some earlier h =
      let e : n * 1 ≡ n = omega arith in
      on-now own (EntriesOf room (n ∷ [])) scope next (flat ∷ []) earlier (subst (IsWithin room scope flat) e h, tt)
  unflattening-hands heavy scope next (n ∷ k ∷ shape) flat least short some earlier h =
      spreading-hands heavy scope next (n ∷ k ∷ shape) flat (total (n ∷ k ∷ shape)) least short some earlier h

-- ---- reshapes

-- what is used of the laws of offsets and spans
pub record SpanLaws : Type 0 where
  pub below : OffsetsBelow
  pub span_positive : (shape : List ℕ) → 0 < span shape
  pub extents_positive : (shape : List ℕ) → 0 < total shape → AllByRecursion (λ n. 0 < n) shape
  pub total_positive : (shape : List ℕ) → AllByRecursion (λ n. 0 < n) shape → 0 < total shape
  pub span_is : (shape : List ℕ) → 0 < total shape → span shape ≡ total shape

module _ (law : SpanLaws) (own room : ℕ) (small : room ≤ greatest_constant) (of : Former) (shape : List ℕ) (shaped : IsShape shape) where
  same-keeps : (operand : List ℕ) → shape ≡ operand → Keeps own room of operand → Keeps own room of shape
  same-keeps operand same h = subst (Keeps own room of) (sym same) h

  offset-keeps : (operand : List ℕ) → IsShape operand → total shape ≡ total operand → Keeps own room of operand
      → Keeps own room (λ entries. by_offset shape operand entries of) shape
  offset-keeps [] well same h = record { grows = λ entries. h.grows []; keeps = λ scope next entries earlier within. h.keeps scope next [] earlier tt }
  offset-keeps (n ∷ operand) well same h = record {
    grows = λ entries. grows-flattening shape entries (λ flat. unflattening (n ∷ operand) flat of)
        (λ flat. grows-unflattening (n ∷ operand) flat of h.grows);
    keeps = λ scope next entries earlier within.
        let some : 0 < total shape = law.total_positive shape (entries-some room scope entries shape within) in
        let full : 0 < total (n ∷ operand) = omega (arith, some, same) in
        let short = span-small (n ∷ operand) well in
        let least : total (n ∷ operand) ≤ greatest_extent = omega (arith, short, law.span_is (n ∷ operand) full) in
        flattening-hands own room small law.below scope next shape entries shaped some earlier within
        (λ flat. unflattening (n ∷ operand) flat of)
        (λ further later flat more rises after fit.
        unflattening-hands own room small law.span_positive further later (n ∷ operand) flat least short
        (law.extents_positive (n ∷ operand) full) after
        (subst (IsWithin room further flat) same fit) of
        (λ last latest found again climbs ending fits. h.keeps last latest found ending fits));
  }

  pub reshape-keeps : (operand : List ℕ) → IsShape operand → total shape ≡ total operand → Keeps own room of operand
      → (equal : Bool) → (equal ≡ true → shape ≡ operand)
      → Keeps own room (λ entries. if equal then of entries else by_offset shape operand entries of) shape
  reshape-keeps operand well same h true test = same-keeps operand (test refl) h
  reshape-keeps operand well same h false test = offset-keeps operand well same h
