-- What is made of a reshape gives the array that it does: the entries lead to an offset, and the offset to the operand's entries.
use Rattle.std.specs.Prelude.{◌≡◌, ℕ, zero, suc, ◌/◌, ◌<◌, ℤ, pos, unsigned_abs, Bool, true, false, if◌then◌else◌, IfSome}
use Rattle.std.specs.Prelude.{List, [], ◌∷◌, slice_index_or}
use Rattle.std.specs.declared.option.Option.{Option}
use Rattle.std.specs.declared.option.Option.TheVariants.{None, Some}
use Rattle.std.specs.Option.{option_map}
use Rattle.std.specs.List.{AllByRecursion}
use Rattle.std.proofs.Common.{refl, sym, ap, subst, ◌∙◌, arith, div-one}
use Rattle.shapes_core.specs.Gamma.{IsIndex, digit, digits, gamma, ungamma}
use Rattle.shapes_core.specs.Shape.{span, total}
use Rattle.normal_form.specs.declared.entry.Entry.{Entry}
use Rattle.normal_form.specs.declared.entry.Entry.TheVariants.{At, Plus, Minus}
use Rattle.normal_form.specs.declared.term.Bind.TheVariants.{Flat, Digit}
use Rattle.normal_form.specs.Assignments.{Assignment, number, places}
use Rattle.normal_form.specs.Formers.{Former, binding, by_offset, constants, digiting, flattening, offset, spreading, unflattening, varying}
use Rattle.normal_form.specs.Meaning.{Store}
use Rattle.normal_form.specs.Stands.{AreBelow, Gives, Represents, StandFor}
use Rattle.normal_form.proofs.FreshLemmas.{places-of}
use Rattle.normal_form.proofs.HandLemmas.{AnEntry, Hands, StepGrows, TheEntries, entry-and, entry-later, grows-binding}
use Rattle.normal_form.proofs.HandLemmas.{hands-binding, hands-now, hands-then}

-- ---- the offset of entries

-- constants are places
constants-more : (m : Assignment) (constant : ℤ) (entries : List Entry) (o : Option (List ℕ))
    → IfSome o (λ list. list ≡ places m entries)
    → IfSome (option_map (λ list. unsigned_abs constant ∷ list) o) (λ list. list ≡ places m (At constant ∷ entries))
constants-more m constant entries None h = tt
constants-more m constant entries (Some list) h = ap (λ more. unsigned_abs constant ∷ more) h

constants-places : (m : Assignment) (entries : List Entry) → IfSome (constants entries) (λ list. list ≡ places m entries)
constants-places m [] = refl
constants-places m (At constant ∷ entries) = constants-more m constant entries (constants entries) (constants-places m entries)
constants-places m (Plus var add ∷ entries) = tt
constants-places m (Minus var add ∷ entries) = tt

hands-offset : (s : Store) (m : Assignment) (next : ℕ) (o : Option (List ℕ)) (shape : List ℕ) (entries : List Entry) (index : List ℕ)
    → IfSome o (λ list. list ≡ places m entries) → StandFor m entries index → IsIndex index shape
    → Hands s (AnEntry (gamma index shape)) m next (offset o shape entries)
hands-offset s m next (Some list) shape entries index known stand inside =
    hands-now s (AnEntry (gamma index shape)) m next (At (pos (gamma list shape)))
    (tt, ap (λ places. pos (gamma places shape)) (known ∙ places-of m entries index stand))
hands-offset s m next None shape entries index known stand inside =
    hands-binding s m next (Flat entries shape) (gamma index shape) (record { index = index; stand = stand; within = inside })
    (ap (λ places. gamma places shape) (places-of m entries index stand))

-- the only entry of one axis is the offset
hands-only : (s : Store) (m : Assignment) (next n : ℕ) (entries : List Entry) (index : List ℕ)
    → AreBelow next entries → StandFor m entries index → IsIndex index (n ∷ [])
    → Hands s (AnEntry (gamma index (n ∷ []))) m next (flattening (n ∷ []) entries)
hands-only s m next n entries [] below stand inside = absurd inside
hands-only s m next n entries (k ∷ more ∷ index) below stand inside = absurd inside.1
hands-only s m next n [] (k ∷ []) below stand inside = absurd (cc)
hands-only s m next n (entry ∷ entries) (k ∷ []) below stand inside =
    let first : number m entry ≡ pos k = cc in
    let whole : k ≡ gamma (k ∷ []) (n ∷ []) = omega arith in
    hands-now s (AnEntry (gamma (k ∷ []) (n ∷ []))) m next entry (below.0, first ∙ ap pos whole)

hands-flattening : (s : Store) (m : Assignment) (next : ℕ) (shape : List ℕ) (entries : List Entry) (index : List ℕ)
    → AreBelow next entries → StandFor m entries index → IsIndex index shape
    → Hands s (AnEntry (gamma index shape)) m next (flattening shape entries)
hands-flattening s m next [] entries index below stand inside =
    hands-offset s m next (constants entries) [] entries index (constants-places m entries) stand inside
hands-flattening s m next (n ∷ []) entries index below stand inside = hands-only s m next n entries index below stand inside
hands-flattening s m next (n ∷ k ∷ shape) entries index below stand inside =
    hands-offset s m next (constants entries) (n ∷ k ∷ shape) entries index (constants-places m entries) stand inside

grows-offset : (o : Option (List ℕ)) (shape : List ℕ) (entries : List Entry) → StepGrows (offset o shape entries)
grows-offset (Some list) shape entries = λ rest grows. grows (At (pos (gamma list shape)))
grows-offset None shape entries = grows-binding (Flat entries shape)

pub grows-flattening : (shape : List ℕ) (entries : List Entry) → StepGrows (flattening shape entries)
grows-flattening [] entries = grows-offset (constants entries) [] entries
grows-flattening (n ∷ []) entries = λ rest grows. grows (slice_index_or entries 0 (At (pos 0)))
grows-flattening (n ∷ k ∷ shape) entries = grows-offset (constants entries) (n ∷ k ∷ shape) entries

-- ---- the entries of an offset

hands-digit : (s : Store) (m : Assignment) (next : ℕ) (flat : Entry) (weight n place : ℕ)
    → AnEntry place m next flat → 0 < weight → 0 < n → Hands s (AnEntry (digit place weight n)) m next (binding (Digit flat weight n))
hands-digit s m next flat weight n place fit heavy some =
    hands-binding s m next (Digit flat weight n) (digit place weight n) (record { place = place; stands = fit.1 }, (heavy, some))
    (ap (λ z. digit (unsigned_abs z) weight n) fit.1)

hands-varying : (s : Store) (m : Assignment) (next : ℕ) (flat : Entry) (weight n place : ℕ)
    → AnEntry place m next flat → 0 < weight → 0 < n → Hands s (AnEntry (digit place weight n)) m next (varying flat weight n)
hands-varying s m next (At constant) weight n place fit heavy some =
    hands-now s (AnEntry (digit place weight n)) m next (At (pos (digit (unsigned_abs constant) weight n)))
    (tt, ap (λ z. pos (digit (unsigned_abs z) weight n)) fit.1)
hands-varying s m next (Plus var add) weight n place fit heavy some = hands-digit s m next (Plus var add) weight n place fit heavy some
hands-varying s m next (Minus var add) weight n place fit heavy some = hands-digit s m next (Minus var add) weight n place fit heavy some

hands-digiting : (s : Store) (m : Assignment) (next : ℕ) (flat : Entry) (weight n place : ℕ)
    → AnEntry place m next flat → 0 < weight → 0 < n → Hands s (AnEntry (digit place weight n)) m next (digiting flat weight n)
hands-digiting s m next flat weight zero place fit heavy some = absurd (omega (arith, some))
hands-digiting s m next flat weight (suc zero) place fit heavy some =
    let only : 0 ≡ digit place weight 1 = omega arith in
    hands-now s (AnEntry (digit place weight 1)) m next (At (pos 0)) (tt, ap pos only)
hands-digiting s m next flat weight (suc (suc n)) place fit heavy some =
    hands-varying s m next flat weight (suc (suc n)) place fit heavy some

hands-spreading : (s : Store) (m : Assignment) (next : ℕ) (shape : List ℕ) (flat : Entry) (place : ℕ) → ((list : List ℕ) → 0 < span list)
    → AllByRecursion (λ n. 0 < n) shape → AnEntry place m next flat
    → Hands s (TheEntries (digits shape place)) m next (spreading shape flat)
hands-spreading s m next [] flat place heavy some fit = hands-now s (TheEntries []) m next [] (tt, refl)
hands-spreading s m next (n ∷ shape) flat place heavy some fit =
    let first = digit place (span shape) n in
    let rest = digits shape place in
    hands-then s (AnEntry first) (TheEntries (first ∷ rest)) m next (digiting flat (span shape) n)
    (λ entry more. spreading shape flat (λ entries. more (entry ∷ entries)))
    (hands-digiting s m next flat (span shape) n place fit (heavy shape) some.0)
    (λ other entry later more agree one.
    hands-then s (TheEntries rest) (TheEntries (first ∷ rest)) other later (spreading shape flat)
    (λ entries more. more (entry ∷ entries))
    (hands-spreading s other later shape flat place heavy some.1 (entry-later m other next later flat place more agree fit))
    (λ last entries latest further same others.
    hands-now s (TheEntries (first ∷ rest)) last latest (entry ∷ entries)
    (entry-and last latest entry first entries rest (entry-later other last later latest entry first further same one) others)))

grows-varying : (flat : Entry) (weight n : ℕ) → StepGrows (varying flat weight n)
grows-varying (At constant) weight n = λ rest grows. grows (At (pos (digit (unsigned_abs constant) weight n)))
grows-varying (Plus var add) weight n = grows-binding (Digit (Plus var add) weight n)
grows-varying (Minus var add) weight n = grows-binding (Digit (Minus var add) weight n)

grows-digiting : (flat : Entry) (weight n : ℕ) → StepGrows (digiting flat weight n)
grows-digiting flat weight zero = grows-varying flat weight zero
grows-digiting flat weight (suc zero) = λ rest grows. grows (At (pos 0))
grows-digiting flat weight (suc (suc n)) = grows-varying flat weight (suc (suc n))

grows-spreading : (shape : List ℕ) (flat : Entry) → StepGrows (spreading shape flat)
grows-spreading [] flat = λ rest grows. grows []
grows-spreading (n ∷ shape) flat = λ rest grows.
    grows-digiting flat (span shape) n (λ entry. spreading shape flat (λ entries. rest (entry ∷ entries)))
    (λ entry. grows-spreading shape flat (λ entries. rest (entry ∷ entries)) (λ entries. grows (entry ∷ entries)))

pub grows-unflattening : (shape : List ℕ) (flat : Entry) → StepGrows (unflattening shape flat)
grows-unflattening [] flat = grows-spreading [] flat
grows-unflattening (n ∷ []) flat = λ rest grows. grows (flat ∷ [])
grows-unflattening (n ∷ k ∷ shape) flat = grows-spreading (n ∷ k ∷ shape) flat

-- ---- reshapes

-- what is used of the laws of offsets, digits and spans
pub record OffsetLaws : Type 0 where
  pub below : (index shape : List ℕ) → IsIndex index shape → gamma index shape < total shape
  pub is_index : (shape : List ℕ) (place : ℕ) → place < total shape → IsIndex (ungamma shape place) shape
  pub undone : (index shape : List ℕ) → IsIndex index shape → ungamma shape (gamma index shape) ≡ index
  pub digits_same : (shape : List ℕ) (place : ℕ) → place < total shape → digits shape place ≡ ungamma shape place
  pub span_positive : (shape : List ℕ) → 0 < span shape
  pub extents_positive : (shape : List ℕ) → 0 < total shape → AllByRecursion (λ n. 0 < n) shape

module _ (law : OffsetLaws) (s : Store) where
  hands-digits : (m : Assignment) (next : ℕ) (shape : List ℕ) (flat : Entry) (place : ℕ)
      → AnEntry place m next flat → place < total shape → Hands s (TheEntries (ungamma shape place)) m next (spreading shape flat)
  hands-digits m next shape flat place fit below =
      subst (λ index. Hands s (TheEntries index) m next (spreading shape flat)) (law.digits_same shape place below)
      (hands-spreading s m next shape flat place law.span_positive (law.extents_positive shape (omega (arith, below))) fit)

  hands-unflattening : (m : Assignment) (next : ℕ) (shape : List ℕ) (flat : Entry) (place : ℕ)
      → AnEntry place m next flat → place < total shape → Hands s (TheEntries (ungamma shape place)) m next (unflattening shape flat)
  hands-unflattening m next [] flat place fit below = hands-digits m next [] flat place fit below
  hands-unflattening m next (n ∷ []) flat place fit below =
      let whole : number m flat ≡ pos (place / 1) = fit.1 ∙ ap pos (sym (div-one place)) in
      hands-now s (TheEntries (ungamma (n ∷ []) place)) m next (flat ∷ []) ((fit.0, tt), ap (λ z. z ∷ []) whole)
  hands-unflattening m next (n ∷ k ∷ shape) flat place fit below = hands-digits m next (n ∷ k ∷ shape) flat place fit below

  module _ (of : Former) (shape : List ℕ) (at : List ℕ → ℤ) where
    -- the operand's element at the offset of an index vector
    abbrev reshaped : List ℕ → List ℕ → ℤ
    reshaped operand index = at (ungamma operand (gamma index shape))

    represents-same : (operand : List ℕ) → shape ≡ operand → Represents s of operand at → Represents s of shape (reshaped operand)
    represents-same operand same h = record {
      grows = h.grows;
      gives = λ m entries next index below stand inside.
          let within = subst (λ list. IsIndex index list) same inside in
          let back = ap (λ list. ungamma operand (gamma index list)) same ∙ law.undone index operand within in
          subst (λ place. Gives s m (of entries next).0 (at place)) (sym back) (h.gives m entries next index below stand within);
    }

    represents-offset : (operand : List ℕ) → total shape ≡ total operand → Represents s of operand at
        → Represents s (λ entries. by_offset shape operand entries of) shape (reshaped operand)
    represents-offset [] same h = record {
      grows = λ entries. h.grows [];
      gives = λ m entries next index below stand inside. h.gives m [] next [] tt refl tt;
    }
    represents-offset (n ∷ operand) same h = record {
      grows = λ entries. grows-flattening shape entries (λ flat. unflattening (n ∷ operand) flat of)
          (λ flat. grows-unflattening (n ∷ operand) flat of h.grows);
      gives = λ m entries next index below stand inside.
          let place = gamma index shape in
          let home = ungamma (n ∷ operand) place in
          let within : place < total (n ∷ operand) = omega (arith, law.below index shape inside, same) in
          hands-then s (AnEntry place) (TheEntries home) m next (flattening shape entries) (unflattening (n ∷ operand))
          (hands-flattening s m next shape entries index below stand inside)
          (λ other flat later more agree fit. hands-unflattening other later (n ∷ operand) flat place fit within)
          of (at home)
          (λ other found later more agree fits.
          h.gives other found later home fits.0 fits.1 (law.is_index (n ∷ operand) place within));
    }

    pub represents-reshape : (operand : List ℕ) → total shape ≡ total operand → Represents s of operand at
        → (equal : Bool) → (equal ≡ true → shape ≡ operand)
        → Represents s (λ entries. if equal then of entries else by_offset shape operand entries of) shape (reshaped operand)
    represents-reshape operand same h true test = represents-same operand (test refl) h
    represents-reshape operand same h false test = represents-offset operand same h
