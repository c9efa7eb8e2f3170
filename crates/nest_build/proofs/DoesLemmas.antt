-- What steps write: the values of a set of assignments at their words, and no other word.
use Rattle.std.specs.Prelude.{◌≡◌, ◌≢◌, ◌⊎◌, ℕ, ℤ, pos, List, length, slice_index_or}
use Rattle.std.proofs.Common.{refl, ap, sym, subst, ◌∙◌, inl, inr}
use Rattle.shapes_core.specs.declared.area.Area.{Area}
use Rattle.normal_form.specs.Assignments.{Assignment}
use Rattle.loop_ir.specs.Running.{State}
use Rattle.nest_build.specs.Gives.{AddsInside}
use Rattle.nest_build.proofs.RunLemmas.{adds-none, adds-on}

-- a word is that of none of these assignments and as it was, or it is that of one of them and holds its value
abbrev pub IsWritten : (Assignment → ℕ) → (Assignment → ℤ) → (Assignment → Type 0) → List ℤ → List ℤ → ℕ → Type 0
IsWritten place value set before after word =
    ((slice_index_or after word (pos 0) ≡ slice_index_or before word (pos 0)) × ((m : Assignment) → set m → place m ≢ word))
    ⊎ ((m : Assignment) × (set m × ((place m ≡ word) × (slice_index_or after word (pos 0) ≡ value m))))

-- steps write the values of these assignments, and nothing else, inside the areas
pub record Does (areas : List Area) (place : Assignment → ℕ) (value : Assignment → ℤ) (set : Assignment → Type 0) (before after : State) :
    Type 0 where
  pub sized : length after.words ≡ length before.words
  pub each : (word : ℕ) → IsWritten place value set before.words after.words word
  pub trace : AddsInside areas before.trace after.trace

-- a word is as it was at the start, or it is that of one of these assignments
abbrev pub IsTouched : (Assignment → ℕ) → (Assignment → Type 0) → List ℤ → List ℤ → ℕ → Type 0
IsTouched place set start now word =
    (slice_index_or now word (pos 0) ≡ slice_index_or start word (pos 0)) ⊎ ((m : Assignment) × (set m × (place m ≡ word)))

pub record Touches (place : Assignment → ℕ) (set : Assignment → Type 0) (start now : List ℤ) : Type 0 where
  pub sized : length now ≡ length start
  pub each : (word : ℕ) → IsTouched place set start now word

pub touches-none : (place : Assignment → ℕ) (set : Assignment → Type 0) (start : List ℤ) → Touches place set start start
touches-none place set start = record { sized = refl; each = λ word. inl refl }

module _ (areas : List Area) (place : Assignment → ℕ) (value : Assignment → ℤ) where
  pub does-none : (set : Assignment → Type 0) (before after : State) → ((m : Assignment) → set m → ⊥)
      → after.words ≡ before.words → after.trace ≡ before.trace → Does areas place value set before after
  does-none set before after none words trace = record {
    sized = ap (λ list. length list) words;
    each = λ word. inl (ap (λ list. slice_index_or list word (pos 0)) words, λ m h e. none m h);
    trace = subst (λ touches. AddsInside areas before.trace touches) (sym trace) (adds-none areas before.trace);
  }

  written-on : (one other both : Assignment → Type 0) (first second third : List ℤ) (word : ℕ)
      → ((m : Assignment) → one m → both m) → ((m : Assignment) → other m → both m) → ((m : Assignment) → both m → one m ⊎ other m)
      → IsWritten place value one first second word → IsWritten place value other second third word
      → IsWritten place value both first third word
  written-on one other both first second third word f g split a (inr late) =
      inr (late.0, (g late.0 late.1.0, late.1.1))
  written-on one other both first second third word f g split (inr early) (inl kept) =
      inr (early.0, (f early.0 early.1.0, (early.1.1.0, kept.0 ∙ early.1.1.1)))
  written-on one other both first second third word f g split (inl same) (inl kept) =
      inl (kept.0 ∙ same.0, λ m h e. neither m (split m h) e)
    where
      neither : (m : Assignment) → one m ⊎ other m → place m ≡ word → ⊥
      neither m (inl h) e = same.1 m h e
      neither m (inr h) e = kept.1 m h e

  pub does-on : (one other both : Assignment → Type 0) (first second third : State)
      → ((m : Assignment) → one m → both m) → ((m : Assignment) → other m → both m) → ((m : Assignment) → both m → one m ⊎ other m)
      → Does areas place value one first second → Does areas place value other second third → Does areas place value both first third
  does-on one other both first second third f g split a b = record {
    sized = b.sized ∙ a.sized;
    each = λ word. written-on one other both first.words second.words third.words word f g split (a.each word) (b.each word);
    trace = adds-on areas first.trace second.trace third.trace a.trace b.trace;
  }

  -- steps before and behind it that write and read nothing
  pub does-within : (set : Assignment → Type 0) (first second third last : State) → second.words ≡ first.words → second.trace ≡ first.trace
      → last.words ≡ third.words → last.trace ≡ third.trace → Does areas place value set second third → Does areas place value set first last
  does-within set first second third last w t v u h = record {
    sized = ap (λ list. length list) v ∙ h.sized ∙ ap (λ list. length list) w;
    each = λ word. subst (λ list. IsWritten place value set list last.words word) w
        (subst (λ list. IsWritten place value set second.words list word) (sym v) (h.each word));
    trace = subst (λ touches. AddsInside areas touches last.trace) t
        (subst (λ touches. AddsInside areas second.trace touches) (sym u) h.trace);
  }

  touched-on : (part set : Assignment → Type 0) (start before after : List ℤ) (word : ℕ) → ((m : Assignment) → part m → set m)
      → IsTouched place set start before word → IsWritten place value part before after word → IsTouched place set start after word
  touched-on part set start before after word f a (inr late) = inr (late.0, (f late.0 late.1.0, late.1.1.0))
  touched-on part set start before after word f (inl same) (inl kept) = inl (kept.0 ∙ same)
  touched-on part set start before after word f (inr early) (inl kept) = inr early

  pub touches-on : (part set : Assignment → Type 0) (start : List ℤ) (before after : State) → ((m : Assignment) → part m → set m)
      → Touches place set start before.words → Does areas place value part before after → Touches place set start after.words
  touches-on part set start before after f a b = record {
    sized = b.sized ∙ a.sized;
    each = λ word. touched-on part set start before.words after.words word f (a.each word) (b.each word);
  }
