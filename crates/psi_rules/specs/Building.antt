-- What is built in a pool of terms. This project's own.
use mathlib.Core.List.{reverse_aux}
use Rattle.std.specs.Prelude.{◌≡◌, ℕ, suc, ◌+◌, ◌-◌, ◌<◌, ◌≤◌, ℤ, pos, List, [], ◌∷◌, ◌++◌, drop, length, slice_index, take}
use Rattle.shapes_core.specs.Limits.{most_items}
use Rattle.moa_tree.specs.Axes.{on_axis, turned}
use Rattle.moa_tree.specs.declared.operator.Op.{Op}
use Rattle.normal_form.specs.declared.entry.Entry.{Entry}
use Rattle.normal_form.specs.declared.term.Bind.TheVariants.{Digit, Flat, Turn}
use Rattle.normal_form.specs.declared.term.Term.{Term}
use Rattle.normal_form.specs.Cutting.{terms_in}
use Rattle.normal_form.specs.Formers.{Former, Making, binding, folding, joining, on_both, spreading, turning}
use Rattle.normal_form.specs.Forms.{Bin, Case, Normal}
use Rattle.normal_form.specs.Kept.{AreOrdered}
use Rattle.normal_form.specs.Moves.{behind_entry}
use Rattle.normal_form.specs.Pool.{form_at, forms}
use Rattle.psi_rules.specs.declared.digits.Digited.{Digited}
use Rattle.psi_rules.specs.declared.digits.Digited.TheVariants as digited
use Rattle.psi_rules.specs.declared.sides.Side.{Side}
use Rattle.psi_rules.specs.declared.sides.Side.TheVariants as side
use Rattle.psi_rules.specs.declared.turns.Turned.{Turned}
use Rattle.psi_rules.specs.declared.turns.Turned.TheVariants as turned_entry
use Rattle.psi_rules.specs.Rules.{entry_on}

-- the terms so far, and the next variable
pub record Built : Type 0 where
  pub terms : List Term
  pub next : ℕ

-- how many numbers of terms and variables are used
abbrev pub used : Built → ℕ
used pool = length pool.terms + pool.next

-- operands stand before their terms, and the terms are few
pub record IsPool (terms : List Term) : Type 0 where
  pub ordered : AreOrdered 0 terms
  pub few : length terms ≤ most_items

-- the term of this number is there, and is this form
pub record Stands (terms : List Term) (number : ℕ) (form : Normal) : Type 0 where
  pub there : number < length terms
  pub same : form_at (forms terms) number ≡ form

-- what stands goes on standing
abbrev pub Keeps : List Term → List Term → Type 0
Keeps old new = (number : ℕ) (form : Normal) → Stands old number form → Stands new number form

-- the term of this number is the last one, and no term went
pub record IsThere (old new : Built) (number : ℕ) : Type 0 where
  pub last : 1 + number ≡ length new.terms
  pub longer : length old.terms ≤ length new.terms

-- the next variable is taken
pub record IsFresh (old new : Built) (var : ℕ) : Type 0 where
  pub taken : var ≡ old.next
  pub next : new.next ≡ suc old.next
  pub terms : new.terms ≡ old.terms

-- What is made from the next variable on stands at this number. As a tree it has no more terms than were added.
pub record Builds (making : Making) (old new : Built) (number : ℕ) : Type 0 where
  pub stands : Stands new.terms number (making old.next).0
  pub next : new.next ≡ (making old.next).1
  pub keeps : Keeps old.terms new.terms
  pub counted : terms_in (making old.next).0 + length old.terms ≤ length new.terms

-- A form is added at this number, with no variable of its own. As a tree it has no more terms than its operands, which have so many, and those
-- that were added.
pub record Adds (below : ℕ) (form : Normal) (old new : Built) (number : ℕ) : Type 0 where
  pub stands : Stands new.terms number form
  pub next : new.next ≡ old.next
  pub keeps : Keeps old.terms new.terms
  pub counted : terms_in form + length old.terms ≤ below + length new.terms

-- the fold of an inner product of two formers, where the first is of this shape
abbrev pub inner_made : Op → Op → List ℕ → List Entry → Former → Former → Making
inner_made fold op shape entries left right =
    let axes = length shape - 1 in
    folding fold (slice_index shape axes) (λ k. on_both (Bin op) (left (take axes entries ++ k ∷ [])) (right (k ∷ drop axes entries)))

-- what is made of a join where it is known which parts are reached
abbrev pub sided : Side → ℕ → Entry → Making → Making → Making
sided side.First n entry first second = first
sided side.Second n entry first second = second
sided side.Both n entry first second = on_both (Case entry (pos n)) first second

-- the join of two formers of these shapes
abbrev pub cat_made : List ℕ → List ℕ → List Entry → Former → Former → Making
cat_made shape other entries left right =
    joining (slice_index shape 0) (slice_index other 0) (entry_on 0 entries) (left entries) (right (on_axis 0 behind_entry shape entries))

-- what is made of a turn where it is known whether a variable is bound
abbrev pub turned_by : Turned → ℕ → ℕ → Entry → (Entry → Making) → Making
turned_by (turned_entry.Found found) by n entry rest = rest found
turned_by turned_entry.Bound by n entry rest = binding (Turn entry by n) rest

-- the turn of a former of this shape
abbrev pub rotate_made : ℤ → List ℕ → List Entry → Former → Making
rotate_made by shape entries of =
    let n = slice_index shape 0 in
    turning (turned by n 0) n (entry_on 0 entries) (λ entry. of (on_axis 0 (λ extent old. entry) shape entries))

-- what is made of a digit where it is known whether a variable is bound
abbrev pub digit_by : Digited → Entry → ℕ → ℕ → (Entry → Making) → Making
digit_by (digited.Found found) flat weight n rest = rest found
digit_by digited.Bound flat weight n rest = binding (Digit flat weight n) rest

-- what is made of an offset where it is known whether a variable is bound
abbrev pub flat_by : Digited → List ℕ → List Entry → (Entry → Making) → Making
flat_by (digited.Found found) shape entries rest = rest found
flat_by digited.Bound shape entries rest = binding (Flat entries shape) rest

-- the digits of an offset behind those that are found, the last one first
abbrev pub spread_made : List ℕ → Entry → List Entry → Former → Making
spread_made shape flat found of = spreading shape flat (λ entries. of (reverse_aux found entries))
