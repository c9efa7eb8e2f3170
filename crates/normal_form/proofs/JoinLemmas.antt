-- A join on the first axis: each index vector leads to one of the parts.
use Rattle.std.specs.Prelude.{◌≡◌, ℕ, zero, suc, ◌+◌, ◌-◌, ◌<◌, ◌≤◌, Bool, true, false, ℤ, pos, ◌+ℤ◌, ◌-ℤ◌, int_lt, List, [], ◌∷◌, length, nat_lt, slice_index, slice_index_or, if◌then◌else◌}
use Rattle.std.proofs.Common.{refl, sym, ap, ap₂, subst, ◌∙◌, arith, le_refl, le_trans}
use Rattle.std.proofs.lemmas.Bool.{le-ltb, lt-ltb, ltb-false}
use Rattle.std.proofs.lemmas.Int.{ints}
use Rattle.shapes_core.specs.Gamma.{IsIndex}
use Rattle.moa_tree.specs.Axes.{behind, on_axis}
use Rattle.moa_tree.specs.Values.{chosen, either_part}
use Rattle.normal_form.specs.declared.entry.Entry.{Entry}
use Rattle.normal_form.specs.declared.entry.Entry.TheVariants.{At, Plus, Minus}
use Rattle.normal_form.specs.Assignments.{Assignment, number}
use Rattle.normal_form.specs.Formers.{Former, Making, joining, on_both}
use Rattle.normal_form.specs.Forms.{Case}
use Rattle.normal_form.specs.Meaning.{Store}
use Rattle.normal_form.specs.Moves.{behind_entry, raised}
use Rattle.normal_form.specs.Stands.{AreBelow, Gives, Represents, StandFor, uses_below}
use Rattle.normal_form.proofs.FreshLemmas.{below-later, first-number}
use Rattle.normal_form.proofs.GivesLemmas.{Grows, gives-case}

-- ---- the second part's entries

raised-below : (next : ℕ) (by : ℤ) (entry : Entry) → uses_below next entry → uses_below next (raised by entry)
raised-below next by (At constant) h = tt
raised-below next by (Plus var add) h = h
raised-below next by (Minus var add) h = h

raised-number : (m : Assignment) (by : ℤ) (entry : Entry) → number m (raised by entry) ≡ number m entry +ℤ by
raised-number m by (At constant) = refl
raised-number m by (Plus var add) = omega (arith, ints)
raised-number m by (Minus var add) = omega (arith, ints)

behind-below : (shape : List ℕ) (entries : List Entry) (next : ℕ) → AreBelow next entries
    → AreBelow next (on_axis 0 behind_entry shape entries)
behind-below [] entries next h = h
behind-below (n ∷ shape) [] next h = tt
behind-below (n ∷ shape) (entry ∷ entries) next h = (raised-below next (pos 0 -ℤ pos n) entry h.0, h.1)

pub behind-number : (n i : ℕ) → n ≤ i → pos i +ℤ (pos 0 -ℤ pos n) ≡ pos (i - n)
behind-number n i h = omega (arith, ints)

behind-stands : (m : Assignment) (shape : List ℕ) (entries : List Entry) (index : List ℕ)
    → nat_lt (slice_index index 0) (slice_index shape 0) ≡ false
    → StandFor m entries index → StandFor m (on_axis 0 behind_entry shape entries) (on_axis 0 behind shape index)
behind-stands m [] entries index back stand = stand
behind-stands m (n ∷ shape) [] [] back stand = refl
behind-stands m (n ∷ shape) [] (i ∷ index) back stand = absurd (cc)
behind-stands m (n ∷ shape) (entry ∷ entries) [] back stand = absurd (cc)
behind-stands m (n ∷ shape) (entry ∷ entries) (i ∷ index) back stand =
    let first : number m entry ≡ pos i = cc in
    let others : StandFor m entries index = cc in
    ap₂ (λ front rest. front ∷ rest)
    (raised-number m (pos 0 -ℤ pos n) entry ∙ ap (λ k. k +ℤ (pos 0 -ℤ pos n)) first ∙ behind-number n i (ltb-false i n back)) others

-- ---- one of two parts

taken-part : (s : Store) (m : Assignment) (test : Bool) (first second : Making) (next : ℕ) (value : ℤ)
    → (test ≡ true → Gives s m (first next).0 value) → (test ≡ false → Gives s m (second next).0 value)
    → Gives s m ((if test then first else second) next).0 value
taken-part s m true first second next value h k = h refl
taken-part s m false first second next value h k = k refl

-- a part is given wherever a place is its own
abbrev pub Later : Store → Assignment → ℕ → Making → Bool → ℤ → Type 0
Later s m next second test value = (later : ℕ) → next ≤ later → test ≡ false → Gives s m (second later).0 value

case-part : (s : Store) (m : Assignment) (n : ℕ) (entry : Entry) (first second : Making) (next i : ℕ) (value : ℤ)
    → number m entry ≡ pos i → next ≤ (first next).1
    → (nat_lt i n ≡ true → Gives s m (first next).0 value) → Later s m next second (nat_lt i n) value
    → Gives s m (on_both (Case entry (pos n)) first second next).0 value
case-part s m n entry first second next i value stands grows h k =
    let same : nat_lt i n ≡ int_lt (number m entry) (pos n) = ap (λ z. int_lt z (pos n)) (sym stands) in
    gives-case s m entry (pos n) (first next).0 (second (first next).1).0 value (record { place = i; stands = stands })
    (λ yes. h (same ∙ yes)) (λ no. k (first next).1 grows (same ∙ no))

joining-gives : (s : Store) (m : Assignment) (n k : ℕ) (entry : Entry) (first second : Making) (next i : ℕ) (value : ℤ)
    → number m entry ≡ pos i → i < n + k → next ≤ (first next).1
    → (nat_lt i n ≡ true → Gives s m (first next).0 value) → Later s m next second (nat_lt i n) value
    → Gives s m (joining n k entry first second next).0 value
joining-gives s m zero k entry first second next i value stands below grows one two =
    two next (le_refl next) (le-ltb i 0 (omega arith))
joining-gives s m (suc n) zero entry first second next i value stands below grows one two =
    one (lt-ltb i (suc n) (omega (arith, below)))
joining-gives s m (suc n) (suc k) (At constant) first second next i value stands below grows one two =
    let same : nat_lt i (suc n) ≡ int_lt constant (pos (suc n)) = ap (λ z. int_lt z (pos (suc n))) (sym stands) in
    taken-part s m (int_lt constant (pos (suc n))) first second next value
    (λ yes. one (same ∙ yes)) (λ no. two next (le_refl next) (same ∙ no))
joining-gives s m (suc n) (suc k) (Plus var add) first second next i value stands below grows one two =
    case-part s m (suc n) (Plus var add) first second next i value stands grows one two
joining-gives s m (suc n) (suc k) (Minus var add) first second next i value stands below grows one two =
    case-part s m (suc n) (Minus var add) first second next i value stands grows one two

-- ---- growth

taken-grows : (test : Bool) (first second : Making) → Grows first → Grows second → Grows (if test then first else second)
taken-grows true first second h k = h
taken-grows false first second h k = k

pub joining-grows : (n k : ℕ) (entry : Entry) (first second : Making) → Grows first → Grows second → Grows (joining n k entry first second)
joining-grows zero k entry first second h g next = g next
joining-grows (suc n) zero entry first second h g next = h next
joining-grows (suc n) (suc k) (At constant) first second h g next =
    taken-grows (int_lt constant (pos (suc n))) first second h g next
joining-grows (suc n) (suc k) (Plus var add) first second h g next = le_trans (h next) (g (first next).1)
joining-grows (suc n) (suc k) (Minus var add) first second h g next = le_trans (h next) (g (first next).1)

-- ---- the whole

chosen-first : {X Y : Type 0} (test : Bool) (f g : X → Y) (x : X) → test ≡ true → chosen test f g x ≡ f x
chosen-first true f g x h = refl
chosen-first false f g x h = absurd (cc)

chosen-second : {X Y : Type 0} (test : Bool) (f g : X → Y) (x : X) → test ≡ false → chosen test f g x ≡ g x
chosen-second true f g x h = absurd (cc)
chosen-second false f g x h = refl

first-below : (shape index : List ℕ) → 0 < length shape → IsIndex index shape
    → (0 < length index) × (slice_index index 0 < slice_index shape 0)
first-below [] index full h = absurd (omega (arith, full))
first-below (n ∷ shape) [] full h = absurd h
first-below (n ∷ shape) (i ∷ index) full h = (omega arith, h.0)

pub join-represents : (s : Store) (left right : Former) (shape first second : List ℕ) (at over : List ℕ → ℤ)
    → 0 < length shape → slice_index shape 0 ≡ slice_index first 0 + slice_index second 0
    → ((index : List ℕ) → IsIndex index shape → nat_lt (slice_index index 0) (slice_index first 0) ≡ true → IsIndex index first)
    → ((index : List ℕ) → IsIndex index shape → nat_lt (slice_index index 0) (slice_index first 0) ≡ false
    → IsIndex (on_axis 0 behind first index) second)
    → Represents s left first at → Represents s right second over
    → Represents s
    (λ entries. joining (slice_index first 0) (slice_index second 0) (slice_index_or entries 0 (At (pos 0)))
    (left entries) (right (on_axis 0 behind_entry first entries)))
    shape (either_part 0 first at over)
join-represents s left right shape first second at over full long front back h k = record {
  grows = λ entries next. joining-grows (slice_index first 0) (slice_index second 0) (slice_index_or entries 0 (At (pos 0)))
      (left entries) (right (on_axis 0 behind_entry first entries)) (h.grows entries) (k.grows (on_axis 0 behind_entry first entries)) next;
  gives = λ m entries next index below stand inside.
      let items = first-below shape index full inside in
      let test = nat_lt (slice_index index 0) (slice_index first 0) in
      let later_part = λ (i : List ℕ). over (on_axis 0 behind first i) in
      let moved = on_axis 0 behind_entry first entries in
      joining-gives s m (slice_index first 0) (slice_index second 0) (slice_index_or entries 0 (At (pos 0)))
      (left entries) (right moved) next (slice_index index 0) (either_part 0 first at over index)
      (first-number m entries index items.0 stand) (omega (arith, items.1, long)) (h.grows entries next)
      (λ yes. subst (Gives s m (left entries next).0) (sym (chosen-first test at later_part index yes))
      (h.gives m entries next index below stand (front index inside yes)))
      (λ later more no. subst (Gives s m (right moved later).0) (sym (chosen-second test at later_part index no))
      (k.gives m moved later (on_axis 0 behind first index) (behind-below first entries later (below-later next later entries more below))
      (behind-stands m first entries index no stand) (back index inside no)));
}
