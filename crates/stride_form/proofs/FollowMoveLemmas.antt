-- What is known may be put in the place of variables before a move of entries or behind it.
use Rattle.std.specs.Prelude.{◌≡◌, ◌==◌, ℕ, zero, suc, ◌-◌, ℤ, pos, List, [], ◌∷◌, ◌++◌, drop, length, map, reverse, slice_index_or, take}
use Rattle.std.specs.List.{insert, position_or_len, range_with_len}
use Rattle.std.proofs.Common.{refl, ap, ap₂, sym, subst, ◌∙◌}
use Rattle.std.proofs.Math.ListN.{get_or-map}
use Rattle.std.proofs.lemmas.Grind.{reverse_onto}
use Rattle.std.proofs.lemmas.List.{drop-map, length-map, map-append, take-map}
use Rattle.moa_tree.specs.Axes.{each_place, on_axis, own_index, restored}
use Rattle.normal_form.specs.declared.entry.Entry.{Entry}
use Rattle.normal_form.specs.declared.entry.Entry.TheVariants.{At}
use Rattle.normal_form.specs.Stands.{AreBelow, uses_below}
use Rattle.stride_form.specs.Facts.{Facts, resolved}
use Rattle.stride_form.specs.Follows.{Commutes, CommutesAt, CommutesTo, CommutesWith}

-- ---- variables below one

at-below : (place : ℕ) (entries : List Entry) (next : ℕ) → AreBelow next entries
    → uses_below next (slice_index_or entries place (At (pos 0)))
at-below place [] next h = tt
at-below zero (entry ∷ entries) next h = h.0
at-below (suc place) (entry ∷ entries) next h = at-below place entries next h.1

take-below : (n : ℕ) (entries : List Entry) (next : ℕ) → AreBelow next entries → AreBelow next (take n entries)
take-below zero entries next h = tt
take-below (suc n) [] next h = tt
take-below (suc n) (entry ∷ entries) next h = (h.0, take-below n entries next h.1)

drop-below : (n : ℕ) (entries : List Entry) (next : ℕ) → AreBelow next entries → AreBelow next (drop n entries)
drop-below zero entries next h = h
drop-below (suc n) [] next h = tt
drop-below (suc n) (entry ∷ entries) next h = drop-below n entries next h.1

append-below : (entries more : List Entry) (next : ℕ) → AreBelow next entries → AreBelow next more → AreBelow next (entries ++ more)
append-below [] more next h k = k
append-below (entry ∷ entries) more next h k = (h.0, append-below entries more next h.1 k)

-- ---- parts of lists

pub at-commutes : (place : ℕ) → CommutesTo (λ entries. slice_index_or entries place (At (pos 0)))
at-commutes place = record {
  commutes = λ facts entries. sym (get_or-map (resolved facts) entries place (At (pos 0)));
  below = at-below place;
}

pub take-commutes : (n : ℕ) → Commutes (take n)
take-commutes n = record { commutes = λ facts entries. sym (take-map (resolved facts) n entries); below = take-below n }

pub drop-commutes : (n : ℕ) → Commutes (drop n)
drop-commutes n = record { commutes = λ facts entries. sym (drop-map (resolved facts) n entries); below = drop-below n }

pub own-commutes : (shape : List ℕ) → Commutes (own_index shape)
own-commutes shape = record {
  commutes = λ facts entries. sym (drop-map (resolved facts) (length entries - length shape) entries)
      ∙ ap (λ n. drop (n - length shape) (map (resolved facts) entries)) (sym (length-map entries (resolved facts)));
  below = λ entries. drop-below (length entries - length shape) entries;
}

-- ---- lists joined and turned round

pub append-commutes : (first second : List Entry → List Entry) → Commutes first → Commutes second
    → Commutes (λ entries. first entries ++ second entries)
append-commutes first second h k = record {
  commutes = λ facts entries. map-append (resolved facts) (first entries) (second entries)
      ∙ ap₂ (λ a b. a ++ b) (h.commutes facts entries) (k.commutes facts entries);
  below = λ entries next under. append-below (first entries) (second entries) next (h.below entries next under) (k.below entries next under);
}

resolved-constants : (facts : Facts) (list : List ℤ) → map (resolved facts) (map At list) ≡ map At list
resolved-constants facts [] = refl
resolved-constants facts (k ∷ list) = ap (λ more. At k ∷ more) (resolved-constants facts list)

constants-below : (list : List ℤ) (next : ℕ) → AreBelow next (map At list)
constants-below [] next = tt
constants-below (k ∷ list) next = (tt, constants-below list next)

pub constants-commute : (list : List ℤ) → Commutes (λ entries. map At list)
constants-commute list = record {
  commutes = λ facts entries. resolved-constants facts list;
  below = λ entries next h. constants-below list next;
}

pub all-commute : Commutes (λ entries. entries)
all-commute = record { commutes = λ facts entries. refl; below = λ entries next h. h }

pub psi-commutes : (list : List ℤ) → Commutes (λ entries. map At list ++ entries)
psi-commutes list = append-commutes (λ entries. map At list) (λ entries. entries) (constants-commute list) all-commute

resolved-reverse : (facts : Facts) (entries : List Entry) → map (resolved facts) (reverse entries) ≡ reverse (map (resolved facts) entries)
resolved-reverse facts [] = refl
resolved-reverse facts (entry ∷ entries) =
    ap (map (resolved facts)) (reverse_onto entries entry [])
    ∙ map-append (resolved facts) (reverse entries) (entry ∷ [])
    ∙ ap (λ list. list ++ resolved facts entry ∷ []) (resolved-reverse facts entries)
    ∙ sym (reverse_onto (map (resolved facts) entries) (resolved facts entry) [])

-- an induction over a list that is turned round
reverse-below : (entries : List Entry) (next : ℕ) → AreBelow next entries → AreBelow next (reverse entries)
reverse-below [] next h = tt
reverse-below (entry ∷ entries) next h =
    subst (AreBelow next) (sym (reverse_onto entries entry []))
    (append-below (reverse entries) (entry ∷ []) next (reverse-below entries next h.1) (h.0, tt))

pub reverse-commutes : Commutes (λ entries. reverse entries)
reverse-commutes = record { commutes = resolved-reverse; below = reverse-below }

-- ---- permuted axes

resolved-each : (facts : Facts) (entries : List Entry) (find : ℕ → ℕ) (axes : List ℕ)
    → map (resolved facts) (map (λ axis. slice_index_or entries (find axis) (At (pos 0))) axes)
    ≡ map (λ axis. slice_index_or (map (resolved facts) entries) (find axis) (At (pos 0))) axes
resolved-each facts entries find [] = refl
resolved-each facts entries find (axis ∷ axes) =
    ap₂ (λ first more. first ∷ more) ((at-commutes (find axis)).commutes facts entries) (resolved-each facts entries find axes)

each-below : (entries : List Entry) (next : ℕ) (find : ℕ → ℕ) (axes : List ℕ) → AreBelow next entries
    → AreBelow next (map (λ axis. slice_index_or entries (find axis) (At (pos 0))) axes)
each-below entries next find [] h = tt
each-below entries next find (axis ∷ axes) h = (at-below (find axis) entries next h, each-below entries next find axes h)

pub restored-commutes : (permutation : List ℕ) → Commutes (restored (At (pos 0)) permutation)
restored-commutes permutation =
    let find = λ (axis : ℕ). position_or_len (λ p. p == axis) permutation in
    let axes = range_with_len 0 (length permutation) in
    record {
      commutes = λ facts entries. resolved-each facts entries find axes;
      below = λ entries next h. each-below entries next find axes h;
    }

-- ---- moves on axes

module _ (f : ℤ → ℕ → Entry → Entry) (one : (k : ℤ) (n : ℕ) → CommutesAt (f k n)) where
  resolved-place : (list : List ℤ) (shape : List ℕ) (facts : Facts) (entries : List Entry)
      → map (resolved facts) (each_place f list shape entries) ≡ each_place f list shape (map (resolved facts) entries)
  resolved-place [] shape facts entries = refl
  resolved-place (k ∷ list) [] facts entries = refl
  resolved-place (k ∷ list) (n ∷ shape) facts [] = refl
  resolved-place (k ∷ list) (n ∷ shape) facts (entry ∷ entries) =
      ap₂ (λ first more. first ∷ more) ((one k n).commutes facts entry) (resolved-place list shape facts entries)

  place-below : (list : List ℤ) (shape : List ℕ) (entries : List Entry) (next : ℕ) → AreBelow next entries
      → AreBelow next (each_place f list shape entries)
  place-below [] shape entries next h = h
  place-below (k ∷ list) [] entries next h = h
  place-below (k ∷ list) (n ∷ shape) [] next h = tt
  place-below (k ∷ list) (n ∷ shape) (entry ∷ entries) next h =
      ((one k n).below entry next h.0, place-below list shape entries next h.1)

  pub each-commutes : (list : List ℤ) (shape : List ℕ) → Commutes (each_place f list shape)
  each-commutes list shape = record { commutes = resolved-place list shape; below = place-below list shape }

module _ (f : ℕ → Entry → Entry) (one : (n : ℕ) → CommutesAt (f n)) where
  resolved-axis : (axis : ℕ) (shape : List ℕ) (facts : Facts) (entries : List Entry)
      → map (resolved facts) (on_axis axis f shape entries) ≡ on_axis axis f shape (map (resolved facts) entries)
  resolved-axis axis [] facts entries = refl
  resolved-axis axis (n ∷ shape) facts [] = refl
  resolved-axis zero (n ∷ shape) facts (entry ∷ entries) =
      ap (λ first. first ∷ map (resolved facts) entries) ((one n).commutes facts entry)
  resolved-axis (suc axis) (n ∷ shape) facts (entry ∷ entries) =
      ap (λ more. resolved facts entry ∷ more) (resolved-axis axis shape facts entries)

  axis-below : (axis : ℕ) (shape : List ℕ) (entries : List Entry) (next : ℕ) → AreBelow next entries
      → AreBelow next (on_axis axis f shape entries)
  axis-below axis [] entries next h = h
  axis-below axis (n ∷ shape) [] next h = tt
  axis-below zero (n ∷ shape) (entry ∷ entries) next h = ((one n).below entry next h.0, h.1)
  axis-below (suc axis) (n ∷ shape) (entry ∷ entries) next h = (h.0, axis-below axis shape entries next h.1)

  pub axis-commutes : (axis : ℕ) (shape : List ℕ) → Commutes (on_axis axis f shape)
  axis-commutes axis shape = record { commutes = resolved-axis axis shape; below = axis-below axis shape }

-- ---- moves that bring in an entry

resolved-put : (axis : ℕ) (shape : List ℕ) (facts : Facts) (entries : List Entry) (new : Entry)
    → map (resolved facts) (on_axis axis (λ extent old. new) shape entries)
    ≡ on_axis axis (λ extent old. resolved facts new) shape (map (resolved facts) entries)
resolved-put axis [] facts entries new = refl
resolved-put axis (n ∷ shape) facts [] new = refl
resolved-put zero (n ∷ shape) facts (entry ∷ entries) new = refl
resolved-put (suc axis) (n ∷ shape) facts (entry ∷ entries) new =
    ap (λ more. resolved facts entry ∷ more) (resolved-put axis shape facts entries new)

put-below : (axis : ℕ) (shape : List ℕ) (entries : List Entry) (new : Entry) (next : ℕ) → AreBelow next entries → uses_below next new
    → AreBelow next (on_axis axis (λ extent old. new) shape entries)
put-below axis [] entries new next h k = h
put-below axis (n ∷ shape) [] new next h k = tt
put-below zero (n ∷ shape) (entry ∷ entries) new next h k = (k, h.1)
put-below (suc axis) (n ∷ shape) (entry ∷ entries) new next h k = (h.0, put-below axis shape entries new next h.1 k)

pub put-commutes : (axis : ℕ) (shape : List ℕ) → CommutesWith (λ entries entry. on_axis axis (λ extent old. entry) shape entries)
put-commutes axis shape = record { commutes = resolved-put axis shape; below = put-below axis shape }

-- the entries of one move, the entry, and those of another
pub between-commutes : (first second : List Entry → List Entry) → Commutes first → Commutes second
    → CommutesWith (λ entries entry. first entries ++ entry ∷ second entries)
between-commutes first second h k = record {
  commutes = λ facts entries entry. map-append (resolved facts) (first entries) (entry ∷ second entries)
      ∙ ap₂ (λ a b. a ++ resolved facts entry ∷ b) (h.commutes facts entries) (k.commutes facts entries);
  below = λ entries entry next under new. append-below (first entries) (entry ∷ second entries) next (h.below entries next under)
      (new, k.below entries next under);
}

pub none-commute : Commutes (λ entries. [])
none-commute = record { commutes = λ facts entries. refl; below = λ entries next h. tt }

pub insert-commutes : (axis : ℕ) → CommutesWith (λ entries entry. insert entries axis entry)
insert-commutes axis = between-commutes (take axis) (drop axis) (take-commutes axis) (drop-commutes axis)

pub last-commutes : (axes : ℕ) → CommutesWith (λ entries entry. take axes entries ++ entry ∷ [])
last-commutes axes = between-commutes (take axes) (λ entries. []) (take-commutes axes) none-commute

pub first-commutes : (axes : ℕ) → CommutesWith (λ entries entry. entry ∷ drop axes entries)
first-commutes axes = between-commutes (λ entries. []) (drop axes) none-commute (drop-commutes axes)

-- ---- moves in a row

pub row-commutes : (first second : List Entry → List Entry) → Commutes first → Commutes second
    → Commutes (λ entries. second (first entries))
row-commutes first second h k = record {
  commutes = λ facts entries. k.commutes facts (first entries) ∙ ap second (h.commutes facts entries);
  below = λ entries next under. k.below (first entries) next (h.below entries next under);
}
