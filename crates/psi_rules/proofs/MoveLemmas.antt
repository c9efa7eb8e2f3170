-- What a view does to entries moves the places that they stand for, where its operator's rules hold.
use Rattle.std.specs.Prelude.{◌≡◌, ◌==◌, ℕ, zero, suc, ◌-◌, ◌<◌, ◌≤◌, Bool, true, ℤ, pos, negsuc, ◌+ℤ◌, ◌-ℤ◌, List, [], ◌∷◌, ◌++◌, drop, length, map, nat_le, nat_lt, reverse, slice_index, slice_index_or, take, unsigned_abs}
use Rattle.std.specs.List.{insert, position_or_len, range_with_len}
use Rattle.std.proofs.Common.{refl, ap, sym, subst, ◌∙◌, arith}
use Rattle.std.proofs.Math.ListN.{get_or-map}
use Rattle.std.proofs.lemmas.Bool.{and_parts, false≢true, le-leb, leb-true}
use Rattle.std.proofs.lemmas.Grind.{reverse_onto}
use Rattle.std.proofs.lemmas.Int.{ints}
use Rattle.std.proofs.lemmas.List.{drop-map, length-map, map-append, take-map}
use Rattle.shapes_core.specs.Gamma.{IsIndex}
use Rattle.moa_tree.specs.Axes.{each_place, mirrored, naturals, on_axis, own_index, remaining_from, restored, taken_from}
use Rattle.shape_check.specs.Rules.{each_entry, is_natural, is_part, is_place}
use Rattle.normal_form.specs.declared.entry.Entry.{Entry}
use Rattle.normal_form.specs.declared.entry.Entry.TheVariants.{At, Plus, Minus}
use Rattle.normal_form.specs.Assignments.{Assignment, number}
use Rattle.normal_form.specs.Moves.{minus_entry, mirrored_entry, raised, remaining_entry, taken_entry}
use Rattle.normal_form.specs.Stands.{AreBelow, Moves, StandFor, uses_below}
use Rattle.psi_rules.proofs.ListLemmas.{each-append, each-reverse}

-- ---- what the items of a list stand for

same-length : (m : Assignment) (entries : List Entry) (index : List ℕ) → StandFor m entries index → length entries ≡ length index
same-length m entries index h = sym (length-map entries (number m)) ∙ ap length h ∙ length-map index pos

first-stands : (m : Assignment) (entry : Entry) (entries : List Entry) (place : ℕ) (index : List ℕ)
    → StandFor m (entry ∷ entries) (place ∷ index) → number m entry ≡ pos place
first-stands m entry entries place index h = ap (λ numbers. slice_index_or numbers 0 (pos 0)) h

rest-stand : (m : Assignment) (entry : Entry) (entries : List Entry) (place : ℕ) (index : List ℕ)
    → StandFor m (entry ∷ entries) (place ∷ index) → StandFor m entries index
rest-stand m entry entries place index h = ap (λ numbers. drop 1 numbers) h

one-more : (m : Assignment) (entry : Entry) (entries : List Entry) (place : ℕ) (index : List ℕ)
    → number m entry ≡ pos place → StandFor m entries index → StandFor m (entry ∷ entries) (place ∷ index)
one-more m entry entries place index first rest = ap (λ z. z ∷ map (number m) entries) first ∙ ap (λ numbers. pos place ∷ numbers) rest

at-stands : (m : Assignment) (entries : List Entry) (index : List ℕ) (place : ℕ)
    → StandFor m entries index → number m (slice_index_or entries place (At (pos 0))) ≡ pos (slice_index_or index place 0)
at-stands m entries index place h =
    sym (get_or-map (number m) entries place (At (pos 0))) ∙ ap (λ numbers. slice_index_or numbers place (pos 0)) h ∙ get_or-map pos index place 0

take-stands : (m : Assignment) (entries : List Entry) (index : List ℕ) (n : ℕ) → StandFor m entries index
    → StandFor m (take n entries) (take n index)
take-stands m entries index n h = sym (take-map (number m) n entries) ∙ ap (take n) h ∙ take-map pos n index

drop-stands : (m : Assignment) (entries : List Entry) (index : List ℕ) (n : ℕ) → StandFor m entries index
    → StandFor m (drop n entries) (drop n index)
drop-stands m entries index n h = sym (drop-map (number m) n entries) ∙ ap (drop n) h ∙ drop-map pos n index

append-stands : (m : Assignment) (entries more : List Entry) (index others : List ℕ)
    → StandFor m entries index → StandFor m more others → StandFor m (entries ++ more) (index ++ others)
append-stands m entries more index others h k =
    map-append (number m) entries more ∙ ap (λ l. l ++ map (number m) more) h ∙ ap (λ l. map pos index ++ l) k ∙ sym (map-append pos index others)

reverse-stands : (m : Assignment) (entries : List Entry) (index : List ℕ) → StandFor m entries index
    → StandFor m (reverse entries) (reverse index)
reverse-stands m [] [] h = refl
reverse-stands m [] (i ∷ index) h = absurd (let e : 0 ≡ suc (length index) = same-length m [] (i ∷ index) h in omega (arith, e))
reverse-stands m (entry ∷ entries) [] h = absurd (let e : suc (length entries) ≡ 0 = same-length m (entry ∷ entries) [] h in omega (arith, e))
reverse-stands m (entry ∷ entries) (i ∷ index) h =
    let last = one-more m entry [] i [] (first-stands m entry entries i index h) refl in
    let both = append-stands m (reverse entries) (entry ∷ []) (reverse index) (i ∷ [])
    (reverse-stands m entries index (rest-stand m entry entries i index h)) last in
    ap (map (number m)) (reverse_onto entries entry []) ∙ both ∙ ap (map pos) (sym (reverse_onto index i []))

-- ---- variables below one

at-below : (next : ℕ) (entries : List Entry) (place : ℕ) → AreBelow next entries
    → uses_below next (slice_index_or entries place (At (pos 0)))
at-below next [] place h = tt
at-below next (entry ∷ entries) zero h = h.0
at-below next (entry ∷ entries) (suc place) h = at-below next entries place h.1

take-below : (next : ℕ) (entries : List Entry) (n : ℕ) → AreBelow next entries → AreBelow next (take n entries)
take-below next entries zero h = tt
take-below next [] (suc n) h = tt
take-below next (entry ∷ entries) (suc n) h = (h.0, take-below next entries n h.1)

drop-below : (next : ℕ) (entries : List Entry) (n : ℕ) → AreBelow next entries → AreBelow next (drop n entries)
drop-below next entries zero h = h
drop-below next [] (suc n) h = tt
drop-below next (entry ∷ entries) (suc n) h = drop-below next entries n h.1

append-below : (next : ℕ) (entries more : List Entry) → AreBelow next entries → AreBelow next more → AreBelow next (entries ++ more)
append-below next entries more h k = each-append (uses_below next) entries more h k

raised-below : (next : ℕ) (by : ℤ) (entry : Entry) → uses_below next entry → uses_below next (raised by entry)
raised-below next by (At constant) h = h
raised-below next by (Plus var add) h = h
raised-below next by (Minus var add) h = h

minus-below : (next : ℕ) (from : ℤ) (entry : Entry) → uses_below next entry → uses_below next (minus_entry from entry)
minus-below next from (At constant) h = h
minus-below next from (Plus var add) h = h
minus-below next from (Minus var add) h = h

-- ---- numbers of entries

raised-number : (m : Assignment) (by : ℤ) (entry : Entry) → number m (raised by entry) ≡ number m entry +ℤ by
raised-number m by (At constant) = refl
raised-number m by (Plus var add) = omega (arith, ints)
raised-number m by (Minus var add) = omega (arith, ints)

minus-number : (m : Assignment) (from : ℤ) (entry : Entry) → number m (minus_entry from entry) ≡ from -ℤ number m entry
minus-number m from (At constant) = refl
minus-number m from (Plus var add) = omega (arith, ints)
minus-number m from (Minus var add) = omega (arith, ints)

-- ---- psi

natural-same : (k : ℤ) → is_natural k ≡ true → k ≡ pos (unsigned_abs k)
natural-same (pos k) h = refl
natural-same (negsuc k) h = absurd (false≢true h)

constants-stand : (m : Assignment) (list : List ℤ) (shape : List ℕ) → nat_le (length list) (length shape) ≡ true
    → each_entry is_place list shape ≡ true
    → StandFor m (map At list) (naturals list)
constants-stand m [] shape short each = refl
constants-stand m (k ∷ list) [] short each = absurd (let e : suc (length list) ≤ 0 = leb-true (suc (length list)) 0 short in omega (arith, e))
constants-stand m (k ∷ list) (n ∷ shape) short each =
    let parts = and_parts (is_place k n) (each_entry is_place list shape) each in
    let shorter : suc (length list) ≤ suc (length shape) = leb-true (suc (length list)) (suc (length shape)) short in
    one-more m (At k) (map At list) (unsigned_abs k) (naturals list) (natural-same k (and_parts (is_natural k) (nat_lt (unsigned_abs k) n) parts.0).0)
    (constants-stand m list shape (le-leb (length list) (length shape) (omega (arith, shorter))) parts.1)

constants-below : (next : ℕ) (list : List ℤ) → AreBelow next (map At list)
constants-below next [] = tt
constants-below next (k ∷ list) = (tt, constants-below next list)

pub psi-moves : (list : List ℤ) (shape : List ℕ) → nat_le (length list) (length shape) ≡ true → each_entry is_place list shape ≡ true
    → ((index : List ℕ) → IsIndex index (drop (length list) shape) → IsIndex (naturals list ++ index) shape)
    → Moves (λ entries. map At list ++ entries) (λ index. naturals list ++ index) (drop (length list) shape) shape
psi-moves list shape short each within = record {
  below = λ entries next h. append-below next (map At list) entries (constants-below next list) h;
  stands = λ m entries index h inside. append-stands m (map At list) entries (naturals list) index (constants-stand m list shape short each) h;
  within = within;
}

-- ---- takes and drops

each-stands : (f : ℤ → ℕ → Entry → Entry) (g : ℤ → ℕ → ℕ → ℕ) (test : ℤ → ℕ → Bool) (m : Assignment)
    → ((k : ℤ) (n : ℕ) (entry : Entry) (place : ℕ) → test k n ≡ true → number m entry ≡ pos place → number m (f k n entry) ≡ pos (g k n place))
    → (list : List ℤ) (shape : List ℕ) (entries : List Entry) (index : List ℕ) → each_entry test list shape ≡ true
    → StandFor m entries index → StandFor m (each_place f list shape entries) (each_place g list shape index)
each-stands f g test m one [] shape entries index each h = h
each-stands f g test m one (k ∷ list) [] entries index each h = h
each-stands f g test m one (k ∷ list) (n ∷ shape) [] [] each h = refl
each-stands f g test m one (k ∷ list) (n ∷ shape) [] (i ∷ index) each h =
    absurd (let e : 0 ≡ suc (length index) = same-length m [] (i ∷ index) h in omega (arith, e))
each-stands f g test m one (k ∷ list) (n ∷ shape) (entry ∷ entries) [] each h =
    absurd (let e : suc (length entries) ≡ 0 = same-length m (entry ∷ entries) [] h in omega (arith, e))
each-stands f g test m one (k ∷ list) (n ∷ shape) (entry ∷ entries) (i ∷ index) each h =
    let parts = and_parts (test k n) (each_entry test list shape) each in
    one-more m (f k n entry) (each_place f list shape entries) (g k n i) (each_place g list shape index)
    (one k n entry i parts.0 (first-stands m entry entries i index h))
    (each-stands f g test m one list shape entries index parts.1 (rest-stand m entry entries i index h))

each-below : (f : ℤ → ℕ → Entry → Entry) (next : ℕ)
    → ((k : ℤ) (n : ℕ) (entry : Entry) → uses_below next entry → uses_below next (f k n entry))
    → (list : List ℤ) (shape : List ℕ) (entries : List Entry) → AreBelow next entries → AreBelow next (each_place f list shape entries)
each-below f next one [] shape entries h = h
each-below f next one (k ∷ list) [] entries h = h
each-below f next one (k ∷ list) (n ∷ shape) [] h = tt
each-below f next one (k ∷ list) (n ∷ shape) (entry ∷ entries) h = (one k n entry h.0, each-below f next one list shape entries h.1)

taken-number : (m : Assignment) (k : ℤ) (n : ℕ) (entry : Entry) (place : ℕ) → is_part k n ≡ true → number m entry ≡ pos place
    → number m (taken_entry k n entry) ≡ pos (taken_from k n place)
taken-number m (pos k) n entry place part h = h
taken-number m (negsuc k) n entry place part h =
    let within : suc k ≤ n = leb-true (suc k) n part in
    let moved = raised-number m (pos n -ℤ pos (suc k)) entry in
    omega (arith, ints, within, moved, h)

taken-below : (next : ℕ) (k : ℤ) (n : ℕ) (entry : Entry) → uses_below next entry → uses_below next (taken_entry k n entry)
taken-below next (pos k) n entry h = h
taken-below next (negsuc k) n entry h = raised-below next (pos n -ℤ pos (suc k)) entry h

pub take-moves : (list : List ℤ) (shape from : List ℕ) → each_entry is_part list shape ≡ true
    → ((index : List ℕ) → IsIndex index from → IsIndex (each_place taken_from list shape index) shape)
    → Moves (each_place taken_entry list shape) (each_place taken_from list shape) from shape
take-moves list shape from each within = record {
  below = λ entries next. each-below taken_entry next (taken-below next) list shape entries;
  stands = λ m entries index h inside. each-stands taken_entry taken_from is_part m (taken-number m) list shape entries index each h;
  within = within;
}

remaining-number : (m : Assignment) (k : ℤ) (n : ℕ) (entry : Entry) (place : ℕ) → is_part k n ≡ true → number m entry ≡ pos place
    → number m (remaining_entry k n entry) ≡ pos (remaining_from k n place)
remaining-number m (pos k) n entry place part h = raised-number m (pos k) entry ∙ ap (λ z. z +ℤ pos k) h
remaining-number m (negsuc k) n entry place part h = h

remaining-below : (next : ℕ) (k : ℤ) (n : ℕ) (entry : Entry) → uses_below next entry → uses_below next (remaining_entry k n entry)
remaining-below next (pos k) n entry h = raised-below next (pos k) entry h
remaining-below next (negsuc k) n entry h = h

pub drop-moves : (list : List ℤ) (shape from : List ℕ) → each_entry is_part list shape ≡ true
    → ((index : List ℕ) → IsIndex index from → IsIndex (each_place remaining_from list shape index) shape)
    → Moves (each_place remaining_entry list shape) (each_place remaining_from list shape) from shape
drop-moves list shape from each within = record {
  below = λ entries next. each-below remaining_entry next (remaining-below next) list shape entries;
  stands = λ m entries index h inside. each-stands remaining_entry remaining_from is_part m (remaining-number m) list shape entries index each h;
  within = within;
}

-- ---- reversed axes

axis-stands : (f : ℕ → Entry → Entry) (g : ℕ → ℕ → ℕ) (m : Assignment)
    → ((n : ℕ) (entry : Entry) (place : ℕ) → place < n → number m entry ≡ pos place → number m (f n entry) ≡ pos (g n place))
    → (shape : List ℕ) (entries : List Entry) (index : List ℕ) → IsIndex index shape
    → StandFor m entries index → StandFor m (on_axis 0 f shape entries) (on_axis 0 g shape index)
axis-stands f g m one [] entries index inside h = h
axis-stands f g m one (n ∷ shape) entries [] inside h = absurd inside
axis-stands f g m one (n ∷ shape) [] (i ∷ index) inside h =
    absurd (let e : 0 ≡ suc (length index) = same-length m [] (i ∷ index) h in omega (arith, e))
axis-stands f g m one (n ∷ shape) (entry ∷ entries) (i ∷ index) inside h =
    one-more m (f n entry) entries (g n i) index (one n entry i inside.0 (first-stands m entry entries i index h))
    (rest-stand m entry entries i index h)

axis-below : (f : ℕ → Entry → Entry) (next : ℕ) → ((n : ℕ) (entry : Entry) → uses_below next entry → uses_below next (f n entry))
    → (shape : List ℕ) (entries : List Entry) → AreBelow next entries → AreBelow next (on_axis 0 f shape entries)
axis-below f next one [] entries h = h
axis-below f next one (n ∷ shape) [] h = tt
axis-below f next one (n ∷ shape) (entry ∷ entries) h = (one n entry h.0, h.1)

mirrored-number : (m : Assignment) (n : ℕ) (entry : Entry) (place : ℕ) → place < n → number m entry ≡ pos place
    → number m (mirrored_entry n entry) ≡ pos (mirrored n place)
mirrored-number m n entry place below h =
    let moved = minus-number m (pos n -ℤ pos 1) entry in
    omega (arith, ints, below, moved, h)

pub reverse-moves : (shape : List ℕ) → ((index : List ℕ) → IsIndex index shape → IsIndex (on_axis 0 mirrored shape index) shape)
    → Moves (on_axis 0 mirrored_entry shape) (on_axis 0 mirrored shape) shape shape
reverse-moves shape within = record {
  below = λ entries next. axis-below mirrored_entry next (λ n entry. minus-below next (pos n -ℤ pos 1) entry) shape entries;
  stands = λ m entries index h inside. axis-stands mirrored_entry mirrored m (mirrored-number m) shape entries index inside h;
  within = within;
}

-- ---- permuted axes

pub transpose-moves : (shape from : List ℕ) → ((index : List ℕ) → IsIndex index from → IsIndex (reverse index) shape)
    → Moves (λ entries. reverse entries) (λ index. reverse index) from shape
transpose-moves shape from within = record {
  below = λ entries next. each-reverse (uses_below next) entries;
  stands = λ m entries index h inside. reverse-stands m entries index h;
  within = within;
}

at-each-stands : (m : Assignment) (entries : List Entry) (index : List ℕ) (find : ℕ → ℕ) (axes : List ℕ) → StandFor m entries index
    → StandFor m (map (λ axis. slice_index_or entries (find axis) (At (pos 0))) axes) (map (λ axis. slice_index_or index (find axis) 0) axes)
at-each-stands m entries index find [] h = refl
at-each-stands m entries index find (axis ∷ axes) h =
    one-more m (slice_index_or entries (find axis) (At (pos 0))) (map (λ a. slice_index_or entries (find a) (At (pos 0))) axes)
    (slice_index_or index (find axis) 0) (map (λ a. slice_index_or index (find a) 0) axes)
    (at-stands m entries index (find axis) h) (at-each-stands m entries index find axes h)

at-each-below : (next : ℕ) (entries : List Entry) (find : ℕ → ℕ) (axes : List ℕ) → AreBelow next entries
    → AreBelow next (map (λ axis. slice_index_or entries (find axis) (At (pos 0))) axes)
at-each-below next entries find [] h = tt
at-each-below next entries find (axis ∷ axes) h = (at-below next entries (find axis) h, at-each-below next entries find axes h)

pub permute-moves : (permutation shape from : List ℕ)
    → ((index : List ℕ) → IsIndex index from → IsIndex (restored 0 permutation index) shape)
    → Moves (restored (At (pos 0)) permutation) (restored 0 permutation) from shape
permute-moves permutation shape from within =
    let find = λ (axis : ℕ). position_or_len (λ p. p == axis) permutation in
    let axes = range_with_len 0 (length permutation) in
    record {
      below = λ entries next. at-each-below next entries find axes;
      stands = λ m entries index h inside. at-each-stands m entries index find axes h;
      within = within;
    }

-- ---- two operands

pub own-moves : (shape from : List ℕ) → ((index : List ℕ) → IsIndex index from → IsIndex (own_index shape index) shape)
    → Moves (λ entries. own_index shape entries) (λ index. own_index shape index) from shape
own-moves shape from within = record {
  below = λ entries next. drop-below next entries (length entries - length shape);
  stands = λ m entries index h inside.
      subst (λ n. StandFor m (drop (length entries - length shape) entries) (drop (n - length shape) index)) (same-length m entries index h)
      (drop-stands m entries index (length entries - length shape) h);
  within = within;
}

pub front-moves : (n : ℕ) (shape from : List ℕ) → ((index : List ℕ) → IsIndex index from → IsIndex (take n index) shape)
    → Moves (λ entries. take n entries) (λ index. take n index) from shape
front-moves n shape from within = record {
  below = λ entries next. take-below next entries n;
  stands = λ m entries index h inside. take-stands m entries index n h;
  within = within;
}

pub back-moves : (n : ℕ) (shape from : List ℕ) → ((index : List ℕ) → IsIndex index from → IsIndex (drop n index) shape)
    → Moves (λ entries. drop n entries) (λ index. drop n index) from shape
back-moves n shape from within = record {
  below = λ entries next. drop-below next entries n;
  stands = λ m entries index h inside. drop-stands m entries index n h;
  within = within;
}

-- ---- folded operands: the place on the axis that is folded comes first

-- what holds of an index vector and one place more
with-first : (P : List ℕ → ℕ → Type 0) (n : ℕ) (from : List ℕ) → ((index : List ℕ) (k : ℕ) → IsIndex index from → k < n → P index k)
    → (index : List ℕ) → IsIndex index (n ∷ from) → P (drop 1 index) (slice_index index 0)
with-first P n from each [] h = absurd h
with-first P n from each (k ∷ index) h = each index k h.1 h.0

pub last-moves : (axes n : ℕ) (shape from : List ℕ)
    → ((index : List ℕ) (k : ℕ) → IsIndex index from → k < n → IsIndex (take axes index ++ k ∷ []) shape)
    → Moves (λ entries. take axes (drop 1 entries) ++ slice_index_or entries 0 (At (pos 0)) ∷ [])
    (λ index. take axes (drop 1 index) ++ slice_index index 0 ∷ []) (n ∷ from) shape
last-moves axes n shape from within = record {
  below = λ entries next h.
      append-below next (take axes (drop 1 entries)) (slice_index_or entries 0 (At (pos 0)) ∷ [])
      (take-below next (drop 1 entries) axes (drop-below next entries 1 h)) (at-below next entries 0 h, tt);
  stands = λ m entries index h inside.
      append-stands m (take axes (drop 1 entries)) (slice_index_or entries 0 (At (pos 0)) ∷ []) (take axes (drop 1 index)) (slice_index index 0 ∷ [])
      (take-stands m (drop 1 entries) (drop 1 index) axes (drop-stands m entries index 1 h))
      (one-more m (slice_index_or entries 0 (At (pos 0))) [] (slice_index index 0) [] (at-stands m entries index 0 h) refl);
  within = with-first (λ index k. IsIndex (take axes index ++ k ∷ []) shape) n from within;
}

pub first-moves : (axes n : ℕ) (shape from : List ℕ)
    → ((index : List ℕ) (k : ℕ) → IsIndex index from → k < n → IsIndex (k ∷ drop axes index) shape)
    → Moves (λ entries. slice_index_or entries 0 (At (pos 0)) ∷ drop axes (drop 1 entries))
    (λ index. slice_index index 0 ∷ drop axes (drop 1 index)) (n ∷ from) shape
first-moves axes n shape from within = record {
  below = λ entries next h. (at-below next entries 0 h, drop-below next (drop 1 entries) axes (drop-below next entries 1 h));
  stands = λ m entries index h inside.
      one-more m (slice_index_or entries 0 (At (pos 0))) (drop axes (drop 1 entries)) (slice_index index 0) (drop axes (drop 1 index))
      (at-stands m entries index 0 h) (drop-stands m (drop 1 entries) (drop 1 index) axes (drop-stands m entries index 1 h));
  within = with-first (λ index k. IsIndex (k ∷ drop axes index) shape) n from within;
}

pub insert-moves : (n : ℕ) (shape from : List ℕ)
    → ((index : List ℕ) (k : ℕ) → IsIndex index from → k < n → IsIndex (insert index 0 k) shape)
    → Moves (λ entries. insert (drop 1 entries) 0 (slice_index_or entries 0 (At (pos 0))))
    (λ index. insert (drop 1 index) 0 (slice_index index 0)) (n ∷ from) shape
insert-moves n shape from within = first-moves 0 n shape from within
