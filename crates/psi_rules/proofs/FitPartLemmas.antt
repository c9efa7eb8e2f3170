-- What is found of an entry of an axis is one: a turned constant, a digit, an offset, and the parts of a join; and the operands fit with it.
use Rattle.std.specs.Prelude.{◌≡◌, ℕ, zero, suc, ◌+◌, ◌*◌, ◌<◌, ◌≤◌, ◌==◌, max, true, ℤ, pos, negsuc, IfSome, List, [], ◌∷◌, ◌++◌, drop, length, nat_le, reverse, slice_index, take, unsigned_abs}
use Rattle.std.specs.declared.option.Option.{Option}
use Rattle.std.specs.declared.option.Option.TheVariants.{None, Some}
use Rattle.std.specs.List.{AllByRecursion}
use Rattle.std.specs.Option.{option_map}
use Rattle.std.proofs.Common.{refl, ap, sym, subst, ◌∙◌, arith, le_trans}
use Rattle.std.proofs.Math.Nat.{le-max_left, mul-le-mul, mul-le-mul_right}
use Rattle.std.proofs.Math.Seq.{drop-cons, take-length, take-suc}
use Rattle.std.proofs.lemmas.Bool.{and_parts, leb-true}
use Rattle.std.proofs.lemmas.List.{length-reverse, length-take-le, reverse-append}
use Rattle.std.proofs.lemmas.Option.{none-some, same_Some}
use Rattle.shapes_core.specs.Gamma.{IsIndex, gamma}
use Rattle.shapes_core.specs.Limits.{greatest_extent, most_axes}
use Rattle.shapes_core.specs.Shape.{IsShape, are_small, span, total}
use Rattle.moa_tree.specs.Axes.{joined, on_axis}
use Rattle.moa_tree.specs.Expr.{Expr, Cat, Rotate, Item}
use Rattle.shape_check.specs.Costs.{Prices, nodes}
use Rattle.normal_form.specs.declared.entry.Entry.{Entry}
use Rattle.normal_form.specs.declared.entry.Entry.TheVariants.{At, Plus, Minus}
use Rattle.normal_form.specs.Formers.{constants}
use Rattle.normal_form.specs.Cutting.{Scope}
use Rattle.normal_form.specs.Keeps.{AreWithin, IsWithin}
use Rattle.normal_form.specs.Moves.{behind_entry, variable}
use Rattle.psi_rules.specs.Fitting.{ArePlaces, Fits, FitsAt, FitsIn, IsPlace, cost}
use Rattle.psi_rules.specs.Operands.{OperandsMove}
use Rattle.psi_rules.specs.Rules.{Names, entry_on, scan_behind, shape_in, shapes_of}
use Rattle.psi_rules.specs.Numbered.{prices_at}
use Rattle.psi_rules.specs.Scopes.{names_at}
use Rattle.psi_rules.specs.Within.{AreAlike, OperandsWithin}
use Rattle.psi_rules.proofs.FitLemmas.{areas-left, areas-right, entries-many, left-less, more-entries, more-entry, one-less, right-less, variable-in, with_variable}
use Rattle.psi_rules.proofs.KeepFormLemmas.{room-behind, room-kept, room-left}

-- ---- places

pub place-within : (room : ℕ) (known : Scope) (entry : Entry) (n : ℕ) → IsWithin room known entry n → IsPlace entry n
place-within room known (At (pos c)) n h = h
place-within room known (At (negsuc c)) n h = h
place-within room known (Plus var add) n h = tt
place-within room known (Minus var add) n h = tt

pub places-within : (room : ℕ) (known : Scope) (entries : List Entry) (shape : List ℕ) → AreWithin room known entries shape
    → ArePlaces entries shape
places-within room known [] [] h = tt
places-within room known [] (n ∷ shape) h = absurd h
places-within room known (entry ∷ entries) [] h = absurd h
places-within room known (entry ∷ entries) (n ∷ shape) h =
    (place-within room known entry n h.0, places-within room known entries shape h.1)

pub some-within : (room : ℕ) (known : Scope) (entry : Entry) (n : ℕ) → IsWithin room known entry n → 0 < n
some-within room known (At (pos c)) n h = omega (arith, h)
some-within room known (At (negsuc c)) n h = absurd h
some-within room known (Plus var add) n h = h.0
some-within room known (Minus var add) n h = h.0

pub all-some : (room : ℕ) (known : Scope) (entries : List Entry) (shape : List ℕ) → AreWithin room known entries shape
    → AllByRecursion (λ n. 0 < n) shape
all-some room known [] [] h = tt
all-some room known [] (n ∷ shape) h = absurd h
all-some room known (entry ∷ entries) [] h = absurd h
all-some room known (entry ∷ entries) (n ∷ shape) h = (some-within room known entry n h.0, all-some room known entries shape h.1)

-- ---- offsets

index-more : (constant : ℤ) (n : ℕ) (shape : List ℕ) (o : Option (List ℕ)) → IsPlace (At constant) n
    → IfSome o (λ list. IsIndex list shape) → IfSome (option_map (λ list. unsigned_abs constant ∷ list) o) (λ list. IsIndex list (n ∷ shape))
index-more (pos c) n shape None h k = tt
index-more (pos c) n shape (Some list) h k = (h, k)
index-more (negsuc c) n shape o h k = absurd h

pub constants-index : (entries : List Entry) (shape : List ℕ) → ArePlaces entries shape → IfSome (constants entries) (λ list. IsIndex list shape)
constants-index [] [] h = tt
constants-index [] (n ∷ shape) h = absurd h
constants-index (entry ∷ entries) [] h = absurd h
constants-index (At constant ∷ entries) (n ∷ shape) h =
    index-more constant n shape (constants entries) h.0 (constants-index entries shape h.1)
constants-index (Plus var add ∷ entries) (n ∷ shape) h = tt
constants-index (Minus var add ∷ entries) (n ∷ shape) h = tt

pub shape-few : (shape : List ℕ) → IsShape shape → length shape ≤ most_axes
shape-few shape h = leb-true (length shape) most_axes (and_parts (nat_le (length shape) most_axes) (are_small shape) h).0

-- the places of the axes from one on: that of this axis, and those of the others
pub places-step : (entry : Entry) (entries : List Entry) (shape : List ℕ) (axis : ℕ) → ArePlaces (entry ∷ entries) (drop axis shape)
    → (axis < length shape) × (IsPlace entry (slice_index shape axis) × ArePlaces entries (drop (suc axis) shape))
places-step entry entries [] zero h = absurd h
places-step entry entries [] (suc axis) h = absurd h
places-step entry entries (n ∷ shape) zero h = (omega arith, (h.0, h.1))
places-step entry entries (n ∷ shape) (suc axis) h =
    let rest = places-step entry entries shape axis h in (omega (arith, rest.0), rest.1)

-- the extent of an axis is in front of those behind it
pub axis-cut : (shape : List ℕ) (axis : ℕ) → axis < length shape → drop axis shape ≡ slice_index shape axis ∷ drop (suc axis) shape
axis-cut shape axis inside = drop-cons shape axis 0 inside

pub place-small : (c : ℤ) (n : ℕ) → n ≤ greatest_extent → IsPlace (At c) n → (unsigned_abs c < n) × (unsigned_abs c ≤ greatest_extent)
place-small (pos c) n least h = (h, omega (arith, least, h))
place-small (negsuc c) n least h = absurd h

pub product-small : (a b : ℕ) → a ≤ greatest_extent → b ≤ greatest_extent → a * b ≤ greatest_extent * greatest_extent
product-small a b h k = mul-le-mul h k

pub extent-small : (shape : List ℕ) (axis : ℕ) → AllByRecursion (λ n. n ≤ greatest_extent) shape → axis < length shape
    → slice_index shape axis ≤ greatest_extent
extent-small [] axis h inside = absurd (omega (arith, inside))
extent-small (n ∷ shape) zero h inside = h.0
extent-small (n ∷ shape) (suc axis) h inside = extent-small shape axis h.1 (omega (arith, inside))

-- the offset of a constant on the first axis and of those behind it
pub offset-made : (c : ℤ) (entries : List Entry) (n : ℕ) (rest : List ℕ) (offset weight : ℕ)
    → ((index shape : List ℕ) → IsIndex index shape → span shape ≡ total shape)
    → ArePlaces entries rest → Some offset ≡ option_map (λ index. gamma index rest) (constants entries) → weight ≡ span rest
    → Some (unsigned_abs c * weight + offset) ≡ option_map (λ index. gamma index (n ∷ rest)) (constants (At c ∷ entries))
offset-made c entries n rest offset weight law places e heavy = by (constants entries) (constants-index entries rest places) e
  where
    by : (o : Option (List ℕ)) → IfSome o (λ list. IsIndex list rest) → Some offset ≡ option_map (λ index. gamma index rest) o
        → Some (unsigned_abs c * weight + offset)
        ≡ option_map (λ index. gamma index (n ∷ rest)) (option_map (λ list. unsigned_abs c ∷ list) o)
    by None inside e = absurd (none-some offset (sym e))
    by (Some list) inside e =
        ap (λ w. Some (unsigned_abs c * w + offset)) (heavy ∙ law list rest inside)
        ∙ ap (λ k. Some (unsigned_abs c * total rest + k)) (same_Some offset (gamma list rest) e)

-- a constant, and the offset of the others, is an offset
pub offset-less : (c n rest offset : ℕ) → c < n → offset < rest → c * rest + offset < max n 1 * rest
offset-less c n rest offset below less =
    let some : suc c ≤ max n 1 = le_trans below (le-max_left n 1) in
    let more : suc c * rest ≤ max n 1 * rest = mul-le-mul_right rest some in
    let e : suc c * rest ≡ rest + c * rest = grind arith in
    omega (arith, less, more, e)

-- ---- joins

further-entry : (room : ℕ) (known : Scope) (entry : Entry) (n : ℕ) → IsWithin room known entry n → IsWithin (room + greatest_extent) known entry n
further-entry room known (At (pos c)) n h = h
further-entry room known (At (negsuc c)) n h = h
further-entry room known (Plus var add) n h = (h.0, h.1, omega (arith, h.2))
further-entry room known (Minus var add) n h = (h.0, h.1, omega (arith, h.2))

further-entries : (room : ℕ) (known : Scope) (entries : List Entry) (shape : List ℕ) → AreWithin room known entries shape
    → AreWithin (room + greatest_extent) known entries shape
further-entries room known [] [] h = tt
further-entries room known [] (n ∷ shape) h = absurd h
further-entries room known (entry ∷ entries) [] h = absurd h
further-entries room known (entry ∷ entries) (n ∷ shape) h =
    (further-entry room known entry n h.0, further-entries room known entries shape h.1)

module _ (room : ℕ) (known : Scope) where
  first-entry : (s : List ℕ) (entries : List Entry) → 0 < length s → AreWithin room known entries s
      → IsWithin room known (entry_on 0 entries) (slice_index s 0)
  first-entry [] entries some h = absurd (omega (arith, some))
  first-entry (n ∷ s) [] some h = absurd h
  first-entry (n ∷ s) (entry ∷ entries) some h = h.0

  joined-entry : (s t : List ℕ) (entries : List Entry) → AreAlike s t → AreWithin room known entries (joined 0 s t)
      → IsWithin room known (entry_on 0 entries) (slice_index s 0 + slice_index t 0)
  joined-entry [] t entries alike h = absurd (omega (arith, alike.some))
  joined-entry (n ∷ s) [] entries alike h = absurd (omega (arith, alike.more))
  joined-entry (n ∷ s) (m ∷ t) [] alike h = absurd h
  joined-entry (n ∷ s) (m ∷ t) (entry ∷ entries) alike h = h.0

  joined-first : (s t : List ℕ) (entries : List Entry) → AreAlike s t → AreWithin room known entries (joined 0 s t)
      → IsWithin room known (entry_on 0 entries) (slice_index s 0) → AreWithin room known entries s
  joined-first [] t entries alike h k = absurd (omega (arith, alike.some))
  joined-first (n ∷ s) [] entries alike h k = absurd (omega (arith, alike.more))
  joined-first (n ∷ s) (m ∷ t) [] alike h k = absurd h
  joined-first (n ∷ s) (m ∷ t) (entry ∷ entries) alike h k = (k, h.1)

  joined-second : (s t : List ℕ) (entries : List Entry) → AreAlike s t → AreWithin room known entries (joined 0 s t)
      → IsWithin (room + greatest_extent) known (behind_entry (slice_index s 0) (entry_on 0 entries)) (slice_index t 0)
      → AreWithin (room + greatest_extent) known (on_axis 0 behind_entry s entries) t
  joined-second [] t entries alike h k = absurd (omega (arith, alike.some))
  joined-second (n ∷ s) [] entries alike h k = absurd (omega (arith, alike.more))
  joined-second (n ∷ s) (m ∷ t) [] alike h k = absurd h
  joined-second (n ∷ s) (m ∷ t) (entry ∷ entries) alike h k =
      (k, subst (AreWithin (room + greatest_extent) known entries) alike.same (further-entries room known entries s h.1))

  replaced-within : (s : List ℕ) (entries : List Entry) (found : Entry) → 0 < length s → AreWithin room known entries s
      → IsWithin room known found (slice_index s 0) → AreWithin room known (on_axis 0 (λ extent old. found) s entries) s
  replaced-within [] entries found some h k = absurd (omega (arith, some))
  replaced-within (n ∷ s) [] found some h k = absurd h
  replaced-within (n ∷ s) (entry ∷ entries) found some h k = (k, h.1)

  append-within : (entries : List Entry) (shape : List ℕ) (entry : Entry) (n : ℕ) → AreWithin room known entries shape
      → IsWithin room known entry n → AreWithin room known (entries ++ entry ∷ []) (shape ++ n ∷ [])
  append-within [] [] entry n h k = (k, tt)
  append-within [] (m ∷ shape) entry n h k = absurd h
  append-within (first ∷ entries) [] entry n h k = absurd h
  append-within (first ∷ entries) (m ∷ shape) entry n h k = (h.0, append-within entries shape entry n h.1 k)

  -- an entry more, and an axis more
  pub found-within : (found : List Entry) (shape : List ℕ) (axis n : ℕ) (entry : Entry) → axis < length shape → n ≡ slice_index shape axis
      → AreWithin room known (reverse found) (take axis shape) → IsWithin room known entry n
      → AreWithin room known (reverse (entry ∷ found)) (take (suc axis) shape)
  found-within found shape axis n entry inside is h k =
      subst (λ list. AreWithin room known list (take (suc axis) shape)) (sym (reverse-append (entry ∷ []) found))
      (subst (AreWithin room known (reverse found ++ entry ∷ [])) (sym (take-suc shape axis 0 inside))
      (append-within (reverse found) (take axis shape) entry (slice_index shape axis) h (subst (IsWithin room known entry) is k)))

pub extent-some : (shape : List ℕ) (axis : ℕ) → axis < length shape → AllByRecursion (λ n. 0 < n) shape → 0 < slice_index shape axis
extent-some [] axis inside h = absurd (omega (arith, inside))
extent-some (n ∷ shape) zero inside h = h.0
extent-some (n ∷ shape) (suc axis) inside h = extent-some shape axis (omega (arith, inside)) h.1

pub no-items : (shape : List ℕ) → (length shape == 0) ≡ true → [] ≡ shape
no-items [] h = refl
no-items (n ∷ shape) h = absurd (grind (arith, h))

-- ---- the operands of a statement's expressions

module _ (items : List Item) (statement : ℕ) (moves : OperandsMove (shapes_of (names_at items statement)))
    (within : (room : ℕ) → OperandsWithin (shapes_of (names_at items statement)) room) where
  abbrev names : Names
  names = names_at items statement

  abbrev prices : Prices
  prices = prices_at items statement

  pub cat-entry : (scan count : ℕ) (left right : Expr) (entries : List Entry) → (h : Fits items statement scan count (Cat left right) entries)
      → IsWithin h.room h.known (entry_on 0 entries) (slice_index (shape_in names left) 0 + slice_index (shape_in names right) 0)
  cat-entry scan count left right entries h =
      joined-entry h.room h.known (shape_in names left) (shape_in names right) entries ((within 0).cat left right h.accepted) h.within

  pub fits-cat-left : (scan count : ℕ) (left right : Expr) (entries : List Entry)
      → (h : Fits items statement scan count (Cat left right) entries)
      → IsWithin h.room h.known (entry_on 0 entries) (slice_index (shape_in names left) 0) → Fits items statement scan count left entries
  fits-cat-left scan count left right entries h k = record {
    accepted = (moves.cat left right h.accepted).0;
    areas = areas-left scan left right h.areas;
    terms = left-less count (nodes prices left) (nodes prices right) h.terms;
    room = h.room;
    known = h.known;
    roomy = room-left h.room (nodes prices left) (nodes prices right) h.roomy;
    within = joined-first h.room h.known (shape_in names left) (shape_in names right) entries ((within 0).cat left right h.accepted) h.within k;
  }

  pub fits-cat-right : (scan count : ℕ) (left right : Expr) (entries : List Entry)
      → (h : Fits items statement scan count (Cat left right) entries)
      → IsWithin (h.room + greatest_extent) h.known (behind_entry (slice_index (shape_in names left) 0) (entry_on 0 entries))
      (slice_index (shape_in names right) 0)
      → Fits items statement (scan_behind scan left) (count + cost items statement left) right
      (on_axis 0 behind_entry (shape_in names left) entries)
  fits-cat-right scan count left right entries h k = record {
    accepted = (moves.cat left right h.accepted).1;
    areas = areas-right scan left right h.areas;
    terms = right-less count (nodes prices left) (nodes prices right) h.terms;
    room = h.room + greatest_extent;
    known = h.known;
    roomy = room-behind h.room (nodes prices left) (nodes prices right) h.roomy;
    within = joined-second h.room h.known (shape_in names left) (shape_in names right) entries ((within 0).cat left right h.accepted) h.within k;
  }

  pub rotate-entry : (scan count : ℕ) (by : ℤ) (of : Expr) (entries : List Entry) → (h : Fits items statement scan count (Rotate by of) entries)
      → IsWithin h.room h.known (entry_on 0 entries) (slice_index (shape_in names of) 0)
  rotate-entry scan count by of entries h =
      first-entry h.room h.known (shape_in names of) entries (moves.rotates by of h.accepted).1 h.within

  pub fits-rotate : (scan count : ℕ) (by : ℤ) (of : Expr) (entries : List Entry) (found : Entry)
      → (h : Fits items statement scan count (Rotate by of) entries)
      → IsWithin h.room h.known found (slice_index (shape_in names of) 0)
      → Fits items statement scan count of (on_axis 0 (λ extent old. found) (shape_in names of) entries)
  fits-rotate scan count by of entries found h k = record {
    accepted = (moves.rotates by of h.accepted).0;
    areas = h.areas;
    terms = one-less count (nodes prices of) h.terms;
    room = h.room;
    known = h.known;
    roomy = room-kept h.room (nodes prices of) h.roomy;
    within = replaced-within h.room h.known (shape_in names of) entries found (moves.rotates by of h.accepted).1 h.within k;
  }

  pub fits-rotate-bound : (scan count var : ℕ) (by : ℤ) (of : Expr) (entries : List Entry)
      → Fits items statement scan count (Rotate by of) entries
      → Fits items statement scan (suc count) of (on_axis 0 (λ extent old. variable var) (shape_in names of) entries)
  fits-rotate-bound scan count var by of entries h = record {
    accepted = (moves.rotates by of h.accepted).0;
    areas = h.areas;
    terms = omega (arith, h.terms);
    room = h.room;
    known = with_variable var h.known;
    roomy = room-kept h.room (nodes prices of) h.roomy;
    within = replaced-within h.room (with_variable var h.known) (shape_in names of) entries (variable var) (moves.rotates by of h.accepted).1
        (more-entries h.room var h.known entries (shape_in names of) h.within)
        (variable-in h.room var h.known (slice_index (shape_in names of) 0)
        (some-within h.room h.known (entry_on 0 entries) (slice_index (shape_in names of) 0) (rotate-entry scan count by of entries h)));
  }

  -- ---- another shape

  pub fits-same : (scan count : ℕ) (of : Expr) (shape : List ℕ) (entries : List Entry) → shape ≡ shape_in names of
      → FitsIn items statement scan count of shape entries → Fits items statement scan count of entries
  fits-same scan count of shape entries same h = record {
    accepted = h.accepted;
    areas = h.areas;
    terms = omega (arith, h.terms);
    room = h.room;
    known = h.known;
    roomy = h.roomy;
    within = subst (AreWithin h.room h.known entries) same h.within;
  }

  pub fits-none : (scan count : ℕ) (of : Expr) (shape : List ℕ) (entries : List Entry) → [] ≡ shape_in names of
      → FitsIn items statement scan count of shape entries → Fits items statement scan count of []
  fits-none scan count of shape entries same h = record {
    accepted = h.accepted;
    areas = h.areas;
    terms = omega (arith, h.terms);
    room = h.room;
    known = h.known;
    roomy = h.roomy;
    within = subst (AreWithin h.room h.known []) same tt;
  }

  pub fits-flat : (scan count : ℕ) (of : Expr) (shape : List ℕ) (entries : List Entry) (flat : Entry)
      → (h : FitsIn items statement scan count of shape entries)
      → IsWithin h.room h.known flat (total shape) → FitsAt items statement scan count of 0 flat []
  fits-flat scan count of shape entries flat h k = record {
    accepted = h.accepted;
    areas = h.areas;
    terms = let few = shape-few (shape_in names of) ((within 0).shaped of h.accepted) in omega (arith, h.terms, few);
    room = h.room;
    known = h.known;
    roomy = h.roomy;
    offset = subst (IsWithin h.room h.known flat) h.same k;
    within = tt;
  }

  pub fits-flat-bound : (scan count var : ℕ) (of : Expr) (shape : List ℕ) (entries : List Entry)
      → FitsIn items statement scan count of shape entries
      → 0 < total shape → FitsAt items statement scan (suc count) of 0 (variable var) []
  fits-flat-bound scan count var of shape entries h some = record {
    accepted = h.accepted;
    areas = h.areas;
    terms = let few = shape-few (shape_in names of) ((within 0).shaped of h.accepted) in omega (arith, h.terms, few);
    room = h.room;
    known = with_variable var h.known;
    roomy = h.roomy;
    offset = variable-in h.room var h.known (total (shape_in names of)) (subst (λ n. 0 < n) h.same some);
    within = tt;
  }

  -- an operand with one axis
  pub fits-only : (scan count : ℕ) (of : Expr) (flat : Entry) → length (shape_in names of) ≡ 1
      → FitsAt items statement scan count of 0 flat [] → Fits items statement scan count of (flat ∷ [])
  fits-only scan count of flat one h = record {
    accepted = h.accepted;
    areas = h.areas;
    terms = omega (arith, h.terms);
    room = h.room;
    known = h.known;
    roomy = h.roomy;
    within = by (shape_in names of) one h.offset;
  }
    where
      by : (shape : List ℕ) → length shape ≡ 1 → IsWithin h.room h.known flat (total shape) → AreWithin h.room h.known (flat ∷ []) shape
      by [] one k = absurd (omega (arith, one))
      by (n ∷ []) one k = let e : n * 1 ≡ n = omega arith in (subst (IsWithin h.room h.known flat) e k, tt)
      by (n ∷ m ∷ shape) one k = absurd (omega (arith, one))

  -- a digit that is found, or bound
  pub fits-digit : (scan count axis n : ℕ) (of : Expr) (flat entry : Entry) (found : List Entry) → axis < length (shape_in names of)
      → n ≡ slice_index (shape_in names of) axis → (h : FitsAt items statement scan count of axis flat found)
      → IsWithin h.room h.known entry n → FitsAt items statement scan count of (suc axis) flat (entry ∷ found)
  fits-digit scan count axis n of flat entry found inside is h k = record {
    accepted = h.accepted;
    areas = h.areas;
    terms = omega (arith, h.terms);
    room = h.room;
    known = h.known;
    roomy = h.roomy;
    offset = h.offset;
    within = found-within h.room h.known found (shape_in names of) axis n entry inside is h.within k;
  }

  pub fits-digit-bound : (scan count var axis n : ℕ) (of : Expr) (flat : Entry) (found : List Entry) → axis < length (shape_in names of)
      → n ≡ slice_index (shape_in names of) axis → 0 < n → FitsAt items statement scan count of axis flat found
      → FitsAt items statement scan (suc count) of (suc axis) flat (variable var ∷ found)
  fits-digit-bound scan count var axis n of flat found inside is some h = record {
    accepted = h.accepted;
    areas = h.areas;
    terms = omega (arith, h.terms, inside);
    room = h.room;
    known = with_variable var h.known;
    roomy = h.roomy;
    offset = more-entry h.room var h.known flat (total (shape_in names of)) h.offset;
    within = found-within h.room (with_variable var h.known) found (shape_in names of) axis n (variable var) inside is
        (more-entries h.room var h.known (reverse found) (take axis (shape_in names of)) h.within) (variable-in h.room var h.known n some);
  }

  pub fits-spread : (scan count axis : ℕ) (of : Expr) (flat : Entry) (found : List Entry) → axis ≡ length (shape_in names of)
      → FitsAt items statement scan count of axis flat found → Fits items statement scan count of (reverse found)
  fits-spread scan count axis of flat found all h = record {
    accepted = h.accepted;
    areas = h.areas;
    terms = omega (arith, h.terms);
    room = h.room;
    known = h.known;
    roomy = h.roomy;
    within = subst (AreWithin h.room h.known (reverse found))
        (ap (λ n. take n (shape_in names of)) all ∙ take-length (shape_in names of)) h.within;
  }

  -- the entries that are found are fewer than the axes
  pub found-few : (scan count axis : ℕ) (of : Expr) (flat : Entry) (found : List Entry) → axis < length (shape_in names of)
      → FitsAt items statement scan count of axis flat found → length found < most_axes
  found-few scan count axis of flat found inside h =
      let many = entries-many h.room h.known (reverse found) (take axis (shape_in names of)) h.within in
      let few = shape-few (shape_in names of) ((within 0).shaped of h.accepted) in
      omega (arith, many, few, inside, length-reverse found, length-take-le axis (shape_in names of) (omega (arith, inside)))
