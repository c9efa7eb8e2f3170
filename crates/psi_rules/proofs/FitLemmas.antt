-- An expression that fits with entries leads to operands that fit with what its rule makes of them: one law an operator.
use Rattle.std.specs.Prelude.{◌≡◌, ◌==◌, ℕ, zero, suc, ◌+◌, ◌-◌, ◌*◌, ◌<◌, ◌≤◌, Bool, true, false, if◌then◌else◌, ℤ, pos, negsuc, List, [], ◌∷◌, ◌++◌, drop, length, map, reverse, slice_index, take, unsigned_abs, IfOk, Result}
use Rattle.std.specs.List.{AllByRecursion, flat_map, range_with_len}
use Rattle.std.proofs.Common.{refl, ap, ◌∙◌, arith, eq-eqb, length-append}
use Rattle.std.proofs.lemmas.Grind.{flat_map-append}
use Rattle.std.proofs.lemmas.Int.{ints}
use Rattle.std.proofs.lemmas.List.{length-map}
use Rattle.std.proofs.lemmas.List.FromFn.{length-range_with_len}
use Rattle.std.proofs.lemmas.Result.{IfOk-weaker}
use Rattle.shapes_core.specs.Limits.{greatest_extent, most_axes, most_items}
use Rattle.shapes_core.specs.Shape.{total}
use Rattle.moa_tree.specs.declared.operator.Op.{Op}
use Rattle.moa_tree.specs.declared.operator.Unary.{Unary}
use Rattle.moa_tree.specs.Axes.{each_place, naturals, on_axis, own_index, restored}
use Rattle.moa_tree.specs.Expr.{Expr, One, Two, Psi, Take, Drop, Reverse, Transpose, Permute, Reshape, Ravel, Outer, Inner, Reduce, Item}
use Rattle.moa_tree.specs.Subexpressions.{if_scan, scans_in, subexpressions}
use Rattle.shape_check.specs.Costs.{Prices, nodes}
use Rattle.normal_form.specs.declared.entry.Entry.{Entry}
use Rattle.normal_form.specs.declared.entry.Entry.TheVariants.{At, Plus, Minus}
use Rattle.normal_form.specs.Cutting.{Scope, carried}
use Rattle.normal_form.specs.Keeps.{AreWithin, IsWithin}
use Rattle.normal_form.specs.Constants.{greatest_constant}
use Rattle.normal_form.specs.Moves.{mirrored_entry, remaining_entry, taken_entry, variable}
use Rattle.psi_rules.specs.Building.{Built, IsFresh, used}
use Rattle.psi_rules.specs.Fitting.{AreExtents, Fits, FitsIn, IsFit, cost}
use Rattle.psi_rules.specs.Operands.{IsAccepted, OperandsMove}
use Rattle.psi_rules.specs.Rules.{Names, scan_behind, shape_in, shapes_of}
use Rattle.psi_rules.specs.Numbered.{greatest_area, prices_at}
use Rattle.psi_rules.specs.Scopes.{names_at}
use Rattle.psi_rules.specs.Within.{OperandsWithin}
use Rattle.psi_rules.proofs.KeepFormLemmas.{room-fits, room-grown, room-kept, room-left, room-right}
use Rattle.psi_rules.proofs.WithinLemmas.{extents-small}

-- ---- constants of entries within a shape fit

entry-fits : (room : ℕ) (known : Scope) (entry : Entry) (n : ℕ) → room ≤ greatest_constant → n ≤ greatest_extent → IsWithin room known entry n
    → IsFit entry
entry-fits room known (At (pos c)) n small least h = omega (arith, ints, least, h)
entry-fits room known (At (negsuc c)) n small least h = absurd h
entry-fits room known (Plus var (pos a)) n small least h = omega (arith, ints, small, h.2)
entry-fits room known (Plus var (negsuc a)) n small least h = omega (arith, ints, small, h.2)
entry-fits room known (Minus var (pos a)) n small least h = omega (arith, ints, small, h.2)
entry-fits room known (Minus var (negsuc a)) n small least h = omega (arith, ints, small, h.2)

entries-fit : (room : ℕ) (known : Scope) (entries : List Entry) (shape : List ℕ) → room ≤ greatest_constant → AreExtents shape
    → AreWithin room known entries shape → AllByRecursion IsFit entries
entries-fit room known [] [] small least h = tt
entries-fit room known [] (n ∷ shape) small least h = absurd h
entries-fit room known (entry ∷ entries) [] small least h = absurd h
entries-fit room known (entry ∷ entries) (n ∷ shape) small least h =
    (entry-fits room known entry n small least.0 h.0, entries-fit room known entries shape small least.1 h.1)

-- there is one an axis
pub entries-many : (room : ℕ) (known : Scope) (entries : List Entry) (shape : List ℕ) → AreWithin room known entries shape
    → length entries ≡ length shape
entries-many room known [] [] h = refl
entries-many room known [] (n ∷ shape) h = absurd h
entries-many room known (entry ∷ entries) [] h = absurd h
entries-many room known (entry ∷ entries) (n ∷ shape) h = ap suc (entries-many room known entries shape h.1)

pub restored-many : (list : List ℤ) (entries : List Entry) → length (restored (At (pos 0)) (naturals list) entries) ≡ length list
restored-many list entries =
    length-map (range_with_len 0 (length (naturals list))) _ ∙ length-range_with_len 0 (length (naturals list)) ∙ length-map list unsigned_abs

-- ---- more variables

no-more : (test : Bool) (k : ℕ) → (if test then 0 else k) ≤ k
no-more true k = omega arith
no-more false k = omega arith

carries-none : (test : Bool) (k : ℕ) → test ≡ true → (if test then 0 else k) ≡ 0
carries-none true k e = refl
carries-none false k e = absurd (grind (arith, e))

-- a variable that carries nothing
abbrev pub with_variable : ℕ → Scope → Scope
with_variable var known = (var, 0) ∷ known

pub more-entry : (room var : ℕ) (known : Scope) (entry : Entry) (n : ℕ) → IsWithin room known entry n → IsWithin room (with_variable var known) entry n
more-entry room other known (At (pos c)) n h = h
more-entry room other known (At (negsuc c)) n h = h
more-entry room other known (Plus var add) n h =
    (h.0, (suc h.1.0, omega (arith, h.1.1), h.1.2), let less = no-more (var == other) (carried known var) in omega (arith, h.2, less))
more-entry room other known (Minus var add) n h =
    (h.0, (suc h.1.0, omega (arith, h.1.1), h.1.2), let less = no-more (var == other) (carried known var) in omega (arith, h.2, less))

pub more-entries : (room var : ℕ) (known : Scope) (entries : List Entry) (shape : List ℕ) → AreWithin room known entries shape
    → AreWithin room (with_variable var known) entries shape
more-entries room var known [] [] h = tt
more-entries room var known [] (n ∷ shape) h = absurd h
more-entries room var known (entry ∷ entries) [] h = absurd h
more-entries room var known (entry ∷ entries) (n ∷ shape) h = (more-entry room var known entry n h.0, more-entries room var known entries shape h.1)

pub variable-in : (room var : ℕ) (known : Scope) (n : ℕ) → 0 < n → IsWithin room (with_variable var known) (variable var) n
variable-in room var known n some =
    (some, (0, omega arith, refl), let none = carries-none (var == var) (carried known var) (eq-eqb var var refl) in omega (arith, none))

-- ---- counts

pub one-less : (count x : ℕ) → count + 16 * (1 + x) ≤ most_items → count + 16 * x ≤ most_items
one-less count x h = omega (arith, h)

pub fresh-less : (count x : ℕ) → count + 16 * (1 + x) ≤ most_items → suc count + 16 * x ≤ most_items
fresh-less count x h = omega (arith, h)

pub left-less : (count x y : ℕ) → count + 16 * (1 + (x + y)) ≤ most_items → count + 16 * x ≤ most_items
left-less count x y h = omega (arith, h)

pub right-less : (count x y : ℕ) → count + 16 * (1 + (x + y)) ≤ most_items → count + 16 * x + 16 * y ≤ most_items
right-less count x y h = omega (arith, h)

-- there is room for one more behind those of an operand, and of two
pub room-one : (old mid x : ℕ) → mid ≤ old + 16 * x → old + 16 * (1 + x) ≤ most_items → mid < most_items
room-one old mid x h k = omega (arith, h, k)

pub room-fresh : (old fresh mid x : ℕ) → fresh ≡ suc old → mid ≤ fresh + 16 * x → old + 16 * (1 + x) ≤ most_items → mid < most_items
room-fresh old fresh mid x e h k = omega (arith, e, h, k)

pub room-both : (old x y : ℕ) → old + 16 * (1 + (x + y)) ≤ most_items → old + (16 * x + 16 * y) < most_items
room-both old x y k = omega (arith, k)

pub room-parts : (old mid last x y : ℕ) → mid ≤ old + 16 * x → last ≤ mid + 16 * y → old + 16 * (1 + (x + y)) ≤ most_items → last < most_items
room-parts old mid last x y h g k = omega (arith, h, g, k)

pub room-inner : (old fresh last x y : ℕ) → fresh ≡ suc old → last ≤ fresh + (1 + (16 * x + 16 * y)) → old + 16 * (1 + (x + y)) ≤ most_items
    → last < most_items
room-inner old fresh last x y e h k = omega (arith, e, h, k)

pub room-now : (old x : ℕ) → old + 16 * (1 + x) ≤ most_items → old < most_items
room-now old x k = omega (arith, k)

pub room-sum : (old mid last a b : ℕ) → mid ≤ old + a → last ≤ mid + b → old + (a + b) < most_items → last < most_items
room-sum old mid last a b h g k = omega (arith, h, g, k)

pub room-inside : (old fresh x y : ℕ) → fresh ≡ suc old → old + 16 * (1 + (x + y)) ≤ most_items → fresh + (16 * x + 16 * y) < most_items
room-inside old fresh x y e k = omega (arith, e, k)

pub not-none : (n : ℕ) → (n ≡ 0 → ⊥) → 0 < n
not-none zero h = absurd (h refl)
not-none (suc n) h = omega arith

-- no more are made than an operator may
pub made-leaf : (old new x : ℕ) → new ≡ suc old → new ≤ old + 16 * (1 + x)
made-leaf old new x e = omega (arith, e)

pub made-one : (old mid new x : ℕ) → mid ≤ old + 16 * x → new ≡ suc mid → new ≤ old + 16 * (1 + x)
made-one old mid new x h e = omega (arith, h, e)

pub made-fresh : (old fresh mid new x : ℕ) → fresh ≡ suc old → mid ≤ fresh + 16 * x → new ≡ suc mid → new ≤ old + 16 * (1 + x)
made-fresh old fresh mid new x d h e = omega (arith, d, h, e)

pub made-same : (old new x : ℕ) → new ≤ old + 16 * x → new ≤ old + 16 * (1 + x)
made-same old new x h = omega (arith, h)

pub made-left : (old new x y : ℕ) → new ≤ old + 16 * x → new ≤ old + 16 * (1 + (x + y))
made-left old new x y h = omega (arith, h)

pub made-right : (old new x y : ℕ) → new ≤ old + 16 * y → new ≤ old + 16 * (1 + (x + y))
made-right old new x y h = omega (arith, h)

pub made-both : (old new x y : ℕ) → new ≤ old + (1 + (16 * x + 16 * y)) → new ≤ old + 16 * (1 + (x + y))
made-both old new x y h = omega (arith, h)

pub made-parts : (old mid last new x y : ℕ) → mid ≤ old + 16 * x → last ≤ mid + 16 * y → new ≡ suc last → new ≤ old + (1 + (16 * x + 16 * y))
made-parts old mid last new x y h g e = omega (arith, h, g, e)

pub made-inner : (old fresh last new x y : ℕ) → fresh ≡ suc old → last ≤ fresh + (1 + (16 * x + 16 * y)) → new ≡ suc last
    → new ≤ old + 16 * (1 + (x + y))
made-inner old fresh last new x y d h e = omega (arith, d, h, e)

-- the digits of an offset: a variable and a term an axis
pub room-digit : (old axes axis x : ℕ) → axis < axes → old + (2 * (axes - axis) + x) ≤ most_items → old < most_items
room-digit old axes axis x inside k = omega (arith, inside, k)

pub room-bound : (old fresh mid few axes axis x : ℕ) → axis < few → axes ≡ few → fresh ≡ suc old → mid ≤ fresh + (2 * (axes - (axis + 1)) + x)
    → old + (2 * (few - axis) + x) ≤ most_items → mid < most_items
room-bound old fresh mid few axes axis x inside same e h k = omega (arith, inside, same, e, h, k)

pub made-behind : (old new more x : ℕ) → new ≤ old + x → new ≤ old + (more + x)
made-behind old new more x h = omega (arith, h)

pub made-found : (old new axes axis x : ℕ) → new ≤ old + (2 * (axes - (axis + 1)) + x) → new ≤ old + (2 * (axes - axis) + x)
made-found old new axes axis x h = omega (arith, h)

pub made-bound : (old fresh mid new few axes axis x : ℕ) → axis < few → axes ≡ few → fresh ≡ suc old
    → mid ≤ fresh + (2 * (axes - (axis + 1)) + x) → new ≡ suc mid → new ≤ old + (2 * (axes - axis) + x)
made-bound old fresh mid new few axes axis x inside same d h e = omega (arith, inside, same, d, h, e)

pub made-spread : (old new axes x : ℕ) → axes ≤ most_axes → new ≤ old + (2 * (axes - 0) + x) → new ≤ old + (12 + x)
made-spread old new axes x few h = omega (arith, few, h)

pub room-reshape : (old x : ℕ) → old + (16 + x) ≤ most_items → old < most_items
room-reshape old x k = omega (arith, k)

pub room-offset : (old fresh mid x : ℕ) → fresh ≡ suc old → mid ≤ fresh + (12 + x) → old + (16 + x) ≤ most_items → mid < most_items
room-offset old fresh mid x e h k = omega (arith, e, h, k)

pub made-offset : (old new x : ℕ) → new ≤ old + (12 + x) → new ≤ old + (16 + x)
made-offset old new x h = omega (arith, h)

pub made-flat : (old fresh mid new x : ℕ) → fresh ≡ suc old → mid ≤ fresh + (12 + x) → new ≡ suc mid → new ≤ old + (16 + x)
made-flat old fresh mid new x d h e = omega (arith, d, h, e)

-- the same of what a call answers
pub one-made : {E : Type 0} (result : Result ℕ E) (new mid most : ℕ) → (new ≡ suc mid → new ≤ most) → IfOk result (λ number. new ≡ suc mid)
    → IfOk result (λ number. new ≤ most)
one-made result new mid most f h = IfOk-weaker result (λ number. new ≡ suc mid) (λ number. new ≤ most) (λ number. f) h

pub more-made : {E : Type 0} (result : Result ℕ E) (new less most : ℕ) → (new ≤ less → new ≤ most) → IfOk result (λ number. new ≤ less)
    → IfOk result (λ number. new ≤ most)
more-made result new less most f h = IfOk-weaker result (λ number. new ≤ less) (λ number. new ≤ most) (λ number. f) h

-- a variable that is taken is used
pub fresh-used : (old new : Built) (var : ℕ) → IsFresh old new var → used new ≡ suc (used old)
fresh-used old new var h = let terms = ap length h.terms in let next = h.next in omega (arith, terms, next)

-- the scans of two operands
scans-both : (left right : Expr)
    → length (flat_map if_scan (subexpressions left ++ subexpressions right)) ≡ length (scans_in left) + length (scans_in right)
scans-both left right =
    ap length (flat_map-append if_scan (subexpressions left) (subexpressions right)) ∙ length-append (scans_in left) (scans_in right)

pub areas-left : (scan : ℕ) (left right : Expr) → scan + length (flat_map if_scan (subexpressions left ++ subexpressions right)) ≤ greatest_area
    → scan + length (scans_in left) ≤ greatest_area
areas-left scan left right h = omega (arith, h, scans-both left right)

pub areas-right : (scan : ℕ) (left right : Expr) → scan + length (flat_map if_scan (subexpressions left ++ subexpressions right)) ≤ greatest_area
    → scan_behind scan left + length (scans_in right) ≤ greatest_area
areas-right scan left right h = omega (arith, h, scans-both left right)

-- ---- the operands of a statement's expressions

module _ (items : List Item) (statement : ℕ) where
  abbrev pub names : Names
  names = names_at items statement

  abbrev pub prices : Prices
  prices = prices_at items statement

  -- with fewer that are used
  pub fits-less : (scan count less : ℕ) (expr : Expr) (entries : List Entry) → less ≤ count → Fits items statement scan count expr entries
      → Fits items statement scan less expr entries
  fits-less scan count less expr entries fewer h = record {
    accepted = h.accepted;
    areas = h.areas;
    terms = omega (arith, fewer, h.terms);
    room = h.room;
    known = h.known;
    roomy = h.roomy;
    within = h.within;
  }

  module _ (moves : OperandsMove (shapes_of names)) (within : (room : ℕ) → OperandsWithin (shapes_of names) room) where
    pub shape-extents : (expr : Expr) → IsAccepted (shapes_of names) expr → AreExtents (shape_in names expr)
    shape-extents expr h = extents-small (shape_in names expr) ((within 0).shaped expr h)

    pub fits-fit : (scan count : ℕ) (expr : Expr) (entries : List Entry) → Fits items statement scan count expr entries
        → AllByRecursion IsFit entries
    fits-fit scan count expr entries h =
        entries-fit h.room h.known entries (shape_in names expr) (room-fits h.room (nodes prices expr) h.roomy) (shape-extents expr h.accepted) h.within

    pub fits-many : (scan count : ℕ) (expr : Expr) (entries : List Entry) → Fits items statement scan count expr entries
        → length entries ≡ length (shape_in names expr)
    fits-many scan count expr entries h = entries-many h.room h.known entries (shape_in names expr) h.within

    pub fits-one : (scan count : ℕ) (op : Unary) (of : Expr) (entries : List Entry) → Fits items statement scan count (One op of) entries
        → Fits items statement scan count of entries
    fits-one scan count op of entries h = record {
      accepted = moves.one op of h.accepted;
      areas = h.areas;
      terms = one-less count (nodes prices of) h.terms;
      room = h.room;
      known = h.known;
      roomy = room-kept h.room (nodes prices of) h.roomy;
      within = h.within;
    }

    pub fits-two-left : (scan count : ℕ) (op : Op) (left right : Expr) (entries : List Entry)
        → Fits items statement scan count (Two op left right) entries
        → Fits items statement scan count left (own_index (shape_in names left) entries)
    fits-two-left scan count op left right entries h = record {
      accepted = (moves.two op left right h.accepted).0;
      areas = areas-left scan left right h.areas;
      terms = left-less count (nodes prices left) (nodes prices right) h.terms;
      room = h.room;
      known = h.known;
      roomy = room-left h.room (nodes prices left) (nodes prices right) h.roomy;
      within = ((within h.room).two op left right h.accepted).0 h.known entries h.within;
    }

    pub fits-two-right : (scan count : ℕ) (op : Op) (left right : Expr) (entries : List Entry)
        → Fits items statement scan count (Two op left right) entries
        → Fits items statement (scan_behind scan left) (count + cost items statement left) right (own_index (shape_in names right) entries)
    fits-two-right scan count op left right entries h = record {
      accepted = (moves.two op left right h.accepted).1;
      areas = areas-right scan left right h.areas;
      terms = right-less count (nodes prices left) (nodes prices right) h.terms;
      room = h.room;
      known = h.known;
      roomy = room-right h.room (nodes prices left) (nodes prices right) h.roomy;
      within = ((within h.room).two op left right h.accepted).1 h.known entries h.within;
    }

    pub fits-outer-left : (scan count : ℕ) (op : Op) (left right : Expr) (entries : List Entry)
        → Fits items statement scan count (Outer op left right) entries
        → Fits items statement scan count left (take (length (shape_in names left)) entries)
    fits-outer-left scan count op left right entries h = record {
      accepted = (moves.outer op left right h.accepted).0;
      areas = areas-left scan left right h.areas;
      terms = left-less count (nodes prices left) (nodes prices right) h.terms;
      room = h.room;
      known = h.known;
      roomy = room-left h.room (nodes prices left) (nodes prices right) h.roomy;
      within = ((within h.room).outer op left right h.accepted).0 h.known entries h.within;
    }

    pub fits-outer-right : (scan count : ℕ) (op : Op) (left right : Expr) (entries : List Entry)
        → Fits items statement scan count (Outer op left right) entries
        → Fits items statement (scan_behind scan left) (count + cost items statement left) right
        (drop (length (shape_in names left)) entries)
    fits-outer-right scan count op left right entries h = record {
      accepted = (moves.outer op left right h.accepted).1;
      areas = areas-right scan left right h.areas;
      terms = right-less count (nodes prices left) (nodes prices right) h.terms;
      room = h.room;
      known = h.known;
      roomy = room-right h.room (nodes prices left) (nodes prices right) h.roomy;
      within = ((within h.room).outer op left right h.accepted).1 h.known entries h.within;
    }

    -- the next variable stands for the items that are folded
    pub fits-inner-left : (scan count var : ℕ) (fold op : Op) (left right : Expr) (entries : List Entry)
        → let axes = length (shape_in names left) - 1 in
        0 < slice_index (shape_in names left) axes → Fits items statement scan count (Inner fold op left right) entries
        → Fits items statement scan (suc count) left (take axes entries ++ variable var ∷ [])
    fits-inner-left scan count var fold op left right entries some h = record {
      accepted = (moves.inner fold op left right h.accepted).0;
      areas = areas-left scan left right h.areas;
      terms = omega (arith, h.terms);
      room = h.room;
      known = with_variable var h.known;
      roomy = room-left h.room (nodes prices left) (nodes prices right) h.roomy;
      within = ((within h.room).inner fold op left right h.accepted).2 (with_variable var h.known) (variable var ∷ entries)
          (variable-in h.room var h.known _ some, more-entries h.room var h.known entries _ h.within);
    }

    pub fits-inner-right : (scan count var : ℕ) (fold op : Op) (left right : Expr) (entries : List Entry)
        → let axes = length (shape_in names left) - 1 in
        0 < slice_index (shape_in names left) axes → Fits items statement scan count (Inner fold op left right) entries
        → Fits items statement (scan_behind scan left) (suc count + cost items statement left) right
        (variable var ∷ drop axes entries)
    fits-inner-right scan count var fold op left right entries some h = record {
      accepted = (moves.inner fold op left right h.accepted).1;
      areas = areas-right scan left right h.areas;
      terms = omega (arith, h.terms);
      room = h.room;
      known = with_variable var h.known;
      roomy = room-right h.room (nodes prices left) (nodes prices right) h.roomy;
      within = ((within h.room).inner fold op left right h.accepted).3 (with_variable var h.known) (variable var ∷ entries)
          (variable-in h.room var h.known _ some, more-entries h.room var h.known entries _ h.within);
    }

    pub fits-reduce : (scan count var : ℕ) (fold : Op) (of : Expr) (entries : List Entry) → 0 < slice_index (shape_in names of) 0
        → Fits items statement scan count (Reduce fold of) entries → Fits items statement scan (suc count) of (variable var ∷ entries)
    fits-reduce scan count var fold of entries some h = record {
      accepted = (moves.reduces fold of h.accepted).0;
      areas = h.areas;
      terms = fresh-less count (nodes prices of) h.terms;
      room = h.room;
      known = with_variable var h.known;
      roomy = room-kept h.room (nodes prices of) h.roomy;
      within = ((within h.room).reduces fold of h.accepted).1 (with_variable var h.known) (variable var ∷ entries)
          (variable-in h.room var h.known _ some, more-entries h.room var h.known entries _ h.within);
    }

    pub fits-psi : (scan count : ℕ) (list : List ℤ) (of : Expr) (entries : List Entry) → Fits items statement scan count (Psi list of) entries
        → Fits items statement scan count of (map At list ++ entries)
    fits-psi scan count list of entries h = record {
      accepted = (moves.psi list of h.accepted).0;
      areas = h.areas;
      terms = one-less count (nodes prices of) h.terms;
      room = h.room;
      known = h.known;
      roomy = room-kept h.room (nodes prices of) h.roomy;
      within = (within h.room).psi list of h.accepted h.known entries h.within;
    }

    pub fits-take : (scan count : ℕ) (list : List ℤ) (of : Expr) (entries : List Entry) → Fits items statement scan count (Take list of) entries
        → Fits items statement scan count of (each_place taken_entry list (shape_in names of) entries)
    fits-take scan count list of entries h = record {
      accepted = (moves.takes list of h.accepted).0;
      areas = h.areas;
      terms = one-less count (nodes prices of) h.terms;
      room = h.room + greatest_extent;
      known = h.known;
      roomy = room-grown h.room (nodes prices of) h.roomy;
      within = (within h.room).takes list of h.accepted h.known entries h.within;
    }

    pub fits-drop : (scan count : ℕ) (list : List ℤ) (of : Expr) (entries : List Entry) → Fits items statement scan count (Drop list of) entries
        → Fits items statement scan count of (each_place remaining_entry list (shape_in names of) entries)
    fits-drop scan count list of entries h = record {
      accepted = (moves.drops list of h.accepted).0;
      areas = h.areas;
      terms = one-less count (nodes prices of) h.terms;
      room = h.room + greatest_extent;
      known = h.known;
      roomy = room-grown h.room (nodes prices of) h.roomy;
      within = (within h.room).drops list of h.accepted h.known entries h.within;
    }

    pub fits-permute : (scan count : ℕ) (list : List ℤ) (of : Expr) (entries : List Entry)
        → Fits items statement scan count (Permute list of) entries
        → Fits items statement scan count of (restored (At (pos 0)) (naturals list) entries)
    fits-permute scan count list of entries h = record {
      accepted = (moves.permutes list of h.accepted).0;
      areas = h.areas;
      terms = one-less count (nodes prices of) h.terms;
      room = h.room;
      known = h.known;
      roomy = room-kept h.room (nodes prices of) h.roomy;
      within = (within h.room).permutes list of h.accepted h.known entries h.within;
    }

    pub fits-reverse : (scan count : ℕ) (of : Expr) (entries : List Entry) → Fits items statement scan count (Reverse of) entries
        → Fits items statement scan count of (on_axis 0 mirrored_entry (shape_in names of) entries)
    fits-reverse scan count of entries h = record {
      accepted = (moves.reverses of h.accepted).0;
      areas = h.areas;
      terms = one-less count (nodes prices of) h.terms;
      room = h.room + greatest_extent;
      known = h.known;
      roomy = room-grown h.room (nodes prices of) h.roomy;
      within = (within h.room).reverses of h.accepted h.known entries h.within;
    }

    pub fits-transpose : (scan count : ℕ) (of : Expr) (entries : List Entry) → Fits items statement scan count (Transpose of) entries
        → Fits items statement scan count of (reverse entries)
    fits-transpose scan count of entries h = record {
      accepted = (moves.transposes of h.accepted).0;
      areas = h.areas;
      terms = one-less count (nodes prices of) h.terms;
      room = h.room;
      known = h.known;
      roomy = room-kept h.room (nodes prices of) h.roomy;
      within = (within h.room).transposes of h.accepted h.known entries h.within;
    }

    pub fits-reshape : (scan count : ℕ) (list : List ℤ) (of : Expr) (entries : List Entry)
        → Fits items statement scan count (Reshape list of) entries → FitsIn items statement scan count of (naturals list) entries
    fits-reshape scan count list of entries h = record {
      accepted = (moves.reshapes list of h.accepted).0;
      areas = h.areas;
      terms = omega (arith, h.terms);
      shaped = (within 0).shaped (Reshape list of) h.accepted;
      same = (moves.reshapes list of h.accepted).1;
      room = h.room;
      known = h.known;
      roomy = room-kept h.room (nodes prices of) h.roomy;
      within = h.within;
    }

    pub fits-ravel : (scan count : ℕ) (of : Expr) (entries : List Entry)
        → Fits items statement scan count (Ravel of) entries → FitsIn items statement scan count of (total (shape_in names of) ∷ []) entries
    fits-ravel scan count of entries h = record {
      accepted = moves.ravels of h.accepted;
      areas = h.areas;
      terms = omega (arith, h.terms);
      shaped = (within 0).shaped (Ravel of) h.accepted;
      same = omega arith;
      room = h.room;
      known = h.known;
      roomy = room-kept h.room (nodes prices of) h.roomy;
      within = h.within;
    }
