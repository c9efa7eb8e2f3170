-- The form of an accepted expression keeps it: one line an operator.
use Rattle.std.specs.Prelude.{◌≡◌, ◌≢◌, ℕ, zero, suc, ◌+◌, ◌-◌, ◌*◌, ◌<◌, ◌≤◌, Bool, true, false, ℤ, pos, List, [], ◌∷◌, ◌++◌, drop, length, map, reverse, slice_index, slice_index_or, take, unsigned_abs, IsTrue, if◌then◌else◌}
use Rattle.std.specs.List.{flat_map, insert, remove}
use Rattle.std.specs.Str.{bytes_eq}
use Rattle.std.proofs.Common.{refl, ap, sym, subst, ◌∙◌, arith}
use Rattle.std.proofs.lemmas.Bool.{false≢true}
use Rattle.std.proofs.lemmas.Grind.{flat_map-append}
use Rattle.std.proofs.lemmas.List.{length-append}
use Rattle.shapes_core.specs.Limits.{greatest_extent}
use Rattle.shapes_core.specs.Shape.{IsShape, total}
use Rattle.moa_tree.specs.declared.operator.Op.{Op}
use Rattle.moa_tree.specs.declared.operator.Op.TheVariants.{Add, Sub, Mul, Quot, Rem, Min, Max, Eq, Ne, Lt, Le, And, Or, Xor}
use Rattle.moa_tree.specs.declared.operator.Unary.{Unary}
use Rattle.moa_tree.specs.Axes.{but_last, common, each_extent, each_place, joined, naturals, on_axis, own_index, remaining, restored, selected, taken, turned}
use Rattle.moa_tree.specs.Canonical.{IsBuilt}
use Rattle.moa_tree.specs.Expr.{Expr, Number, Use, Iota, One, Two, Psi, Take, Drop, Reverse, Rotate, Transpose, Permute, Cat, Reshape, Ravel, Outer, Inner, Reduce, Scan}
use Rattle.moa_tree.specs.ShapeOf.{beside}
use Rattle.moa_tree.specs.Subexpressions.{if_scan, scans_in, subexpressions}
use Rattle.moa_tree.specs.Vocabulary.{is_fold}
use Rattle.shape_check.specs.Costs.{Priced, Prices, nodes, price}
use Rattle.normal_form.specs.declared.entry.Entry.{Entry}
use Rattle.normal_form.specs.declared.entry.Entry.TheVariants.{At}
use Rattle.normal_form.specs.Formers.{Former, Making, folding, joining, just, on_both, on_one, reshaping, turning}
use Rattle.normal_form.specs.Forms.{Lit, Index, Get, Un, Bin}
use Rattle.normal_form.specs.Keeps.{Keeps, MovesWithin}
use Rattle.normal_form.specs.Constants.{greatest_constant}
use Rattle.normal_form.specs.Kept.{IsFoldOperator}
use Rattle.normal_form.specs.Moves.{behind_entry, mirrored_entry, remaining_entry, taken_entry}
use Rattle.psi_rules.specs.Keeping.{AreKeptNamed, HasRoom, IsSpared}
use Rattle.psi_rules.specs.Operands.{IsAccepted, OperandsMove}
use Rattle.psi_rules.specs.Rules.{Named, Names, form, nameless, scan_behind, shape_in, shapes_of}
use Rattle.psi_rules.specs.Within.{AreAlike, OperandsWithin}
use Rattle.psi_rules.proofs.WithinLemmas.{AreSmall, extents-small}

-- ---- what formers keep for a form of one area

pub record KeepLaws (own : ℕ) : Type 0 where
  pub constant : (room : ℕ) (value : ℤ) → Keeps own room (λ entries. just (Lit value)) []
  pub numbers : (room n : ℕ) → room ≤ greatest_constant → n ≤ greatest_extent
      → Keeps own room (λ entries. just (Index (slice_index_or entries 0 (At (pos 0))))) (n ∷ [])
  pub stored : (room area : ℕ) (shape : List ℕ) → room ≤ greatest_constant → area ≢ own → IsShape shape
      → Keeps own room (λ entries. just (Get (record { area = area; shape = shape; at = entries }))) shape
  pub one : (room : ℕ) (op : Unary) (of : Former) (shape : List ℕ) → Keeps own room of shape
      → Keeps own room (λ entries. on_one (Un op) (of entries)) shape
  pub moved : (room further : ℕ) (of : Former) (shape operand : List ℕ) (move : List Entry → List Entry)
      → Keeps own further of operand → MovesWithin room further move shape operand → Keeps own room (λ entries. of (move entries)) shape
  pub two : (room : ℕ) (op : Op) (left right : Former) (shape : List ℕ) → Keeps own room left shape → Keeps own room right shape
      → Keeps own room (λ entries. on_both (Bin op) (left entries) (right entries)) shape
  pub turns : (room : ℕ) (by : ℤ) (of : Former) (n : ℕ) (shape : List ℕ) → room ≤ greatest_constant → n ≤ greatest_extent
      → Keeps own (room + greatest_extent) of (n ∷ shape)
      → Keeps own room
      (λ entries. turning (turned by n 0) n (slice_index_or entries 0 (At (pos 0)))
      (λ entry. of (on_axis 0 (λ extent old. entry) (n ∷ shape) entries)))
      (n ∷ shape)
  pub joins : (room : ℕ) (left right : Former) (n m : ℕ) (shape : List ℕ) → room ≤ greatest_constant → n + m ≤ greatest_extent
      → Keeps own room left (n ∷ shape) → Keeps own (room + greatest_extent) right (m ∷ shape)
      → Keeps own room
      (λ entries. joining n m (slice_index_or entries 0 (At (pos 0))) (left entries) (right (on_axis 0 behind_entry (n ∷ shape) entries)))
      ((n + m) ∷ shape)
  pub folds : (room : ℕ) (op : Op) (n : ℕ) (item : List Entry → Entry → Making) (shape : List ℕ) → IsFoldOperator op → n ≤ greatest_extent
      → Keeps own room (λ entries. item (drop 1 entries) (slice_index_or entries 0 (At (pos 0)))) (n ∷ shape)
      → Keeps own room (λ entries. folding op n (item entries)) shape
  pub reshapes : (room : ℕ) (of : Former) (shape operand : List ℕ) → room ≤ greatest_constant → total shape ≡ total operand
      → IsShape shape → IsShape operand → Keeps own room of operand
      → Keeps own room (λ entries. reshaping shape operand entries of) shape

-- ---- room

pub room-fits : (room x : ℕ) → HasRoom room x → room ≤ greatest_constant
room-fits room x h = omega (arith, h)

first-more : (x g : ℕ) → (1 + x) * g ≡ g + x * g
first-more x g = grind arith

pub room-grown : (room x : ℕ) → HasRoom room (1 + x) → HasRoom (room + greatest_extent) x
room-grown room x h = omega (arith, h, first-more x greatest_extent)

pub room-kept : (room x : ℕ) → HasRoom room (1 + x) → HasRoom room x
room-kept room x h = omega (arith, h, first-more x greatest_extent)

sum-more : (x y g : ℕ) → (1 + (x + y)) * g ≡ g + (x * g + y * g)
sum-more x y g = grind arith

pub room-left : (room x y : ℕ) → HasRoom room (1 + (x + y)) → HasRoom room x
room-left room x y h = omega (arith, h, sum-more x y greatest_extent)

pub room-right : (room x y : ℕ) → HasRoom room (1 + (x + y)) → HasRoom room y
room-right room x y h = omega (arith, h, sum-more x y greatest_extent)

pub room-behind : (room x y : ℕ) → HasRoom room (1 + (x + y)) → HasRoom (room + greatest_extent) y
room-behind room x y h = omega (arith, h, sum-more x y greatest_extent)

-- ---- areas

spared-both : (own scan : ℕ) (left right : Expr) → IsSpared own scan
    (length (flat_map if_scan (subexpressions left ++ subexpressions right)))
    → IsSpared own scan (length (scans_in left)) × IsSpared own (scan_behind scan left) (length (scans_in right))
spared-both own scan left right h =
    let a = length (scans_in left) in
    let b = length (scans_in right) in
    let many : length (flat_map if_scan (subexpressions left ++ subexpressions right)) ≡ a + b =
    ap length (flat_map-append if_scan (subexpressions left) (subexpressions right)) ∙ length-append (scans_in left) (scans_in right) in
    ((λ k below. h k (omega (arith, below, many))), (λ k below e. h (a + k) (omega (arith, below, many)) (omega (arith, e))))

-- ---- names

one-kept : (own room : ℕ) (test : Bool) (named other : Named) (priced another : Priced) (shape : List ℕ)
    → HasRoom room (if test then priced else another).nodes
    → (HasRoom room priced.nodes → Keeps own room named.form named.shape) → (HasRoom room another.nodes → Keeps own room other.form shape)
    → Keeps own room (if test then named else other).form (if test then named.shape else shape)
one-kept own room true named other priced another shape cost h k = h cost
one-kept own room false named other priced another shape cost h k = k cost

named-keeps : (own : ℕ) → KeepLaws own → (names : Names) (prices : Prices) (name : List ℕ) (room : ℕ) → AreKeptNamed own names prices
    → HasRoom room (price prices name).nodes
    → Keeps own room (beside nameless names name).form (beside [] (shapes_of names) name)
named-keeps own law [] prices name room agree cost = law.constant room (pos 0)
named-keeps own law (named ∷ names) [] name room agree cost = absurd agree
named-keeps own law (named ∷ names) (priced ∷ prices) name room agree cost =
    one-kept own room (bytes_eq named.0 name) named.1 (beside nameless names name) priced.1 (price prices name)
    (beside [] (shapes_of names) name)
    (subst (λ first. HasRoom room (if bytes_eq first name then priced.1 else price prices name).nodes) (sym agree.0.0) cost)
    (agree.0.1 room) (named-keeps own law names prices name room agree.1)

-- ---- operators that fold

pub fold-has : (op : Op) → IsTrue (is_fold op) → IsFoldOperator op
fold-has Add h = refl
fold-has Sub h = absurd (false≢true h)
fold-has Mul h = refl
fold-has Quot h = absurd (false≢true h)
fold-has Rem h = absurd (false≢true h)
fold-has Min h = refl
fold-has Max h = refl
fold-has Eq h = absurd (false≢true h)
fold-has Ne h = absurd (false≢true h)
fold-has Lt h = absurd (false≢true h)
fold-has Le h = absurd (false≢true h)
fold-has And h = refl
fold-has Or h = refl
fold-has Xor h = refl

-- ---- the first axis of a shape

turn-any : (own : ℕ) → KeepLaws own → (room : ℕ) (by : ℤ) (of : Former) (shape : List ℕ) → room ≤ greatest_constant
    → 0 < length shape → AreSmall shape → Keeps own (room + greatest_extent) of shape
    → Keeps own room
    (λ entries. turning (turned by (slice_index shape 0) 0) (slice_index shape 0) (slice_index_or entries 0 (At (pos 0)))
    (λ entry. of (on_axis 0 (λ extent old. entry) shape entries)))
    shape
turn-any own law room by of [] fits some small h = absurd (omega (arith, some))
turn-any own law room by of (n ∷ shape) fits some small h = law.turns room by of n shape fits small.0 h

join-any : (own : ℕ) → KeepLaws own → (room : ℕ) (left right : Former) (s t : List ℕ) → room ≤ greatest_constant
    → AreAlike s t → AreSmall (joined 0 s t) → Keeps own room left s → Keeps own (room + greatest_extent) right t
    → Keeps own room
    (λ entries. joining (slice_index s 0) (slice_index t 0) (slice_index_or entries 0 (At (pos 0)))
    (left entries) (right (on_axis 0 behind_entry s entries)))
    (joined 0 s t)
join-any own law room left right [] t fits alike small h k = absurd (omega (arith, alike.some))
join-any own law room left right (n ∷ s) [] fits alike small h k = absurd (omega (arith, alike.more))
join-any own law room left right (n ∷ s) (m ∷ t) fits alike small h k =
    law.joins room left right n m s fits small.0 h (subst (λ rest. Keeps own (room + greatest_extent) right (m ∷ rest)) (sym alike.same) k)

first-small : (shape : List ℕ) → 0 < length shape → AreSmall shape → slice_index shape 0 ≤ greatest_extent
first-small [] some small = absurd (omega (arith, some))
first-small (n ∷ shape) some small = small.0

-- ---- the rules

module _ (own : ℕ) (law : KeepLaws own) (names : Names) (prices : Prices) (agree : AreKeptNamed own names prices)
    (operand : OperandsMove (shapes_of names)) (within : (room : ℕ) → OperandsWithin (shapes_of names) room) where
  small-in : (expr : Expr) → IsAccepted (shapes_of names) expr → AreSmall (shape_in names expr)
  small-in expr h = extents-small (shape_in names expr) ((within 0).shaped expr h)

  pub kept : (levels room scan : ℕ) (expr : Expr) → IsBuilt levels expr → IsSpared own scan (length (scans_in expr))
      → IsAccepted (shapes_of names) expr → HasRoom room (nodes prices expr) → Keeps own room (form names scan expr) (shape_in names expr)
  kept zero room scan expr built spared h cost = absurd built
  kept (suc levels) room scan (Number value) built spared h cost = law.constant room value
  kept (suc levels) room scan (Use name) built spared h cost = named-keeps own law names prices name room agree cost
  kept (suc levels) room scan (Iota extent) built spared h cost =
      law.numbers room (unsigned_abs extent) (room-fits room 1 cost) (small-in (Iota extent) h).0
  kept (suc levels) room scan (One op of) built spared h cost =
      law.one room op (form names scan of) (shape_in names of)
      (kept levels room scan of built spared (operand.one op of h) (room-kept room (nodes prices of) cost))
  kept (suc levels) room scan (Two op left right) built spared h cost =
      let s = shape_in names left in
      let t = shape_in names right in
      let k = operand.two op left right h in
      let both = spared-both own scan left right spared in
      let moves = (within room).two op left right h in
      law.two room op (λ entries. form names scan left (own_index s entries))
      (λ entries. form names (scan_behind scan left) right (own_index t entries)) (common s t)
      (law.moved room room (form names scan left) (common s t) s (own_index s)
      (kept levels room scan left built.0 both.0 k.0 (room-left room (nodes prices left) (nodes prices right) cost)) moves.0)
      (law.moved room room (form names (scan_behind scan left) right) (common s t) t (own_index t)
      (kept levels room (scan_behind scan left) right built.1 both.1 k.1
      (room-right room (nodes prices left) (nodes prices right) cost)) moves.1)
  kept (suc levels) room scan (Psi list of) built spared h cost =
      law.moved room room (form names scan of) (drop (length list) (shape_in names of)) (shape_in names of)
      (λ entries. map At list ++ entries)
      (kept levels room scan of built spared (operand.psi list of h).0 (room-kept room (nodes prices of) cost))
      ((within room).psi list of h)
  kept (suc levels) room scan (Take list of) built spared h cost =
      law.moved room (room + greatest_extent) (form names scan of) (each_extent taken list (shape_in names of)) (shape_in names of)
      (each_place taken_entry list (shape_in names of))
      (kept levels (room + greatest_extent) scan of built spared (operand.takes list of h).0 (room-grown room (nodes prices of) cost))
      ((within room).takes list of h)
  kept (suc levels) room scan (Drop list of) built spared h cost =
      law.moved room (room + greatest_extent) (form names scan of) (each_extent remaining list (shape_in names of)) (shape_in names of)
      (each_place remaining_entry list (shape_in names of))
      (kept levels (room + greatest_extent) scan of built spared (operand.drops list of h).0 (room-grown room (nodes prices of) cost))
      ((within room).drops list of h)
  kept (suc levels) room scan (Reverse of) built spared h cost =
      law.moved room (room + greatest_extent) (form names scan of) (shape_in names of) (shape_in names of)
      (on_axis 0 mirrored_entry (shape_in names of))
      (kept levels (room + greatest_extent) scan of built spared (operand.reverses of h).0 (room-grown room (nodes prices of) cost))
      ((within room).reverses of h)
  kept (suc levels) room scan (Rotate by of) built spared h cost =
      let k = operand.rotates by of h in
      turn-any own law room by (form names scan of) (shape_in names of) (room-fits room (1 + nodes prices of) cost) k.1 (small-in of k.0)
      (kept levels (room + greatest_extent) scan of built spared k.0 (room-grown room (nodes prices of) cost))
  kept (suc levels) room scan (Transpose of) built spared h cost =
      law.moved room room (form names scan of) (reverse (shape_in names of)) (shape_in names of) (λ entries. reverse entries)
      (kept levels room scan of built spared (operand.transposes of h).0 (room-kept room (nodes prices of) cost))
      ((within room).transposes of h)
  kept (suc levels) room scan (Permute list of) built spared h cost =
      law.moved room room (form names scan of) (selected (naturals list) (shape_in names of)) (shape_in names of)
      (restored (At (pos 0)) (naturals list))
      (kept levels room scan of built spared (operand.permutes list of h).0 (room-kept room (nodes prices of) cost))
      ((within room).permutes list of h)
  kept (suc levels) room scan (Cat left right) built spared h cost =
      let k = operand.cat left right h in
      let both = spared-both own scan left right spared in
      let x = nodes prices left in
      let y = nodes prices right in
      join-any own law room (form names scan left) (form names (scan_behind scan left) right) (shape_in names left) (shape_in names right)
      (room-fits room (1 + (x + y)) cost) ((within room).cat left right h) (small-in (Cat left right) h)
      (kept levels room scan left built.0 both.0 k.0 (room-left room x y cost))
      (kept levels (room + greatest_extent) (scan_behind scan left) right built.1 both.1 k.1 (room-behind room x y cost))
  kept (suc levels) room scan (Reshape list of) built spared h cost =
      let k = operand.reshapes list of h in
      law.reshapes room (form names scan of) (naturals list) (shape_in names of) (room-fits room (1 + nodes prices of) cost) k.1
      ((within room).shaped (Reshape list of) h) ((within room).shaped of k.0)
      (kept levels room scan of built spared k.0 (room-kept room (nodes prices of) cost))
  kept (suc levels) room scan (Ravel of) built spared h cost =
      let k = operand.ravels of h in
      let n = total (shape_in names of) in
      let e : n * 1 ≡ n = omega arith in
      law.reshapes room (form names scan of) (n ∷ []) (shape_in names of) (room-fits room (1 + nodes prices of) cost) e
      ((within room).shaped (Ravel of) h) ((within room).shaped of k)
      (kept levels room scan of built spared k (room-kept room (nodes prices of) cost))
  kept (suc levels) room scan (Outer op left right) built spared h cost =
      let s = shape_in names left in
      let t = shape_in names right in
      let k = operand.outer op left right h in
      let both = spared-both own scan left right spared in
      let moves = (within room).outer op left right h in
      law.two room op (λ entries. form names scan left (take (length s) entries))
      (λ entries. form names (scan_behind scan left) right (drop (length s) entries)) (s ++ t)
      (law.moved room room (form names scan left) (s ++ t) s (take (length s))
      (kept levels room scan left built.0 both.0 k.0 (room-left room (nodes prices left) (nodes prices right) cost)) moves.0)
      (law.moved room room (form names (scan_behind scan left) right) (s ++ t) t (drop (length s))
      (kept levels room (scan_behind scan left) right built.1 both.1 k.1
      (room-right room (nodes prices left) (nodes prices right) cost)) moves.1)
  kept (suc levels) room scan (Inner fold op left right) built spared h cost =
      let s = shape_in names left in
      let t = shape_in names right in
      let axes = length s - 1 in
      let n = slice_index s axes in
      let shape = but_last s ++ drop 1 t in
      let k = operand.inner fold op left right h in
      let both = spared-both own scan left right spared in
      let moves = (within room).inner fold op left right h in
      let least : n ≤ greatest_extent = subst (λ m. m ≤ greatest_extent) (sym moves.0) (first-small t moves.1 (small-in right k.1)) in
      law.folds room fold n
      (λ entries i. on_both (Bin op) (form names scan left (take axes entries ++ i ∷ []))
      (form names (scan_behind scan left) right (i ∷ drop axes entries)))
      shape (fold-has fold built.0) least
      (law.two room op (λ entries. form names scan left (take axes (drop 1 entries) ++ slice_index_or entries 0 (At (pos 0)) ∷ []))
      (λ entries. form names (scan_behind scan left) right (slice_index_or entries 0 (At (pos 0)) ∷ drop axes (drop 1 entries))) (n ∷ shape)
      (law.moved room room (form names scan left) (n ∷ shape) s
      (λ entries. take axes (drop 1 entries) ++ slice_index_or entries 0 (At (pos 0)) ∷ [])
      (kept levels room scan left built.1 both.0 k.0 (room-left room (nodes prices left) (nodes prices right) cost)) moves.2)
      (law.moved room room (form names (scan_behind scan left) right) (n ∷ shape) t
      (λ entries. slice_index_or entries 0 (At (pos 0)) ∷ drop axes (drop 1 entries))
      (kept levels room (scan_behind scan left) right built.2 both.1 k.1
      (room-right room (nodes prices left) (nodes prices right) cost)) moves.3))
  kept (suc levels) room scan (Reduce fold of) built spared h cost =
      let s = shape_in names of in
      let k = operand.reduces fold of h in
      let moves = (within room).reduces fold of h in
      law.folds room fold (slice_index s 0) (λ entries i. form names scan of (insert entries 0 i)) (remove s 0) (fold-has fold built.0)
      (first-small s moves.0 (small-in of k.0))
      (law.moved room room (form names scan of) (slice_index s 0 ∷ remove s 0) s
      (λ entries. insert (drop 1 entries) 0 (slice_index_or entries 0 (At (pos 0))))
      (kept levels room scan of built.1 spared k.0 (room-kept room (nodes prices of) cost)) moves.1)
  kept (suc levels) room scan (Scan fold of) built spared h cost =
      let other : scan ≢ own = λ e. spared 0 (omega arith) (omega (arith, e)) in
      law.stored room scan (shape_in names of) (room-fits room 1 cost) other ((within room).shaped (Scan fold of) h)
