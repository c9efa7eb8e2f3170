-- The block of an accepted program is a layout.
use Rattle.std.proofs.Common.{◌≡◌, ◌≢◌, ℕ, zero, suc, ◌+◌, ◌<◌, ◌≤◌, Bool, true, false, not, List, [], ◌∷◌, ◌++◌, refl, ap, sym, ◌∙◌, arith, length, map, get_or, true≢false}
use Rattle.std.specs.Prelude.{Ok, Err, Result, ◌||◌}
use Rattle.std.specs.List.{AllByRecursion, list_all, range_with_len}
use Rattle.std.specs.Str.{bytes_eq}
use Rattle.std.proofs.lemmas.List.{length-map, map-append}
use Rattle.std.proofs.lemmas.List.Sums.{sum_by-cons}
use Rattle.std.proofs.lemmas.Slice.Eq.{bytes_eq-Decides}
use Rattle.shapes_core.specs.Limits.{most_items, most_words}
use Rattle.shapes_core.specs.Shape.{total}
use Rattle.shapes_core.specs.declared.area.Area.{Area}
use Rattle.shapes_core.specs.declared.area.AreaKind.TheVariants as area
use Rattle.moa_tree.specs.Axes.{naturals}
use Rattle.moa_tree.specs.Expr.{Input, Item, Let, Output}
use Rattle.moa_tree.specs.Pool.{item_of, trees}
use Rattle.shape_check.specs.Judged.{items_in}
use Rattle.moa_tree.specs.ShapeOf.{Shapes}
use Rattle.moa_tree.specs.Subexpressions.{subexpressions_of}
use Rattle.shape_check.specs.Blocks.{ArePacked, IsLayout, array_words, words_of}
use Rattle.shape_check.specs.Kept.{Checking, IsChecked}
use Rattle.shape_check.specs.Layout.{Array, arrays, gathered, input_of, name_of, numbered, output_of, placed, scan_shapes, shapes_after}
use Rattle.shape_check.specs.Rules.{Failure, Place, is_declared, is_natural, rule, shape_limits}
use Rattle.shape_check.specs.Statements.{verdict_from, verdict_on}
use Rattle.shape_check.specs.Verdict.{and_then, judged, verdict}
use Rattle.shape_check.proofs.JobLemmas.{all-from}
use Rattle.shape_check.proofs.NodeLemmas.{all-cut, all-join, all-map}

abbrev input_names : List Item → List (List ℕ)
input_names [] = []
input_names (Input name extents ∷ items) = name ∷ input_names items
input_names (Let name of ∷ items) = input_names items
input_names (Output name of ∷ items) = input_names items

abbrev output_names : List Item → List (List ℕ)
output_names [] = []
output_names (Input name extents ∷ items) = output_names items
output_names (Let name of ∷ items) = output_names items
output_names (Output name of ∷ items) = name ∷ output_names items

-- ---- kinds, places and words

kinds-placed : (start : ℕ) (all : List Array) → map (λ a. a.kind) (placed start all) ≡ map (λ a. a.0) all
kinds-placed start [] = refl
kinds-placed start (array ∷ all) = ap (λ l. array.0 ∷ l) (kinds-placed (start + total array.1) all)

kinds-in : (shapes : Shapes) (items : List Item) → map (λ a. a.0) (gathered input_of shapes items) ≡ map area.In (input_names items)
kinds-in shapes [] = refl
kinds-in shapes (Input name extents ∷ items) = ap (λ l. area.In name ∷ l) (kinds-in (shapes_after shapes (Input name extents)) items)
kinds-in shapes (Let name of ∷ items) = kinds-in (shapes_after shapes (Let name of)) items
kinds-in shapes (Output name of ∷ items) = kinds-in (shapes_after shapes (Output name of)) items

kinds-out : (shapes : Shapes) (items : List Item) → map (λ a. a.0) (gathered output_of shapes items) ≡ map area.Out (output_names items)
kinds-out shapes [] = refl
kinds-out shapes (Input name extents ∷ items) = kinds-out (shapes_after shapes (Input name extents)) items
kinds-out shapes (Let name of ∷ items) = kinds-out (shapes_after shapes (Let name of)) items
kinds-out shapes (Output name of ∷ items) = ap (λ l. area.Out name ∷ l) (kinds-out (shapes_after shapes (Output name of)) items)

kinds-scan : (number : ℕ) (all : List (List ℕ)) → map (λ a. a.0) (numbered number all) ≡ map area.Scan (range_with_len number (length all))
kinds-scan number [] = refl
kinds-scan number (shape ∷ all) =
    ap (λ l. area.Scan number ∷ l) (kinds-scan (suc number) all ∙ ap (λ k. map area.Scan (range_with_len k (length all))) (let e : suc number ≡ number + 1 = omega arith in e))

packed-placed : (start : ℕ) (all : List Array) → ArePacked start (placed start all)
packed-placed start [] = tt
packed-placed start (array ∷ all) = (refl, packed-placed (start + total array.1) all)

length-placed : (start : ℕ) (all : List Array) → length (placed start all) ≡ length all
length-placed start [] = refl
length-placed start (array ∷ all) = ap suc (length-placed (start + total array.1) all)

pub words-placed : (start : ℕ) (all : List Array) → words_of (placed start all) ≡ array_words all
words-placed start [] = refl
words-placed start (array ∷ all) =
    let first : Area = record { kind = array.0; shape = array.1; start = start } in
    sum_by-cons (λ a. total a.shape) first (placed (start + total array.1) all)
    ∙ ap (λ k. total array.1 + k) (words-placed (start + total array.1) all)
    ∙ sym (sum_by-cons (λ a. total a.1) array all)

-- ---- names that differ

abbrev Differ : List (List ℕ) → Type 0
Differ [] = Unit {0}
Differ (x ∷ xs) = AllByRecursion (λ y. x ≢ y) xs × Differ xs

differ-pairs : (xs : List (List ℕ)) → Differ xs → (i j : ℕ) (d : List ℕ) → i < j → j < length xs → get_or xs i d ≢ get_or xs j d
differ-pairs [] h i j d before within = absurd (omega (arith, within))
differ-pairs (x ∷ xs) h zero zero d before within = absurd (omega (arith, before))
differ-pairs (x ∷ xs) h zero (suc j) d before within = all-from (λ y. x ≢ y) xs h.0 j d (omega (arith, within))
differ-pairs (x ∷ xs) h (suc i) zero d before within = absurd (omega (arith, before))
differ-pairs (x ∷ xs) h (suc i) (suc j) d before within = differ-pairs xs h.1 i j d (omega (arith, before)) (omega (arith, within))

between : (xs ys : List (List ℕ)) (n : List ℕ) → Differ (xs ++ ys) → AllByRecursion (λ y. n ≢ y) (xs ++ ys) → Differ (xs ++ n ∷ ys)
between [] ys n h k = (k, h)
between (x ∷ xs) ys n h k =
    let parts = all-cut (λ y. x ≢ y) xs ys h.0 in
    (all-join (λ y. x ≢ y) xs (n ∷ ys) parts.0 ((λ e. k.0 (sym e)), parts.1), between xs ys n h.1 k.1)

abbrev Fresh : Shapes → List (List ℕ) → Type 0
Fresh shapes names = AllByRecursion (λ name. is_declared shapes name ≡ false) names

or-false : (a b : Bool) → (a || b) ≡ false → (a ≡ false) × (b ≡ false)
or-false true b h = absurd (true≢false h)
or-false false b h = (refl, h)

fresh-older : (name shape : List ℕ) (shapes : Shapes) (names : List (List ℕ)) → Fresh ((name, shape) ∷ shapes) names → Fresh shapes names
fresh-older name shape shapes = all-map (λ n. is_declared ((name, shape) ∷ shapes) n ≡ false) (λ n. is_declared shapes n ≡ false)
    (λ n h. (or-false (bytes_eq name n) (is_declared shapes n) h).1)

fresh-other : (name shape : List ℕ) (shapes : Shapes) (names : List (List ℕ)) → Fresh ((name, shape) ∷ shapes) names → AllByRecursion (λ y. name ≢ y) names
fresh-other name shape shapes = all-map (λ n. is_declared ((name, shape) ∷ shapes) n ≡ false) (λ n. name ≢ n)
    (λ n h e. true≢false (sym ((bytes_eq-Decides name n).1 e) ∙ (or-false (bytes_eq name n) (is_declared shapes n) h).0))

err-not-ok : {A : Type 0} (f : Failure) (a : A) (r : Result A Failure) → r ≡ Err f → r ≡ Ok a → ⊥
err-not-ok f a r e o = cc

-- an accepted statement has a new name
new-here : (shapes : Shapes) (k n : ℕ) (item : Item) (s : List ℕ) → verdict_on shapes k n item ≡ Ok s → is_declared shapes (name_of item) ≡ false
new-here shapes k n (Input name extents) s h = by (is_declared shapes name) refl
  where
    by : (b : Bool) → is_declared shapes name ≡ b → is_declared shapes name ≡ false
    by false e = e
    by true e = absurd (err-not-ok (Failure.Rule (Place.Name k) 1) s (verdict_on shapes k n (Input name extents))
        (ap (λ b. judged (rule (Place.Name k) 1 (not b) ++ rule (Place.Name k) 3 (list_all is_natural extents) ++ shape_limits (Place.Name k) (naturals extents)) (naturals extents)) e) h)
new-here shapes k n (Let name of) s h = by (is_declared shapes name) refl
  where
    by : (b : Bool) → is_declared shapes name ≡ b → is_declared shapes name ≡ false
    by false e = e
    by true e = absurd (err-not-ok (Failure.Rule (Place.Name k) 1) s (verdict_on shapes k n (Let name of))
        (ap (λ b. and_then (judged (rule (Place.Name k) 1 (not b)) name) (λ m. verdict shapes n of)) e) h)
new-here shapes k n (Output name of) s h = by (is_declared shapes name) refl
  where
    by : (b : Bool) → is_declared shapes name ≡ b → is_declared shapes name ≡ false
    by false e = e
    by true e = absurd (err-not-ok (Failure.Rule (Place.Name k) 1) s (verdict_on shapes k n (Output name of))
        (ap (λ b. and_then (judged (rule (Place.Name k) 1 (not b)) name) (λ m. verdict shapes n of)) e) h)

abbrev names_in : List Item → List (List ℕ)
names_in items = input_names items ++ output_names items

abbrev Good : Shapes → List Item → Type 0
Good shapes items = Fresh shapes (names_in items) × Differ (names_in items)

add-name : (shapes : Shapes) (item : Item) (items : List Item) (s : List ℕ) → is_declared shapes (name_of item) ≡ false → Good ((name_of item, s) ∷ shapes) items
    → Good shapes (item ∷ items)
add-name shapes (Input name extents) items s new h =
    ((new, fresh-older name s shapes (names_in items) h.0), (fresh-other name s shapes (names_in items) h.0, h.1))
add-name shapes (Let name of) items s new h = (fresh-older name s shapes (names_in items) h.0, h.1)
add-name shapes (Output name of) items s new h =
    let older = fresh-older name s shapes (names_in items) h.0 in
    let parts = all-cut (λ n. is_declared shapes n ≡ false) (input_names items) (output_names items) older in (
      all-join (λ n. is_declared shapes n ≡ false) (input_names items) (name ∷ output_names items) parts.0 (new, parts.1),
      between (input_names items) (output_names items) name h.1 (fresh-other name s shapes (names_in items) h.0),
    )

names-good : (shapes r : Shapes) (k n : ℕ) (items : List Item) → verdict_from shapes k n items ≡ Ok r → Good shapes items
names-good shapes r k n [] h = (tt, tt)
names-good shapes r k n (item ∷ items) h =
    by (verdict_on shapes k n item) refl (λ s. names-good ((name_of item, s) ∷ shapes) r (suc k) (n + length (subexpressions_of item)) items)
  where
    by : (v : Result (List ℕ) Failure) → verdict_on shapes k n item ≡ v
        → ((s : List ℕ) → verdict_from ((name_of item, s) ∷ shapes) (suc k) (n + length (subexpressions_of item)) items ≡ Ok r → Good ((name_of item, s) ∷ shapes) items)
        → Good shapes (item ∷ items)
    by (Ok s) e rest =
        add-name shapes item items s (new-here shapes k n item s e)
        (rest s (sym (ap (λ v. and_then v (λ shape. verdict_from ((name_of item, shape) ∷ shapes) (suc k) (n + length (subexpressions_of item)) items)) e) ∙ h))
    by (Err f) e rest =
        absurd (err-not-ok f r (verdict_from shapes k n (item ∷ items))
        (ap (λ v. and_then v (λ shape. verdict_from ((name_of item, shape) ∷ shapes) (suc k) (n + length (subexpressions_of item)) items)) e) h)

pub layout_kept : (items : List Item) (r : Shapes) → verdict_from [] 0 0 items ≡ Ok r → length (arrays items) ≤ most_items
    → array_words (arrays items) ≤ most_words → IsLayout (placed 0 (arrays items))
layout_kept items r accepted few small =
    let gi = gathered input_of [] items in
    let go = gathered output_of [] items in
    let gs = gathered scan_shapes [] items in
    record {
      inputs = input_names items;
      outputs = output_names items;
      scans = length gs;
      in_order =
          kinds-placed 0 (arrays items)
          ∙ map-append (λ a. a.0) (gi ++ go) (numbered 0 gs)
          ∙ ap (λ l. l ++ map (λ a. a.0) (numbered 0 gs)) (map-append (λ a. a.0) gi go)
          ∙ ap (λ l. (l ++ map (λ a. a.0) go) ++ map (λ a. a.0) (numbered 0 gs)) (kinds-in [] items)
          ∙ ap (λ l. (map area.In (input_names items) ++ l) ++ map (λ a. a.0) (numbered 0 gs)) (kinds-out [] items)
          ∙ ap (λ l. (map area.In (input_names items) ++ map area.Out (output_names items)) ++ l) (kinds-scan 0 gs);
      differ = λ i j d before within. differ-pairs (names_in items) (names-good [] r 0 0 items accepted).1 i j d before within;
      packed = packed-placed 0 (arrays items);
      few = let e = length-placed 0 (arrays items) in omega (arith, e, few);
      small = let e = words-placed 0 (arrays items) in omega (arith, e, small);
    }

-- ---- the shapes of statements

each-one : (shapes : Shapes) (items : List Item) → length (gathered (λ names item. Rattle.shape_check.specs.Layout.shape_of_item names item ∷ []) shapes items) ≡ length items
each-one shapes [] = refl
each-one shapes (item ∷ items) = ap suc (each-one (shapes_after shapes item) items)

-- each statement has one
pub statement_there : (c : Checking) → IsChecked c → (statement : ℕ) → statement < length c.pools.statements → statement < length c.statement_shapes
statement_there c checked statement h =
    let a = ap length checked.shapes_of_statements ∙ each-one [] (items_in c.pools) in
    let b = length-map c.pools.statements (item_of c.pools.numbers (trees c.pools.numbers c.pools.nodes)) in
    omega (arith, a, b, h)
