-- What the verdict on statements amounts to: each is accepted among the names before it, and has a new name.
use Rattle.std.specs.Prelude.{◌≡◌, ℕ, zero, suc, ◌+◌, ◌<◌, ◌≤◌, true, false, not, List, [], ◌∷◌, ◌++◌, length, map, reverse, slice_index_or, Ok}
use Rattle.std.specs.List.{AllByRecursion, AllPairs, fold, list_all}
use Rattle.std.specs.Str.{bytes_eq}
use Rattle.std.proofs.Common.{refl, ap, sym, subst, ◌∙◌, arith, append_assoc}
use Rattle.std.proofs.lemmas.Bool.{not-true, or_parts}
use Rattle.std.proofs.lemmas.Bool.Decides.{not_from_Decides}
use Rattle.std.proofs.lemmas.Grind.{reverse_onto}
use Rattle.std.proofs.lemmas.Slice.Eq.{bytes_eq-Decides}
use Rattle.shapes_core.specs.Limits.{greatest_size, greatest_work, most_words}
use Rattle.shapes_core.specs.Shape.{IsShape}
use Rattle.moa_tree.specs.Axes.{naturals}
use Rattle.moa_tree.specs.Expr.{Expr, Item, Input, Let, Output}
use Rattle.moa_tree.specs.ShapeOf.{Shapes, shape_of}
use Rattle.moa_tree.specs.Subexpressions.{subexpressions_of}
use Rattle.shape_check.specs.Costs.{size, work}
use Rattle.shape_check.specs.Layout.{gathered, name_of, shape_of_item, shapes_after, statement_shapes, words}
use Rattle.shape_check.specs.Rules.{Place, is_declared, is_natural, rule, shape_limits}
use Rattle.shape_check.specs.Statements.{new_name, program_limits, verdict_from, verdict_of, verdict_on}
use Rattle.shape_check.specs.Verdict.{and_then, judged, verdict}
use Rattle.shape_check.proofs.SoundLemmas.{IsWell, judged-none, limited, limits-shape, neither, rule-holds, verdict-sound, well-shape}
use Rattle.shape_check.proofs.VerdictLemmas.{and_then-ok, judged-ok, verdict-shape}

-- ---- one statement

abbrev pub IsWellItem : Shapes → Item → Type 0
IsWellItem shapes (Input name extents) = (list_all is_natural extents ≡ true) × IsShape (naturals extents)
IsWellItem shapes (Let name of) = IsWell shapes of
IsWellItem shapes (Output name of) = IsWell shapes of

item-shape : (shapes : Shapes) (item : Item) → IsWellItem shapes item → IsShape (shape_of_item shapes item)
item-shape shapes (Input name extents) h = h.1
item-shape shapes (Let name of) h = well-shape shapes of h
item-shape shapes (Output name of) h = well-shape shapes of h

-- a statement that is accepted has a new name, and its shape
abbrev IsAccepted : Shapes → Item → List ℕ → Type 0
IsAccepted shapes item shape = (is_declared shapes (name_of item) ≡ false) × IsWellItem shapes item × (shape ≡ shape_of_item shapes item)

new-name : (shapes : Shapes) (statement : ℕ) (name : List ℕ) → new_name shapes statement name ≡ [] → is_declared shapes name ≡ false
new-name shapes statement name h = not-true (is_declared shapes name) (rule-holds (Place.Name statement) 1 (not (is_declared shapes name)) h)

named-sound : (shapes : Shapes) (statement node : ℕ) (name : List ℕ) (of : Expr) (s : List ℕ)
    → and_then (judged (new_name shapes statement name) name) (λ n. verdict shapes node of) ≡ Ok s
    → (is_declared shapes name ≡ false) × IsWell shapes of × (s ≡ shape_of shapes of)
named-sound shapes statement node name of s h =
    let parts = and_then-ok (judged (new_name shapes statement name) name) (λ n. verdict shapes node of) s h in (
      new-name shapes statement name (judged-none (new_name shapes statement name) name parts.made parts.first),
      verdict-sound shapes node of s parts.second,
      verdict-shape shapes node of s parts.second,
    )

item-sound : (shapes : Shapes) (statement node : ℕ) (item : Item) (s : List ℕ) → verdict_on shapes statement node item ≡ Ok s → IsAccepted shapes item s
item-sound shapes statement node (Input name extents) s h =
    let place = Place.Name statement in
    let front = new_name shapes statement name ++ rule place 3 (list_all is_natural extents) in
    let broken = front ++ shape_limits place (naturals extents) in
    let parts = neither front (shape_limits place (naturals extents)) (judged-none broken (naturals extents) s h) in
    let rules = neither (new_name shapes statement name) (rule place 3 (list_all is_natural extents)) parts.0 in (
      new-name shapes statement name rules.0,
      (rule-holds place 3 (list_all is_natural extents) rules.1, limits-shape place (naturals extents) parts.1),
      judged-ok broken (naturals extents) s h,
    )
item-sound shapes statement node (Let name of) s h = named-sound shapes statement node name of s h
item-sound shapes statement node (Output name of) s h = named-sound shapes statement node name of s h

-- ---- all statements

abbrev pub AreWell : Shapes → List Item → Type 0
AreWell shapes [] = Unit {0}
AreWell shapes (item ∷ items) = (is_declared shapes (name_of item) ≡ false) × IsWellItem shapes item × AreWell (shapes_after shapes item) items

from-sound : (shapes : Shapes) (statement node : ℕ) (items : List Item) (all : Shapes) → verdict_from shapes statement node items ≡ Ok all
    → AreWell shapes items × (all ≡ fold shapes_after shapes items)
from-sound shapes statement node [] all h = (tt, judged-ok [] shapes all h)
from-sound shapes statement node (item ∷ items) all h =
    let next = node + length (subexpressions_of item) in
    let parts = and_then-ok (verdict_on shapes statement node item) (λ shape. verdict_from ((name_of item, shape) ∷ shapes) (suc statement) next items) all h in
    let first = item-sound shapes statement node item parts.made parts.first in
    let second : verdict_from (shapes_after shapes item) (suc statement) next items ≡ Ok all =
    subst (λ s. verdict_from ((name_of item, s) ∷ shapes) (suc statement) next items ≡ Ok all) first.2 parts.second in
    let later = from-sound (shapes_after shapes item) (suc statement) next items all second in
    ((first.0, first.1, later.0), later.1)

pub record IsSound (items : List Item) (all : Shapes) : Type 0 where
  pub well : AreWell [] items
  pub names : all ≡ fold shapes_after [] items
  pub limits : program_limits items ≡ []

pub program-sound : (items : List Item) (all : Shapes) → verdict_of items ≡ Ok all → IsSound items all
program-sound items all h =
    let parts = and_then-ok (verdict_from [] 0 0 items) (λ shapes. judged (program_limits items) shapes) all h in
    let first = from-sound [] 0 0 items parts.made parts.first in
    record {
      well = first.0;
      names = judged-ok (program_limits items) parts.made all parts.second ∙ first.1;
      limits = judged-none (program_limits items) parts.made all parts.second;
    }

-- ---- names and shapes, the last first

reverse-more : {A : Type 0} (x : A) (xs ys : List A) → reverse (x ∷ xs) ++ ys ≡ reverse xs ++ (x ∷ ys)
reverse-more x xs ys = ap (λ l. l ++ ys) (reverse_onto xs x []) ∙ append_assoc (reverse xs) (x ∷ []) ys

names-after : (shapes : Shapes) (items : List Item)
    → map (λ entry. entry.0) (fold shapes_after shapes items) ≡ reverse (map name_of items) ++ map (λ entry. entry.0) shapes
names-after shapes [] = refl
names-after shapes (item ∷ items) =
    names-after (shapes_after shapes item) items ∙ sym (reverse-more (name_of item) (map name_of items) (map (λ entry. entry.0) shapes))

pub shapes-so-far : (shapes : Shapes) (items : List Item)
    → map (λ entry. entry.1) (fold shapes_after shapes items) ≡ reverse (gathered (λ known item. shape_of_item known item ∷ []) shapes items) ++ map (λ entry. entry.1) shapes
shapes-so-far shapes [] = refl
shapes-so-far shapes (item ∷ items) =
    shapes-so-far (shapes_after shapes item) items
    ∙ sym (reverse-more (shape_of_item shapes item) (gathered (λ known item. shape_of_item known item ∷ []) (shapes_after shapes item) items) (map (λ entry. entry.1) shapes))

append-none : {A : Type 0} (xs : List A) → xs ++ [] ≡ xs
append-none [] = refl
append-none (x ∷ xs) = ap (λ l. x ∷ l) (append-none xs)

pub names-in-order : (items : List Item) → map (λ entry. entry.0) (fold shapes_after [] items) ≡ reverse (map name_of items)
names-in-order items = names-after [] items ∙ append-none (reverse (map name_of items))

pub shapes-in-order : (items : List Item) → map (λ entry. entry.1) (fold shapes_after [] items) ≡ reverse (statement_shapes items)
shapes-in-order items = shapes-so-far [] items ∙ append-none (reverse (statement_shapes items))

-- ---- each shape is within the limits

pub shapes-within : (shapes : Shapes) (items : List Item) → AreWell shapes items → AllByRecursion (λ entry. IsShape entry.1) shapes
    → AllByRecursion (λ entry. IsShape entry.1) (fold shapes_after shapes items)
shapes-within shapes [] h k = k
shapes-within shapes (item ∷ items) h k = shapes-within (shapes_after shapes item) items h.2 (item-shape shapes item h.1, k)

-- ---- names differ

later-new : (shapes : Shapes) (items : List Item) (j : ℕ) (d : List ℕ) → AreWell shapes items → j < length (map name_of items)
    → is_declared shapes (slice_index_or (map name_of items) j d) ≡ false
later-new shapes [] j d h below = absurd (omega (arith, below))
later-new shapes (item ∷ items) zero d h below = h.0
later-new shapes (item ∷ items) (suc j) d h below =
    let name = slice_index_or (map name_of items) j d in
    (or_parts (bytes_eq (name_of item) name) (is_declared shapes name) (later-new (shapes_after shapes item) items j d h.2 (omega (arith, below)))).1

first-new : (shapes : Shapes) (item : Item) (items : List Item) (j : ℕ) (d : List ℕ) → AreWell (shapes_after shapes item) items → j < length (map name_of items)
    → name_of item ≡ slice_index_or (map name_of items) j d → ⊥
first-new shapes item items j d h below =
    let name = slice_index_or (map name_of items) j d in
    not_from_Decides (bytes_eq (name_of item) name) (bytes_eq-Decides (name_of item) name)
    (or_parts (bytes_eq (name_of item) name) (is_declared shapes name) (later-new (shapes_after shapes item) items j d h below)).0

pub names-differ : (shapes : Shapes) (items : List Item) → AreWell shapes items → AllPairs (λ name other. name ≡ other → ⊥) (map name_of items)
names-differ shapes [] h i j d less below = absurd (omega (arith, below))
names-differ shapes (item ∷ items) h i zero d less below = absurd (omega (arith, less))
names-differ shapes (item ∷ items) h zero (suc j) d less below = first-new shapes item items j d h.2 (omega (arith, below))
names-differ shapes (item ∷ items) h (suc i) (suc j) d less below =
    names-differ (shapes_after shapes item) items h.2 i j d (omega (arith, less)) (omega (arith, below))

-- ---- a statement among those before it

pub item-among : (shapes : Shapes) (before after : List Item) (item : Item) → AreWell shapes (before ++ item ∷ after) → IsWellItem (fold shapes_after shapes before) item
item-among shapes [] after item h = h.1
item-among shapes (first ∷ before) after item h = item-among (shapes_after shapes first) before after item h.2

-- ---- the limits of a program

pub limits-kept : (items : List Item) → program_limits items ≡ [] → (size items ≤ greatest_size) × (work items ≤ greatest_work) × (words items ≤ most_words)
limits-kept items h =
    let parts = neither _ _ h in
    let front = neither _ _ parts.0 in
    (limited greatest_size (size items) _ front.0, limited greatest_work (work items) _ front.1, limited most_words (words items) _ parts.1)
