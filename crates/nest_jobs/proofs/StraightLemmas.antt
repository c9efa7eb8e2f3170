-- The forms of plain expressions are straight.
use Rattle.std.specs.Prelude.{◌≡◌, ℕ, Bool, true, false, ◌&&◌, pos, List, [], ◌∷◌, ◌++◌, drop, length, map, reverse, take, if◌then◌else◌}
use Rattle.std.specs.List.{AllByRecursion}
use Rattle.std.specs.Str.{bytes_eq}
use Rattle.std.proofs.Common.{refl}
use Rattle.std.proofs.lemmas.Bool.{false≢true}
use Rattle.moa_tree.specs.Axes.{each_place, naturals, on_axis, own_index, restored}
use Rattle.moa_tree.specs.Denotation.{Store as Lists}
use Rattle.moa_tree.specs.Expr.{Expr, Number, Use, Iota, One, Two, Psi, Take, Drop, Reverse, Rotate, Transpose, Permute, Cat, Reshape, Ravel, Outer, Inner, Reduce, Scan, Item, Input, Let, Output}
use Rattle.moa_tree.specs.ShapeOf.{beside}
use Rattle.moa_tree.specs.Subexpressions.{subexpressions}
use Rattle.normal_form.specs.declared.entry.Entry.{Entry}
use Rattle.normal_form.specs.declared.entry.Entry.TheVariants.{At}
use Rattle.normal_form.specs.Formers.{Former}
use Rattle.normal_form.specs.Forms.{Normal}
use Rattle.normal_form.specs.Moves.{mirrored_entry, remaining_entry, taken_entry, variables}
use Rattle.psi_rules.specs.Rules.{Named, Names, form, nameless, scan_behind, shape_in}
use Rattle.stride_form.specs.Operational.{operational}
use Rattle.nest_build.specs.Parts.{is_straight}
use Rattle.nest_jobs.specs.Outputs.{Scene, dues, form_of, opening, scene_after}
use Rattle.nest_jobs.specs.Plain.{ArePlain, EachPlain, is_plain}
use Rattle.nest_jobs.proofs.ListLemmas.{each-cut}
use Rattle.nest_jobs.proofs.OutputLemmas.{FormHas, each-due, job-has, plain-cut}

abbrev pub IsStraight : Normal → Type 0
IsStraight made = is_straight (operational made) ≡ true

-- at all entries, from each variable on
abbrev IsStraightFormer : Former → Type 0
IsStraightFormer former = (entries : List Entry) (next : ℕ) → IsStraight (former entries next).0

both-true : (left right : Bool) → left ≡ true → right ≡ true → (left && right) ≡ true
both-true left right h k = rw (h, k) refl

-- ---- names

abbrev AreStraight : Names → Type 0
AreStraight names = AllByRecursion (λ named. IsStraightFormer named.1.form) names

one-straight : (test : Bool) (named other : Named) → IsStraightFormer named.form → IsStraightFormer other.form
    → IsStraightFormer (if test then named else other).form
one-straight true named other h k = h
one-straight false named other h k = k

name-straight : (names : Names) (name : List ℕ) → AreStraight names → IsStraightFormer (beside nameless names name).form
name-straight [] name h = λ entries next. refl
name-straight (named ∷ names) name h =
    one-straight (bytes_eq named.0 name) named.1 (beside nameless names name) h.0 (name-straight names name h.1)

-- ---- expressions

module _ (names : Names) (agree : AreStraight names) where
  both-plain : (left right : Expr) → EachPlain (subexpressions left ++ subexpressions right)
      → EachPlain (subexpressions left) × EachPlain (subexpressions right)
  both-plain left right h = each-cut (λ expr. is_plain expr ≡ true) (subexpressions left) (subexpressions right) h

  form-straight : (scan : ℕ) (expr : Expr) → EachPlain (subexpressions expr) → IsStraightFormer (form names scan expr)
  form-straight scan (Number value) h = λ entries next. refl
  form-straight scan (Use name) h = name-straight names name agree
  form-straight scan (Iota extent) h = λ entries next. refl
  form-straight scan (One op of) h = form-straight scan of h.1
  form-straight scan (Two op left right) h = λ entries next.
      let parts = both-plain left right h.1 in
      let first = own_index (shape_in names left) entries in
      let second = own_index (shape_in names right) entries in
      let behind = (form names scan left first next).1 in
      both-true (is_straight (operational (form names scan left first next).0))
      (is_straight (operational (form names (scan_behind scan left) right second behind).0))
      (form-straight scan left parts.0 first next) (form-straight (scan_behind scan left) right parts.1 second behind)
  form-straight scan (Psi list of) h = λ entries. form-straight scan of h.1 (map At list ++ entries)
  form-straight scan (Take list of) h = λ entries. form-straight scan of h.1 (each_place taken_entry list (shape_in names of) entries)
  form-straight scan (Drop list of) h = λ entries. form-straight scan of h.1 (each_place remaining_entry list (shape_in names of) entries)
  form-straight scan (Reverse of) h = λ entries. form-straight scan of h.1 (on_axis 0 mirrored_entry (shape_in names of) entries)
  form-straight scan (Rotate by of) h = absurd (false≢true h.0)
  form-straight scan (Transpose of) h = λ entries. form-straight scan of h.1 (reverse entries)
  form-straight scan (Permute list of) h = λ entries. form-straight scan of h.1 (restored (At (pos 0)) (naturals list) entries)
  form-straight scan (Cat left right) h = absurd (false≢true h.0)
  form-straight scan (Reshape list of) h = absurd (false≢true h.0)
  form-straight scan (Ravel of) h = absurd (false≢true h.0)
  form-straight scan (Outer op left right) h = λ entries next.
      let parts = both-plain left right h.1 in
      let axes = length (shape_in names left) in
      let behind = (form names scan left (take axes entries) next).1 in
      both-true (is_straight (operational (form names scan left (take axes entries) next).0))
      (is_straight (operational (form names (scan_behind scan left) right (drop axes entries) behind).0))
      (form-straight scan left parts.0 (take axes entries) next)
      (form-straight (scan_behind scan left) right parts.1 (drop axes entries) behind)
  form-straight scan (Inner fold op left right) h = absurd (false≢true h.0)
  form-straight scan (Reduce fold of) h = absurd (false≢true h.0)
  form-straight scan (Scan fold of) h = absurd (false≢true h.0)

-- ---- programs

abbrev IsStraightScene : Scene → List Item → Type 0
IsStraightScene scene items = ArePlain items × AreStraight scene.names

straight-after : (inputs : Lists) (scene : Scene) (item : Item) (items : List Item) → IsStraightScene scene (item ∷ items)
    → IsStraightScene (scene_after inputs scene item) items
straight-after inputs scene (Input name extents) items h =
    ((plain-cut (Input name extents) items h.0).1, ((λ entries next. refl), h.1))
straight-after inputs scene (Let name of) items h =
    let parts = plain-cut (Let name of) items h.0 in (parts.1, (form-straight scene.names h.1 scene.next.scan of parts.0, h.1))
straight-after inputs scene (Output name of) items h =
    ((plain-cut (Output name of) items h.0).1, ((λ entries next. refl), h.1))

pub dues-straight : (inputs : Lists) (items : List Item) → ArePlain items
    → AllByRecursion (λ due. FormHas IsStraight (form_of due)) (dues inputs items)
dues-straight inputs items plain =
    each-due inputs IsStraightScene (λ due. FormHas IsStraight (form_of due)) (straight-after inputs)
    (λ scene name of behind h.
    let shape = shape_in scene.names of in
    job-has IsStraight shape (form scene.names scene.next.scan of)
    (form-straight scene.names h.1 scene.next.scan of (plain-cut (Output name of) behind h.0).0 (variables (length shape)) (length shape)))
    items (opening items) (plain, tt)
