-- The operators and the numbers in the forms of plain programs are those of their sources.
use Rattle.std.specs.Prelude.{◌≡◌, ℕ, Bool, true, false, ◌&&◌, ℤ, pos, List, [], ◌∷◌, ◌++◌, drop, length, map, reverse, take, if◌then◌else◌}
use Rattle.std.specs.List.{AllByRecursion, flat_map}
use Rattle.std.specs.Str.{bytes_eq}
use Rattle.std.proofs.Common.{refl}
use Rattle.std.proofs.lemmas.Bool.{false≢true}
use Rattle.moa_tree.specs.declared.operator.Op.{Op}
use Rattle.moa_tree.specs.Axes.{each_place, naturals, on_axis, own_index, restored}
use Rattle.moa_tree.specs.Denotation.{Store as Lists}
use Rattle.moa_tree.specs.Expr.{Expr, Number, Use, Iota, One, Two, Psi, Take, Drop, Reverse, Rotate, Transpose, Permute, Cat, Reshape, Ravel, Outer, Inner, Reduce, Scan, Item, Input, Let, Output}
use Rattle.moa_tree.specs.ShapeOf.{beside}
use Rattle.moa_tree.specs.Subexpressions.{subexpressions, subexpressions_of}
use Rattle.normal_form.specs.declared.entry.Entry.{Entry}
use Rattle.normal_form.specs.declared.entry.Entry.TheVariants.{At}
use Rattle.normal_form.specs.Formers.{Former}
use Rattle.normal_form.specs.Forms.{Normal}
use Rattle.normal_form.specs.Moves.{mirrored_entry, remaining_entry, taken_entry, variables}
use Rattle.psi_rules.specs.Rules.{Named, Names, form, nameless, scan_behind, shape_in}
use Rattle.stride_form.specs.Operational.{operational}
use Rattle.nest_jobs.specs.Outputs.{Scene, dues, form_of, opening, scene_after}
use Rattle.nest_jobs.specs.Plain.{ArePlain, EachPlain, is_plain}
use Rattle.nest_jobs.specs.Sources.{EachPasses, form_passes, passes}
use Rattle.nest_jobs.proofs.ListLemmas.{each-cut}
use Rattle.nest_jobs.proofs.OutputLemmas.{FormHas, each-due, job-has, plain-cut}

all-true : (test left right : Bool) → test ≡ true → left ≡ true → right ≡ true → (test && (left && right)) ≡ true
all-true test left right e h k = rw (e, h, k) refl

module _ (op_test : Op → Bool) (number_test : ℤ → Bool) (zero_passes : number_test (pos 0) ≡ true) where
  abbrev pub Passes : Normal → Type 0
  Passes made = form_passes op_test number_test (operational made) ≡ true

  -- at all entries, from each variable on
  abbrev PassesFormer : Former → Type 0
  PassesFormer former = (entries : List Entry) (next : ℕ) → Passes (former entries next).0

  -- each of these expressions passes
  abbrev AllPass : List Expr → Type 0
  AllPass exprs = AllByRecursion (λ expr. passes op_test number_test expr ≡ true) exprs

  pass-cut : (one other : List Expr) → AllPass (one ++ other) → AllPass one × AllPass other
  pass-cut one other h = each-cut (λ expr. passes op_test number_test expr ≡ true) one other h

  -- ---- names

  abbrev NamesPass : Names → Type 0
  NamesPass names = AllByRecursion (λ named. PassesFormer named.1.form) names

  one-passes : (test : Bool) (named other : Named) → PassesFormer named.form → PassesFormer other.form
      → PassesFormer (if test then named else other).form
  one-passes true named other h k = h
  one-passes false named other h k = k

  name-passes : (names : Names) (name : List ℕ) → NamesPass names → PassesFormer (beside nameless names name).form
  name-passes [] name h = λ entries next. zero_passes
  name-passes (named ∷ names) name h =
      one-passes (bytes_eq named.0 name) named.1 (beside nameless names name) h.0 (name-passes names name h.1)

  -- ---- expressions

  module _ (names : Names) (agree : NamesPass names) where
    both-plain : (left right : Expr) → EachPlain (subexpressions left ++ subexpressions right)
        → EachPlain (subexpressions left) × EachPlain (subexpressions right)
    both-plain left right h = each-cut (λ expr. is_plain expr ≡ true) (subexpressions left) (subexpressions right) h

    form-passes : (scan : ℕ) (expr : Expr) → EachPlain (subexpressions expr) → AllPass (subexpressions expr)
        → PassesFormer (form names scan expr)
    form-passes scan (Number value) h p = λ entries next. p.0
    form-passes scan (Use name) h p = name-passes names name agree
    form-passes scan (Iota extent) h p = λ entries next. refl
    form-passes scan (One op of) h p = form-passes scan of h.1 p.1
    form-passes scan (Two op left right) h p = λ entries next.
        let parts = both-plain left right h.1 in
        let pass = pass-cut (subexpressions left) (subexpressions right) p.1 in
        let first = own_index (shape_in names left) entries in
        let second = own_index (shape_in names right) entries in
        let behind = (form names scan left first next).1 in
        all-true (op_test op) (form_passes op_test number_test (operational (form names scan left first next).0))
        (form_passes op_test number_test (operational (form names (scan_behind scan left) right second behind).0)) p.0
        (form-passes scan left parts.0 pass.0 first next) (form-passes (scan_behind scan left) right parts.1 pass.1 second behind)
    form-passes scan (Psi list of) h p = λ entries. form-passes scan of h.1 p.1 (map At list ++ entries)
    form-passes scan (Take list of) h p = λ entries.
        form-passes scan of h.1 p.1 (each_place taken_entry list (shape_in names of) entries)
    form-passes scan (Drop list of) h p = λ entries.
        form-passes scan of h.1 p.1 (each_place remaining_entry list (shape_in names of) entries)
    form-passes scan (Reverse of) h p = λ entries. form-passes scan of h.1 p.1 (on_axis 0 mirrored_entry (shape_in names of) entries)
    form-passes scan (Rotate by of) h p = absurd (false≢true h.0)
    form-passes scan (Transpose of) h p = λ entries. form-passes scan of h.1 p.1 (reverse entries)
    form-passes scan (Permute list of) h p = λ entries. form-passes scan of h.1 p.1 (restored (At (pos 0)) (naturals list) entries)
    form-passes scan (Cat left right) h p = absurd (false≢true h.0)
    form-passes scan (Reshape list of) h p = absurd (false≢true h.0)
    form-passes scan (Ravel of) h p = absurd (false≢true h.0)
    form-passes scan (Outer op left right) h p = λ entries next.
        let parts = both-plain left right h.1 in
        let pass = pass-cut (subexpressions left) (subexpressions right) p.1 in
        let axes = length (shape_in names left) in
        let behind = (form names scan left (take axes entries) next).1 in
        all-true (op_test op) (form_passes op_test number_test (operational (form names scan left (take axes entries) next).0))
        (form_passes op_test number_test (operational (form names (scan_behind scan left) right (drop axes entries) behind).0)) p.0
        (form-passes scan left parts.0 pass.0 (take axes entries) next)
        (form-passes (scan_behind scan left) right parts.1 pass.1 (drop axes entries) behind)
    form-passes scan (Inner fold op left right) h p = absurd (false≢true h.0)
    form-passes scan (Reduce fold of) h p = absurd (false≢true h.0)
    form-passes scan (Scan fold of) h p = absurd (false≢true h.0)

  -- ---- programs

  abbrev IsPassing : Scene → List Item → Type 0
  IsPassing scene items = (ArePlain items × EachPasses op_test number_test items) × NamesPass scene.names

  item-cut : (item : Item) (items : List Item) → EachPasses op_test number_test (item ∷ items)
      → AllPass (subexpressions_of item) × EachPasses op_test number_test items
  item-cut item items h = pass-cut (subexpressions_of item) (flat_map subexpressions_of items) h

  passes-after : (inputs : Lists) (scene : Scene) (item : Item) (items : List Item) → IsPassing scene (item ∷ items)
      → IsPassing (scene_after inputs scene item) items
  passes-after inputs scene (Input name extents) items h =
      (((plain-cut (Input name extents) items h.0.0).1, (item-cut (Input name extents) items h.0.1).1), ((λ entries next. refl), h.1))
  passes-after inputs scene (Let name of) items h =
      let parts = plain-cut (Let name of) items h.0.0 in
      let pass = item-cut (Let name of) items h.0.1 in
      ((parts.1, pass.1), (form-passes scene.names h.1 scene.next.scan of parts.0 pass.0, h.1))
  passes-after inputs scene (Output name of) items h =
      (((plain-cut (Output name of) items h.0.0).1, (item-cut (Output name of) items h.0.1).1), ((λ entries next. refl), h.1))

  pub dues-pass : (inputs : Lists) (items : List Item) → ArePlain items → EachPasses op_test number_test items
      → AllByRecursion (λ due. FormHas Passes (form_of due)) (dues inputs items)
  dues-pass inputs items plain each =
      each-due inputs IsPassing (λ due. FormHas Passes (form_of due)) (passes-after inputs)
      (λ scene name of behind h.
      let shape = shape_in scene.names of in
      job-has Passes shape (form scene.names scene.next.scan of)
      (form-passes scene.names h.1 scene.next.scan of (plain-cut (Output name of) behind h.0.0).0 (item-cut (Output name of) behind h.0.1).0
      (variables (length shape)) (length shape)))
      items (opening items) ((plain, each), tt)
