-- The forms of plain expressions load what was stored before them.
use Rattle.std.specs.Prelude.{◌≡◌, ℕ, ◌+◌, ◌<◌, ◌≤◌, Bool, true, false, pos, List, [], ◌∷◌, ◌++◌, drop, length, map, reverse, take, if◌then◌else◌}
use Rattle.std.specs.List.{AllByRecursion, sum_by}
use Rattle.std.specs.Str.{bytes_eq}
use Rattle.std.proofs.Common.{arith}
use Rattle.std.proofs.lemmas.Bool.{false≢true}
use Rattle.std.proofs.lemmas.List.Sums.{sum_by-cons}
use Rattle.moa_tree.specs.Axes.{each_place, naturals, on_axis, own_index, restored}
use Rattle.moa_tree.specs.Denotation.{Store as Lists}
use Rattle.moa_tree.specs.Expr.{Expr, Number, Use, Iota, One, Two, Psi, Take, Drop, Reverse, Rotate, Transpose, Permute, Cat, Reshape, Ravel, Outer, Inner, Reduce, Scan, Item, Input, Let, Output}
use Rattle.moa_tree.specs.ShapeOf.{beside}
use Rattle.moa_tree.specs.Subexpressions.{subexpressions}
use Rattle.shape_check.specs.Jobs.{input_count}
use Rattle.normal_form.specs.declared.entry.Entry.{Entry}
use Rattle.normal_form.specs.declared.entry.Entry.TheVariants.{At}
use Rattle.normal_form.specs.Formers.{Former}
use Rattle.normal_form.specs.Forms.{Normal}
use Rattle.normal_form.specs.Moves.{mirrored_entry, remaining_entry, taken_entry, variables}
use Rattle.psi_rules.specs.Rules.{Named, Names, form, nameless, scan_behind, shape_in}
use Rattle.stride_form.specs.Operational.{operational}
use Rattle.nest_build.specs.Parts.{accesses}
use Rattle.nest_jobs.specs.Outputs.{Scene, dues, form_of, opening, scene_after}
use Rattle.nest_jobs.specs.Plain.{ArePlain, EachPlain, is_plain}
use Rattle.nest_jobs.proofs.ListLemmas.{each-append, each-cut, each-follows}
use Rattle.nest_jobs.proofs.OutputLemmas.{FormHas, each-due, job-has, plain-cut}

-- each load is from an area before this one
abbrev pub LoadsBefore : ℕ → Normal → Type 0
LoadsBefore own made = AllByRecursion (λ access. access.area < own) (accesses (operational made))

abbrev FormsBefore : ℕ → Former → Type 0
FormsBefore own former = (entries : List Entry) (next : ℕ) → LoadsBefore own (former entries next).0

-- ---- names

abbrev AreBefore : ℕ → Names → Type 0
AreBefore own names = AllByRecursion (λ named. FormsBefore own named.1.form) names

one-before : (own : ℕ) (test : Bool) (named other : Named) → FormsBefore own named.form → FormsBefore own other.form
    → FormsBefore own (if test then named else other).form
one-before own true named other h k = h
one-before own false named other h k = k

name-before : (own : ℕ) (names : Names) (name : List ℕ) → AreBefore own names → FormsBefore own (beside nameless names name).form
name-before own [] name h = λ entries next. tt
name-before own (named ∷ names) name h =
    one-before own (bytes_eq named.0 name) named.1 (beside nameless names name) h.0 (name-before own names name h.1)

names-later : (own later : ℕ) → own ≤ later → (names : Names) → AreBefore own names → AreBefore later names
names-later own later more names h =
    each-follows (λ named. FormsBefore own named.1.form) (λ named. FormsBefore later named.1.form)
    (λ named before entries next.
    each-follows (λ access. access.area < own) (λ access. access.area < later) (λ access below. omega (arith, below, more))
    (accesses (operational (named.1.form entries next).0)) (before entries next))
    names h

-- ---- expressions

module _ (own : ℕ) (names : Names) (agree : AreBefore own names) where
  both-plain : (left right : Expr) → EachPlain (subexpressions left ++ subexpressions right)
      → EachPlain (subexpressions left) × EachPlain (subexpressions right)
  both-plain left right h = each-cut (λ expr. is_plain expr ≡ true) (subexpressions left) (subexpressions right) h

  both-before : (left right : Normal) → LoadsBefore own left → LoadsBefore own right
      → AllByRecursion (λ access. access.area < own) (accesses (operational left) ++ accesses (operational right))
  both-before left right h k = each-append (λ access. access.area < own) (accesses (operational left)) (accesses (operational right)) h k

  form-before : (scan : ℕ) (expr : Expr) → EachPlain (subexpressions expr) → FormsBefore own (form names scan expr)
  form-before scan (Number value) h = λ entries next. tt
  form-before scan (Use name) h = name-before own names name agree
  form-before scan (Iota extent) h = λ entries next. tt
  form-before scan (One op of) h = form-before scan of h.1
  form-before scan (Two op left right) h = λ entries next.
      let parts = both-plain left right h.1 in
      let first = own_index (shape_in names left) entries in
      let second = own_index (shape_in names right) entries in
      let behind = (form names scan left first next).1 in
      both-before (form names scan left first next).0 (form names (scan_behind scan left) right second behind).0
      (form-before scan left parts.0 first next) (form-before (scan_behind scan left) right parts.1 second behind)
  form-before scan (Psi list of) h = λ entries. form-before scan of h.1 (map At list ++ entries)
  form-before scan (Take list of) h = λ entries. form-before scan of h.1 (each_place taken_entry list (shape_in names of) entries)
  form-before scan (Drop list of) h = λ entries. form-before scan of h.1 (each_place remaining_entry list (shape_in names of) entries)
  form-before scan (Reverse of) h = λ entries. form-before scan of h.1 (on_axis 0 mirrored_entry (shape_in names of) entries)
  form-before scan (Rotate by of) h = absurd (false≢true h.0)
  form-before scan (Transpose of) h = λ entries. form-before scan of h.1 (reverse entries)
  form-before scan (Permute list of) h = λ entries. form-before scan of h.1 (restored (At (pos 0)) (naturals list) entries)
  form-before scan (Cat left right) h = absurd (false≢true h.0)
  form-before scan (Reshape list of) h = absurd (false≢true h.0)
  form-before scan (Ravel of) h = absurd (false≢true h.0)
  form-before scan (Outer op left right) h = λ entries next.
      let parts = both-plain left right h.1 in
      let axes = length (shape_in names left) in
      let behind = (form names scan left (take axes entries) next).1 in
      both-before (form names scan left (take axes entries) next).0 (form names (scan_behind scan left) right (drop axes entries) behind).0
      (form-before scan left parts.0 (take axes entries) next)
      (form-before (scan_behind scan left) right parts.1 (drop axes entries) behind)
  form-before scan (Inner fold op left right) h = absurd (false≢true h.0)
  form-before scan (Reduce fold of) h = absurd (false≢true h.0)
  form-before scan (Scan fold of) h = absurd (false≢true h.0)

-- ---- programs

-- the inputs that are still to come have areas before those of the outputs
pub record IsSceneBefore (scene : Scene) (items : List Item) : Type 0 where
  pub plain : ArePlain items
  pub names : AreBefore scene.next.output scene.names
  pub inputs : scene.next.input + sum_by input_count items ≤ scene.next.output

before-after : (inputs : Lists) (scene : Scene) (item : Item) (items : List Item) → IsSceneBefore scene (item ∷ items)
    → IsSceneBefore (scene_after inputs scene item) items
before-after inputs scene (Input name extents) items h =
    let own = scene.next.output in
    let sum = sum_by-cons input_count (Input name extents) items in
    let here : scene.next.input < own + 0 = omega (arith, h.inputs, sum) in
    record {
      plain = (plain-cut (Input name extents) items h.plain).1;
      names = ((λ entries next. (here, tt)), names-later own (own + 0) (omega arith) scene.names h.names);
      inputs = omega (arith, h.inputs, sum);
    }
before-after inputs scene (Let name of) items h =
    let own = scene.next.output in
    let sum = sum_by-cons input_count (Let name of) items in
    let parts = plain-cut (Let name of) items h.plain in
    let known = names-later own (own + 0) (omega arith) scene.names h.names in
    record {
      plain = parts.1;
      names = (form-before (own + 0) scene.names known scene.next.scan of parts.0, known);
      inputs = omega (arith, h.inputs, sum);
    }
before-after inputs scene (Output name of) items h =
    let own = scene.next.output in
    let sum = sum_by-cons input_count (Output name of) items in
    let here : own < own + 1 = omega arith in
    record {
      plain = (plain-cut (Output name of) items h.plain).1;
      names = ((λ entries next. (here, tt)), names-later own (own + 1) (omega arith) scene.names h.names);
      inputs = omega (arith, h.inputs, sum);
    }

pub dues-before : (inputs : Lists) (items : List Item) → ArePlain items
    → AllByRecursion (λ due. FormHas (LoadsBefore due.scene.next.output) (form_of due)) (dues inputs items)
dues-before inputs items plain =
    each-due inputs IsSceneBefore (λ due. FormHas (LoadsBefore due.scene.next.output) (form_of due)) (before-after inputs)
    (λ scene name of behind h.
    let shape = shape_in scene.names of in
    job-has (LoadsBefore scene.next.output) shape (form scene.names scene.next.scan of)
    (form-before scene.next.output scene.names h.names scene.next.scan of (plain-cut (Output name of) behind h.plain).0
    (variables (length shape)) (length shape)))
    items (opening items) (record { plain = plain; names = tt; inputs = omega arith })
