-- The forms of plain expressions have at most as many terms as their nodes, and as one element asks for work.
use Rattle.std.specs.Prelude.{◌≡◌, ◌==◌, ℕ, zero, suc, ◌+◌, ◌*◌, ◌≤◌, Bool, true, false, ℤ, pos, List, [], ◌∷◌, ◌++◌, drop, length, map, reverse, slice_get, take, if◌then◌else◌}
use Rattle.std.specs.List.{AllByRecursion, AllZip, sum_by}
use Rattle.std.specs.Str.{bytes_eq}
use Rattle.std.specs.declared.option.Option.{Option}
use Rattle.std.specs.declared.option.Option.TheVariants.{None, Some}
use Rattle.std.proofs.Common.{refl, ap, sym, subst, ◌∙◌, arith}
use Rattle.std.proofs.lemmas.Bool.{false≢true}
use Rattle.std.proofs.lemmas.List.Sums.{sum_by-cons}
use Rattle.std.proofs.lemmas.Option.{none-some, same_Some}
use Rattle.shapes_core.specs.Shape.{total}
use Rattle.moa_tree.specs.Axes.{each_place, naturals, on_axis, own_index, restored}
use Rattle.moa_tree.specs.Denotation.{Store as Lists}
use Rattle.moa_tree.specs.Expr.{Expr, Number, Use, Iota, One, Two, Psi, Take, Drop, Reverse, Rotate, Transpose, Permute, Cat, Reshape, Ravel, Outer, Inner, Reduce, Scan, Item, Input, Let, Output}
use Rattle.moa_tree.specs.ShapeOf.{beside, shape_of}
use Rattle.moa_tree.specs.Subexpressions.{subexpressions}
use Rattle.shape_check.specs.Costs.{Priced, Prices, element_work, job_size, job_work, nodes, price, size, sum_over, work}
use Rattle.shape_check.specs.Jobs.{TreeJob, jobs_of}
use Rattle.normal_form.specs.declared.entry.Entry.{Entry}
use Rattle.normal_form.specs.declared.entry.Entry.TheVariants.{At}
use Rattle.normal_form.specs.Formers.{Former}
use Rattle.normal_form.specs.Forms.{Normal}
use Rattle.normal_form.specs.Moves.{mirrored_entry, remaining_entry, taken_entry, variables}
use Rattle.psi_rules.specs.Areas.{given}
use Rattle.psi_rules.specs.Jobs.{forms}
use Rattle.psi_rules.specs.Rules.{Named, Names, form, nameless, scan_behind, shape_in}
use Rattle.stride_form.specs.Operational.{operational}
use Rattle.nest_build.specs.Bounds.{terms}
use Rattle.nest_jobs.specs.BlockLaws.{BlockLaws}
use Rattle.nest_jobs.specs.Outputs.{Due, Scene, array_of, dues, dues_from, form_of, job_of, opening, scene_after}
use Rattle.nest_jobs.specs.Plain.{ArePlain, EachPlain, is_plain}
use Rattle.nest_jobs.specs.Sizes.{form_size, form_sizes, form_work, form_works}
use Rattle.nest_jobs.proofs.ListLemmas.{each-cut}
use Rattle.nest_jobs.proofs.OutputLemmas.{arrays-due, each-due, forms-due, plain-cut, plain-jobs}
use Rattle.nest_jobs.proofs.ShapeLemmas.{AreAlike, alike-after}

-- at most so many terms, by nodes and by work
abbrev IsSmallForm : ℕ → ℕ → Normal → Type 0
IsSmallForm most work made = (terms (operational made) ≤ most) × (terms (operational made) ≤ work)

abbrev IsSmallFormer : ℕ → ℕ → Former → Type 0
IsSmallFormer most work former = (entries : List Entry) (next : ℕ) → IsSmallForm most work (former entries next).0

-- ---- names

abbrev IsSmallNamed : List ℕ × Named → List ℕ × Priced → Type 0
IsSmallNamed named priced = (named.0 ≡ priced.0) × IsSmallFormer priced.1.nodes priced.1.work named.1.form

abbrev AreSmall : Names → Prices → Type 0
AreSmall names prices = AllZip IsSmallNamed names prices

one-small : (test : Bool) (named other : Named) (priced cost : Priced) → IsSmallFormer priced.nodes priced.work named.form
    → IsSmallFormer cost.nodes cost.work other.form
    → IsSmallFormer (if test then priced else cost).nodes (if test then priced else cost).work (if test then named else other).form
one-small true named other priced cost h k = h
one-small false named other priced cost h k = k

name-small : (names : Names) (prices : Prices) (name : List ℕ) → AreSmall names prices
    → IsSmallFormer (price prices name).nodes (price prices name).work (beside nameless names name).form
name-small [] [] name h = λ entries next. (omega arith, omega arith)
name-small [] (priced ∷ prices) name h = absurd h
name-small (named ∷ names) [] name h = absurd h
name-small (named ∷ names) (priced ∷ prices) name h =
    let other = beside nameless names name in
    let cost = price prices name in
    subst (λ text. IsSmallFormer (if bytes_eq text name then priced.1 else cost).nodes (if bytes_eq text name then priced.1 else cost).work
    (if bytes_eq named.0 name then named.1 else other).form) h.0.0
    (one-small (bytes_eq named.0 name) named.1 other priced.1 cost h.0.1 (name-small names prices name h.1))

-- ---- expressions

-- an operator on one operand, and one on two
one-more : (most work : ℕ) (made : Normal) → IsSmallForm most work made → IsSmallForm (1 + most) (1 + work) made
one-more most work made h = (omega (arith, h.0), omega (arith, h.1))

module _ (names : Names) (prices : Prices) (agree : AreSmall names prices) where
  both-plain : (left right : Expr) → EachPlain (subexpressions left ++ subexpressions right)
      → EachPlain (subexpressions left) × EachPlain (subexpressions right)
  both-plain left right h = each-cut (λ expr. is_plain expr ≡ true) (subexpressions left) (subexpressions right) h

  -- at most as many terms as the expression has nodes, and as it asks for work
  abbrev Fits : Expr → Former → Type 0
  Fits expr former = IsSmallFormer (nodes prices expr) (element_work prices expr) former

  moved-small : (of : Expr) (former : Former) (move : List Entry → List Entry) → Fits of former
      → IsSmallFormer (1 + nodes prices of) (1 + element_work prices of) (λ entries. former (move entries))
  moved-small of former move h = λ entries next.
      one-more (nodes prices of) (element_work prices of) (former (move entries) next).0 (h (move entries) next)

  form-small : (scan : ℕ) (expr : Expr) → EachPlain (subexpressions expr) → Fits expr (form names scan expr)
  form-small scan (Number value) h = λ entries next. (omega arith, omega arith)
  form-small scan (Use name) h = name-small names prices name agree
  form-small scan (Iota extent) h = λ entries next. (omega arith, omega arith)
  form-small scan (One op of) h = λ entries next.
      let k = form-small scan of h.1 entries next in (omega (arith, k.0), omega (arith, k.1))
  form-small scan (Two op left right) h = λ entries next.
      let parts = both-plain left right h.1 in
      let first = own_index (shape_in names left) entries in
      let second = own_index (shape_in names right) entries in
      let one = form-small scan left parts.0 first next in
      let other = form-small (scan_behind scan left) right parts.1 second (form names scan left first next).1 in
      (omega (arith, one.0, other.0), omega (arith, one.1, other.1))
  form-small scan (Psi list of) h = moved-small of (form names scan of) (λ entries. map At list ++ entries) (form-small scan of h.1)
  form-small scan (Take list of) h =
      moved-small of (form names scan of) (λ entries. each_place taken_entry list (shape_in names of) entries) (form-small scan of h.1)
  form-small scan (Drop list of) h =
      moved-small of (form names scan of) (λ entries. each_place remaining_entry list (shape_in names of) entries) (form-small scan of h.1)
  form-small scan (Reverse of) h =
      moved-small of (form names scan of) (λ entries. on_axis 0 mirrored_entry (shape_in names of) entries) (form-small scan of h.1)
  form-small scan (Rotate by of) h = absurd (false≢true h.0)
  form-small scan (Transpose of) h = moved-small of (form names scan of) (λ entries. reverse entries) (form-small scan of h.1)
  form-small scan (Permute list of) h =
      moved-small of (form names scan of) (λ entries. restored (At (pos 0)) (naturals list) entries) (form-small scan of h.1)
  form-small scan (Cat left right) h = absurd (false≢true h.0)
  form-small scan (Reshape list of) h = absurd (false≢true h.0)
  form-small scan (Ravel of) h = absurd (false≢true h.0)
  form-small scan (Outer op left right) h = λ entries next.
      let parts = both-plain left right h.1 in
      let axes = length (shape_in names left) in
      let one = form-small scan left parts.0 (take axes entries) next in
      let other = form-small (scan_behind scan left) right parts.1 (drop axes entries) (form names scan left (take axes entries) next).1 in
      (omega (arith, one.0, other.0), omega (arith, one.1, other.1))
  form-small scan (Inner fold op left right) h = absurd (false≢true h.0)
  form-small scan (Reduce fold of) h = absurd (false≢true h.0)
  form-small scan (Scan fold of) h = absurd (false≢true h.0)

-- ---- one job

product-below : (n k m : ℕ) → k ≤ m → n * k ≤ n * m
product-below zero k m h = grind arith
product-below (suc n) k m h = grind (arith, product-below n k m h, h)

sized-choice : (test : Bool) (most work : ℕ) (made : Normal) → IsSmallForm most work made
    → form_size (if test then None else Some made) ≤ 2 + most
sized-choice true most work made h = omega arith
sized-choice false most work made h = omega (arith, h.0)

worked-choice : (test : Bool) (shape : List ℕ) (at : List ℕ → ℤ) (most work : ℕ) (made : Normal) → IsSmallForm most work made
    → form_work (if test then None else Some made) (record { shape = shape; at = at }) ≤ (1 + total shape) * (1 + work)
worked-choice true shape at most work made h = omega arith
worked-choice false shape at most work made h =
    product-below (1 + total shape) (1 + terms (operational made)) (1 + work) (omega (arith, h.1))

-- ---- programs

pub record IsSceneSmall (scene : Scene) (items : List Item) : Type 0 where
  pub plain : ArePlain items
  pub small : AreSmall scene.names scene.prices
  pub alike : AreAlike scene

small-after : BlockLaws → (inputs : Lists) (scene : Scene) (item : Item) (items : List Item) → IsSceneSmall scene (item ∷ items)
    → IsSceneSmall (scene_after inputs scene item) items
small-after block inputs scene (Input name extents) items h = record {
  plain = (plain-cut (Input name extents) items h.plain).1;
  small = ((refl, λ entries next. (omega arith, omega arith)), h.small);
  alike = alike-after block inputs scene (Input name extents) h.alike;
}
small-after block inputs scene (Let name of) items h =
    let parts = plain-cut (Let name of) items h.plain in
    record {
      plain = parts.1;
      small = ((refl, form-small scene.names scene.prices h.small scene.next.scan of parts.0), h.small);
      alike = alike-after block inputs scene (Let name of) h.alike;
    }
small-after block inputs scene (Output name of) items h = record {
  plain = (plain-cut (Output name of) items h.plain).1;
  small = ((refl, λ entries next. (omega arith, omega arith)), h.small);
  alike = alike-after block inputs scene (Output name of) h.alike;
}

-- an output's form is within the size of its job, and within its work
size-of-one : (scene : Scene) (name : List ℕ) (of : Expr) (items : List Item) → IsSceneSmall scene (Output name of ∷ items)
    → form_size (form_of (record { scene = scene; of = of })) ≤ job_size scene.prices (job_of (record { scene = scene; of = of }))
size-of-one scene name of items h =
    let parts = plain-cut (Output name of) items h.plain in
    let shape = shape_in scene.names of in
    let here = sized-choice (total shape == 0) (nodes scene.prices of) (element_work scene.prices of)
    (form scene.names scene.next.scan of (variables (length shape)) (length shape)).0
    (form-small scene.names scene.prices h.small scene.next.scan of parts.0 (variables (length shape)) (length shape)) in
    omega (arith, here)

work-of-one : (scene : Scene) (name : List ℕ) (of : Expr) (items : List Item) → IsSceneSmall scene (Output name of ∷ items)
    → form_work (form_of (record { scene = scene; of = of })) (array_of (record { scene = scene; of = of }))
    ≤ job_work scene.prices (job_of (record { scene = scene; of = of }))
work-of-one scene name of items h =
    let due : Due = record { scene = scene; of = of } in
    let parts = plain-cut (Output name of) items h.plain in
    let shape = shape_in scene.names of in
    let here = worked-choice (total shape == 0) (array_of due).shape (array_of due).at (nodes scene.prices of)
    (element_work scene.prices of)
    (form scene.names scene.next.scan of (variables (length shape)) (length shape)).0
    (form-small scene.names scene.prices h.small scene.next.scan of parts.0 (variables (length shape)) (length shape)) in
    let same = ap (λ shapes. (1 + total (shape_of shapes of)) * (1 + element_work scene.prices of)) (h.alike.0 ∙ sym h.alike.1) in
    omega (arith, here, same)

-- what a statement's one job costs
pub one-cost : (cost : Prices → TreeJob → ℕ) (prices : Prices) (name : List ℕ) (of : Expr) → EachPlain (subexpressions of)
    → sum_by (cost prices) (jobs_of 0 0 0 (Output name of))
    ≡ cost prices (record { job = record { area = 0; node = 0; fold = None }; of = of }) + 0
one-cost cost prices name of h =
    ap (λ l. sum_by (cost prices) l) (plain-jobs 0 0 0 (Output name of) h)
    ∙ sum_by-cons (cost prices) (record { job = record { area = 0; node = 0; fold = None }; of = of }) []

module _ (block : BlockLaws) (inputs : Lists) where
  sizes-from : (items : List Item) (scene : Scene) → IsSceneSmall scene items
      → form_sizes (map form_of (dues_from inputs scene items)) ≤ sum_over job_size scene.prices items
  sizes-from [] scene h = omega arith
  sizes-from (Input name extents ∷ items) scene h =
      let rest = sizes-from items (scene_after inputs scene (Input name extents)) (small-after block inputs scene (Input name extents) items h) in
      omega (arith, rest)
  sizes-from (Let name of ∷ items) scene h =
      let rest = sizes-from items (scene_after inputs scene (Let name of)) (small-after block inputs scene (Let name of) items h) in
      omega (arith, rest)
  sizes-from (Output name of ∷ items) scene h =
      let rest = sizes-from items (scene_after inputs scene (Output name of)) (small-after block inputs scene (Output name of) items h) in
      let cost = one-cost job_size scene.prices name of (plain-cut (Output name of) items h.plain).0 in
      omega (arith, rest, size-of-one scene name of items h, cost)

  works-from : (items : List Item) (scene : Scene) → IsSceneSmall scene items
      → form_works (map form_of (dues_from inputs scene items)) (map array_of (dues_from inputs scene items))
      ≤ sum_over job_work scene.prices items
  works-from [] scene h = omega arith
  works-from (Input name extents ∷ items) scene h =
      let rest = works-from items (scene_after inputs scene (Input name extents)) (small-after block inputs scene (Input name extents) items h) in
      omega (arith, rest)
  works-from (Let name of ∷ items) scene h =
      let rest = works-from items (scene_after inputs scene (Let name of)) (small-after block inputs scene (Let name of) items h) in
      omega (arith, rest)
  works-from (Output name of ∷ items) scene h =
      let rest = works-from items (scene_after inputs scene (Output name of)) (small-after block inputs scene (Output name of) items h) in
      let cost = one-cost job_work scene.prices name of (plain-cut (Output name of) items h.plain).0 in
      omega (arith, rest, work-of-one scene name of items h, cost)

opening-small : (items : List Item) → ArePlain items → IsSceneSmall (opening items) items
opening-small items plain = record { plain = plain; small = tt; alike = (refl, refl) }

pub sizes-small : BlockLaws → (items : List Item) → ArePlain items → form_sizes (forms items) ≤ size items
sizes-small block items plain =
    subst (λ l. form_sizes l ≤ size items) (sym (forms-due [] items plain))
    (sizes-from block [] items (opening items) (opening-small items plain))

pub works-small : BlockLaws → (inputs : Lists) (items : List Item) → ArePlain items → form_works (forms items) (given inputs items) ≤ work items
works-small block inputs items plain =
    subst (λ l. form_works l (given inputs items) ≤ work items) (sym (forms-due inputs items plain))
    (subst (λ l. form_works (map form_of (dues inputs items)) l ≤ work items) (sym (arrays-due inputs items plain))
    (works-from block inputs items (opening items) (opening-small items plain)))

-- one form is not larger than all are
pub size-at : (list : List (Option Normal)) (number : ℕ) (form : Option Normal) → slice_get list number ≡ Some form
    → form_size form ≤ form_sizes list
size-at [] number form e = absurd (none-some form e)
size-at (first ∷ others) zero form e =
    let same : form_size first ≡ form_size form = ap form_size (same_Some first form e) in omega (arith, same)
size-at (first ∷ others) (suc number) form e = omega (arith, size-at others number form e)

pub sizes-of-each : BlockLaws → (inputs : Lists) (items : List Item) → ArePlain items
    → AllByRecursion (λ due. form_size (form_of due) ≤ job_size due.scene.prices (job_of due)) (dues inputs items)
sizes-of-each block inputs items plain =
    each-due inputs IsSceneSmall (λ due. form_size (form_of due) ≤ job_size due.scene.prices (job_of due)) (small-after block inputs)
    size-of-one items (opening items) (opening-small items plain)

pub works-of-each : BlockLaws → (inputs : Lists) (items : List Item) → ArePlain items
    → AllByRecursion (λ due. form_work (form_of due) (array_of due) ≤ job_work due.scene.prices (job_of due)) (dues inputs items)
works-of-each block inputs items plain =
    each-due inputs IsSceneSmall (λ due. form_work (form_of due) (array_of due) ≤ job_work due.scene.prices (job_of due))
    (small-after block inputs)
    work-of-one items (opening items) (opening-small items plain)
