-- From where forms load: what the rules make loads what the forms of the operands load, and nothing else.
use Rattle.std.specs.Prelude.{◌≡◌, ℕ, zero, suc, ◌+◌, ◌-◌, Bool, true, false, pos, int_lt, List, [], ◌∷◌, ◌++◌, drop, length, map, reverse, slice_index, take, unsigned_abs, if◌then◌else◌}
use Rattle.std.specs.List.{AllByRecursion, flat_map, insert}
use Rattle.std.specs.Str.{bytes_eq}
use Rattle.std.specs.declared.option.Option.{Option}
use Rattle.std.specs.declared.option.Option.TheVariants.{None, Some}
use Rattle.std.proofs.Common.{ap, subst, ◌∙◌}
use Rattle.std.proofs.lemmas.Grind.{flat_map-append}
use Rattle.std.proofs.lemmas.List.{length-map, map-append}
use Rattle.shapes_core.specs.Gamma.{digit, gamma}
use Rattle.shapes_core.specs.Shape.{span, total}
use Rattle.moa_tree.specs.declared.operator.Op.{Op}
use Rattle.moa_tree.specs.Axes.{each_place, naturals, on_axis, own_index, restored, turned}
use Rattle.moa_tree.specs.Expr.{Expr, Number, Use, Iota, One, Two, Psi, Take, Drop, Reverse, Rotate, Transpose, Permute, Cat, Reshape, Ravel, Outer, Inner, Reduce, Scan}
use Rattle.moa_tree.specs.ShapeOf.{beside}
use Rattle.moa_tree.specs.Subexpressions.{if_scan, scans_in, subexpressions}
use Rattle.normal_form.specs.declared.entry.Entry.{Entry}
use Rattle.normal_form.specs.declared.entry.Entry.TheVariants.{At, Plus, Minus}
use Rattle.normal_form.specs.declared.term.Bind.{Bind}
use Rattle.normal_form.specs.declared.term.Bind.TheVariants.{Turn, Flat, Digit}
use Rattle.normal_form.specs.Formers.{Former, Making, binding, by_offset, constants, digiting, flattening, folding, joining, offset, on_both, reshaping, spreading, turning, unflattening, varying}
use Rattle.normal_form.specs.Forms.{Bin}
use Rattle.normal_form.specs.Moves.{behind_entry, mirrored_entry, remaining_entry, taken_entry, turned_constant, variable}
use Rattle.psi_rules.specs.Blocks.{AreAt}
use Rattle.psi_rules.specs.Jobs.{Task, scanned}
use Rattle.psi_rules.specs.Loads.{LoadsFrom}
use Rattle.psi_rules.specs.Rules.{Named, Names, entry_on, form, nameless, scan_behind, shape_in}
use Rattle.psi_rules.proofs.ListLemmas.{at-both}
use Rattle.psi_rules.proofs.TaskLemmas.{tasks-both}

module _ (areas : List (List ℕ)) where
  -- what is made loads from areas of these shapes
  abbrev pub Makes : Making → Type 0
  Makes making = (next : ℕ) → LoadsFrom areas (making next).0

  -- at all entries
  abbrev pub Loads : Former → Type 0
  Loads former = (entries : List Entry) → Makes (former entries)

  -- a step in front of what loads from these areas makes no load of its own
  abbrev Passes : {X : Type 0} → ((X → Making) → Making) → Type 0
  Passes {X} step = (rest : X → Making) → ((x : X) → Makes (rest x)) → Makes (step rest)

  passes-binding : (bind : Bind) → Passes (binding bind)
  passes-binding bind = λ rest h next. h (variable next) (suc next)

  -- ---- turns, joins and folds

  passes-turning : (by n : ℕ) (entry : Entry) → Passes (turning by n entry)
  passes-turning zero n entry = λ rest h. h entry
  passes-turning (suc by) n (At constant) = λ rest h. h (At (turned_constant (suc by) n constant))
  passes-turning (suc by) n (Plus var add) = passes-binding (Turn (Plus var add) (suc by) n)
  passes-turning (suc by) n (Minus var add) = passes-binding (Turn (Minus var add) (suc by) n)

  makes-either : (test : Bool) (first second : Making) → Makes first → Makes second → Makes (if test then first else second)
  makes-either true first second h k = h
  makes-either false first second h k = k

  makes-joining : (n m : ℕ) (entry : Entry) (first second : Making) → Makes first → Makes second → Makes (joining n m entry first second)
  makes-joining zero m entry first second h k = k
  makes-joining (suc n) zero entry first second h k = h
  makes-joining (suc n) (suc m) (At constant) first second h k = makes-either (int_lt constant (pos (suc n))) first second h k
  makes-joining (suc n) (suc m) (Plus var add) first second h k = λ next. (h next, k (first next).1)
  makes-joining (suc n) (suc m) (Minus var add) first second h k = λ next. (h next, k (first next).1)

  makes-folding : (op : Op) (n : ℕ) (item : Entry → Making) → ((entry : Entry) → Makes (item entry)) → Makes (folding op n item)
  makes-folding op zero item h = λ next. tt
  makes-folding op (suc n) item h = λ next. h (variable next) (suc next)

  -- ---- reshapes

  passes-offset : (o : Option (List ℕ)) (shape : List ℕ) (entries : List Entry) → Passes (offset o shape entries)
  passes-offset (Some list) shape entries = λ rest h. h (At (pos (gamma list shape)))
  passes-offset None shape entries = passes-binding (Flat entries shape)

  passes-flattening : (shape : List ℕ) (entries : List Entry) → Passes (flattening shape entries)
  passes-flattening [] entries = passes-offset (constants entries) [] entries
  passes-flattening (n ∷ []) entries = λ rest h. h (entry_on 0 entries)
  passes-flattening (n ∷ k ∷ shape) entries = passes-offset (constants entries) (n ∷ k ∷ shape) entries

  passes-varying : (flat : Entry) (weight n : ℕ) → Passes (varying flat weight n)
  passes-varying (At constant) weight n = λ rest h. h (At (pos (digit (unsigned_abs constant) weight n)))
  passes-varying (Plus var add) weight n = passes-binding (Digit (Plus var add) weight n)
  passes-varying (Minus var add) weight n = passes-binding (Digit (Minus var add) weight n)

  passes-digiting : (flat : Entry) (weight n : ℕ) → Passes (digiting flat weight n)
  passes-digiting flat weight zero = passes-varying flat weight zero
  passes-digiting flat weight (suc zero) = λ rest h. h (At (pos 0))
  passes-digiting flat weight (suc (suc n)) = passes-varying flat weight (suc (suc n))

  passes-spreading : (shape : List ℕ) (flat : Entry) → Passes (spreading shape flat)
  passes-spreading [] flat = λ rest h. h []
  passes-spreading (n ∷ shape) flat = λ rest h.
      passes-digiting flat (span shape) n (λ entry. spreading shape flat (λ entries. rest (entry ∷ entries)))
      (λ entry. passes-spreading shape flat (λ entries. rest (entry ∷ entries)) (λ entries. h (entry ∷ entries)))

  passes-unflattening : (shape : List ℕ) (flat : Entry) → Passes (unflattening shape flat)
  passes-unflattening [] flat = passes-spreading [] flat
  passes-unflattening (n ∷ []) flat = λ rest h. h (flat ∷ [])
  passes-unflattening (n ∷ k ∷ shape) flat = passes-spreading (n ∷ k ∷ shape) flat

  makes-by-offset : (shape operand : List ℕ) (entries : List Entry) (of : Former) → Loads of → Makes (by_offset shape operand entries of)
  makes-by-offset shape [] entries of h = h []
  makes-by-offset shape (n ∷ operand) entries of h =
      passes-flattening shape entries (λ flat. unflattening (n ∷ operand) flat of) (λ flat. passes-unflattening (n ∷ operand) flat of h)

  makes-reshaping : (shape operand : List ℕ) (entries : List Entry) (of : Former) → Loads of → Makes (reshaping shape operand entries of)
  makes-reshaping shape operand entries of h =
      makes-either (bytes_eq shape operand) (of entries) (by_offset shape operand entries of) (h entries)
      (makes-by-offset shape operand entries of h)

  -- ---- names

  one-loads : (test : Bool) (named other : Named) → Loads named.form → Loads other.form → Loads (if test then named else other).form
  one-loads true named other h k = h
  one-loads false named other h k = k

  -- the form of each name loads from these areas
  abbrev pub AllLoad : Names → Type 0
  AllLoad names = AllByRecursion (λ named. Loads named.1.form) names

  named-loads : (names : Names) (name : List ℕ) → AllLoad names → Loads (beside nameless names name).form
  named-loads [] name h = λ entries next. tt
  named-loads (named ∷ names) name h =
      one-loads (bytes_eq named.0 name) named.1 (beside nameless names name) h.0 (named-loads names name h.1)

  -- ---- expressions

  module _ (names : Names) where
    -- the areas from this one on have the shapes of these scans
    abbrev pub AreStored : ℕ → List Expr → Type 0
    AreStored scan scans = AreAt areas scan (map (shape_in names) scans)

    stored-both : (scan : ℕ) (left right : Expr) → AreStored scan (flat_map if_scan (subexpressions left ++ subexpressions right))
        → AreStored scan (scans_in left) × AreStored (scan_behind scan left) (scans_in right)
    stored-both scan left right h =
        let shape = shape_in names in
        let front = scans_in left in
        let back = scans_in right in
        let e : map shape (flat_map if_scan (subexpressions left ++ subexpressions right)) ≡ map shape front ++ map shape back =
        ap (map shape) (flat_map-append if_scan (subexpressions left) (subexpressions right)) ∙ map-append shape front back in
        let parts = at-both areas scan (map shape front) (map shape back) (subst (AreAt areas scan) e h) in
        (parts.0, subst (λ n. AreStored (scan + n) back) (length-map front shape) parts.1)

    -- the form of a task's expression loads from these areas
    abbrev pub TaskLoads : Task → Type 0
    TaskLoads task = Loads (form names task.1 task.0)

    -- the operand of each of the scans among these expressions, the first of which has this area
    abbrev pub ScansLoad : ℕ → List Expr → Type 0
    ScansLoad scan exprs = AllByRecursion TaskLoads (scanned scan exprs)

    -- an expression's form loads from these areas, and those of its scans' operands do
    abbrev pub WhollyLoads : ℕ → Expr → Type 0
    WhollyLoads scan expr = TaskLoads (expr, scan) × ScansLoad scan (subexpressions expr)

    both-load : (scan : ℕ) (left right : Expr) → WhollyLoads scan left → WhollyLoads (scan_behind scan left) right
        → ScansLoad scan (subexpressions left ++ subexpressions right)
    both-load scan left right h k = tasks-both TaskLoads scan left right h.1 k.1

    module _ (agree : AllLoad names) where
      pub loads : (scan : ℕ) (expr : Expr) → AreStored scan (scans_in expr) → WhollyLoads scan expr
      loads scan (Number value) stored = ((λ entries next. tt), tt)
      loads scan (Use name) stored = (named-loads names name agree, tt)
      loads scan (Iota extent) stored = ((λ entries next. tt), tt)
      loads scan (One op of) stored = loads scan of stored
      loads scan (Two op left right) stored =
          let s = shape_in names left in
          let t = shape_in names right in
          let both = stored-both scan left right stored in
          let h = loads scan left both.0 in
          let k = loads (scan_behind scan left) right both.1 in (
            (λ entries next.
                (h.0 (own_index s entries) next, k.0 (own_index t entries) (form names scan left (own_index s entries) next).1)),
            both-load scan left right h k,
          )
      loads scan (Psi list of) stored = let h = loads scan of stored in ((λ entries. h.0 (map At list ++ entries)), h.1)
      loads scan (Take list of) stored =
          let h = loads scan of stored in ((λ entries. h.0 (each_place taken_entry list (shape_in names of) entries)), h.1)
      loads scan (Drop list of) stored =
          let h = loads scan of stored in ((λ entries. h.0 (each_place remaining_entry list (shape_in names of) entries)), h.1)
      loads scan (Reverse of) stored =
          let h = loads scan of stored in ((λ entries. h.0 (on_axis 0 mirrored_entry (shape_in names of) entries)), h.1)
      loads scan (Rotate by of) stored =
          let h = loads scan of stored in
          let shape = shape_in names of in
          let n = slice_index shape 0 in (
            (λ entries. passes-turning (turned by n 0) n (entry_on 0 entries)
                (λ entry. form names scan of (on_axis 0 (λ extent old. entry) shape entries))
                (λ entry. h.0 (on_axis 0 (λ extent old. entry) shape entries))),
            h.1,
          )
      loads scan (Transpose of) stored = let h = loads scan of stored in ((λ entries. h.0 (reverse entries)), h.1)
      loads scan (Permute list of) stored =
          let h = loads scan of stored in ((λ entries. h.0 (restored (At (pos 0)) (naturals list) entries)), h.1)
      loads scan (Cat left right) stored =
          let s = shape_in names left in
          let both = stored-both scan left right stored in
          let h = loads scan left both.0 in
          let k = loads (scan_behind scan left) right both.1 in (
            (λ entries. makes-joining (slice_index s 0) (slice_index (shape_in names right) 0) (entry_on 0 entries)
                (form names scan left entries) (form names (scan_behind scan left) right (on_axis 0 behind_entry s entries))
                (h.0 entries) (k.0 (on_axis 0 behind_entry s entries))),
            both-load scan left right h k,
          )
      loads scan (Reshape list of) stored =
          let h = loads scan of stored in
          ((λ entries. makes-reshaping (naturals list) (shape_in names of) entries (form names scan of) h.0), h.1)
      loads scan (Ravel of) stored =
          let h = loads scan of stored in
          ((λ entries. makes-reshaping (total (shape_in names of) ∷ []) (shape_in names of) entries (form names scan of) h.0), h.1)
      loads scan (Outer op left right) stored =
          let axes = length (shape_in names left) in
          let both = stored-both scan left right stored in
          let h = loads scan left both.0 in
          let k = loads (scan_behind scan left) right both.1 in (
            (λ entries next. (h.0 (take axes entries) next, k.0 (drop axes entries) (form names scan left (take axes entries) next).1)),
            both-load scan left right h k,
          )
      loads scan (Inner fold op left right) stored =
          let axes = length (shape_in names left) - 1 in
          let both = stored-both scan left right stored in
          let h = loads scan left both.0 in
          let k = loads (scan_behind scan left) right both.1 in (
            (λ entries. makes-folding fold (slice_index (shape_in names left) axes)
                (λ i. on_both (Bin op) (form names scan left (take axes entries ++ i ∷ []))
                (form names (scan_behind scan left) right (i ∷ drop axes entries)))
                (λ i next. (
                  h.0 (take axes entries ++ i ∷ []) next,
                  k.0 (i ∷ drop axes entries) (form names scan left (take axes entries ++ i ∷ []) next).1,
                ))),
            both-load scan left right h k,
          )
      loads scan (Reduce fold of) stored =
          let h = loads scan of stored in (
            (λ entries. makes-folding fold (slice_index (shape_in names of) 0) (λ i. form names scan of (insert entries 0 i))
                (λ i. h.0 (insert entries 0 i))),
            h.1,
          )
      loads scan (Scan fold of) stored =
          let h = loads (suc scan) of stored.1 in ((λ entries next. stored.0), (h.0, h.1))
