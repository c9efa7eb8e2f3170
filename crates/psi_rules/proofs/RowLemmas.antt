-- The tables of a program are filled, one statement after another.
use Rattle.std.specs.Prelude.{◌≡◌, ℕ, suc, ◌+◌, ◌<◌, ◌≤◌, ◌⊎◌, Bool, true, false, cond, List, [], ◌∷◌, ◌++◌, drop, length, map, replicate, reverse}
use Rattle.std.specs.Prelude.{slice_get, slice_index_or, IsSome, Option, Some}
use Rattle.std.specs.List.{flat_map}
use Rattle.std.specs.Map.{lookup}
use Rattle.std.specs.Str.{bytes_eq}
use Rattle.std.proofs.Common.{refl, ap, sym, subst, ◌∙◌, arith, inl, inr, append_assoc, drop-cons, length-append}
use Rattle.std.proofs.lemmas.Bool.{cases_lt, false≢true}
use Rattle.std.proofs.lemmas.List.{append-nil, get_or_append_left, length-reverse, map-append}
use Rattle.std.proofs.Math.Seq.{drop-length, get_or-append_seam}
use Rattle.std.proofs.lemmas.Option.{get_or_from_slice_get, same_Some, slice_get_within}
use Rattle.std.proofs.lemmas.Slice.Eq.{bytes_eq-Decides}
use Rattle.indexmap.specs.IndexMap.{insert_entry}
use Rattle.moa_tree.specs.Denotation.{scans_of}
use Rattle.moa_tree.specs.Expr.{Expr, Scan, Item, Input, Let, Output}
use Rattle.moa_tree.specs.declared.tree.Statement.{Statement}
use Rattle.moa_tree.specs.Pools.{Pools}
use Rattle.moa_tree.specs.Subexpressions.{if_scan, subexpressions}
use Rattle.shape_check.specs.Jobs.{output_count}
use Rattle.shape_check.specs.Judged.{items_in}
use Rattle.shape_check.specs.Layout.{name_of}
use Rattle.psi_rules.specs.Jobs.{Next, Task, next_after, scanned, tasks_of}
use Rattle.psi_rules.specs.Rows.{AreDeclared, IsDeclared, IsEnd, IsFilled, IsRow, item_in, own_area, with_jobs, with_name, with_row}
use Rattle.psi_rules.specs.Scopes.{Owned, owned, owned_from}
use Rattle.psi_rules.specs.Tables.{Tables, end_at}
use Rattle.psi_rules.proofs.ListLemmas.{at-mapped}
use Rattle.psi_rules.proofs.ScopeLemmas.{scope-step}

-- ---- how many jobs a statement has

-- a task of each scan
scanned-counted : (scan : ℕ) (exprs : List Expr) → length (scanned scan exprs) ≡ length (flat_map if_scan exprs)
scanned-counted scan [] = refl
scanned-counted scan (Scan fold of ∷ others) = ap suc (scanned-counted (suc scan) others)
scanned-counted scan (other ∷ others) = scanned-counted scan others

turned-counted : (next : Next) (of : Expr) → length (reverse (scanned next.scan (subexpressions of))) ≡ length (flat_map if_scan (subexpressions of))
turned-counted next of = length-reverse (scanned next.scan (subexpressions of)) ∙ scanned-counted next.scan (subexpressions of)

tasks-counted : (next : Next) (item : Item) → length (tasks_of next item) ≡ length (scans_of item) + output_count item
tasks-counted next (Input name extents) = refl
tasks-counted next (Let name of) =
    let both = length-append (reverse (scanned next.scan (subexpressions of))) [] in omega (arith, both, turned-counted next of)
tasks-counted next (Output name of) =
    let both = length-append (reverse (scanned next.scan (subexpressions of))) ((of, next.scan) ∷ []) in omega (arith, both, turned-counted next of)

-- ---- a statement of the pools

pub item-there : (pools : Pools) (number : ℕ) (statement : Statement) → slice_get pools.statements number ≡ Some statement
    → slice_get (items_in pools) number ≡ Some (item_in pools statement)
item-there pools number statement there =
    at-mapped (item_in pools) pools.statements number statement there

-- ---- names

-- a name that is found behind a new one is that one, or was found before
found-more : (name : List ℕ) (number : ℕ) (asked : List ℕ) (declared : ℕ) (entries : List (List ℕ × ℕ))
    → lookup (bytes_eq asked) (insert_entry bytes_eq entries name number) ≡ Some declared
    → ((asked ≡ name) × (declared ≡ number)) ⊎ (lookup (bytes_eq asked) entries ≡ Some declared)
found-more name number asked declared [] e = by (bytes_eq asked name) refl e
  where
    by : (b : Bool) → bytes_eq asked name ≡ b → cond b (Some number) (lookup (bytes_eq asked) []) ≡ Some declared
        → ((asked ≡ name) × (declared ≡ number)) ⊎ (lookup {X = ℕ} (bytes_eq asked) [] ≡ Some declared)
    by true same e = inl ((bytes_eq-Decides asked name).0 same, sym (same_Some number declared e))
    by false same e = inr e
found-more name number asked declared (entry ∷ entries) e =
    by (bytes_eq name entry.0) refl (bytes_eq asked entry.0) refl (found-more name number asked declared entries) e
  where
    by : (b : Bool) → bytes_eq name entry.0 ≡ b → (c : Bool) → bytes_eq asked entry.0 ≡ c
        → (lookup (bytes_eq asked) (insert_entry bytes_eq entries name number) ≡ Some declared
        → ((asked ≡ name) × (declared ≡ number)) ⊎ (lookup (bytes_eq asked) entries ≡ Some declared))
        → lookup (bytes_eq asked) (cond b ((entry.0, number) ∷ entries) (entry ∷ insert_entry bytes_eq entries name number)) ≡ Some declared
        → ((asked ≡ name) × (declared ≡ number)) ⊎ (cond (bytes_eq asked entry.0) (Some entry.1) (lookup (bytes_eq asked) entries) ≡ Some declared)
    by true same true here rest e = inl (
      (bytes_eq-Decides asked entry.0).0 here ∙ sym ((bytes_eq-Decides name entry.0).0 same),
      sym (same_Some number declared (sym (ap (λ d. cond d (Some number) (lookup (bytes_eq asked) entries)) here) ∙ e)),
    )
    by true same false here rest e = inr (
        ap (λ d. cond d (Some entry.1) (lookup (bytes_eq asked) entries)) here
        ∙ (sym (ap (λ d. cond d (Some number) (lookup (bytes_eq asked) entries)) here) ∙ e)
        )
    by false same true here rest e = inr (
        ap (λ d. cond d (Some entry.1) (lookup (bytes_eq asked) entries)) here
        ∙ (sym (ap (λ d. cond d (Some entry.1) (lookup (bytes_eq asked) (insert_entry bytes_eq entries name number))) here) ∙ e)
        )
    by false same false here rest e =
        let found = sym (ap (λ d. cond d (Some entry.1) (lookup (bytes_eq asked) (insert_entry bytes_eq entries name number))) here) ∙ e in
        elim (rest found) [
          | inl new ↦ inl new
          | inr old ↦ inr (ap (λ d. cond d (Some entry.1) (lookup (bytes_eq asked) entries)) here ∙ old)
        ]

-- a name that was found is found behind a new one too
stays-found : (name : List ℕ) (number : ℕ) (asked : List ℕ) (entries : List (List ℕ × ℕ)) → IsSome (lookup (bytes_eq asked) entries)
    → IsSome (lookup (bytes_eq asked) (insert_entry bytes_eq entries name number))
stays-found name number asked [] h = absurd (false≢true h)
stays-found name number asked (entry ∷ entries) h =
    by (bytes_eq name entry.0) (bytes_eq asked entry.0) refl (stays-found name number asked entries) h
  where
    by : (b c : Bool) → bytes_eq asked entry.0 ≡ c
        → (IsSome (lookup (bytes_eq asked) entries) → IsSome (lookup (bytes_eq asked) (insert_entry bytes_eq entries name number)))
        → IsSome (cond c (Some entry.1) (lookup (bytes_eq asked) entries))
        → IsSome (lookup (bytes_eq asked) (cond b ((entry.0, number) ∷ entries) (entry ∷ insert_entry bytes_eq entries name number)))
    by true true here rest h = subst (λ d. IsSome (cond d (Some number) (lookup (bytes_eq asked) entries))) (sym here) refl
    by true false here rest h = subst (λ d. IsSome (cond d (Some number) (lookup (bytes_eq asked) entries))) (sym here) h
    by false true here rest h =
        subst (λ d. IsSome (cond d (Some entry.1) (lookup (bytes_eq asked) (insert_entry bytes_eq entries name number)))) (sym here) refl
    by false false here rest h =
        subst (λ d. IsSome (cond d (Some entry.1) (lookup (bytes_eq asked) (insert_entry bytes_eq entries name number)))) (sym here) (rest h)

-- and so is the new one
new-found : (name : List ℕ) (number : ℕ) (entries : List (List ℕ × ℕ)) → IsSome (lookup (bytes_eq name) (insert_entry bytes_eq entries name number))
new-found name number [] =
    let none : Option ℕ = lookup (bytes_eq name) [] in
    subst (λ d. IsSome (cond d (Some number) none)) (sym ((bytes_eq-Decides name name).1 refl)) refl
new-found name number (entry ∷ entries) = by (bytes_eq name entry.0) refl (new-found name number entries)
  where
    by : (b : Bool) → bytes_eq name entry.0 ≡ b → IsSome (lookup (bytes_eq name) (insert_entry bytes_eq entries name number))
        → IsSome (lookup (bytes_eq name) (cond b ((entry.0, number) ∷ entries) (entry ∷ insert_entry bytes_eq entries name number)))
    by true same rest = subst (λ d. IsSome (cond d (Some number) (lookup (bytes_eq name) entries))) (sym same) refl
    by false same rest =
        subst (λ d. IsSome (cond d (Some entry.1) (lookup (bytes_eq name) (insert_entry bytes_eq entries name number)))) (sym same) rest

-- ---- rows

-- a number below the next one
below-or-same : (before number : ℕ) → before < suc number → (before < number) ⊎ (before ≡ number)
below-or-same before number less = elim (cases_lt before number) [
  | inl lower ↦ inl lower
  | inr other ↦ inr (omega (arith, less, other))
]

-- what is added to a list stands at its end, and what stood in it before
at-end : (xs : List ℕ) (number x d : ℕ) → length xs ≡ number → slice_index_or (xs ++ x ∷ []) number d ≡ x
at-end xs number x d e = subst (λ n. slice_index_or (xs ++ x ∷ []) n d ≡ x) e (get_or-append_seam xs x [] d)

before-end : (xs : List ℕ) (number x d before : ℕ) → length xs ≡ number → before < number
    → slice_index_or (xs ++ x ∷ []) before d ≡ slice_index_or xs before d
before-end xs number x d before e less = get_or_append_left xs (x ∷ []) d before (omega (arith, e, less))

-- where a statement leads is kept when a row is added
end-kept : (items : List Item) (ends : List ℕ) (number end before old new : ℕ) → length ends ≡ number → before ≤ number → new ≡ old
    → IsEnd items ends before old → IsEnd items (ends ++ end ∷ []) before new
end-kept items ends number end before old new counted less same (inl own) = inl (same ∙ own)
end-kept items ends number end before old new counted less same (inr other) = inr (
    record {
      name = other.name;
      other = other.other;
      declared = other.declared;
      same = other.same;
      declares = other.declares;
      before = other.before;
      leads = same ∙ (other.leads ∙ sym (before-end ends number end other.declared other.declared counted (omega (arith, less, other.before))));
    }
    )

-- ---- one statement more

-- the owner of each task of a statement is the statement
owners-counted : (number : ℕ) (tasks : List Task)
    → map (λ (o : Owned). o.statement) (map (λ task. record { statement = number; task = task }) tasks) ≡ replicate (length tasks) number
owners-counted number [] = refl
owners-counted number (task ∷ tasks) = ap (λ rest. number ∷ rest) (owners-counted number tasks)

owners-more : (number : ℕ) (tasks : List Task) (owners : List ℕ) (others : List Owned)
    → (owners ++ replicate (length tasks) number) ++ map (λ (o : Owned). o.statement) others
    ≡ owners ++ map (λ (o : Owned). o.statement) (map (λ task. record { statement = number; task = task }) tasks ++ others)
owners-more number tasks owners others =
    append_assoc owners (replicate (length tasks) number) (map (λ (o : Owned). o.statement) others)
    ∙ ap (λ rest. owners ++ rest)
    (ap (λ front. front ++ map (λ (o : Owned). o.statement) others) (sym (owners-counted number tasks))
    ∙ sym (map-append (λ (o : Owned). o.statement) (map (λ task. record { statement = number; task = task }) tasks) others))

-- the statements that are left begin with this one
pub left-of : (items : List Item) (number : ℕ) (item : Item) → slice_get items number ≡ Some item → drop number items ≡ item ∷ drop (suc number) items
left-of items number item there =
    drop-cons items number item (slice_get_within items number item there)
    ∙ ap (λ first. first ∷ drop (suc number) items) (get_or_from_slice_get items number item item there)

module _ (items : List Item) (number : ℕ) (tables : Tables) (next : Next) (item : Item) (area end count : ℕ)
    (there : slice_get items number ≡ Some item) (own : area ≡ own_area next item) (leads : IsEnd items tables.ends number end)
    (jobs : count ≡ length (scans_of item) + output_count item) (filled : IsFilled items number tables next) where
  abbrev entered : Tables
  entered = with_jobs (with_name (with_row tables next.scan area end) (name_of item) number) number count

  old-row : (before : ℕ) (other : Item) → slice_get items before ≡ Some other → before < number → IsRow items entered before other
  old-row before other is less =
      let row = filled.rows before other is less in
      record {
        scan = before-end tables.scans number next.scan 0 before filled.scans less ∙ row.scan;
        area = before-end tables.areas number area 0 before filled.areas less ∙ row.area;
        ends = end-kept items tables.ends number end before (end_at tables before) (end_at entered before) filled.ends (omega (arith, less))
            (before-end tables.ends number end before before filled.ends less) row.ends;
      }

  new-row : IsRow items entered number item
  new-row = record {
    scan = at-end tables.scans number next.scan 0 filled.scans ∙ ap (λ n. n.scan) filled.reached;
    area = at-end tables.areas number area 0 filled.areas ∙ own ∙ ap (λ n. own_area n item) filled.reached;
    ends = end-kept items tables.ends number end number end (end_at entered number) filled.ends (omega arith)
        (at-end tables.ends number end number filled.ends) leads;
  }

  each-row : (before : ℕ) (other : Item) → slice_get items before ≡ Some other → before < suc number → IsRow items entered before other
  each-row before other is less = elim (below-or-same before number less) [
    | inl lower ↦ old-row before other is lower
    | inr same ↦
        let this : item ≡ other = same_Some item other (sym there ∙ (ap (slice_get items) (sym same) ∙ is)) in
        subst (λ n. IsRow items entered n other) (sym same) (subst (λ i. IsRow items entered number i) this new-row)
  ]

  each-name : AreDeclared items (suc number) entered.numbers
  each-name name declared found = elim (found-more (name_of item) number name declared tables.numbers found) [
    | inl new ↦ (
      omega (arith, new.1),
      subst (λ n. IsDeclared items n name) (sym new.1)
          (at-mapped name_of items number item there ∙ ap (λ n. Some n) (sym new.0)),
    )
    | inr old ↦ let h = filled.names name declared old in (omega (arith, h.0), h.1)
  ]

  each-named : (before : ℕ) (name : List ℕ) → IsDeclared items before name → before < suc number → IsSome (lookup (bytes_eq name) entered.numbers)
  each-named before name is less = elim (below-or-same before number less) [
    | inl lower ↦ stays-found (name_of item) number name tables.numbers (filled.all_named before name is lower)
    | inr same ↦
        let this : name_of item ≡ name =
        same_Some (name_of item) name
        (sym (at-mapped name_of items number item there) ∙ (ap (slice_get (map name_of items)) (sym same) ∙ is)) in
        subst (λ n. IsSome (lookup (bytes_eq n) entered.numbers)) this (new-found (name_of item) number tables.numbers)
  ]

  each-owner : entered.owners ++ map (λ (o : Owned). o.statement) (owned_from (suc number) (next_after next item) (drop (suc number) items))
      ≡ map (λ (o : Owned). o.statement) (owned items)
  each-owner =
      let tasks = tasks_of next item in
      let others = owned_from (suc number) (next_after next item) (drop (suc number) items) in
      ap (λ n. (tables.owners ++ replicate n number) ++ map (λ (o : Owned). o.statement) others) (jobs ∙ sym (tasks-counted next item))
      ∙ (owners-more number tasks tables.owners others
      ∙ (ap (λ left. tables.owners ++ map (λ (o : Owned). o.statement) (owned_from number next left)) (sym (left-of items number item there))
      ∙ filled.owners))

  longer : (xs : List ℕ) (x : ℕ) → length xs ≡ number → length (xs ++ x ∷ []) ≡ suc number
  longer xs x e = let both = length-append xs (x ∷ []) in omega (arith, both, e)

  -- one statement more is entered
  filled-more : IsFilled items (suc number) entered (next_after next item)
  filled-more = record {
    reached = ap (λ n. next_after n item) filled.reached ∙ sym (ap (λ scope. scope.next) (scope-step items number item there));
    scans = longer tables.scans next.scan filled.scans;
    areas = longer tables.areas area filled.areas;
    ends = longer tables.ends end filled.ends;
    rows = each-row;
    names = each-name;
    all_named = each-named;
    owners = each-owner;
  }

-- the same in three steps
pub filled-by : (items : List Item) (number : ℕ) (old pushed named entered : Tables) (next after : Next)
    → (item : Item) (name : List ℕ) (area end count : ℕ) → slice_get items number ≡ Some item
    → pushed ≡ with_row old next.scan area end → named ≡ with_name pushed name number → entered ≡ with_jobs named number count
    → name ≡ name_of item → area ≡ own_area next item → IsEnd items old.ends number end → count ≡ length (scans_of item) + output_count item
    → after ≡ next_after next item → IsFilled items number old next → IsFilled items (suc number) entered after
filled-by items number old pushed named entered next after item name area end count there row named-so jobs spelled own leads counted behind filled =
    let whole : entered ≡ with_jobs (with_name (with_row old next.scan area end) (name_of item) number) number count =
    jobs ∙ ap (λ t. with_jobs t number count)
    (named-so ∙ (ap (λ t. with_name t name number) row ∙ ap (λ n. with_name (with_row old next.scan area end) n number) spelled)) in
    subst (λ t. IsFilled items (suc number) t after) (sym whole)
    (subst (IsFilled items (suc number) (with_jobs (with_name (with_row old next.scan area end) (name_of item) number) number count)) (sym behind)
    (filled-more items number old next item area end count there own leads counted filled))

-- behind the last statement no jobs are left
pub all-owned : (items : List Item) (number : ℕ) (tables : Tables) (next : Next) → length items ≡ number → IsFilled items number tables next
    → tables.owners ≡ map (λ (o : Owned). o.statement) (owned items)
all-owned items number tables next all filled =
    let none : drop number items ≡ [] = ap (λ n. drop n items) (sym all) ∙ drop-length items in
    sym (append-nil tables.owners)
    ∙ (ap (λ left. tables.owners ++ map (λ (o : Owned). o.statement) (owned_from number next left)) (sym none) ∙ filled.owners)
