-- The tables of a program tell what each name stands for.
use Rattle.std.specs.Prelude.{◌≡◌, ℕ, zero, suc, ◌+◌, ◌-◌, ◌<◌, ◌≤◌, Bool, true, false, cond, List, [], ◌∷◌, length, map, take}
use Rattle.std.specs.Prelude.{slice_get, slice_index_or, Some}
use Rattle.std.specs.List.{AllPairs, fold}
use Rattle.std.specs.Str.{bytes_eq}
use Rattle.std.proofs.Common.{refl, ap, sym, subst, ◌∙◌, arith, get_or, inl, inr}
use Rattle.std.proofs.lemmas.Bool.{cases_lt}
use Rattle.std.proofs.lemmas.List.{take_all}
use Rattle.std.proofs.lemmas.Option.{get_or_from_slice_get, none-some, same_Some, slice_get-get_or, slice_get_within}
use Rattle.std.proofs.lemmas.Slice.Eq.{bytes_eq-Decides}
use Rattle.moa_tree.specs.declared.tree.Statement.{Statement}
use Rattle.moa_tree.specs.declared.tree.Statement.TheVariants as statement
use Rattle.moa_tree.specs.Expr.{Use, Item, Input, Let, Output}
use Rattle.moa_tree.specs.Axes.{naturals}
use Rattle.moa_tree.specs.Pool.{list_at}
use Rattle.moa_tree.specs.Pools.{IsProgram, nodes_of}
use Rattle.moa_tree.specs.ShapeOf.{Shapes, beside, shape_of}
use Rattle.shape_check.specs.Costs.{Priced, Prices, element_work, nodes, price, prices_after, stored, shape_in as price_shape}
use Rattle.shape_check.specs.Judged.{items_in, node_tree}
use Rattle.shape_check.specs.Kept.{Checking, IsChecked}
use Rattle.shape_check.specs.Layout.{gathered, name_of, shape_of_item, shapes_after}
use Rattle.psi_rules.specs.Jobs.{Next, first, named}
use Rattle.psi_rules.specs.Rows.{IsDeclared, IsEnd, IsRow, item_in}
use Rattle.psi_rules.specs.Rules.{Named, Names, form, loading, nameless, shapes_of}
use Rattle.psi_rules.specs.Numbered.{prices_at}
use Rattle.psi_rules.specs.Scopes.{names_at, next_at, scope_after}
use Rattle.psi_rules.specs.Tables.{HaveShapes, IsMeant, Tables, area_at, end_at, meant_at}
use Rattle.psi_rules.proofs.ListLemmas.{at-mapped, mapped-at}
use Rattle.psi_rules.proofs.RowLemmas.{item-there}
use Rattle.psi_rules.proofs.ScopeLemmas.{fold-more, scope-step, shapes-at}

-- the nodes of each statement of a checked program have their shapes among the names before it
abbrev pub StatementsHaveShapes : Type 0
StatementsHaveShapes = (checking : Checking) → IsProgram checking.pools → IsChecked checking → (number : ℕ) (statement : Statement)
    → slice_get checking.pools.statements number ≡ Some statement → HaveShapes checking number (nodes_of statement)

-- ---- what a name stands for

-- its name is that of the statement
named-so : (names : Names) (next : Next) (item : Item) → (named names next item).0 ≡ name_of item
named-so names next (Input name extents) = refl
named-so names next (Let name of) = refl
named-so names next (Output name of) = refl

-- the first of some names, and the others
beside-first : {X : Type 0} (otherwise : X) (entry : List ℕ × X) (entries : List (List ℕ × X)) (name : List ℕ) → entry.0 ≡ name
    → beside otherwise (entry ∷ entries) name ≡ entry.1
beside-first otherwise entry entries name e =
    ap (λ b. cond b entry.1 (beside otherwise entries name)) ((bytes_eq-Decides entry.0 name).1 e)

beside-other : {X : Type 0} (otherwise : X) (entry : List ℕ × X) (entries : List (List ℕ × X)) (name : List ℕ) → (entry.0 ≡ name → ⊥)
    → beside otherwise (entry ∷ entries) name ≡ beside otherwise entries name
beside-other otherwise entry entries name apart = by (bytes_eq entry.0 name) refl
  where
    by : (b : Bool) → bytes_eq entry.0 name ≡ b → beside otherwise (entry ∷ entries) name ≡ beside otherwise entries name
    by true e = absurd (apart ((bytes_eq-Decides entry.0 name).0 e))
    by false e = ap (λ b. cond b entry.1 (beside otherwise entries name)) e

-- what a statement adds to prices
abbrev pub priced : Prices → Item → List ℕ × Priced
priced prices (Input name extents) = (name, stored (naturals extents))
priced prices (Let name of) = (name, record { shape = price_shape prices of; nodes = nodes prices of; work = element_work prices of })
priced prices (Output name of) = (name, stored (price_shape prices of))

prices-step : (prices : Prices) (item : Item) → prices_after prices item ≡ priced prices item ∷ prices
prices-step prices (Input name extents) = refl
prices-step prices (Let name of) = refl
prices-step prices (Output name of) = refl

priced-so : (prices : Prices) (item : Item) → (priced prices item).0 ≡ name_of item
priced-so prices (Input name extents) = refl
priced-so prices (Let name of) = refl
priced-so prices (Output name of) = refl

-- no two names of a program are one
abbrev pub Differ : List Item → Type 0
Differ items = AllPairs (λ name other. name ≡ other → ⊥) (map name_of items)

module _ (items : List Item) (differ : Differ items) where
  -- statements of two numbers declare two names
  pub two-names : (number other : ℕ) (name same : List ℕ) → other < number → IsDeclared items number name → IsDeclared items other same
      → name ≡ same → ⊥
  two-names number other name same less here there e =
      let names = map name_of items in
      differ other number [] less (slice_get_within names number name here)
      (get_or_from_slice_get names other same [] there ∙ (sym e ∙ sym (get_or_from_slice_get names number name [] here)))

  -- what stands beside names goes on from statement to statement
  module _ {X : Type 0} (otherwise : X) (at : ℕ → List (List ℕ × X)) (entry : ℕ → Item → List ℕ × X)
      (step : (number : ℕ) (item : Item) → slice_get items number ≡ Some item → at (suc number) ≡ entry number item ∷ at number)
      (named-so : (number : ℕ) (item : Item) → (entry number item).0 ≡ name_of item)
      (at-end : (number : ℕ) → length items ≤ number → at number ≡ at (length items)) where
    -- so many statements behind the one of this number, its name stands for what it declares
    named-behind : (number more : ℕ) (item : Item) → slice_get items number ≡ Some item → more + number < length items
        → beside otherwise (at (suc (more + number))) (name_of item) ≡ (entry number item).1
    named-behind number zero item there less =
        ap (λ entries. beside otherwise entries (name_of item)) (ap at e ∙ step number item there)
        ∙ beside-first otherwise (entry number item) (at number) (name_of item) (named-so number item)
      where
        e : suc (zero + number) ≡ suc number
        e = omega arith
    named-behind number (suc more) item there less =
        let last = suc more + number in
        let e : last ≡ suc (more + number) = omega arith in
        let other = get_or items last item in
        let is = slice_get-get_or items last item less in
        ap (λ entries. beside otherwise entries (name_of item)) (step last other is)
        ∙ (beside-other otherwise (entry last other) (at last) (name_of item)
        (λ same. two-names last number (name_of other) (name_of item) (omega arith) (at-mapped name_of items last other is)
        (at-mapped name_of items number item there)
        (sym (named-so last other) ∙ same))
        ∙ (ap (λ n. beside otherwise (at n) (name_of item)) e ∙ named-behind number more item there (omega (arith, less))))

    -- at each later statement a name stands for what its statement declares
    pub named-later : (number declared : ℕ) (item : Item) → slice_get items declared ≡ Some item → declared < number
        → beside otherwise (at number) (name_of item) ≡ (entry declared item).1
    named-later number declared item there less = elim (cases_lt number (length items)) [
      | inl inside ↦
          let e : number ≡ suc (number - suc declared + declared) = omega (arith, less) in
          ap (λ n. beside otherwise (at n) (name_of item)) e
          ∙ named-behind declared (number - suc declared) item there (omega (arith, less, inside))
      | inr beyond ↦
          let within = slice_get_within items declared item there in
          let e : length items ≡ suc (length items - suc declared + declared) = omega (arith, within) in
          ap (λ entries. beside otherwise entries (name_of item)) (at-end number beyond)
          ∙ (ap (λ n. beside otherwise (at n) (name_of item)) e
          ∙ named-behind declared (length items - suc declared) item there (omega (arith, within)))
    ]

  -- behind the last statement there is nothing more
  behind-all : {X : Type 0} (f : List Item → X) (number : ℕ) → length items ≤ number → f (take number items) ≡ f (take (length items) items)
  behind-all f number less = ap f (take_all number items less ∙ sym (take_all (length items) items (omega arith)))

  -- the names, and their prices
  pub declared-named : (number declared : ℕ) (item : Item) → slice_get items declared ≡ Some item → declared < number
      → beside nameless (names_at items number) (name_of item) ≡ (named (names_at items declared) (next_at items declared) item).1
  declared-named =
      named-later nameless (names_at items) (λ number item. named (names_at items number) (next_at items number) item)
      (λ number item there. ap (λ scope. scope.names) (scope-step items number item there))
      (λ number item. named-so (names_at items number) (next_at items number) item)
      (λ number less. behind-all (λ front. (fold scope_after (record { names = []; next = first items }) front).names) number less)

  pub declared-priced : (number declared : ℕ) (item : Item) → slice_get items declared ≡ Some item → declared < number
      → price (prices_at items number) (name_of item) ≡ (priced (prices_at items declared) item).1
  declared-priced =
      named-later (stored []) (prices_at items) (λ number item. priced (prices_at items number) item)
      (λ number item there. fold-more prices_after [] items number item there ∙ prices-step (prices_at items number) item)
      (λ number item. priced-so (prices_at items number) item)
      (λ number less. behind-all (λ front. fold prices_after [] front) number less)

-- ---- the shapes of statements

-- the shape of a statement stands at its number
shape-row : (shapes : Shapes) (items : List Item) (number : ℕ) (item : Item) → slice_get items number ≡ Some item
    → slice_index_or (gathered (λ s i. shape_of_item s i ∷ []) shapes items) number []
    ≡ shape_of_item (fold shapes_after shapes (take number items)) item
shape-row shapes [] number item there = absurd (none-some item there)
shape-row shapes (front ∷ items) zero item there = ap (shape_of_item shapes) (same_Some front item there)
shape-row shapes (front ∷ items) (suc number) item there = shape-row (shapes_after shapes front) items number item there

shape-at : (checking : Checking) → IsChecked checking → (number : ℕ) (item : Item) → slice_get (items_in checking.pools) number ≡ Some item
    → slice_index_or checking.statement_shapes number [] ≡ shape_of_item (shapes_of (names_at (items_in checking.pools) number)) item
shape-at checking checked number item there =
    let items = items_in checking.pools in
    ap (λ shapes. slice_index_or shapes number []) checked.shapes_of_statements
    ∙ (shape-row [] items number item there ∙ ap (λ shapes. shape_of_item shapes item) (sym (shapes-at items number)))

-- ---- what each name means

module _ (shaped : StatementsHaveShapes) (checking : Checking) (program : IsProgram checking.pools) (checked : IsChecked checking)
    (differ : Differ (items_in checking.pools)) (tables : Tables)
    (rows : (number : ℕ) (item : Item) → slice_get (items_in checking.pools) number ≡ Some item
    → IsRow (items_in checking.pools) tables number item) where
  abbrev items : List Item
  items = items_in checking.pools

  abbrev Declares : ℕ → Item → Named
  Declares number item = (named (names_at items number) (next_at items number) item).1

  -- a statement that leads to itself
  own-meant : (number : ℕ) (given : Statement) → slice_get checking.pools.statements number ≡ Some given
      → IsMeant checking tables (Declares number (item_in checking.pools given)).form (meant_at number given)
  own-meant number (statement.Input name extents at) there =
      let item = item_in checking.pools (statement.Input name extents at) in
      let is = item-there checking.pools number (statement.Input name extents at) there in
      λ entries.
      ap (λ area. loading area (naturals (list_at checking.pools.numbers extents)) entries) (sym (rows number item is).area)
      ∙ ap (λ known. loading (area_at tables number) known entries) (sym (shape-at checking checked number item is))
  own-meant number (statement.Name name node at) there =
      let item = item_in checking.pools (statement.Name name node at) in
      let is = item-there checking.pools number (statement.Name name node at) there in (
        (shaped checking program checked number (statement.Name name node at) there).0,
        λ entries. ap (λ scan. form (names_at items number) scan (node_tree checking.pools node) entries) (sym (rows number item is).scan),
      )
  own-meant number (statement.Output name node at) there =
      let item = item_in checking.pools (statement.Output name node at) in
      let is = item-there checking.pools number (statement.Output name node at) there in
      λ entries.
      let shape = shape_of (shapes_of (names_at items number)) (node_tree checking.pools node) in
      ap (λ area. loading area shape entries) (sym (rows number item is).area)
      ∙ ap (λ known. loading (area_at tables number) known entries) (sym (shape-at checking checked number item is))

  -- a statement that leads to itself, or where an earlier one leads
  meant-step : (number : ℕ) (item : Item) (given : Statement)
      → ((other : ℕ) (name : List ℕ) → other < number → IsDeclared items other name
      → slice_get checking.pools.statements (end_at tables other) ≡ Some given
      → IsMeant checking tables (beside nameless (names_at items number) name).form (meant_at (end_at tables other) given))
      → slice_get items number ≡ Some item → slice_get checking.pools.statements (end_at tables number) ≡ Some given
      → IsEnd items tables.ends number (end_at tables number)
      → IsMeant checking tables (Declares number item).form (meant_at (end_at tables number) given)
  meant-step number item given earlier is there (inl own) =
      let here = subst (λ n. slice_get checking.pools.statements n ≡ Some given) own there in
      let same = same_Some (item_in checking.pools given) item (sym (item-there checking.pools number given here) ∙ is) in
      subst (λ n. IsMeant checking tables (Declares number item).form (meant_at n given)) (sym own)
      (subst (λ i. IsMeant checking tables (Declares number i).form (meant_at number given)) same (own-meant number given here))
  meant-step number item given earlier is there (inr renamed) =
      let let-of = Let renamed.name (Use renamed.other) in
      let same : let-of ≡ item = same_Some let-of item (sym renamed.same ∙ is) in
      subst (λ n. IsMeant checking tables (Declares number item).form (meant_at n given)) (sym renamed.leads)
      (subst (λ i. IsMeant checking tables (Declares number i).form (meant_at (end_at tables renamed.declared) given)) same
      (earlier renamed.declared renamed.other renamed.before renamed.declares
      (subst (λ n. slice_get checking.pools.statements n ≡ Some given) renamed.leads there)))

  -- a name means what its statement leads to
  pub declared-meant : (bound number declared : ℕ) (name : List ℕ) (given : Statement) → declared < bound → declared < number
      → IsDeclared items declared name → slice_get checking.pools.statements (end_at tables declared) ≡ Some given
      → IsMeant checking tables (beside nameless (names_at items number) name).form (meant_at (end_at tables declared) given)
  declared-meant zero number declared name given few less is there = absurd (omega (arith, few))
  declared-meant (suc bound) number declared name given few less is there =
      let found = mapped-at name_of items declared name is in
      let item = found.0 in
      let known = ap (λ n. beside nameless (names_at items number) n) (sym found.2) ∙ declared-named items differ number declared item found.1 less in
      subst (λ n. IsMeant checking tables n.form (meant_at (end_at tables declared) given)) (sym known)
      (meant-step declared item given
      (λ other same before declares leads. declared-meant bound declared other same given (omega (arith, few, before)) before declares leads)
      found.1 there (rows declared item found.1).ends)
