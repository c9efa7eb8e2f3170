-- The tables of a program know each name that is declared, and with it the shape and the count of nodes that the name has.
use Rattle.std.specs.Prelude.{◌≡◌, ℕ, zero, suc, ◌<◌, ◌≤◌, ◌⊎◌, Bool, true, false, cond, ◌||◌, List, [], ◌∷◌, length, map, take}
use Rattle.std.specs.Prelude.{slice_get, IsSome, Option, None, Some, Ok}
use Rattle.std.specs.List.{fold}
use Rattle.std.specs.Map.{lookup}
use Rattle.std.specs.Str.{bytes_eq}
use Rattle.std.proofs.Common.{refl, ap, sym, subst, ◌∙◌, arith, inl, inr, get_or}
use Rattle.std.proofs.lemmas.Bool.{cases_lt, false≢true}
use Rattle.std.proofs.lemmas.List.{length-map}
use Rattle.std.proofs.lemmas.Option.{none-some, same_Some, slice_get-get_or, slice_get_within}
use Rattle.std.proofs.lemmas.Slice.Eq.{bytes_eq-Decides}
use Rattle.shapes_core.specs.Limits.{greatest_size, greatest_work, most_items, most_words}
use Rattle.moa_tree.specs.declared.tree.Statement.{Statement}
use Rattle.moa_tree.specs.declared.tree.Statement.TheVariants as statement
use Rattle.moa_tree.specs.Expr.{Use, Item, Input, Let, Output}
use Rattle.moa_tree.specs.Pool.{item_of, trees}
use Rattle.moa_tree.specs.Pools.{IsProgram}
use Rattle.moa_tree.specs.ShapeOf.{Shapes, beside}
use Rattle.shape_check.specs.Costs.{job_size, price, size, sum_over, work}
use Rattle.shape_check.specs.Judged.{items_in}
use Rattle.shape_check.specs.Kept.{Checking, IsChecked}
use Rattle.shape_check.specs.Layout.{name_of, shapes_after, words}
use Rattle.shape_check.specs.Rules.{is_declared}
use Rattle.shape_check.specs.Statements.{verdict_of}
use Rattle.psi_rules.specs.Jobs.{Next, named}
use Rattle.psi_rules.specs.Rows.{IsDeclared, IsEnd, IsFilled, IsRow, item_in}
use Rattle.psi_rules.specs.Rules.{Names, nameless, shapes_of}
use Rattle.psi_rules.specs.Numbered.{prices_at}
use Rattle.psi_rules.specs.Scopes.{names_at, next_at}
use Rattle.psi_rules.specs.Tables.{AreKnown, AreTables, IsMeantSo, IsNameMeantSo, Tables, end_at, meant_at}
use Rattle.psi_rules.proofs.CountLemmas.{accepted-at, areas-at}
use Rattle.psi_rules.proofs.JobLemmas.{AcceptsEach, accepted-shapes}
use Rattle.psi_rules.proofs.ListLemmas.{mapped-at}
use Rattle.psi_rules.proofs.MeantLemmas.{Differ, StatementsHaveShapes, declared-meant, declared-named, declared-priced, priced, two-names}
use Rattle.psi_rules.proofs.RowLemmas.{all-owned, item-there}
use Rattle.psi_rules.proofs.ScopeLemmas.{shapes-at}

-- the shape of what stands beside a name
beside-shape : (names : Names) (name : List ℕ) → (beside nameless names name).shape ≡ beside [] (shapes_of names) name
beside-shape [] name = refl
beside-shape (entry ∷ names) name = by (bytes_eq entry.0 name) (beside-shape names name)
  where
    by : (b : Bool) → (beside nameless names name).shape ≡ beside [] (shapes_of names) name
        → (cond b entry.1 (beside nameless names name)).shape ≡ cond b entry.1.shape (beside [] (shapes_of names) name)
    by true e = refl
    by false e = e

-- ---- a name that is declared

-- among some names, or by one of these statements
abbrev Declaring : List Item → List ℕ → Type 0
Declaring items name = (number : ℕ) × (slice_get (map name_of items) number ≡ Some name)

declared-in : (shapes : Shapes) (items : List Item) (name : List ℕ) → is_declared (fold shapes_after shapes items) name ≡ true
    → (is_declared shapes name ≡ true) ⊎ Declaring items name
declared-in shapes [] name h = inl h
declared-in shapes (item ∷ items) name h = elim (declared-in (shapes_after shapes item) items name h) [
  | inl early ↦ by (bytes_eq (name_of item) name) refl early
  | inr later ↦ inr (suc later.0, later.1)
]
  where
    by : (b : Bool) → bytes_eq (name_of item) name ≡ b → (b || is_declared shapes name) ≡ true
        → (is_declared shapes name ≡ true) ⊎ Declaring (item ∷ items) name
    by true same h = inr (0, ap (λ n. Some n) ((bytes_eq-Decides (name_of item) name).0 same))
    by false other h = inl h

-- one of the first items of a list
taken-get : {X : Type 0} (f : Item → X) (number : ℕ) (items : List Item) (k : ℕ) (x : X) → slice_get (map f (take number items)) k ≡ Some x
    → (k < number) × (slice_get (map f items) k ≡ Some x)
taken-get f zero [] k x e = absurd (none-some x e)
taken-get f zero (item ∷ items) k x e = absurd (none-some x e)
taken-get f (suc number) [] k x e = absurd (none-some x e)
taken-get f (suc number) (item ∷ items) zero x e = (omega arith, e)
taken-get f (suc number) (item ∷ items) (suc k) x e =
    let rest = taken-get f number items k x e in (omega (arith, rest.0), rest.1)

declared-before : (items : List Item) (number : ℕ) (name : List ℕ) → is_declared (shapes_of (names_at items number)) name ≡ true
    → (k : ℕ) × ((k < number) × IsDeclared items k name)
declared-before items number name h =
    elim (declared-in [] (take number items) name (subst (λ shapes. is_declared shapes name ≡ true) (shapes-at items number) h)) [
      | inl none ↦ absurd (false≢true none)
      | inr found ↦ (found.0, taken-get name_of number items found.0 name found.1)
    ]

found-so : (o : Option ℕ) → IsSome o → (x : ℕ) × (o ≡ Some x)
found-so None h = absurd (false≢true h)
found-so (Some x) h = (x, refl)

-- ---- what a name means

module _ (checking : Checking) (lets : AcceptsEach Let) (outputs : AcceptsEach Output) (shapes : Shapes)
    (ok : verdict_of (items_in checking.pools) ≡ Ok shapes) (differ : Differ (items_in checking.pools))
    (few : length (items_in checking.pools) ≤ most_items) (small : sum_over job_size [] (items_in checking.pools) ≤ greatest_size) (tables : Tables)
    (rows : (number : ℕ) (item : Item) → slice_get (items_in checking.pools) number ≡ Some item
    → IsRow (items_in checking.pools) tables number item) where
  abbrev items : List Item
  items = items_in checking.pools

  -- a statement leads no further than to itself
  end-no-later : (bound number : ℕ) (item : Item) → number < bound → slice_get items number ≡ Some item → end_at tables number ≤ number
  end-no-later zero number item less there = absurd (omega (arith, less))
  end-no-later (suc bound) number item less there = elim (rows number item there).ends [
    | inl own ↦ omega (arith, own)
    | inr renamed ↦
        let found = mapped-at name_of items renamed.declared renamed.other renamed.declares in
        let rest = end-no-later bound renamed.declared found.0 (omega (arith, less, renamed.before)) found.1 in
        omega (arith, renamed.leads, rest, renamed.before)
  ]

  -- the shape of what a statement declares, and what is said of where it leads
  abbrev declared_shape : ℕ → Item → List ℕ
  declared_shape number item = (named (names_at items number) (next_at items number) item).1.shape

  abbrev Said : ℕ → Item → ℕ → Statement → Type 0
  Said number item end given =
      IsMeantSo checking tables (declared_shape number item) (priced (prices_at items number) item).1.nodes (meant_at end given)

  own-so : (number : ℕ) (given : Statement) → slice_get checking.pools.statements number ≡ Some given
      → Said number (item_in checking.pools given) number given
  own-so number (statement.Input name extents at) there = refl
  own-so number (statement.Name name node at) there =
      let item = item_in checking.pools (statement.Name name node at) in
      let is = item-there checking.pools number (statement.Name name node at) there in
      let areas = (areas-at items number item few small is).scan in
      record {
        accepted = accepted-at lets outputs items shapes number item ok is;
        shaped = refl;
        counted = refl;
        areas = omega (arith, (rows number item is).scan, areas);
      }
  own-so number (statement.Output name node at) there = refl

  -- what is said of an earlier statement is said of its name
  name-so : (number declared end : ℕ) (item : Item) (name : List ℕ) (given : Statement) → slice_get items declared ≡ Some item → declared < number
      → name_of item ≡ name → Said declared item end given → IsNameMeantSo checking tables number name (meant_at end given)
  name-so number declared end item name given there less same h =
      subst (λ n. IsNameMeantSo checking tables number n (meant_at end given)) same
      (subst (λ shape. IsMeantSo checking tables shape (price (prices_at items number) (name_of item)).nodes (meant_at end given))
      (beside-shape (names_at items number) (name_of item))
      (subst (λ n. IsMeantSo checking tables (beside nameless (names_at items number) (name_of item)).shape n.nodes (meant_at end given))
      (sym (declared-priced items differ number declared item there less))
      (subst (λ n. IsMeantSo checking tables n.shape (priced (prices_at items declared) item).1.nodes (meant_at end given))
      (sym (declared-named items differ number declared item there less)) h)))

  said-step : (number : ℕ) (item : Item) (given : Statement)
      → ((other : ℕ) (name : List ℕ) → other < number → IsDeclared items other name
      → slice_get checking.pools.statements (end_at tables other) ≡ Some given
      → IsNameMeantSo checking tables number name (meant_at (end_at tables other) given))
      → slice_get items number ≡ Some item → slice_get checking.pools.statements (end_at tables number) ≡ Some given
      → IsEnd items tables.ends number (end_at tables number) → Said number item (end_at tables number) given
  said-step number item given earlier is there (inl own) =
      let here = subst (λ n. slice_get checking.pools.statements n ≡ Some given) own there in
      let same = same_Some (item_in checking.pools given) item (sym (item-there checking.pools number given here) ∙ is) in
      subst (λ n. Said number item n given) (sym own) (subst (λ i. Said number i number given) same (own-so number given here))
  said-step number item given earlier is there (inr renamed) =
      let let-of = Let renamed.name (Use renamed.other) in
      let same : let-of ≡ item = same_Some let-of item (sym renamed.same ∙ is) in
      subst (λ n. Said number item n given) (sym renamed.leads)
      (subst (λ i. Said number i (end_at tables renamed.declared) given) same
      (earlier renamed.declared renamed.other renamed.before renamed.declares
      (subst (λ n. slice_get checking.pools.statements n ≡ Some given) renamed.leads there)))

  declared-so : (bound number declared : ℕ) (name : List ℕ) (given : Statement) → declared < bound → declared < number
      → IsDeclared items declared name → slice_get checking.pools.statements (end_at tables declared) ≡ Some given
      → IsNameMeantSo checking tables number name (meant_at (end_at tables declared) given)
  declared-so zero number declared name given less before is there = absurd (omega (arith, less))
  declared-so (suc bound) number declared name given less before is there =
      let found = mapped-at name_of items declared name is in
      let item = found.0 in
      name-so number declared (end_at tables declared) item name given found.1 before found.2
      (said-step declared item given
      (λ other same earlier declares leads. declared-so bound declared other same given (omega (arith, less, earlier)) earlier declares leads)
      found.1 there (rows declared item found.1).ends)

  -- a name that is declared before a statement is known there
  module _ (all_named : (before : ℕ) (name : List ℕ) → IsDeclared items before name → before < length items
      → IsSome (lookup (bytes_eq name) tables.numbers))
      (names : (name : List ℕ) (declared : ℕ) → lookup (bytes_eq name) tables.numbers ≡ Some declared → IsDeclared items declared name) where
    pub are-known : AreKnown checking tables
    are-known number name h =
        let here = declared-before items number name h in
        let k = here.0 in
        let within = slice_get_within (map name_of items) k name here.1.1 in
        let count = length-map items name_of in
        let found = found-so (lookup (bytes_eq name) tables.numbers) (all_named k name here.1.1 (omega (arith, within, count))) in
        let declared = found.0 in
        let is = names name declared found.1 in
        let item = mapped-at name_of items declared name is in
        let inside = slice_get_within items declared item.0 item.1 in
        let before : declared < number = only declared k name here.1.0 is here.1.1 in
        let end = end-no-later (suc declared) declared item.0 (omega arith) item.1 in
        let same : length items ≡ length checking.pools.statements =
        length-map checking.pools.statements (item_of checking.pools.numbers (trees checking.pools.numbers checking.pools.nodes)) in
        record {
          declared = declared;
          found = found.1;
          before = before;
          earlier = omega (arith, end, before);
          there = omega (arith, end, inside, same);
          so = λ given there. declared-so (suc declared) number declared name given (omega arith) before is there;
        }
      where
        only : (declared k : ℕ) (name : List ℕ) → k < number → IsDeclared items declared name → IsDeclared items k name → declared < number
        only declared k name less is other = elim (cases_lt declared number) [
          | inl lower ↦ lower
          | inr higher ↦ absurd (two-names items differ declared k name name (omega (arith, less, higher)) is other refl)
        ]

-- tables that hold all statements of a checked program are its tables
pub are-tables : StatementsHaveShapes → ((items : List Item) (shapes : Shapes) → verdict_of items ≡ Ok shapes → Differ items)
    → AcceptsEach Let → AcceptsEach Output
    → ((items : List Item) (shapes : Shapes) → verdict_of items ≡ Ok shapes
    → (size items ≤ greatest_size) × (work items ≤ greatest_work) × (words items ≤ most_words))
    → (checking : Checking) → IsProgram checking.pools → IsChecked checking
    → (tables : Tables) (next : Next) → IsFilled (items_in checking.pools) (length checking.pools.statements) tables next → AreTables checking tables
are-tables shaped apart lets outputs limits checking program checked tables next filled =
    let items = items_in checking.pools in
    let ok = accepted-shapes (verdict_of items) checked.accepted in
    let differ = apart items ok.0 ok.1 in
    let all : length items ≡ length checking.pools.statements =
    length-map checking.pools.statements (item_of checking.pools.numbers (trees checking.pools.numbers checking.pools.nodes)) in
    let rows : (number : ℕ) (item : Item) → slice_get items number ≡ Some item → IsRow items tables number item =
    (λ number item there. let within = slice_get_within items number item there in filled.rows number item there (omega (arith, within, all))) in
    let few : length items ≤ most_items = let most = program.few in omega (arith, most, all) in
    record {
      scans = λ number less.
          (rows number (get_or items number (Input [] [])) (slice_get-get_or items number (Input [] []) (omega (arith, less, all)))).scan;
      owners = all-owned items (length checking.pools.statements) tables next all filled;
      meant = λ number declared name given found less there.
          declared-meant shaped checking program checked differ tables rows (suc declared) number declared name given (omega arith) less
          (filled.names name declared found).1 there;
      known = are-known checking lets outputs ok.0 ok.1 differ few (limits items ok.0 ok.1).0 tables rows
          (λ before name is less. filled.all_named before name is (omega (arith, less, all)))
          (λ name declared found. (filled.names name declared found).1);
    }
