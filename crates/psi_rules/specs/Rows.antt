-- How the tables of a program are filled, one statement after another. This project's own.
use Rattle.std.specs.Prelude.{◌≡◌, ℕ, ◌<◌, ◌⊎◌, List, [], ◌∷◌, ◌++◌, drop, length, map, replicate, slice_get, slice_index_or, IsSome, Some}
use Rattle.std.specs.Map.{lookup}
use Rattle.std.specs.Str.{bytes_eq}
use Rattle.indexmap.specs.IndexMap.{insert_entry}
use Rattle.moa_tree.specs.declared.tree.Statement.{Statement}
use Rattle.moa_tree.specs.Expr.{Use, Item, Input, Let, Output}
use Rattle.moa_tree.specs.Pool.{item_of, trees}
use Rattle.moa_tree.specs.Pools.{Pools}
use Rattle.shape_check.specs.Layout.{name_of}
use Rattle.psi_rules.specs.declared.statements.NextAreas.{NextAreas}
use Rattle.psi_rules.specs.Jobs.{Next}
use Rattle.psi_rules.specs.Scopes.{next_at, owned, owned_from}
use Rattle.psi_rules.specs.Tables.{Tables, area_at, end_at, scan_at}

-- ---- what is added to tables

abbrev pub with_row : Tables → ℕ → ℕ → ℕ → Tables
with_row tables scan area end = record tables { scans = tables.scans ++ scan ∷ []; areas = tables.areas ++ area ∷ []; ends = tables.ends ++ end ∷ [] }

abbrev pub with_name : Tables → List ℕ → ℕ → Tables
with_name tables name number = record tables { numbers = insert_entry bytes_eq tables.numbers name number }

abbrev pub with_jobs : Tables → ℕ → ℕ → Tables
with_jobs tables number count = record tables { owners = tables.owners ++ replicate count number }

-- ---- a statement

-- the areas that come next, as numbers
abbrev pub counted : NextAreas → Next
counted next = record { input = next.input; output = next.output; scan = next.scan }

-- the statement over the pools
abbrev pub item_in : Pools → Statement → Item
item_in pools statement = item_of pools.numbers (trees pools.numbers pools.nodes) statement

-- the area of its array, where it is stored
abbrev pub own_area : Next → Item → ℕ
own_area next (Input name extents) = next.input
own_area next (Let name of) = 0
own_area next (Output name of) = next.output

-- the statement of this number declares this name
abbrev pub IsDeclared : List Item → ℕ → List ℕ → Type 0
IsDeclared items number name = slice_get (map name_of items) number ≡ Some name

-- a let whose expression is the name of an earlier statement leads where that one leads
pub record IsRenamed (items : List Item) (ends : List ℕ) (number end : ℕ) : Type 0 where
  pub name : List ℕ
  pub other : List ℕ
  pub declared : ℕ
  pub same : slice_get items number ≡ Some (Let name (Use other))
  pub declares : IsDeclared items declared other
  pub before : declared < number
  pub leads : end ≡ slice_index_or ends declared declared

-- where a statement leads: nowhere but to itself, or where an earlier one leads
abbrev pub IsEnd : List Item → List ℕ → ℕ → ℕ → Type 0
IsEnd items ends number end = (end ≡ number) ⊎ IsRenamed items ends number end

-- ---- all statements before one

-- the names are those of statements before this one
abbrev pub AreDeclared : List Item → ℕ → List (List ℕ × ℕ) → Type 0
AreDeclared items number numbers = (name : List ℕ) (declared : ℕ) → lookup (bytes_eq name) numbers ≡ Some declared
    → (declared < number) × IsDeclared items declared name

-- what the tables hold of a statement
pub record IsRow (items : List Item) (tables : Tables) (number : ℕ) (item : Item) : Type 0 where
  pub scan : scan_at tables number ≡ (next_at items number).scan
  pub area : area_at tables number ≡ own_area (next_at items number) item
  pub ends : IsEnd items tables.ends number (end_at tables number)

-- the tables hold the statements before this one, and what is left of the jobs are those of the statements that are left
pub record IsFilled (items : List Item) (number : ℕ) (tables : Tables) (next : Next) : Type 0 where
  pub reached : next ≡ next_at items number
  pub scans : length tables.scans ≡ number
  pub areas : length tables.areas ≡ number
  pub ends : length tables.ends ≡ number
  pub rows : (before : ℕ) (item : Item) → slice_get items before ≡ Some item → before < number → IsRow items tables before item
  pub names : AreDeclared items number tables.numbers
  pub all_named : (before : ℕ) (name : List ℕ) → IsDeclared items before name → before < number → IsSome (lookup (bytes_eq name) tables.numbers)
  pub owners : tables.owners ++ map (λ o. o.statement) (owned_from number next (drop number items)) ≡ map (λ o. o.statement) (owned items)
