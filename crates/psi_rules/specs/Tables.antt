-- What is known of the nodes and the statements of a program's pools before forms are built. This project's own.
use Rattle.std.specs.Prelude.{◌≡◌, ℕ, ◌+◌, ◌<◌, ◌≤◌, true, List, [], ◌∷◌, length, map, slice_get, slice_index_or, Some, ⊤}
use Rattle.std.specs.List.{AllByRecursion}
use Rattle.std.specs.Map.{lookup}
use Rattle.std.specs.Str.{bytes_eq}
use Rattle.moa_tree.specs.declared.tree.Statement.{Statement}
use Rattle.moa_tree.specs.declared.tree.Statement.TheVariants as statement
use Rattle.moa_tree.specs.Pool.{walk_of}
use Rattle.moa_tree.specs.Pools.{Pools}
use Rattle.moa_tree.specs.ShapeOf.{beside}
use Rattle.moa_tree.specs.Subexpressions.{scans_in}
use Rattle.shape_check.specs.Costs.{nodes, price}
use Rattle.normal_form.specs.declared.entry.Entry.{Entry}
use Rattle.normal_form.specs.Formers.{Former}
use Rattle.shape_check.specs.Judged.{items_in, node_tree}
use Rattle.shape_check.specs.Kept.{Checking}
use Rattle.shape_check.specs.Rules.{is_declared}
use Rattle.psi_rules.specs.Numbered.{greatest_area, prices_at}
use Rattle.psi_rules.specs.Operands.{IsAccepted}
use Rattle.psi_rules.specs.declared.tables.Meant.{Meant}
use Rattle.psi_rules.specs.declared.tables.Meant.TheVariants as meant
use Rattle.psi_rules.specs.Rules.{Names, form, loading, nameless, shape_in, shapes_of}
use Rattle.psi_rules.specs.Scopes.{names_at, next_at, owned}

-- by the number of a statement, the area of its first scan, that of its array, where it is stored, and the statement to which its name leads
-- through names of names; by names, the numbers of their statements; by the number of a job, that of its statement
pub record Tables : Type 0 where
  pub scans : List ℕ
  pub areas : List ℕ
  pub ends : List ℕ
  pub numbers : List (List ℕ × ℕ)
  pub owners : List ℕ

-- what the tables tell of a statement or a job of this number
abbrev pub scan_at : Tables → ℕ → ℕ
scan_at tables number = slice_index_or tables.scans number 0

abbrev pub area_at : Tables → ℕ → ℕ
area_at tables number = slice_index_or tables.areas number 0

abbrev pub owner_at : Tables → ℕ → ℕ
owner_at tables number = slice_index_or tables.owners number 0

abbrev pub end_at : Tables → ℕ → ℕ
end_at tables number = slice_index_or tables.ends number number

-- the array that a statement gives to its name: one that is stored, or that of an expression
abbrev pub meant_at : ℕ → Statement → Meant
meant_at number (statement.Input name extents at) = meant.Stored number
meant_at number (statement.Name name node at) = meant.Given number node
meant_at number (statement.Output name node at) = meant.Stored number

-- a statement and a node that are there, of a statement before this one
abbrev pub IsBefore : Pools → ℕ → Meant → Type 0
IsBefore pools number (meant.Stored other) = other < length pools.statements
IsBefore pools number (meant.Given other node) = (other < number) × (node < length pools.nodes)

-- a node has the shape of its expression among these names
abbrev pub HasShape : Checking → Names → ℕ → Type 0
HasShape checking names number = slice_index_or checking.shapes number [] ≡ shape_in names (node_tree checking.pools number)

-- a node is there, and each node of its expression has its shape
pub record HasShapes (checking : Checking) (names : Names) (number : ℕ) : Type 0 where
  pub there : number < length checking.pools.nodes
  pub shape : HasShape checking names number
  pub shapes : AllByRecursion (HasShape checking names) (walk_of checking.pools.nodes number)

-- the same of some nodes of a statement, among the names before it
abbrev pub HaveShapes : Checking → ℕ → List ℕ → Type 0
HaveShapes checking number nodes = AllByRecursion (HasShapes checking (names_at (items_in checking.pools) number)) nodes

-- a former is that of an array: a load of its area, or the form of its expression among the names before it
abbrev pub IsMeant : Checking → Tables → Former → Meant → Type 0
IsMeant checking tables former (meant.Stored number) =
    (entries : List Entry) → former entries ≡ loading (area_at tables number) (slice_index_or checking.statement_shapes number []) entries
IsMeant checking tables former (meant.Given number node) =
    HasShapes checking (names_at (items_in checking.pools) number) node
    × ((entries : List Entry) → former entries
    ≡ form (names_at (items_in checking.pools) number) (scan_at tables number) (node_tree checking.pools node) entries)

-- the expression of a node of a statement is accepted there, with this shape and so many nodes, and the areas of its scans have numbers
pub record IsGiven (checking : Checking) (tables : Tables) (shape : List ℕ) (count other node : ℕ) : Type 0 where
  pub accepted : IsAccepted (shapes_of (names_at (items_in checking.pools) other)) (node_tree checking.pools node)
  pub shaped : shape_in (names_at (items_in checking.pools) other) (node_tree checking.pools node) ≡ shape
  pub counted : nodes (prices_at (items_in checking.pools) other) (node_tree checking.pools node) ≡ count
  pub areas : scan_at tables other + length (scans_in (node_tree checking.pools node)) ≤ greatest_area

abbrev pub IsMeantSo : Checking → Tables → List ℕ → ℕ → Meant → Type 0
IsMeantSo checking tables shape count (meant.Stored other) = count ≡ 1
IsMeantSo checking tables shape count (meant.Given other node) = IsGiven checking tables shape count other node

-- what a name of a statement stands for has the shape and the count of nodes that the name has there
abbrev pub IsNameMeantSo : Checking → Tables → ℕ → List ℕ → Meant → Type 0
IsNameMeantSo checking tables number name meant =
    IsMeantSo checking tables (beside [] (shapes_of (names_at (items_in checking.pools) number)) name)
    (price (prices_at (items_in checking.pools) number) name).nodes meant

-- a name of a statement is that of an earlier one, and so leads to an earlier one
pub record IsKnown (checking : Checking) (tables : Tables) (number : ℕ) (name : List ℕ) : Type 0 where
  pub declared : ℕ
  pub found : lookup (bytes_eq name) tables.numbers ≡ Some declared
  pub before : declared < number
  pub earlier : end_at tables declared < number
  pub there : end_at tables declared < length checking.pools.statements
  pub so : (statement : Statement) → slice_get checking.pools.statements (end_at tables declared) ≡ Some statement
      → IsNameMeantSo checking tables number name (meant_at (end_at tables declared) statement)

-- each name that is declared before a statement is known there
abbrev pub AreKnown : Checking → Tables → Type 0
AreKnown checking tables = (number : ℕ) (name : List ℕ)
    → is_declared (shapes_of (names_at (items_in checking.pools) number)) name ≡ true → IsKnown checking tables number name

-- an earlier name stands for the array of the statement to which it leads
abbrev pub AreMeant : Checking → Tables → Type 0
AreMeant checking tables = (number declared : ℕ) (name : List ℕ) (statement : Statement)
    → lookup (bytes_eq name) tables.numbers ≡ Some declared → declared < number
    → slice_get checking.pools.statements (end_at tables declared) ≡ Some statement
    → IsMeant checking tables (beside nameless (names_at (items_in checking.pools) number) name).form (meant_at (end_at tables declared) statement)

-- these are the names before a statement, and what each of them means is known
pub record IsScope (checking : Checking) (tables : Tables) (number : ℕ) (names : Names) : Type 0 where
  pub names_before : names ≡ names_at (items_in checking.pools) number
  pub meant : AreMeant checking tables
  pub known : AreKnown checking tables

-- the form of a node of a statement can be built: each node of its expression has its shape, and what each name means is known
pub record IsReady (checking : Checking) (tables : Tables) (statement : ℕ) (names : Names) (number : ℕ) : Type 0 where
  pub nodes : HasShapes checking names number
  pub scope : IsScope checking tables statement names

-- the same of some nodes
abbrev pub AreReady : Checking → Tables → ℕ → Names → List ℕ → Type 0
AreReady checking tables statement names [] = ⊤
AreReady checking tables statement names (of ∷ others) =
    IsReady checking tables statement names of × AreReady checking tables statement names others

-- the tables are those of a program: they tell the first scan of each statement, the statement of each job, and what each name means
pub record AreTables (checking : Checking) (tables : Tables) : Type 0 where
  pub scans : (number : ℕ) → number < length checking.pools.statements → scan_at tables number ≡ (next_at (items_in checking.pools) number).scan
  pub owners : tables.owners ≡ map (λ o. o.statement) (owned (items_in checking.pools))
  pub meant : AreMeant checking tables
  pub known : AreKnown checking tables
