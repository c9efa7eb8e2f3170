-- What fits where a form is built: constants in 64 bits, and numbers of areas, terms and variables in 32. This project's own.
use Rattle.std.specs.Prelude.{◌≡◌, ℕ, ◌+◌, ◌-◌, ◌*◌, ◌<◌, ◌≤◌, pos, negsuc, FitsSigned, List, length, reverse, take, ⊤}
use Rattle.std.specs.Int.{w64}
use Rattle.std.specs.List.{AllByRecursion, AllZip}
use Rattle.shapes_core.specs.Limits.{greatest_extent, most_items}
use Rattle.shapes_core.specs.Shape.{IsShape, total}
use Rattle.moa_tree.specs.Expr.{Expr, Item}
use Rattle.moa_tree.specs.Subexpressions.{scans_in}
use Rattle.shape_check.specs.Costs.{nodes}
use Rattle.shape_check.specs.Judged.{items_in}
use Rattle.shape_check.specs.Kept.{Checking}
use Rattle.normal_form.specs.declared.entry.Entry.{Entry}
use Rattle.normal_form.specs.declared.entry.Entry.TheVariants.{At, Plus, Minus}
use Rattle.normal_form.specs.Cutting.{Scope}
use Rattle.normal_form.specs.Keeps.{AreWithin, IsWithin}
use Rattle.normal_form.specs.Moves.{behind_entry}
use Rattle.psi_rules.specs.declared.digits.Digited.{Digited}
use Rattle.psi_rules.specs.declared.digits.Digited.TheVariants as digited
use Rattle.psi_rules.specs.declared.sides.Side.{Side}
use Rattle.psi_rules.specs.declared.sides.Side.TheVariants as side
use Rattle.psi_rules.specs.declared.turns.Turned.{Turned}
use Rattle.psi_rules.specs.declared.turns.Turned.TheVariants as turned_entry
use Rattle.psi_rules.specs.Keeping.{HasRoom}
use Rattle.psi_rules.specs.Numbered.{greatest_area, prices_at}
use Rattle.psi_rules.specs.Operands.{IsAccepted}
use Rattle.psi_rules.specs.Rules.{shape_in, shapes_of}
use Rattle.psi_rules.specs.Scopes.{names_at}
use Rattle.psi_rules.specs.Tables.{IsReady, Tables}

-- the constant of an entry fits 64 bits
abbrev pub IsFit : Entry → Type 0
IsFit (At constant) = FitsSigned w64 constant
IsFit (Plus var add) = FitsSigned w64 add
IsFit (Minus var add) = FitsSigned w64 add

-- extents of a shape
abbrev pub AreExtents : List ℕ → Type 0
AreExtents extents = AllByRecursion (λ n. n ≤ greatest_extent) extents

-- a constant is a place among n
abbrev pub IsPlace : Entry → ℕ → Type 0
IsPlace (At (pos constant)) n = constant < n
IsPlace (At (negsuc constant)) n = ⊥
IsPlace (Plus var add) n = ⊤
IsPlace (Minus var add) n = ⊤

-- each constant of these entries is a place on its axis
abbrev pub ArePlaces : List Entry → List ℕ → Type 0
ArePlaces entries shape = AllZip IsPlace entries shape

-- ---- the form of an expression

-- at most so many terms and variables are made for the expression of a statement: a node adds fewer than 16, most of them where a reshape binds
-- an offset and six digits
abbrev pub cost : List Item → ℕ → Expr → ℕ
cost items statement expr = 16 * nodes (prices_at items statement) expr

-- An expression of a statement that is accepted, and entries of its shape, whose constants leave room for those that its nodes add. The areas of
-- its scans have numbers, from the first one's on, and so have the terms and variables that it adds to those that are used.
pub record Fits (items : List Item) (statement scan count : ℕ) (expr : Expr) (entries : List Entry) : Type 0 where
  pub accepted : IsAccepted (shapes_of (names_at items statement)) expr
  pub areas : scan + length (scans_in expr) ≤ greatest_area
  pub terms : count + cost items statement expr ≤ most_items
  pub room : ℕ
  pub known : Scope
  pub roomy : HasRoom room (nodes (prices_at items statement) expr)
  pub within : AreWithin room known entries (shape_in (names_at items statement) expr)

-- the same of an operand that is to have another shape
pub record FitsIn (items : List Item) (statement scan count : ℕ) (operand : Expr) (shape : List ℕ) (entries : List Entry) : Type 0 where
  pub accepted : IsAccepted (shapes_of (names_at items statement)) operand
  pub areas : scan + length (scans_in operand) ≤ greatest_area
  pub terms : count + (16 + cost items statement operand) ≤ most_items
  pub shaped : IsShape shape
  pub same : total shape ≡ total (shape_in (names_at items statement) operand)
  pub room : ℕ
  pub known : Scope
  pub roomy : HasRoom room (nodes (prices_at items statement) operand)
  pub within : AreWithin room known entries shape

-- the same of an operand, from an axis on, of whose elements the offset is known, and the entries of the axes before that one, the last first
pub record FitsAt (items : List Item) (statement scan count : ℕ) (operand : Expr) (axis : ℕ) (flat : Entry) (found : List Entry) : Type 0 where
  pub accepted : IsAccepted (shapes_of (names_at items statement)) operand
  pub areas : scan + length (scans_in operand) ≤ greatest_area
  pub terms : count + (2 * (length (shape_in (names_at items statement) operand) - axis) + cost items statement operand) ≤ most_items
  pub room : ℕ
  pub known : Scope
  pub roomy : HasRoom room (nodes (prices_at items statement) operand)
  pub offset : IsWithin room known flat (total (shape_in (names_at items statement) operand))
  pub within : AreWithin room known (reverse found) (take axis (shape_in (names_at items statement) operand))

-- ---- what is known where the form of a node of a statement is built

abbrev pub IsReadyHere : Checking → Tables → ℕ → ℕ → Type 0
IsReadyHere checking tables statement number = IsReady checking tables statement (names_at (items_in checking.pools) statement) number

-- the parts of a join that an entry reaches, of n items and of m: it is within each of them
abbrev pub IsWithinSide : Side → ℕ → Scope → ℕ → ℕ → Entry → Type 0
IsWithinSide side.First room known n m entry = IsWithin room known entry n
IsWithinSide side.Second room known n m entry = IsWithin (room + greatest_extent) known (behind_entry n entry) m
IsWithinSide side.Both room known n m entry =
    IsWithin room known entry n × IsWithin (room + greatest_extent) known (behind_entry n entry) m

-- what is found of an entry of an axis of n items is one
abbrev pub IsDigitWithin : Digited → ℕ → Scope → ℕ → Type 0
IsDigitWithin (digited.Found entry) room known n = IsWithin room known entry n
IsDigitWithin digited.Bound room known n = ⊤

abbrev pub IsTurnWithin : Turned → ℕ → Scope → ℕ → Type 0
IsTurnWithin (turned_entry.Found entry) room known n = IsWithin room known entry n
IsTurnWithin turned_entry.Bound room known n = ⊤
