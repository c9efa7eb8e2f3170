-- What entries stand for, and what a form gives: it reaches only what is fine, and means a value. This project's own.
use Rattle.std.specs.Prelude.{◌≡◌, ℕ, ◌<◌, ◌≤◌, ℤ, pos, List, map, ⊤}
use Rattle.std.specs.List.{AllByRecursion}
use Rattle.shapes_core.specs.Gamma.{IsIndex}
use Rattle.normal_form.specs.declared.entry.Entry.{Entry}
use Rattle.normal_form.specs.declared.entry.Entry.TheVariants.{At, Plus, Minus}
use Rattle.normal_form.specs.declared.term.Bind.{Bind}
use Rattle.normal_form.specs.declared.term.Bind.TheVariants.{Turn, Flat, Digit}
use Rattle.normal_form.specs.Assignments.{Assignment, number}
use Rattle.normal_form.specs.Formers.{Former}
use Rattle.normal_form.specs.Forms.{Element, Normal}
use Rattle.normal_form.specs.Meaning.{Store, Point, Uses, Loads, Binds, Reached, element_value, meaning}

-- the entries stand for these places
abbrev pub StandFor : Assignment → List Entry → List ℕ → Type 0
StandFor m entries index = map (number m) entries ≡ map pos index

-- an entry stands for a place
pub record IsPlace (m : Assignment) (entry : Entry) : Type 0 where
  pub place : ℕ
  pub stands : number m entry ≡ pos place

-- and for one among n
pub record IsAmong (m : Assignment) (entry : Entry) (n : ℕ) : Type 0 where
  pub place : ℕ
  pub stands : number m entry ≡ pos place
  pub below : place < n

-- entries stand for an index vector of a shape
pub record AreIndex (m : Assignment) (entries : List Entry) (shape : List ℕ) : Type 0 where
  pub index : List ℕ
  pub stand : StandFor m entries index
  pub within : IsIndex index shape

-- what a binding needs: a place on the axis and a turn below its extent; an index vector; or a place, and an axis with an item
abbrev pub IsFineBinding : Assignment → Bind → Type 0
IsFineBinding m (Turn of by extent) = IsAmong m of extent × (by < extent)
IsFineBinding m (Flat of shape) = AreIndex m of shape
IsFineBinding m (Digit of weight extent) = IsPlace m of × ((0 < weight) × (0 < extent))

-- a point of a form at which nothing is wrong
abbrev pub IsFine : Assignment → Point Element → Type 0
IsFine m (Uses entry) = IsPlace m entry
IsFine m (Loads element) = AreIndex m element.at element.shape
IsFine m (Binds bind) = IsFineBinding m bind

-- a form reaches only what is fine, and means a value
pub record Gives (store : Store) (m : Assignment) (form : Normal) (value : ℤ) : Type 0 where
  pub fine : Reached IsFine m form
  pub means : meaning (element_value store) m form ≡ value

-- entries of variables below one
abbrev pub uses_below : ℕ → Entry → Type 0
uses_below next (At constant) = ⊤
uses_below next (Plus var add) = var < next
uses_below next (Minus var add) = var < next

abbrev pub AreBelow : ℕ → List Entry → Type 0
AreBelow next entries = AllByRecursion (uses_below next) entries

-- the forms that a former makes give an array of this shape: at entries of variables that are not to come, which stand for an index
-- vector, the value there
pub record Represents (store : Store) (former : Former) (shape : List ℕ) (at : List ℕ → ℤ) : Type 0 where
  pub grows : (entries : List Entry) (next : ℕ) → next ≤ (former entries next).1
  pub gives : (m : Assignment) (entries : List Entry) (next : ℕ) (index : List ℕ)
      → AreBelow next entries → StandFor m entries index → IsIndex index shape → Gives store m (former entries next).0 (at index)

-- a move of entries moves the places that they stand for, from the index vectors of one shape to those of another
pub record Moves (move : List Entry → List Entry) (moved : List ℕ → List ℕ) (from to : List ℕ) : Type 0 where
  pub below : (entries : List Entry) (next : ℕ) → AreBelow next entries → AreBelow next (move entries)
  pub stands : (m : Assignment) (entries : List Entry) (index : List ℕ)
      → StandFor m entries index → IsIndex index from → StandFor m (move entries) (moved index)
  pub within : (index : List ℕ) → IsIndex index from → IsIndex (moved index) to
