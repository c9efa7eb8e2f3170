-- What a form means, over areas that hold lists in row-major order. This project's own.
use Rattle.std.specs.Prelude.{◌≡◌, ℕ, ◌+◌, ◌-◌, ◌<◌, ◌≤◌, false, true, ℤ, int_lt}
use Rattle.shapes_core.specs.Gamma.{gamma}
use Rattle.moa_tree.specs.Folds.{fold_below}
use Rattle.moa_tree.specs.Operators.{apply, apply_unary}
use Rattle.moa_tree.specs.Values.{chosen}
use Rattle.normal_form.specs.declared.entry.Entry.{Entry}
use Rattle.normal_form.specs.declared.term.Bind.{Bind}
use Rattle.normal_form.specs.Assignments.{Assignment, bound, bound_to, number, places}
use Rattle.normal_form.specs.Forms.{Form, Lit, Index, Get, Un, Bin, Case, Fold, Let, Element}

-- what the areas hold: the value at an offset of an area
abbrev pub Store : Type 0
Store = ℕ → ℕ → ℤ

-- the value of a form, where a load has this value
abbrev pub meaning : {Load : Type 0} → (Assignment → Load → ℤ) → Assignment → Form Load → ℤ
meaning loaded m (Lit value) = value
meaning loaded m (Index entry) = number m entry
meaning loaded m (Get load) = loaded m load
meaning loaded m (Un op of) = apply_unary op (meaning loaded m of)
meaning loaded m (Bin op left right) = apply op (meaning loaded m left) (meaning loaded m right)
meaning loaded m (Case entry below first second) =
    chosen (int_lt (number m entry) below) (λ n. meaning loaded n first) (λ n. meaning loaded n second) m
meaning loaded m (Fold op var low high of) = fold_below op (high - low) (λ k. meaning loaded (bound m var (low + k)) of)
meaning loaded m (Let var bind of) = meaning loaded (bound m var (bound_to m bind)) of

-- an element of a stored array is at the row-major offset of its entries
abbrev pub element_value : Store → Assignment → Element → ℤ
element_value store m element = store element.area (gamma (places m element.at) element.shape)

-- a point that the meaning reaches: an entry whose number is used, a load, or a number that is bound
pub data Point (Load : Type 0) : Type 0 where
  Uses : (entry : Entry) → Point Load
  Loads : (load : Load) → Point Load
  Binds : (bind : Bind) → Point Load

-- something holds at each point that the meaning reaches
abbrev pub Reached : {Load : Type 0} → (Assignment → Point Load → Type 0) → Assignment → Form Load → Type 0
Reached P m (Lit value) = Unit {0}
Reached P m (Index entry) = P m (Uses entry)
Reached P m (Get load) = P m (Loads load)
Reached P m (Un op of) = Reached P m of
Reached P m (Bin op left right) = Reached P m left × Reached P m right
Reached P m (Case entry below first second) =
    P m (Uses entry) × ((int_lt (number m entry) below ≡ true → Reached P m first) × (int_lt (number m entry) below ≡ false → Reached P m second))
Reached P m (Fold op var low high of) = (k : ℕ) → low ≤ k → k < high → Reached P (bound m var k) of
Reached P m (Let var bind of) = P m (Binds bind) × Reached P (bound m var (bound_to m bind)) of
