-- What a form keeps: facts of each term, also of one that is never reached, and that nothing is wrong where it is reached. This project's own.
use Rattle.std.specs.Prelude.{◌≡◌, ◌≢◌, ℕ, ◌+◌, ◌-◌, ◌<◌, ◌≤◌, ◌⊎◌, ℤ, pos, negsuc, List, [], ◌∷◌, length, map, IsSome, unsigned_abs, ⊤}
use Rattle.std.specs.List.{AllByRecursion, AllZip, Contains, range_with_len}
use Rattle.std.specs.declared.option.Option.{Option}
use Rattle.std.specs.declared.option.Option.TheVariants.{None, Some}
use Rattle.shapes_core.specs.Limits.{greatest_extent, most_items}
use Rattle.shapes_core.specs.Shape.{IsShape, total}
use Rattle.moa_tree.specs.declared.operator.Op.{Op}
use Rattle.moa_tree.specs.declared.tree.Job.{Job}
use Rattle.moa_tree.specs.Operators.{identity}
use Rattle.normal_form.specs.declared.entry.Entry.{Entry}
use Rattle.normal_form.specs.declared.entry.Entry.TheVariants.{At, Plus, Minus}
use Rattle.normal_form.specs.declared.term.Bind.{Bind}
use Rattle.normal_form.specs.declared.term.Bind.TheVariants.{Turn, Flat, Digit}
use Rattle.normal_form.specs.declared.term.Term.{Term}
use Rattle.normal_form.specs.Assignments.{assigned}
use Rattle.normal_form.specs.Constants.{greatest_constant}
use Rattle.normal_form.specs.Cutting.{IsRoomy, IsVarying, terms_in}
use Rattle.normal_form.specs.Forms.{Lit, Index, Get, Un, Bin, Case, Fold, Let, Normal}
use Rattle.normal_form.specs.Meaning.{Reached}
use Rattle.normal_form.specs.Pool.{form_at, forms, operands}
use Rattle.normal_form.specs.Stands.{IsFine}

-- ---- each term

-- an entry among these variables: a constant is a place among n, and one beside a variable is small
abbrev pub IsEntry : List ℕ → Entry → ℕ → Type 0
IsEntry known (At (pos constant)) n = constant < n
IsEntry known (At (negsuc constant)) n = ⊥
IsEntry known (Plus var add) n = Contains known var × (unsigned_abs add ≤ greatest_constant)
IsEntry known (Minus var add) n = Contains known var × (unsigned_abs add ≤ greatest_constant)

-- entries of a shape
abbrev pub AreEntries : List ℕ → List Entry → List ℕ → Type 0
AreEntries known entries shape = AllZip (IsEntry known) entries shape

-- an extent of an axis with an item
abbrev pub IsExtent : ℕ → Type 0
IsExtent n = (0 < n) × (n ≤ greatest_extent)

-- the extent of a first part, behind which the second one begins
abbrev pub IsThreshold : ℤ → Type 0
IsThreshold below = (below ≡ pos (unsigned_abs below)) × IsExtent (unsigned_abs below)

-- a binding of entries among these variables
abbrev pub IsBinding : List ℕ → Bind → Type 0
IsBinding known (Turn of by extent) = IsEntry known of extent × ((by < extent) × (extent ≤ greatest_extent))
IsBinding known (Flat of shape) = AreEntries known of shape × IsShape shape
IsBinding known (Digit of weight extent) = IsEntry known of greatest_extent × (IsExtent weight × IsExtent extent)

abbrev pub IsFoldOperator : Op → Type 0
IsFoldOperator op = IsSome (identity op)

-- Each variable is one of those known, or bound above its uses and at most once on each way from the top; no term loads this area; what is
-- loaded has a shape; and folds and bindings are over small extents.
abbrev pub IsKept : ℕ → List ℕ → Normal → Type 0
IsKept own known (Lit value) = ⊤
IsKept own known (Index entry) = IsEntry known entry greatest_extent
IsKept own known (Get load) = (load.area ≢ own) × (AreEntries known load.at load.shape × IsShape load.shape)
IsKept own known (Un op of) = IsKept own known of
IsKept own known (Bin op left right) = IsKept own known left × IsKept own known right
IsKept own known (Case entry below first second) =
    IsEntry known entry greatest_extent × (IsThreshold below × (IsKept own known first × IsKept own known second))
IsKept own known (Fold op var low high of) =
    IsFoldOperator op × ((low < high) × ((high ≤ greatest_extent) × ((Contains known var → ⊥) × IsKept own (var ∷ known) of)))
IsKept own known (Let var bind of) = IsBinding known bind × ((Contains known var → ⊥) × IsKept own (var ∷ known) of)

-- ---- a form with its job

-- a job, the shape of its array, the box of index vectors on which the form gives it, and the terms
pub record Parts : Type 0 where
  pub job : Job
  pub shape : List ℕ
  pub region : List (ℕ × ℕ)
  pub terms : List Term

-- each pair of a box has an item, and lies in its axis
abbrev pub IsBox : List (ℕ × ℕ) → List ℕ → Type 0
IsBox region shape = AllZip (λ pair n. (pair.0 < pair.1) × (pair.1 ≤ n)) region shape

-- an index vector in a box
abbrev pub IsInBox : List ℕ → List (ℕ × ℕ) → Type 0
IsInBox index region = AllZip (λ k pair. (pair.0 ≤ k) × (k < pair.1)) index region

-- a job that folds does so by a fold operator, along an axis
abbrev pub IsFoldJob : Option Op → List ℕ → Type 0
IsFoldJob None shape = ⊤
IsFoldJob (Some op) shape = IsFoldOperator op × (0 < length shape)

-- operands stand before their terms
abbrev pub AreOrdered : ℕ → List Term → Type 0
AreOrdered number [] = ⊤
AreOrdered number (first ∷ others) = AllByRecursion (λ operand. operand < number) (operands first) × AreOrdered (1 + number) others

-- the form of the last of these terms
abbrev pub top_form : List Term → Normal
top_form terms = form_at (forms terms) (length terms - 1)

-- the variables of a job
abbrev pub job_variables : List ℕ → List ℕ
job_variables shape = range_with_len 0 (length shape)

-- the facts of a form that is not empty
pub record IsNormal (parts : Parts) : Type 0 where
  pub some : 0 < total parts.shape
  pub shaped : IsShape parts.shape
  pub box : IsBox parts.region parts.shape
  pub folds : IsFoldJob parts.job.fold parts.shape
  pub there : 0 < length parts.terms
  pub few : length parts.terms ≤ most_items
  pub ordered : AreOrdered 0 parts.terms
  pub kept : IsKept parts.job.area (job_variables parts.shape) (top_form parts.terms)
  pub varying : IsVarying (top_form parts.terms)
  pub roomy : IsRoomy [] (top_form parts.terms)
  pub tree : terms_in (top_form parts.terms) ≤ length parts.terms
  pub fine : (index : List ℕ) → IsInBox index parts.region → Reached IsFine (assigned index) (top_form parts.terms)

-- the empty form of a job whose array has no element: its box is the whole shape
pub record IsEmpty (parts : Parts) : Type 0 where
  pub none : total parts.shape ≡ 0
  pub shaped : IsShape parts.shape
  pub whole : parts.region ≡ map (λ n. (0, n)) parts.shape
  pub folds : IsFoldJob parts.job.fold parts.shape
  pub terms : parts.terms ≡ []

abbrev pub IsForm : Parts → Type 0
IsForm parts = IsEmpty parts ⊎ IsNormal parts

-- the form, if there is one
abbrev pub form_in : List Term → Option Normal
form_in [] = None
form_in (first ∷ others) = Some (top_form (first ∷ others))
