-- What an operational form keeps, in the words of normal_form Kept. This project's own.
use Rattle.std.specs.Prelude.{◌≡◌, ◌≢◌, ℕ, ◌+◌, ◌-◌, ◌*◌, ◌<◌, ◌≤◌, ◌⊎◌, ℤ, pos, negsuc, List, [], ◌∷◌, length, map, unsigned_abs, ⊤}
use Rattle.std.specs.List.{AllByRecursion, AllZip, Contains}
use Rattle.std.specs.declared.option.Option.{Option}
use Rattle.std.specs.declared.option.Option.TheVariants.{None, Some}
use Rattle.shapes_core.specs.Limits.{greatest_extent, most_axes, most_items}
use Rattle.shapes_core.specs.Shape.{IsShape, total}
use Rattle.moa_tree.specs.declared.tree.Job.{Job}
use Rattle.normal_form.specs.declared.entry.Entry.{Entry}
use Rattle.normal_form.specs.declared.entry.Entry.TheVariants.{At, Plus, Minus}
use Rattle.normal_form.specs.declared.term.Bind.{Bind}
use Rattle.normal_form.specs.declared.term.Bind.TheVariants.{Turn, Flat, Digit}
use Rattle.normal_form.specs.Assignments.{assigned}
use Rattle.normal_form.specs.Constants.{greatest_constant}
use Rattle.normal_form.specs.Forms.{Lit, Index, Get, Un, Bin, Case, Fold, Let}
use Rattle.normal_form.specs.Kept.{IsBox, IsExtent, IsFoldJob, IsFoldOperator, IsInBox, IsThreshold, job_variables}
use Rattle.normal_form.specs.Meaning.{Reached}
use Rattle.stride_form.specs.declared.op_term.OpTerm.{OpTerm}
use Rattle.stride_form.specs.Accesses.{AreNear, Steps}
use Rattle.stride_form.specs.Operational.{Operational}
use Rattle.stride_form.specs.Places.{IsFineAccess}
use Rattle.stride_form.specs.Pool.{op_form_at, op_forms, op_operands}

-- The greatest constant beside a variable: one of a form, and one of an entry in the place of a variable, which lies in a shape while the
-- variable that it is over may begin at an extent.
abbrev pub most_constant : ℕ
most_constant = greatest_constant + 2 * greatest_extent

-- the greatest stride and start: at most six entries, each on an axis whose weight is an extent
abbrev pub greatest_stride : ℕ
greatest_stride = most_axes * greatest_extent

abbrev pub greatest_start : ℕ
greatest_start = most_axes * (greatest_extent * most_constant)

-- an entry among these variables: a constant is a place among n, and one beside a variable is small
abbrev pub IsOpEntry : List ℕ → Entry → ℕ → Type 0
IsOpEntry known (At (pos constant)) n = constant < n
IsOpEntry known (At (negsuc constant)) n = ⊥
IsOpEntry known (Plus var add) n = Contains known var × (unsigned_abs add ≤ most_constant)
IsOpEntry known (Minus var add) n = Contains known var × (unsigned_abs add ≤ most_constant)

-- a binding of entries among these variables
abbrev pub IsOpBinding : List ℕ → Bind → Type 0
IsOpBinding known (Turn of by extent) = IsOpEntry known of extent × ((by < extent) × (extent ≤ greatest_extent))
IsOpBinding known (Flat of shape) = AllZip (IsOpEntry known) of shape × IsShape shape
IsOpBinding known (Digit of weight extent) = IsOpEntry known of greatest_extent × (IsExtent weight × IsExtent extent)

-- strides of these variables
abbrev pub AreSteps : List ℕ → Steps → Type 0
AreSteps known steps = AllByRecursion (λ step. Contains known step.0) steps

-- by rising variable
abbrev pub AreRising : Steps → Type 0
AreRising [] = ⊤
AreRising (first ∷ others) = AllByRecursion (λ step. first.0 < step.0) others × AreRising others

-- an offset over these variables: at most six strides, by rising variable, and all of it is small
pub record IsWalk (known : List ℕ) (start : ℤ) (strides : Steps) : Type 0 where
  pub over : AreSteps known strides
  pub rising : AreRising strides
  pub few : length strides ≤ most_axes
  pub near : AreNear greatest_stride strides
  pub small : unsigned_abs start ≤ greatest_start

-- Each variable is one of those known, or bound above its uses and at most once on each way from the top; no access is of this area; folds
-- and bindings are over small extents, and constants and offsets are small.
abbrev pub IsOpKept : ℕ → List ℕ → Operational → Type 0
IsOpKept own known (Lit value) = ⊤
IsOpKept own known (Index entry) = IsOpEntry known entry greatest_extent
IsOpKept own known (Get access) = (access.area ≢ own) × IsWalk known access.start access.strides
IsOpKept own known (Un op of) = IsOpKept own known of
IsOpKept own known (Bin op left right) = IsOpKept own known left × IsOpKept own known right
IsOpKept own known (Case entry below first second) =
    IsOpEntry known entry greatest_extent × (IsThreshold below × (IsOpKept own known first × IsOpKept own known second))
IsOpKept own known (Fold op var low high of) =
    IsFoldOperator op × ((low < high) × ((high ≤ greatest_extent) × ((Contains known var → ⊥) × IsOpKept own (var ∷ known) of)))
IsOpKept own known (Let var bind of) = IsOpBinding known bind × ((Contains known var → ⊥) × IsOpKept own (var ∷ known) of)

-- ---- a form with its job

-- a job, the shape of its array, the box of index vectors on which the form gives it, and the terms
pub record OpParts : Type 0 where
  pub job : Job
  pub shape : List ℕ
  pub region : List (ℕ × ℕ)
  pub terms : List OpTerm

-- operands stand before their terms
abbrev pub AreOpOrdered : ℕ → List OpTerm → Type 0
AreOpOrdered number [] = ⊤
AreOpOrdered number (first ∷ others) = AllByRecursion (λ operand. operand < number) (op_operands first) × AreOpOrdered (1 + number) others

-- the form of the last of these terms
abbrev pub top_op_form : List OpTerm → Operational
top_op_form terms = op_form_at (op_forms terms) (length terms - 1)

-- the facts of a form that is not empty
pub record IsOperational (parts : OpParts) : Type 0 where
  pub some : 0 < total parts.shape
  pub shaped : IsShape parts.shape
  pub box : IsBox parts.region parts.shape
  pub folds : IsFoldJob parts.job.fold parts.shape
  pub there : 0 < length parts.terms
  pub few : length parts.terms ≤ most_items
  pub ordered : AreOpOrdered 0 parts.terms
  pub kept : IsOpKept parts.job.area (job_variables parts.shape) (top_op_form parts.terms)
  pub fine : (index : List ℕ) → IsInBox index parts.region → Reached IsFineAccess (assigned index) (top_op_form parts.terms)

-- the empty form of a job whose array has no element: its box is the whole shape
pub record IsOpEmpty (parts : OpParts) : Type 0 where
  pub none : total parts.shape ≡ 0
  pub shaped : IsShape parts.shape
  pub whole : parts.region ≡ map (λ n. (0, n)) parts.shape
  pub folds : IsFoldJob parts.job.fold parts.shape
  pub terms : parts.terms ≡ []

abbrev pub IsOpForm : OpParts → Type 0
IsOpForm parts = IsOpEmpty parts ⊎ IsOperational parts

-- the form, if there is one
abbrev pub op_form_in : List OpTerm → Option Operational
op_form_in [] = None
op_form_in (first ∷ others) = Some (top_op_form (first ∷ others))
