-- What the forms of a program's names and jobs keep, and which areas they load. This project's own.
use Rattle.std.specs.Prelude.{◌≡◌, ◌≢◌, ℕ, ◌+◌, ◌*◌, ◌<◌, ◌≤◌, List, [], ◌∷◌, length}
use Rattle.std.specs.List.{AllZip}
use Rattle.std.specs.declared.option.Option.{Option}
use Rattle.std.specs.declared.option.Option.TheVariants.{None, Some}
use Rattle.shapes_core.specs.Limits.{greatest_extent}
use Rattle.moa_tree.specs.Canonical.{IsBuilt}
use Rattle.moa_tree.specs.Expr.{Expr}
use Rattle.moa_tree.specs.Subexpressions.{scans_in}
use Rattle.shape_check.specs.Costs.{Priced, Prices, nodes}
use Rattle.shape_check.specs.Jobs.{TreeJob}
use Rattle.normal_form.specs.Forms.{Normal}
use Rattle.normal_form.specs.Keeps.{Keeps}
use Rattle.normal_form.specs.Constants.{greatest_constant}
use Rattle.normal_form.specs.Cutting.{IsRoomy, IsVarying}
use Rattle.normal_form.specs.Kept.{IsKept, job_variables}
use Rattle.psi_rules.specs.Areas.{Given}
use Rattle.psi_rules.specs.Operands.{IsAccepted}
use Rattle.psi_rules.specs.Rules.{Named, Names, form, shape_in, shapes_of}

-- constants of this size leave room for those that so many nodes add
abbrev pub HasRoom : ℕ → ℕ → Type 0
HasRoom room nodes = room + nodes * greatest_extent ≤ greatest_constant

-- a name with its form, and the same name with its price: a form of this area keeps it
abbrev pub IsKeptNamed : ℕ → List ℕ × Named → List ℕ × Priced → Type 0
IsKeptNamed own named priced =
    (named.0 ≡ priced.0) × ((room : ℕ) → HasRoom room priced.1.nodes → Keeps own room named.1.form named.1.shape)

-- the same of all earlier names
abbrev pub AreKeptNamed : ℕ → Names → Prices → Type 0
AreKeptNamed own names prices = AllZip (IsKeptNamed own) names prices

-- an area is none of so many from another one on
abbrev pub IsSpared : ℕ → ℕ → ℕ → Type 0
IsSpared own area count = (k : ℕ) → k < count → area + k ≢ own

-- the forms of accepted expressions that fold by operators that fold are kept by forms of areas that are none of their scans'
abbrev pub KeepExpressions : Names → Prices → Type 0
KeepExpressions names prices = (own room scan levels : ℕ) (expr : Expr)
    → AreKeptNamed own names prices → IsBuilt levels expr → IsSpared own scan (length (scans_in expr))
    → IsAccepted (shapes_of names) expr → HasRoom room (nodes prices expr)
    → Keeps own room (form names scan expr) (shape_in names expr)

-- the form of an array of this shape keeps what forms of an area do: no choice, turn or digit is of a constant, and constants leave room
pub record IsKeptOn (own : ℕ) (shape : List ℕ) (form : Normal) : Type 0 where
  pub kept : IsKept own (job_variables shape) form
  pub varying : IsVarying form
  pub roomy : IsRoomy [] form

-- a job's form, where its array has one, keeps what the form of an array in the job's area does
abbrev pub IsKeptForm : TreeJob → Given → Option Normal → Type 0
IsKeptForm tree_job array None = Unit {0}
IsKeptForm tree_job array (Some form) = IsKeptOn tree_job.job.area array.shape form

-- the same of all jobs
abbrev pub AreKeptForms : List TreeJob → List Given → List (Option Normal) → Type 0
AreKeptForms [] [] [] = Unit {0}
AreKeptForms (tree_job ∷ jobs) (array ∷ arrays) (form ∷ forms) = IsKeptForm tree_job array form × AreKeptForms jobs arrays forms
AreKeptForms _ _ _ = ⊥
