-- How names, areas and forms agree with the arrays of a program. This project's own.
use Rattle.std.specs.Prelude.{◌≡◌, ℕ, suc, ◌<◌, List, [], ◌∷◌}
use Rattle.std.specs.List.{AllZip}
use Rattle.std.specs.declared.option.Option.{Option}
use Rattle.std.specs.declared.option.Option.TheVariants.{None, Some}
use Rattle.shapes_core.specs.Gamma.{IsIndex, gamma}
use Rattle.shapes_core.specs.Shape.{total}
use Rattle.moa_tree.specs.Expr.{Expr}
use Rattle.moa_tree.specs.Values.{Env, Known, shape_in, value}
use Rattle.normal_form.specs.Assignments.{assigned}
use Rattle.normal_form.specs.Forms.{Normal}
use Rattle.normal_form.specs.Meaning.{Store}
use Rattle.normal_form.specs.Stands.{Gives, Represents}
use Rattle.psi_rules.specs.Areas.{Given}
use Rattle.psi_rules.specs.Rules.{Named, Names}

-- a name with its form, and the same name with the array that the form gives
abbrev pub IsNamed : Store → List ℕ × Named → List ℕ × Known → Type 0
IsNamed store named known = (named.0 ≡ known.0) × (named.1.shape ≡ known.1.shape) × Represents store named.1.form known.1.shape known.1.at

-- the same of all earlier names
abbrev pub AreNamed : Store → Names → Env → Type 0
AreNamed store names env = AllZip (IsNamed store) names env

-- an area holds the values of an expression, in row-major order
abbrev pub Holds : Store → Env → ℕ → Expr → Type 0
Holds store env area expr =
    (index : List ℕ) → IsIndex index (shape_in env expr) → store area (gamma index (shape_in env expr)) ≡ value env expr index

-- the areas from this one on hold the values of these expressions
abbrev pub HoldEach : Store → Env → ℕ → List Expr → Type 0
HoldEach store env area [] = Unit {0}
HoldEach store env area (expr ∷ others) = Holds store env area expr × HoldEach store env (suc area) others

-- a job's form gives its array: the value at each index vector, for which its variables stand; where there is no element there is no form
abbrev pub IsFormOf : Store → Option Normal → Given → Type 0
IsFormOf store None given = total given.shape ≡ 0
IsFormOf store (Some form) given =
    (0 < total given.shape) × ((index : List ℕ) → IsIndex index given.shape → Gives store (assigned index) form (given.at index))

-- the same of all jobs
abbrev pub AreFormsOf : Store → List (Option Normal) → List Given → Type 0
AreFormsOf store forms given = AllZip (IsFormOf store) forms given
