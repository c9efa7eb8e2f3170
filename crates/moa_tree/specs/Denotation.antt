-- What a program denotes: the list of each output, in row-major order. This project's own.
use Rattle.std.specs.Prelude.{ℕ, ℤ, List, [], ◌∷◌, ◌++◌, map}
use Rattle.std.specs.List.{fold}
use Rattle.shapes_core.specs.Gamma.{rows}
use Rattle.moa_tree.specs.Axes.{naturals}
use Rattle.moa_tree.specs.Expr.{Expr, Item, Input, Let, Output, Tree}
use Rattle.moa_tree.specs.ShapeOf.{beside}
use Rattle.moa_tree.specs.Subexpressions.{scans_in}
use Rattle.moa_tree.specs.Values.{Known, Env, element, shape_in, value}

-- names with the lists of their arrays
abbrev pub Store : Type 0
Store = List (List ℕ × List ℤ)

-- the values of an expression at every index vector of its shape, in row-major order
abbrev pub values : Env → Expr → List ℤ
values env expr = map (value env expr) (rows (shape_in env expr))

-- the list that an output stores
abbrev pub output_list : Env → Expr → List ℤ
output_list env expr = values env expr

-- an array whose list is stored
abbrev pub stored : List ℕ → List ℤ → Known
stored shape list = record { shape = shape; at = element list shape }

-- an array that is computed at each use
abbrev pub computed : Env → Expr → Known
computed env expr = record { shape = shape_in env expr; at = value env expr }

-- the names after a statement
abbrev pub env_after : Store → Env → Item → Env
env_after inputs env (Input name extents) = (name, stored (naturals extents) (beside [] inputs name)) ∷ env
env_after inputs env (Let name of) = (name, computed env of) ∷ env
env_after inputs env (Output name of) = (name, stored (shape_in env of) (output_list env of)) ∷ env

-- the names after these statements
abbrev pub env_after_all : Store → Env → List Item → Env
env_after_all inputs env items = fold (env_after inputs) env items

-- the outputs of one statement
abbrev pub outputs_of : Env → Item → Store
outputs_of env (Input name extents) = []
outputs_of env (Let name of) = []
outputs_of env (Output name of) = (name, output_list env of) ∷ []

-- the outputs of these statements, in order
abbrev pub denote_from : Store → Env → List Item → Store
denote_from inputs env [] = []
denote_from inputs env (item ∷ items) = outputs_of env item ++ denote_from inputs (env_after inputs env item) items

-- the outputs of a program on its inputs, in order
abbrev pub denote : Tree → Store → Store
denote tree inputs = denote_from inputs [] tree.statements

-- the scans of one statement
abbrev pub scans_of : Item → List Expr
scans_of (Input name extents) = []
scans_of (Let name of) = scans_in of
scans_of (Output name of) = scans_in of

-- the lists of the scans of these statements, in order
abbrev pub denote_scans_from : Store → Env → List Item → List (List ℤ)
denote_scans_from inputs env [] = []
denote_scans_from inputs env (item ∷ items) = map (values env) (scans_of item) ++ denote_scans_from inputs (env_after inputs env item) items

-- the denoted list of each scan of a program, by its number
abbrev pub denote_scans : Tree → Store → List (List ℤ)
denote_scans tree inputs = denote_scans_from inputs [] tree.statements
