-- What the areas of a program's block hold when its jobs have been done, and the values that its jobs give. This project's own.
use Rattle.std.specs.Prelude.{ℕ, ℤ, pos, List, [], ◌∷◌, ◌++◌, map, slice_index_or}
use Rattle.std.specs.List.{flat_map}
use Rattle.moa_tree.specs.Denotation.{Store as Lists, env_after, denote_from, denote_scans_from}
use Rattle.moa_tree.specs.Expr.{Item, Input, Let, Output}
use Rattle.moa_tree.specs.ShapeOf.{beside}
use Rattle.moa_tree.specs.Values.{Env, shape_in, value}
use Rattle.normal_form.specs.Meaning.{Store}
use Rattle.psi_rules.specs.Jobs.{Next, Task, first, next_after, tasks_of}

-- the list of an input
abbrev pub input_list : Lists → Item → List (List ℤ)
input_list inputs (Input name extents) = beside [] inputs name ∷ []
input_list inputs (Let name of) = []
input_list inputs (Output name of) = []

-- the lists of all areas: of the inputs, of the outputs and of the scans
abbrev pub area_lists : Lists → List Item → List (List ℤ)
area_lists inputs items = flat_map (input_list inputs) items
    ++ (map (λ output. output.1) (denote_from inputs [] items) ++ denote_scans_from inputs [] items)

abbrev pub store : Lists → List Item → Store
store inputs items area place = slice_index_or (slice_index_or (area_lists inputs items) area []) place (pos 0)

-- an array that a job gives: its shape, and its value at an index vector
pub record Given : Type 0 where
  pub shape : List ℕ
  pub at : List ℕ → ℤ

abbrev pub task_given : Env → Task → Given
task_given env task = record { shape = shape_in env task.0; at = value env task.0 }

-- the arrays of the jobs of these statements, in order
abbrev pub given_from : Lists → Env → Next → List Item → List Given
given_from inputs env next [] = []
given_from inputs env next (item ∷ items) =
    map (task_given env) (tasks_of next item) ++ given_from inputs (env_after inputs env item) (next_after next item) items

abbrev pub given : Lists → List Item → List Given
given inputs items = given_from inputs [] (first items) items
