-- The outputs of a program, each with the names, the arrays and the prices before it. This project's own.
use Rattle.std.specs.Prelude.{ℕ, ◌+◌, List, [], ◌∷◌, ◌++◌, length, None, Option}
use Rattle.moa_tree.specs.Denotation.{Store as Lists, env_after}
use Rattle.moa_tree.specs.Expr.{Expr, Item, Input, Let, Output}
use Rattle.moa_tree.specs.Subexpressions.{subexpressions_of}
use Rattle.moa_tree.specs.Values.{Env}
use Rattle.shape_check.specs.Costs.{Prices, prices_after}
use Rattle.shape_check.specs.Jobs.{TreeJob}
use Rattle.normal_form.specs.Forms.{Normal}
use Rattle.psi_rules.specs.Areas.{Given, task_given}
use Rattle.psi_rules.specs.Jobs.{Next, Task, first, named, next_after, task_form}
use Rattle.psi_rules.specs.Rules.{Names}

-- what is known before a statement: the earlier names with their forms, their arrays and their prices, the areas that come next, and how
-- many nodes stand before it
pub record Scene : Type 0 where
  pub names : Names
  pub env : Env
  pub prices : Prices
  pub next : Next
  pub node : ℕ

abbrev pub scene_after : Lists → Scene → Item → Scene
scene_after inputs scene item = record {
  names = named scene.names scene.next item ∷ scene.names;
  env = env_after inputs scene.env item;
  prices = prices_after scene.prices item;
  next = next_after scene.next item;
  node = scene.node + length (subexpressions_of item);
}

-- before the first statement
abbrev pub opening : List Item → Scene
opening items = record { names = []; env = []; prices = []; next = first items; node = 0 }

-- an output: what is known before it, and its expression
pub record Due : Type 0 where
  pub scene : Scene
  pub of : Expr

abbrev pub due_in : Scene → Item → List Due
due_in scene (Input name extents) = []
due_in scene (Let name of) = []
due_in scene (Output name of) = record { scene = scene; of = of } ∷ []

-- the outputs of these statements, in order
abbrev pub dues_from : Lists → Scene → List Item → List Due
dues_from inputs scene [] = []
dues_from inputs scene (item ∷ items) = due_in scene item ++ dues_from inputs (scene_after inputs scene item) items

abbrev pub dues : Lists → List Item → List Due
dues inputs items = dues_from inputs (opening items) items

-- the job of an output, its task, its form and its array
abbrev pub job_of : Due → TreeJob
job_of due = record { job = record { area = due.scene.next.output; node = due.scene.node; fold = None }; of = due.of }

abbrev pub task_of : Due → Task
task_of due = (due.of, due.scene.next.scan)

abbrev pub form_of : Due → Option Normal
form_of due = task_form due.scene.names (task_of due)

abbrev pub array_of : Due → Given
array_of due = task_given due.scene.env (task_of due)
