-- The earlier names of each statement of a program, the areas that come next, and the tasks of all jobs by statements. This project's own.
use Rattle.std.specs.Prelude.{ℕ, suc, List, [], ◌∷◌, ◌++◌, map, take, Option, None, Some}
use Rattle.std.specs.List.{fold}
use Rattle.moa_tree.specs.declared.operator.Op.{Op}
use Rattle.moa_tree.specs.Expr.{Item}
use Rattle.psi_rules.specs.Jobs.{Next, Task, first, named, next_after, tasks_of}
use Rattle.psi_rules.specs.Rules.{Names, shape_in}

-- the names that are known and the areas that come next
pub record Scope : Type 0 where
  pub names : Names
  pub next : Next

abbrev pub scope_after : Scope → Item → Scope
scope_after scope item = record { names = named scope.names scope.next item ∷ scope.names; next = next_after scope.next item }

-- before the statement of this number
abbrev pub scope_at : List Item → ℕ → Scope
scope_at items number = fold scope_after (record { names = []; next = first items }) (take number items)

abbrev pub names_at : List Item → ℕ → Names
names_at items number = (scope_at items number).names

abbrev pub next_at : List Item → ℕ → Next
next_at items number = (scope_at items number).next

-- a task with the number of its statement
pub record Owned : Type 0 where
  pub statement : ℕ
  pub task : Task

-- the tasks of the jobs of these statements, the first of which has this number
abbrev pub owned_from : ℕ → Next → List Item → List Owned
owned_from number next [] = []
owned_from number next (item ∷ items) =
    map (λ task. record { statement = number; task = task }) (tasks_of next item) ++ owned_from (suc number) (next_after next item) items

-- the tasks of all jobs, in order
abbrev pub owned : List Item → List Owned
owned items = owned_from 0 (first items) items

-- the shapes of the arrays that the jobs give, in order
abbrev pub job_shapes : List Item → List (List ℕ)
job_shapes items = map (λ o. shape_in (names_at items o.statement) o.task.0) (owned items)

-- the area of the first scan in what the job of this area gives, in a statement whose first scan has an area: where the job is a scan's, that
-- comes behind its own
abbrev pub first_scan : ℕ → ℕ → Option Op → ℕ
first_scan scan area None = scan
first_scan scan area (Some fold) = suc area
