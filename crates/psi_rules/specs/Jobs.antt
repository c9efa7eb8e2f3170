-- The forms of a program's jobs, and what they stand for. This project's own.
use Rattle.std.specs.Prelude.{ℕ, suc, ◌+◌, ◌==◌, List, [], ◌∷◌, ◌++◌, length, map, reverse, if◌then◌else◌}
use Rattle.std.specs.List.{sum_by}
use Rattle.std.specs.declared.option.Option.{Option}
use Rattle.std.specs.declared.option.Option.TheVariants.{None, Some}
use Rattle.shapes_core.specs.Shape.{total}
use Rattle.moa_tree.specs.Axes.{naturals}
use Rattle.moa_tree.specs.Denotation.{scans_of}
use Rattle.moa_tree.specs.Expr.{Expr, Scan, Item, Input, Let, Output}
use Rattle.moa_tree.specs.Subexpressions.{subexpressions_of}
use Rattle.shape_check.specs.Jobs.{input_count, output_count}
use Rattle.normal_form.specs.Forms.{Normal}
use Rattle.normal_form.specs.Formers.{Former}
use Rattle.normal_form.specs.Moves.{variables}
use Rattle.psi_rules.specs.Rules.{Named, Names, form, loading, shape_in}

-- the areas that come next: of an input, an output and a scan
pub record Next : Type 0 where
  pub input : ℕ
  pub output : ℕ
  pub scan : ℕ

-- those behind a statement
abbrev pub next_after : Next → Item → Next
next_after next item = record {
  input = next.input + input_count item;
  output = next.output + output_count item;
  scan = next.scan + length (scans_of item);
}

-- what a statement's name stands for
abbrev pub named : Names → Next → Item → List ℕ × Named
named names next (Input name extents) = (name, record { shape = naturals extents; form = loading next.input (naturals extents) })
named names next (Let name of) = (name, record { shape = shape_in names of; form = form names next.scan of })
named names next (Output name of) = (name, record { shape = shape_in names of; form = loading next.output (shape_in names of) })

-- an expression whose values a job gives, with the area of the first of its scans
abbrev pub Task : Type 0
Task = Expr × ℕ

-- the operands of the scans among expressions, where the first of the scans has this area
abbrev pub scanned : ℕ → List Expr → List Task
scanned scan [] = []
scanned scan (Scan fold of ∷ others) = (of, suc scan) ∷ scanned (suc scan) others
scanned scan (other ∷ others) = scanned scan others

abbrev pub output_task : Next → Item → List Task
output_task next (Input name extents) = []
output_task next (Let name of) = []
output_task next (Output name of) = (of, next.scan) ∷ []

-- the tasks of a statement's jobs: its scans, the inner ones first, and then its output
abbrev pub tasks_of : Next → Item → List Task
tasks_of next item = reverse (scanned next.scan (subexpressions_of item)) ++ output_task next item

-- the form of a job at the index vector of its variables, and none where its total is 0
abbrev pub job_form : List ℕ → Former → Option Normal
job_form shape former = if total shape == 0 then None else Some (former (variables (length shape)) (length shape)).0

abbrev pub task_form : Names → Task → Option Normal
task_form names task = job_form (shape_in names task.0) (form names task.1 task.0)

-- the forms of the jobs of these statements, in order
abbrev pub forms_from : Names → Next → List Item → List (Option Normal)
forms_from names next [] = []
forms_from names next (item ∷ items) =
    map (task_form names) (tasks_of next item) ++ forms_from (named names next item ∷ names) (next_after next item) items

-- the areas of outputs come behind those of the inputs, and those of scans behind both
abbrev pub first : List Item → Next
first items = record {
  input = 0;
  output = sum_by input_count items;
  scan = sum_by input_count items + sum_by output_count items;
}

abbrev pub forms : List Item → List (Option Normal)
forms items = forms_from [] (first items) items
