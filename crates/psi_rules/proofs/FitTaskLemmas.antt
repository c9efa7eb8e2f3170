-- The expression of each job of an accepted program fits at the entries of the job's variables.
use Rattle.std.specs.Prelude.{ℕ, ◌<◌, ◌≤◌, List, length}
use Rattle.std.proofs.Common.{arith}
use Rattle.shapes_core.specs.Limits.{most_axes}
use Rattle.shapes_core.specs.Shape.{total}
use Rattle.moa_tree.specs.Expr.{Expr, Item}
use Rattle.shape_check.specs.Costs.{nodes}
use Rattle.normal_form.specs.Kept.{job_variables}
use Rattle.normal_form.specs.Moves.{variables}
use Rattle.psi_rules.specs.Fitting.{Fits}
use Rattle.psi_rules.specs.Numbered.{IsGoodTask, prices_at}
use Rattle.psi_rules.specs.Rules.{shape_in}
use Rattle.psi_rules.specs.Scopes.{names_at}
use Rattle.psi_rules.proofs.KeepTaskLemmas.{NoneEmpty, cheap-room, job-within}
use Rattle.psi_rules.proofs.RoomLemmas.{resting}

pub task-fits : NoneEmpty → (items : List Item) (statement scan : ℕ) (expr : Expr)
    → IsGoodTask (names_at items statement) (prices_at items statement) (expr, scan)
    → length (shape_in (names_at items statement) expr) ≤ most_axes → 0 < total (shape_in (names_at items statement) expr)
    → let axes = length (shape_in (names_at items statement) expr) in Fits items statement scan axes expr (variables axes)
task-fits full items statement scan expr good axes some =
    let shape = shape_in (names_at items statement) expr in
    record {
      accepted = good.accepted;
      areas = good.areas;
      terms = let few = good.few in omega (arith, few, axes);
      room = 0;
      known = resting (job_variables shape);
      roomy = cheap-room (nodes (prices_at items statement) expr) good.few;
      within = job-within shape (full shape some);
    }
