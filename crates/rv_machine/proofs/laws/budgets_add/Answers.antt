use Rattle.std.proofs.Common.{◌+◌}
use Rattle.rv_steps.specs.Stops.{run}
use Rattle.rv_machine.specs.Budgets.{end_after}
use Rattle.rv_machine.proofs.BudgetLemmas.{stops_after}
use Rattle.rv_machine.proofs.laws.budgets_add.Goals as goal

pub returns : goal.returns
returns b = record {
  stops = stops_after b.chains_compose.ensures.steps;
  computed = λ lines base m n c d first.
      b.runs_stop.ensures.only lines base (m + n) c (end_after m (run lines base n d).end) (run lines base n d).last
      (stops_after b.chains_compose.ensures.steps lines base m n c d (run lines base n d).last (run lines base n d).end first (b.runs_stop.ensures.computed lines base n d));
}
