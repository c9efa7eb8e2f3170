use Rattle.std.specs.Prelude.{◌≡◌, true}
use Rattle.loop_ir.proofs.JoinLemmas.{joined-costs, joined-keeps, joined-named, joined-needs, joined-runs, joined-times}
use Rattle.loop_ir.proofs.laws.lists_join.Goals as goal

pub returns : goal.returns
returns c = record {
  runs = joined-runs;
  needs = joined-needs;
  costs = joined-costs;
  times = joined-times;
  counters = joined-keeps;
  named = λ keys. joined-named (λ key. keys key ≡ true);
}
