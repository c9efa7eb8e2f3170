use Rattle.std.proofs.Common.{arith}
use Rattle.rv_emit.proofs.CostLemmas.{homes_close}
use Rattle.rv_emit.proofs.SizeLemmas.{steps_lines, steps_time}
use Rattle.rv_emit.proofs.size_laws.steps_cost.Goals as goal

pub returns : goal.returns
returns c = record {
  lines = λ plan owed steps at few there each.
      steps_lines plan few (homes_close plan plan.spill (omega arith) few each) steps there owed at;
  steps = λ plan owed steps at few there each.
      steps_time plan few (homes_close plan plan.spill (omega arith) few each) steps there owed at;
}
