use Rattle.rv_emit.proofs.CostLemmas.{program_lines, program_steps}
use Rattle.rv_emit.proofs.size_laws.programs_cost.Goals as goal

pub returns : goal.returns
returns c = record {
  lines = λ nests spill ready few. program_lines nests spill 0 ready few;
  steps = λ nests spill ready few. program_steps nests spill 0 ready few;
}
