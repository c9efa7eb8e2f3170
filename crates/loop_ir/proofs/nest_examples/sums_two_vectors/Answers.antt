use Rattle.std.proofs.Common.{refl}
use Rattle.loop_ir.specs.NestExamples.{vector_areas, sum_tree, sum_start}
use Rattle.loop_ir.specs.Running.{run}
use Rattle.loop_ir.proofs.AreaLemmas.{allowed_is_inside}
use Rattle.loop_ir.proofs.nest_examples.sums_two_vectors.Goals as goal

pub returns-clause-inside : goal.returns-clause-inside
returns-clause-inside c = allowed_is_inside vector_areas (run sum_tree sum_start).trace refl
