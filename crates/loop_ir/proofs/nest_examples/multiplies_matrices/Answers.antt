use Rattle.std.proofs.Common.{refl}
use Rattle.loop_ir.specs.NestExamples.{matrix_areas, product_tree, product_start}
use Rattle.loop_ir.specs.Running.{run}
use Rattle.loop_ir.proofs.AreaLemmas.{allowed_is_inside}
use Rattle.loop_ir.proofs.nest_examples.multiplies_matrices.Goals as goal

pub returns-clause-inside : goal.returns-clause-inside
returns-clause-inside c = allowed_is_inside matrix_areas (run product_tree product_start).trace refl
