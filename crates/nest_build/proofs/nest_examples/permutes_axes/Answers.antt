use Rattle.std.proofs.Common.{refl}
use Rattle.loop_ir.specs.NestExamples.{fresh}
use Rattle.loop_ir.specs.Running.{run}
use Rattle.nest_build.specs.NestExamples.{permuted_areas, permuted_nest, permuted_words}
use Rattle.nest_build.proofs.nest_examples.permutes_axes.Goals as goal

pub returns-clause-inside : goal.returns-clause-inside
returns-clause-inside c = c.tests_show_what_is_inside.ensures.trace permuted_areas (run permuted_nest (fresh permuted_words)).trace refl
