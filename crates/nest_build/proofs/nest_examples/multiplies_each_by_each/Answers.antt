use Rattle.std.proofs.Common.{refl}
use Rattle.loop_ir.specs.NestExamples.{fresh}
use Rattle.loop_ir.specs.Running.{run}
use Rattle.nest_build.specs.NestExamples.{outer_areas, outer_nest, outer_words}
use Rattle.nest_build.proofs.nest_examples.multiplies_each_by_each.Goals as goal

pub returns-clause-inside : goal.returns-clause-inside
returns-clause-inside c = c.tests_show_what_is_inside.ensures.trace outer_areas (run outer_nest (fresh outer_words)).trace refl
