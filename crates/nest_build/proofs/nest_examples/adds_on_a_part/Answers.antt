use Rattle.std.proofs.Common.{refl}
use Rattle.loop_ir.specs.NestExamples.{fresh}
use Rattle.loop_ir.specs.Running.{run}
use Rattle.nest_build.specs.NestExamples.{part_areas, part_nest, part_words}
use Rattle.nest_build.proofs.nest_examples.adds_on_a_part.Goals as goal

pub returns-clause-inside : goal.returns-clause-inside
returns-clause-inside c = c.tests_show_what_is_inside.ensures.trace part_areas (run part_nest (fresh part_words)).trace refl
