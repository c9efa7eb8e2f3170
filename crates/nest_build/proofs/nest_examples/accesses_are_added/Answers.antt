use Rattle.std.specs.Prelude.{pos, [], ◌∷◌}
use Rattle.std.proofs.Common.{refl}
use Rattle.loop_ir.specs.Running.{WritesWord}
use Rattle.nest_build.specs.NestExamples.{part_areas}
use Rattle.nest_build.proofs.nest_examples.accesses_are_added.Goals as goal

pub returns-clause-inside : goal.returns-clause-inside
returns-clause-inside c =
    record { more = WritesWord 1 (pos 6) ∷ []; same = refl; inside = c.tests_show_what_is_inside.ensures.trace part_areas (WritesWord 1 (pos 6) ∷ []) refl }
