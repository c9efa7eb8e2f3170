use Rattle.std.specs.Prelude.{[], ◌∷◌, codes}
use Rattle.std.proofs.Common.{arith, refl}
use Rattle.nest_build.specs.NestExamples.{input}
use Rattle.nest_build.proofs.nest_examples.accesses_are_reached.Goals as goal

pub returns-clause-first : goal.returns-clause-first
returns-clause-first c = record { area = input (codes "A") (5 ∷ []) 0; there = refl; place = 0; same = refl; below = omega arith }

pub returns-clause-last : goal.returns-clause-last
returns-clause-last c = record { area = input (codes "A") (5 ∷ []) 0; there = refl; place = 4; same = refl; below = omega arith }
