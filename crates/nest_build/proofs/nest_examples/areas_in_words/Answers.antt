use Rattle.std.specs.Prelude.{◌≡◌, ◌≤◌, pos, [], ◌∷◌, codes}
use Rattle.std.proofs.Common.{arith, refl}
use Rattle.nest_build.specs.NestExamples.{input, output}
use Rattle.nest_build.proofs.nest_examples.areas_in_words.Goals as goal

pub returns-clause-short : goal.returns-clause-short
returns-clause-short c = λ laid. let ends : 10 ≤ 9 = laid.within 1 (output (codes "C") (5 ∷ []) 5) refl in omega (arith, ends)

pub returns-clause-together : goal.returns-clause-together
returns-clause-together c = λ laid.
    let areas = input (codes "A") (5 ∷ []) 0 ∷ input (codes "B") (2 ∷ []) 4 ∷ [] in
    let word = c.tests_show_what_is_inside.ensures.word areas in
    let same : 0 ≡ 1 = laid.apart 0 1 (pos 4) (word 0 (pos 4) refl) (word 1 (pos 4) refl) in
    omega (arith, same)
