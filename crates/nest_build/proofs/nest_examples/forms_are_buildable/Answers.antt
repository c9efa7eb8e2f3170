use Rattle.std.specs.Prelude.{◌≢◌, ℕ, zero, suc, ◌<◌, ◌≤◌, List, [], ◌∷◌, codes}
use Rattle.std.specs.List.{AllByRecursion}
use Rattle.std.proofs.Common.{arith, refl, rules}
use Rattle.normal_form.specs.Kept.{IsInBox}
use Rattle.nest_build.specs.Gives.{IsReachedWithin}
use Rattle.nest_build.specs.NestExamples.{input, output, part_areas, part_form}
use Rattle.nest_build.specs.Parts.{accesses}
use Rattle.nest_build.proofs.nest_examples.forms_are_buildable.Goals as goal

part_reached : (index : List ℕ) → IsInBox index ((1, 3) ∷ []) → AllByRecursion (IsReachedWithin part_areas index) (accesses part_form)
part_reached [] h = absurd h
part_reached (zero ∷ []) h = let low : 1 ≤ 0 = h.0.0 in let no : ⊥ = omega (arith, low) in absurd no
part_reached (suc zero ∷ []) h =
    (record { area = input (codes "A") (5 ∷ []) 0; there = refl; place = 3; same = refl; below = omega arith }, tt)
part_reached (suc (suc zero) ∷ []) h =
    (record { area = input (codes "A") (5 ∷ []) 0; there = refl; place = 2; same = refl; below = omega arith }, tt)
part_reached (suc (suc (suc k)) ∷ []) h = let high : suc (suc (suc k)) < 3 = h.0.1 in let no : ⊥ = omega (arith, high) in absurd no
part_reached (k ∷ (other ∷ rest)) h = absurd h.1

apart : ◌≢◌ {A = ℕ} 0 1
apart same = omega (arith, same)

pub returns-clause-part : goal.returns-clause-part
returns-clause-part c = record {
  straight = refl;
  area = output (codes "C") (5 ∷ []) 5;
  there = refl;
  shaped = refl;
  within = refl;
  box = ((omega arith, omega arith), tt);
  small = search rules;
  others = (apart, tt);
  reached = part_reached;
}

pub returns-clause-outside : goal.returns-clause-outside
returns-clause-outside c = λ buildable. let reached = (buildable.reached (2 ∷ []) ((omega arith, omega arith), tt)).0 in search rules
