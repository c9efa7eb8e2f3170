use Rattle.nest_build.proofs.BodyLemmas.{Laws}
use Rattle.nest_build.proofs.WholeLemmas.{whole-gives, whole-inside}
use Rattle.nest_build.proofs.laws.nests_give.Goals as goal

abbrev laws : goal.After-places_are_offsets → Laws
laws c = record {
  runs = c.lists_join.ensures.runs;
  offset = c.places_are_offsets.ensures.offset;
  below = c.gamma_laws.ensures.below;
  undone = c.gamma_laws.ensures.undone;
}

pub returns-clause-gives : goal.returns-clause-gives
returns-clause-gives c = λ areas own shape region form state laid built. whole-gives (laws c) areas own shape region form state laid built

pub returns-clause-inside : goal.returns-clause-inside
returns-clause-inside c = λ areas own shape region form state laid built. whole-inside (laws c) areas own shape region form state laid built
