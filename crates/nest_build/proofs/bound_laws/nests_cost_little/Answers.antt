use Rattle.nest_build.proofs.CostLemmas.{nest-costs-little, nest-takes-few}
use Rattle.nest_build.proofs.bound_laws.nests_cost_little.Goals as goal

pub returns-clause-lines : goal.returns-clause-lines
returns-clause-lines c = λ prices areas words own shape region form low laid small built.
    nest-costs-little prices areas words own shape region form c.places_are_offsets.ensures.offset c.gamma_laws.ensures.below
    low laid small built c.lists_join.ensures.costs

pub returns-clause-steps : goal.returns-clause-steps
returns-clause-steps c = λ prices areas words own shape region form low laid small built.
    nest-takes-few prices areas words own shape region form c.places_are_offsets.ensures.offset c.gamma_laws.ensures.below
    low laid small built c.lists_join.ensures.times
