use Rattle.std.proofs.Common.{◌∙◌, subst, sym}
use Rattle.loop_ir.specs.Kept.{KeepsCounters}
use Rattle.nest_build.proofs.StandLemmas.{last-tree}
use Rattle.nest_build.proofs.building.finished.Goals as goal

pub into_nest-requires-clause-counters : goal.into_nest-requires-clause-counters
into_nest-requires-clause-counters c =
    subst KeepsCounters (sym (last-tree c.args.lists c.add.new.self c.args.steps.items c.in_ok-add.ensures.added.1)) c.requires.counters

pub returns : goal.returns
returns c = c.in_ok-nest.ensures.tree ∙ last-tree c.args.lists c.add.new.self c.args.steps.items c.in_ok-add.ensures.added.1
