use Rattle.std.proofs.Common.{◌∙◌}
use Rattle.loop_ir.proofs.PoolLemmas.{made-nest, made-tree}
use Rattle.loop_ir.proofs.lists.Lists.into_nest.Goals as goal

pub new-requires : goal.new-requires
new-requires c =
    made-nest _ _ _ c.self.view_is c.in_ok-made.ensures c.self.invariant c.requires.some c.requires.counters

pub returns-clause-tree : goal.returns-clause-tree
returns-clause-tree c =
    made-tree _ _ _ c.self.view_is (c.new.ensures ∙ c.in_ok-made.ensures) c.self.invariant c.requires.some
