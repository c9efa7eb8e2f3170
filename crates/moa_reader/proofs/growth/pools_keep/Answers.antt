use Rattle.std.specs.Prelude.{[], ◌∷◌}
use Rattle.std.proofs.Common.{◌<◌, length, refl, ap, arith, length-append}
use Rattle.moa_tree.specs.Pool.{operands, tree_at}
use Rattle.moa_reader.proofs.CountLemmas.{all-cut}
use Rattle.moa_reader.proofs.growth.pools_keep.Goals as goal

pub returns-clause-node : goal.returns-clause-node
returns-clause-node c = λ roots lists pools node at made.
    let law = c.pools_grow.ensures in
    record {
      version = refl;
      nodes_longer = omega (arith, length-append pools.nodes (node ∷ []));
      numbers_longer = omega arith;
      statements = refl;
      lists = λ list there. refl;
      trees = law.behind pools.numbers pools.nodes (node ∷ []);
      stand = law.position pools.positions (at ∷ []) pools.nodes (node ∷ []) made.placed made.ordered;
    }

pub returns-clause-numbers : goal.returns-clause-numbers
returns-clause-numbers c = λ roots lists pools values made.
    let law = c.pools_grow.ensures in
    record {
      version = refl;
      nodes_longer = omega arith;
      numbers_longer = omega (arith, length-append pools.numbers values);
      statements = refl;
      lists = law.list pools.numbers values;
      trees = λ number within. ap (λ l. tree_at l number) (law.trees pools.numbers values pools.nodes made.lists_there);
      stand = λ number within. refl;
    }

pub returns-clause-places : goal.returns-clause-places
returns-clause-places c = λ roots lists pools node at made.
    c.what_is_added.ensures.position pools.positions at pools.nodes node made.placed made.ordered
    (all-cut (λ number. number < length pools.nodes) (operands node) roots made.roots_there).0
