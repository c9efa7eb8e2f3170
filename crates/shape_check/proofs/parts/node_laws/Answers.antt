use Rattle.std.specs.Prelude.{pos}
use Rattle.moa_tree.specs.declared.tree.Node.TheVariants as node
use Rattle.shape_check.proofs.parts.node_laws.Goals as goal

pub returns-clause-trees : goal.returns-clause-trees
returns-clause-trees c = λ n there. c.node_trees.ensures c.args.program.now.numbers c.args.program.now.nodes c.requires.ordered n (node.Number (pos 0)) there

pub returns-clause-walks : goal.returns-clause-walks
returns-clause-walks c = λ n there. c.walks_in_order.ensures.step c.args.program.now.nodes c.requires.ordered n (node.Number (pos 0)) there

pub returns-clause-expressions : goal.returns-clause-expressions
returns-clause-expressions c = c.walks_in_order.ensures.each c.args.program.now c.requires
