use Rattle.std.proofs.Common.{◌∙◌}
use Rattle.psi_compile.proofs.UnbuiltLemmas.{here_first, left_below, none_below, one_below, right_below}
use Rattle.psi_compile.proofs.built.+first_below.Goals as goal

pub returns-then-not-is_built : goal.returns-then-not-is_built
returns-then-not-is_built t c =
    here_first c.walks_in_order.ensures.step c.node_trees.ensures c.args.program.now c.requires.program.ordered c.args.number
    c.node-node.result
    c.node-node.ensures c.is_built.result c.is_built.ensures c.if-not-is_built.true

pub returns-in-None : goal.returns-in-None
returns-in-None t c =
    none_below c.walks_in_order.ensures.step c.node_trees.ensures c.args.program.now c.requires.program.ordered c.args.number
    c.node-node.result
    c.node-node.ensures c.is_built.result c.is_built.ensures c.if-not-is_built.false c.in-None.ensures

pub returns-in-One : goal.returns-in-One
returns-in-One t c =
    c.first_below.ensures
    ∙ one_below c.walks_in_order.ensures.step c.node_trees.ensures c.args.program.now c.requires.program.ordered c.args.number
    c.node-node.result
    c.node-node.ensures c.is_built.result c.is_built.ensures c.if-not-is_built.false c.in-One.of c.in-One.ensures

pub returns-in-Some : goal.returns-in-Some
returns-in-Some t c =
    left_below c.walks_in_order.ensures.step c.node_trees.ensures c.args.program.now c.requires.program.ordered c.args.number
    c.node-node.result
    c.node-node.ensures c.is_built.result c.is_built.ensures c.if-not-is_built.false
    c.in-Two.left c.in-Two.right c.in-Two.ensures c.in-Some.found c.in-Some.ensures

pub returns-in-None-first_below : goal.returns-in-None-first_below
returns-in-None-first_below t c =
    c.first_below-in-None-first_below.ensures
    ∙ right_below c.walks_in_order.ensures.step c.node_trees.ensures c.args.program.now c.requires.program.ordered c.args.number
    c.node-node.result
    c.node-node.ensures c.is_built.result c.is_built.ensures c.if-not-is_built.false
    c.in-Two.left c.in-Two.right c.in-Two.ensures c.in-None-first_below.ensures
